-- Where names form a tree, no two ways lead from the root to one folder.
use Rattle.std.proofs.Common.{◌≡◌, ◌≢◌, ℕ, zero, suc, ◌≤◌, Bool, true, false, List, [], ◌∷◌, ◌++◌, length, Option, None}
use Rattle.std.proofs.Common.{Some, refl, sym, ◌∙◌, ap, subst, arith, true≢false, ◌&&◌}
use Rattle.std.specs.List.{list_all}
use Rattle.std.specs.Prelude.{nat_lt, nat_le}
use Rattle.std.proofs.lemmas.Bool.{and_parts}
use Rattle.reuse_change.specs.Path.{is_path, is_part, has_no_nul, has_good_parts}
use Rattle.reuse_system.specs.FileStates.{FileState, place_in}
use Rattle.reuse_system.specs.Folders.{Folders, folder_along}
use Rattle.reuse_system.specs.NameTree.{IsNameTree}
use Rattle.reuse_system.specs.Names.{between_slashes}
use Rattle.reuse_system.specs.declared.place.Identity.{Identity}
use Rattle.reuse_disk.proofs.AlongLemmas.{along_append}
use Rattle.reuse_disk.proofs.PlaceLemmas.{folder_of_place, name_of_place}

-- ---- names that aren't empty

abbrev pub AreNames : List (List ℕ) → Type 0
AreNames [] = Unit {0}
AreNames (name ∷ names) = (name ≢ []) × AreNames names

pub names_apart : (xs ys : List (List ℕ)) → AreNames (xs ++ ys) → AreNames xs × AreNames ys
names_apart [] ys names = (tt, names)
names_apart (x ∷ xs) ys names = let rest = names_apart xs ys names.1 in ((names.0, rest.0), rest.1)

part_is_name : (part : List ℕ) → is_part part ≡ true → part ≢ []
part_is_name [] good e = absurd (true≢false (sym good))
part_is_name (byte ∷ part) good e = absurd (cc)

parts_are_names : (parts : List (List ℕ)) → list_all is_part parts ≡ true → AreNames parts
parts_are_names [] all = tt
parts_are_names (part ∷ parts) all =
    let both = and_parts (is_part part) (list_all is_part parts) all in
    (part_is_name part both.0, parts_are_names parts both.1)

pub path_has_names : (path : List ℕ) → is_path path ≡ true → AreNames (between_slashes path)
path_has_names path good =
    let both =
    and_parts (nat_lt 0 (length path) && nat_le (length path) 4096 && has_no_nul path) (has_good_parts path) good in
    parts_are_names (between_slashes path) both.1

-- names are some, and a last one
pub last_apart : (name : List ℕ) (names : List (List ℕ)) → (front : List (List ℕ)) × (last : List ℕ)
    × (name ∷ names ≡ front ++ last ∷ []) × (length front ≡ length names)
last_apart name [] = ([], name, refl, refl)
last_apart name (next ∷ names) =
    let rest = last_apart next names in
    (name ∷ rest.0, rest.1, ap (λ l. name ∷ l) rest.2, ap suc rest.3)

module _ (folders : Folders) (held : FileState) (tree : IsNameTree folders held) where
  -- a folder along names, the last of which is one, has a name
  pub last_step : (o : Option Identity) (name : List ℕ) (one : Identity) → name ≢ []
      → folder_along folders o (name ∷ []) ≡ Some one
      → (above : Identity) × (o ≡ Some above) × (folders.below (place_in above name) ≡ Some one)
  last_step None name one some leads = absurd (cc)
  last_step (Some above) [] one some leads = absurd (some refl)
  last_step (Some above) (byte ∷ name) one some leads = (above, refl, leads)

  pub steps : (front : List (List ℕ)) (last : List ℕ) (one : Identity) → last ≢ []
      → folder_along folders (Some folders.root) (front ++ last ∷ []) ≡ Some one
      → (above : Identity) × (folder_along folders (Some folders.root) front ≡ Some above)
      × (folders.below (place_in above last) ≡ Some one)
  steps front last one some leads =
      last_step (folder_along folders (Some folders.root) front) last one some
      (sym (along_append folders held (Some folders.root) front (last ∷ [])) ∙ leads)

  -- no names but none lead to the root
  pub none_to_root : (name : List ℕ) (names : List (List ℕ)) (one : Identity) → AreNames (name ∷ names)
      → folder_along folders (Some folders.root) (name ∷ names) ≡ Some one → one ≢ folders.root
  none_to_root name names one are leads e =
      let apart = last_apart name names in
      let parts = names_apart apart.0 (apart.1 ∷ []) (subst AreNames apart.2 are) in
      let step =
      steps apart.0 apart.1 one parts.1.0
      (ap (folder_along folders (Some folders.root)) (sym apart.2) ∙ leads) in
      tree.no_name (place_in step.0 apart.1) (step.2 ∙ ap (λ (it : Identity). Some it) e)

  pub one_way : (n : ℕ) (xs ys : List (List ℕ)) (one : Identity) → length xs ≤ n → AreNames xs → AreNames ys
      → folder_along folders (Some folders.root) xs ≡ Some one
      → folder_along folders (Some folders.root) ys ≡ Some one → xs ≡ ys
  one_way n [] [] one few are also here there = refl
  one_way n [] (y ∷ ys) one few are also here there =
      absurd (none_to_root y ys one also there (let e : Some folders.root ≡ Some one = here in cc))
  one_way n (x ∷ xs) [] one few are also here there =
      absurd (none_to_root x xs one are here (let e : Some folders.root ≡ Some one = there in cc))
  one_way zero (x ∷ xs) (y ∷ ys) one few are also here there = absurd (omega (arith, few))
  one_way (suc n) (x ∷ xs) (y ∷ ys) one few are also here there =
      let first = last_apart x xs in
      let second = last_apart y ys in
      let names = names_apart first.0 (first.1 ∷ []) (subst AreNames first.2 are) in
      let others = names_apart second.0 (second.1 ∷ []) (subst AreNames second.2 also) in
      let up =
      steps first.0 first.1 one names.1.0
      (ap (folder_along folders (Some folders.root)) (sym first.2) ∙ here) in
      let over =
      steps second.0 second.1 one others.1.0
      (ap (folder_along folders (Some folders.root)) (sym second.2) ∙ there) in
      let same = tree.one_name (place_in up.0 first.1) (place_in over.0 second.1) one up.2 over.2 in
      let above = folder_of_place up.0 over.0 first.1 second.1 same in
      let last = name_of_place up.0 over.0 first.1 second.1 same in
      let fronts =
      one_way n first.0 second.0 up.0 (omega (arith, few, first.3)) names.0 others.0 up.1
      (over.1 ∙ ap (λ (it : Identity). Some it) (sym above)) in
      first.2 ∙ ap (λ l. l ++ first.1 ∷ []) fronts ∙ ap (λ l. second.0 ++ l ∷ []) last ∙ sym second.2
