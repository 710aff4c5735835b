-- Where names form a tree, a folder that is none on the way to the journal's can be removed, and that stays.
use Rattle.std.proofs.Common.{◌≡◌, ◌≢◌, ◌++◌, List, [], ◌∷◌, ℕ, length, Option, None, Some, refl, sym, ◌∙◌, ap, subst}
use Rattle.std.proofs.Common.{true, arith}
use Rattle.std.specs.List.{join_with_byte}
use Rattle.std.proofs.lemmas.List.Splits.{join_with_byte-slice_split}
use Rattle.reuse_change.specs.Layout.{above_journal, journal_folder, journal_name}
use Rattle.reuse_change.specs.Path.{is_path}
use Rattle.reuse_system.specs.FileStates.{FileState, Place, place_in}
use Rattle.reuse_system.specs.Folders.{Folders, folder_above, folder_along, folder_at, without_last}
use Rattle.reuse_system.specs.Folders.{IsAlikeFoldersBut, StaysAt}
use Rattle.reuse_system.specs.NameTree.{IsNameTree}
use Rattle.reuse_system.specs.Names.{between_slashes, IsSplit}
use Rattle.reuse_system.specs.declared.place.Identity.{Identity}
use Rattle.reuse_disk.proofs.AlongLemmas.{above_of_split, named_of}
use Rattle.reuse_disk.proofs.LastNames.{by_parts}
use Rattle.reuse_disk.proofs.OneWay.{last_step, names_apart, none_to_root, one_way, path_has_names, AreNames}
use Rattle.reuse_disk.proofs.PlaceLemmas.{folder_of_place, name_of_place}

pub last_away : (xs : List (List ℕ)) (name : List ℕ) → without_last (xs ++ name ∷ []) ≡ xs
last_away [] name = refl
last_away (x ∷ []) name = refl
last_away (x ∷ y ∷ xs) name = ap (λ l. x ∷ l) (last_away (y ∷ xs) name)

-- a path is its names
pub path_of_names : (path : List ℕ) (names : List (List ℕ)) → between_slashes path ≡ names
    → path ≡ join_with_byte 47 names
path_of_names path names is = sym (join_with_byte-slice_split 47 path) ∙ ap (join_with_byte 47) is

-- ---- ways of two names

module _ (old new : Folders) (held : FileState) (tree : IsNameTree old held) (at : Identity) (path above name : List ℕ)
    (alike : IsAlikeFoldersBut (place_in at name) old new) (good : is_path path ≡ true) (split : IsSplit path above name)
    (lies : folder_at old above ≡ Some at) (apart : path ≢ above_journal) (other : path ≢ journal_folder) where
  abbrev front : List (List ℕ)
  front = (by_parts path name (named_of path above name split) (named_of path above name split).behind).0

  parts : between_slashes path ≡ front ++ name ∷ []
  parts = (by_parts path name (named_of path above name split) (named_of path above name split).behind).1

  names : AreNames front
  names = (names_apart front (name ∷ []) (subst AreNames parts (path_has_names path good))).0

  leads : folder_along old (Some old.root) front ≡ Some at
  leads =
      ap (folder_along old (Some old.root)) (sym (last_away front name))
      ∙ ap (λ l. folder_along old (Some old.root) (without_last l)) (sym parts)
      ∙ above_of_split old held path above name split ∙ lies

  -- the root's own name is no other
  in_root : (front : List (List ℕ)) → AreNames front → folder_along old (Some old.root) front ≡ Some at
      → at ≡ old.root → front ≡ []
  in_root [] are way e = refl
  in_root (x ∷ xs) are way e = absurd (none_to_root old held tree x xs at are way e)

  first_apart : place_in old.root above_journal ≢ place_in at name
  first_apart e =
      let at_root = sym (folder_of_place old.root at above_journal name e) in
      let none = in_root front names leads at_root in
      apart (path_of_names path (name ∷ []) (parts ∙ ap (λ l. l ++ name ∷ []) none)
      ∙ sym (name_of_place old.root at above_journal name e))

  second_apart : (middle : Identity) → old.below (place_in old.root above_journal) ≡ Some middle
      → place_in middle journal_name ≢ place_in at name
  second_apart middle is e =
      let same = folder_of_place middle at journal_name name e in
      let one =
      one_way old held tree (length front) front (above_journal ∷ []) at (omega arith) names ((λ e. absurd (cc)), tt)
      leads (is ∙ ap (λ (it : Identity). Some it) same) in
      other (path_of_names path (above_journal ∷ journal_name ∷ [])
      (parts ∙ ap (λ l. l ++ name ∷ []) one
      ∙ ap (λ l. above_journal ∷ l ∷ []) (sym (name_of_place middle at journal_name name e))))

  pub journal_stays : StaysAt journal_folder old new
  journal_stays one here =
      let step =
      last_step old held tree (old.below (place_in old.root above_journal)) journal_name one (λ e. absurd (cc)) here in
      let first =
      ap (λ root. new.below (place_in root above_journal)) alike.root
      ∙ alike.others (place_in old.root above_journal) first_apart ∙ step.1 in
      ap (λ o. folder_along new o (journal_name ∷ [])) first
      ∙ alike.others (place_in step.0 journal_name) (second_apart step.0 step.1) ∙ step.2
