-- What a path of the tree holds, beside the folder of the journal.
use Rattle.std.proofs.Common.{◌≡◌, ◌≢◌, ◌⊎◌, inl, inr, ⊎_elim, ℕ, Bool, true, false, cond, not, ◌&&◌, ◌||◌, List, []}
use Rattle.std.proofs.Common.{◌∷◌, ◌++◌, drop, None, is_some, codes, nat_eq, refl, sym, ap, subst, ◌∙◌, append_assoc}
use Rattle.std.specs.Str.{bytes_eq}
use Rattle.std.specs.List.{list_any}
use Rattle.std.specs.FinMap.{get, get-retain_keys, slice_cmp-IsAntisymmetric, nat_cmp-IsAntisymmetric}
use Rattle.std.proofs.lemmas.Bool.{false≢true, and_parts, or_cases, not-true}
use Rattle.std.proofs.lemmas.Slice.Eq.{bytes_eq-Decides}
use Rattle.reuse_change.specs.Path.{lies_under, journal_folder}
use Rattle.reuse_change.specs.Files.{Files, Clashes, tree_of}
use Rattle.reuse_change.specs.Change.{path_of}
use Rattle.reuse_change.specs.declared.change.Change.{Change}
use Rattle.reuse_change.proofs.FileMaps.{same_files, same_or_other}
use Rattle.reuse_change.specs.declared.direction.Direction.{Direction}
use Rattle.reuse_change.specs.Tree.{is_of_tree, undo_folder_of}
use Rattle.reuse_change.specs.Entry.{AppliesBy, LeadsByOneChange}
use Rattle.reuse_store.proofs.TreeLemmas.{tree_file, some_in_store}
use Rattle.reuse_change.proofs.ListingLemmas.{under_from_test, test_from_under}

-- ---- a path and a folder

-- of two fronts of a list that a slash follows, one lies under the other or they are one
pub fronts : (f p x y : List ℕ) → f ++ 47 ∷ x ≡ p ++ 47 ∷ y
    → (p ≡ f) ⊎ ((z : List ℕ) × (p ≡ f ++ 47 ∷ z)) ⊎ ((z : List ℕ) × (f ≡ p ++ 47 ∷ z))
fronts [] [] x y e = inl refl
fronts [] (b ∷ p) x y e = let h : b ≡ 47 = cc in inr (inl (p, ap (λ c. c ∷ p) h))
fronts (a ∷ f) [] x y e = let h : a ≡ 47 = cc in inr (inr (f, ap (λ c. c ∷ f) h))
fronts (a ∷ f) (b ∷ p) x y e =
    let h : b ≡ a = cc in
    let k : f ++ 47 ∷ x ≡ p ++ 47 ∷ y = cc in
    ⊎_elim (λ same. inl (cc))
    (λ r. inr (⊎_elim (λ (u : (z : List ℕ) × (p ≡ f ++ 47 ∷ z)). let v = u.1 in inl (u.0, cc))
    (λ (u : (z : List ℕ) × (f ≡ p ++ 47 ∷ z)). let v = u.1 in inr (u.0, cc)) r))
    (fronts f p x y k)

pub slash_inside : (p z : List ℕ) → list_any (λ b. nat_eq b 47) (p ++ 47 ∷ z) ≡ true
slash_inside [] z = refl
slash_inside (b ∷ p) z = or_right (nat_eq b 47) _ (slash_inside p z)
  where
    or_right : (a b : Bool) → b ≡ true → (a || b) ≡ true
    or_right true b e = refl
    or_right false b e = e

-- a folder of the journal's folder is `.reuse`
pub above_journal : (p z : List ℕ) → codes ".reuse/undo" ≡ p ++ 47 ∷ z → p ≡ codes ".reuse"
above_journal p z e =
    ⊎_elim (λ same. same)
    (λ r. ⊎_elim
    (λ (u : (x : List ℕ) × (p ≡ codes ".reuse" ++ 47 ∷ x)).
    let tail : codes ".reuse" ++ 47 ∷ codes "undo" ≡ codes ".reuse" ++ 47 ∷ (u.0 ++ 47 ∷ z) =
    e ∙ ap (λ q. q ++ 47 ∷ z) u.1 ∙ append_assoc (codes ".reuse") (47 ∷ u.0) (47 ∷ z) in
    let inner : codes "undo" ≡ u.0 ++ 47 ∷ z = ap (drop 7) tail in
    absurd (false≢true (ap (λ q. list_any (λ b. nat_eq b 47) q) inner ∙ slash_inside u.0 z)))
    (λ (u : (x : List ℕ) × (codes ".reuse" ≡ p ++ 47 ∷ x)). absurd
    (false≢true (ap (λ q. list_any (λ b. nat_eq b 47) q) u.1 ∙ slash_inside p u.0))) r)
    (fronts (codes ".reuse") p (codes "undo") z e)

-- ---- a path of the tree

module _ (path : List ℕ) (here : is_of_tree path ≡ true) where
  is_neither : (not (bytes_eq path (codes ".reuse")) && not (bytes_eq path journal_folder)) ≡ true
  is_neither = (and_parts (not (bytes_eq path (codes ".reuse")) && not (bytes_eq path journal_folder))
      (not (lies_under path journal_folder)) here).0

  pub outside : lies_under path journal_folder ≡ false
  outside = not-true (lies_under path journal_folder) (and_parts (not (bytes_eq path (codes ".reuse")) && not
      (bytes_eq path journal_folder)) (not (lies_under path journal_folder)) here).1

  not_reuse : path ≢ codes ".reuse"
  not_reuse same =
      false≢true (sym (not-true (bytes_eq path (codes ".reuse"))
      (and_parts (not (bytes_eq path (codes ".reuse"))) (not (bytes_eq path journal_folder)) is_neither).0)
      ∙ (bytes_eq-Decides path (codes ".reuse")).1 same)

  not_journal : path ≢ journal_folder
  not_journal same =
      false≢true (sym (not-true (bytes_eq path journal_folder)
      (and_parts (not (bytes_eq path (codes ".reuse"))) (not (bytes_eq path journal_folder)) is_neither).1)
      ∙ (bytes_eq-Decides path journal_folder).1 same)

-- a file of the journal's folder neither lies under a path of the tree nor has it beneath it
pub apart_from_journal : (path other : List ℕ) → is_of_tree path ≡ true → lies_under other journal_folder ≡ true
    → (lies_under other path || lies_under path other) ≡ true → ⊥
apart_from_journal path other here there nested =
    let x = under_from_test other journal_folder there in
    ⊎_elim
    (λ (below : lies_under other path ≡ true).
    let y = under_from_test other path below in
    ⊎_elim (λ same. not_journal path here same)
    (λ r. ⊎_elim
    (λ (u : (z : List ℕ) × (path ≡ journal_folder ++ 47 ∷ z)). false≢true
    (sym (outside path here) ∙ test_from_under path journal_folder u))
    (λ (u : (z : List ℕ) × (journal_folder ≡ path ++ 47 ∷ z)). not_reuse path here (above_journal path u.0 u.1)) r)
    (fronts journal_folder path x.0 y.0 (sym x.1 ∙ y.1)))
    (λ (above : lies_under path other ≡ true).
    let y = under_from_test path other above in
    let whole : path ≡ journal_folder ++ 47 ∷ (x.0 ++ 47 ∷ y.0) =
    y.1 ∙ ap (λ o. o ++ 47 ∷ y.0) x.1 ∙ append_assoc journal_folder (47 ∷ x.0) (47 ∷ y.0) in
    false≢true (sym (outside path here) ∙ test_from_under path journal_folder (x.0 ++ 47 ∷ y.0, whole)))
    (or_cases _ _ nested)

-- ---- files and their tree

pub get-folder : (files : Files) (path : List ℕ)
    → get (undo_folder_of files) path ≡ cond (lies_under path journal_folder) (get files path) None
get-folder files path = get-retain_keys files (λ p. lies_under p journal_folder) path
    (λ x e. ap (λ p. lies_under p journal_folder) (sym (slice_cmp-IsAntisymmetric nat_cmp-IsAntisymmetric path x e)))

pub tree_at : (files : Files) (path : List ℕ) → is_of_tree path ≡ true → get (tree_of files) path ≡ get files path
tree_at files path e = tree_file files path ∙ ap (λ b. cond (not b) (get files path) None) (outside path e)

-- a path of the tree clashes with files exactly if it clashes with their tree
pub clash_in_tree : (files : Files) (path : List ℕ) → is_of_tree path ≡ true → Clashes files path
    → Clashes (tree_of files) path
clash_in_tree files path here clash = record {
  other = clash.other;
  is_file = ap is_some (tree_file files clash.other ∙ ap (λ b. cond (not b) (get files clash.other) None)
      (test (lies_under clash.other journal_folder) refl)) ∙ clash.is_file;
  nested = clash.nested;
}
  where
    test : (b : Bool) → lies_under clash.other journal_folder ≡ b → lies_under clash.other journal_folder ≡ false
    test true e = absurd (apart_from_journal path clash.other here e clash.nested)
    test false e = e

pub clash_in_files : (files : Files) (path : List ℕ) → Clashes (tree_of files) path → Clashes files path
clash_in_files files path clash = record {
  other = clash.other;
  is_file = some_in_store files clash.other clash.is_file;
  nested = clash.nested;
}

-- a step at a path of the tree is one of the tree, and leaves the journal's folder
pub step_of_tree : (direction : Direction) (change : Change) (m n : Files) → is_of_tree (path_of change) ≡ true
    → LeadsByOneChange direction change m n → LeadsByOneChange direction change (tree_of m) (tree_of n)
step_of_tree direction change m n e step = record {
  here = subst (λ f. AppliesBy direction change f (get (tree_of n) (path_of change)))
      (sym (tree_at m (path_of change) e)) (subst (λ f. AppliesBy direction change (get m (path_of change)) f)
      (sym (tree_at n (path_of change) e)) step.here);
  elsewhere = λ path other. tree_file n path ∙ ap (λ f. cond (not (lies_under path journal_folder)) f None)
      (step.elsewhere path other) ∙ sym (tree_file m path);
}

pub folder_stays : (direction : Direction) (change : Change) (m n : Files) → is_of_tree (path_of change) ≡ true
    → LeadsByOneChange direction change m n → undo_folder_of n ≡ undo_folder_of m
folder_stays direction change m n e step = same_files _ _ (λ path.
    get-folder n path ∙ ⊎_elim
    (λ (here : path ≡ path_of change). let none : lies_under path journal_folder ≡ false = ap
    (λ p. lies_under p journal_folder) here ∙ outside (path_of change) e in
    ap (λ b. cond b (get n path) None) none ∙ sym (ap (λ b. cond b (get m path) None) none))
    (λ (other : path ≢ path_of change). ap (λ f. cond (lies_under path journal_folder) f None)
    (step.elsewhere path other))
    (same_or_other path (path_of change))
    ∙ sym (get-folder m path))
