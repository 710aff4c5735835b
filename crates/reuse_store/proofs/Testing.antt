-- The test whether a change can be made.
use Rattle.std.proofs.Common.{◌≡◌, ◌↔◌, ℕ, suc, ◌+◌, ◌<◌, Bool, true, false, not, ◌||◌, List, ◌∷◌, ◌++◌, length, take}
use Rattle.std.proofs.Common.{drop, get_or, IsTrue, refl, sym, ap, subst, ◌∙◌, arith, drop-cons}
use Rattle.std.specs.Ordering.{nat_cmp, eq_by_cmp}
use Rattle.std.specs.Cmp.Lexicographic.{slice_cmp}
use Rattle.std.specs.List.{list_any}
use Rattle.std.specs.FinMap.{get, keys, contains_key-keys}
use Rattle.std.proofs.lemmas.Bool.{false≢true}
use Rattle.std.proofs.lemmas.List.{take-append-drop}
use Rattle.std.proofs.lemmas.List.Folds.{list_any_at, Any-from_list_any}
use Rattle.reuse_change.specs.Path.{lies_under}
use Rattle.reuse_change.specs.Files.{Files, Clashes, tree_of}
use Rattle.reuse_change.specs.declared.change.Change.{Change}
use Rattle.reuse_change.specs.Change.{path_of}
use Rattle.reuse_change.proofs.FileMaps.{tied, ties}
use Rattle.reuse_change.specs.declared.direction.Direction.{Direction}
use Rattle.reuse_change.specs.Tree.{is_of_tree}
use Rattle.reuse_change.specs.Entry.{IsReady, CanBeMade, makes}
use Rattle.reuse_store.proofs.OfTree.{tree_at, clash_in_tree, clash_in_files}

-- the test over the paths of files says whether a path clashes with them
pub clashes_keys : (files : Files) (path : List ℕ)
    → (list_any (λ other. lies_under other path || lies_under path other) (keys files) ≡ true) ↔ Clashes files path
clashes_keys files path = (
  λ e.
      let found = Any-from_list_any (λ other. lies_under other path || lies_under path other) (keys files) e in
      record {
        other = found.1;
        is_file = contains_key-keys files found.1 ∙ list_any_at (eq_by_cmp (slice_cmp nat_cmp) found.1)
            (keys files) found.0 found.1 found.2 (ties found.1 (get_or (keys files) found.0 found.1) (sym found.3));
        nested = found.4;
      },
  λ clash.
      let found = Any-from_list_any (eq_by_cmp (slice_cmp nat_cmp) clash.other) (keys files)
      (sym (contains_key-keys files clash.other) ∙ clash.is_file) in
      let same : clash.other ≡ get_or (keys files) found.0 found.1 = tied clash.other found.1 found.4 ∙ sym found.3 in
      list_any_at (λ other. lies_under other path || lies_under path other) (keys files) found.0 found.1 found.2
      (ap (λ other. lies_under other path || lies_under path other) (sym same) ∙ clash.nested),
)

module _ (files : Files) (direction : Direction) (change : Change) (of_tree : is_of_tree (path_of change) ≡ true) where
  pub not_ready : (r : Bool) → r ≡ false → (IsTrue r ↔ IsReady direction change (get files (path_of change)))
      → IsTrue false ↔ CanBeMade direction (tree_of files) change
  not_ready r e h = (
    λ no. absurd (false≢true no),
    λ can. absurd (false≢true
        (sym e ∙ h.1 (subst (λ f. IsReady direction change f) (tree_at files (path_of change) of_tree) can.ready))),
  )

  in_tree : (r : Bool) → r ≡ true → (IsTrue r ↔ IsReady direction change (get files (path_of change)))
      → IsReady direction change (get (tree_of files) (path_of change))
  in_tree r e h = subst (λ f. IsReady direction change f) (sym (tree_at files (path_of change) of_tree)) (h.0 e)

  pub makes_none : (r : Bool) → r ≡ true → (IsTrue r ↔ IsReady direction change (get files (path_of change)))
      → makes direction change ≡ false → IsTrue true ↔ CanBeMade direction (tree_of files) change
  makes_none r e h none =
      (λ _. record { ready = in_tree r e h; free = λ made clash. false≢true (sym none ∙ made) }, λ _. refl)

  pub makes_one : makes direction change ≡ true → (r : Bool) → r ≡ true
      → (IsTrue r ↔ IsReady direction change (get files (path_of change))) → (paths : List (List ℕ))
      → paths ≡ keys files
      → (c : Bool)
      → c ≡ list_any (λ other. lies_under other (path_of change) || lies_under (path_of change) other) paths
      → IsTrue (not c) ↔ CanBeMade direction (tree_of files) change
  makes_one made r e h paths all c is = at_test c (is
      ∙ ap (λ ps. list_any (λ other. lies_under other (path_of change) || lies_under (path_of change) other) ps) all)
    where
      at_test : (c : Bool)
          → c ≡ list_any (λ other. lies_under other (path_of change) || lies_under (path_of change) other) (keys files)
          → IsTrue (not c) ↔ CanBeMade direction (tree_of files) change
      at_test true is = (
        λ no. absurd (false≢true no),
        λ can. absurd (can.free made
            (clash_in_tree files (path_of change) of_tree ((clashes_keys files (path_of change)).0 (sym is)))),
      )
      at_test false is = (
        λ _. record {
          ready = in_tree r e h;
          free = λ made clash. false≢true
              (is ∙ (clashes_keys files (path_of change)).1 (clash_in_files files (path_of change) clash));
        },
        λ _. refl,
      )

-- the changes before one, that one, and those behind it
pub parted : (changes : List Change) (i : ℕ) (change : Change) → i < length changes → change ≡ get_or changes i change
    → changes ≡ take i changes ++ change ∷ drop (i + 1) changes
parted changes i change lt is =
    let n : suc i ≡ i + 1 = omega arith in
    sym (take-append-drop i changes)
    ∙ ap (λ rest. take i changes ++ rest)
    (drop-cons changes i change lt ∙ ap (λ c. c ∷ drop (suc i) changes) (sym is) ∙ ap (λ k. change ∷ drop k changes) n)
