-- A pending step is recovered: what is found of its changes, and what is rolled back.
use Rattle.std.proofs.Common.{◌≡◌, ◌⊎◌, inl, inr, ⊎_elim, ℕ, Bool, true, false, ◌||◌, Less, Equal, List, [], ◌∷◌, ◌++◌}
use Rattle.std.proofs.Common.{append_assoc, refl, sym, ap, subst, ◌∙◌}
use Rattle.std.specs.Prelude.{IsTrue, ◌↔◌}
use Rattle.std.specs.FinMap.{get}
use Rattle.std.specs.List.{All, AllByRecursion}
use Rattle.std.specs.List.Sorted.{IsStrictlySortedBy}
use Rattle.std.specs.Ordering.{nat_cmp}
use Rattle.std.proofs.lemmas.Cmp.{nat_list_cmp_total, tied_itself}
use Rattle.std.specs.Cmp.Lexicographic.{slice_cmp}
use Rattle.std.specs.Str.{bytes_eq}
use Rattle.std.proofs.lemmas.Bool.{false≢true, false_from_ne_true, or_from}
use Rattle.std.proofs.lemmas.List.{append-nil}
use Rattle.std.proofs.lemmas.List.Elements.{All-cons, All-head, All-nil, All-tail}
use Rattle.std.proofs.lemmas.Map.Keys.{sorted_head, sorted_tail}
use Rattle.std.proofs.lemmas.Slice.Eq.{bytes_eq-Decides}
use Rattle.reuse_change.specs.Change.{path_of, IsProper}
use Rattle.reuse_change.specs.Entry.{paths_of, IsReady, IsFirstWithout}
use Rattle.reuse_change.specs.Files.{Files, tree_of}
use Rattle.reuse_change.specs.Listing.{ArePaths, is_among}
use Rattle.reuse_change.specs.Tree.{is_of_tree}
use Rattle.reuse_change.specs.declared.change.Change.{Change}
use Rattle.reuse_change.specs.declared.direction.Direction.{Direction}
use Rattle.reuse_store.proofs.MadeLemmas.{ready_once}
use Rattle.reuse_store.proofs.OfTree.{tree_at}
use Rattle.reuse_journal.specs.Recovery.{Picks, AreMade, AreStuck, AreFound, FindsNext}

-- ---- what is found of one change

module _ (direction : Direction) (change : Change) (files : Files) (of_tree : is_of_tree (path_of change) ≡ true)
    (ready : Bool) (is : IsTrue ready ↔ IsReady direction change (get files (path_of change))) where
  pub is_before : ready ≡ true → IsReady direction change (get (tree_of files) (path_of change))
  is_before e = subst (IsReady direction change) (sym (tree_at files (path_of change) of_tree)) (is.0 e)

  pub not_before : ready ≡ false → ¬ (IsReady direction change (get (tree_of files) (path_of change)))
  not_before e r =
      false≢true (sym e ∙ is.1 (subst (IsReady direction change) (tree_at files (path_of change) of_tree) r))

-- ---- what is found of all

-- so far these were found of the changes, of which some are left
pub record AreFoundSoFar (direction : Direction) (tree : Files) (changes left : List Change)
    (made stuck : List (List ℕ)) : Type 0 where
  pub so_made : (rest : List (List ℕ)) → AreMade direction tree left rest
      → AreMade direction tree changes (made ++ rest)
  pub so_stuck : (rest : List (List ℕ)) → AreStuck direction tree left rest
      → AreStuck direction tree changes (stuck ++ rest)

pub nothing_found : (direction : Direction) (tree : Files) (changes : List Change) (made stuck : List (List ℕ))
    → made ≡ [] → stuck ≡ [] → AreFoundSoFar direction tree changes changes made stuck
nothing_found direction tree changes made stuck none_made none_stuck = record {
  so_made = λ rest is. subst (λ ps. AreMade direction tree changes (ps ++ rest)) (sym none_made) is;
  so_stuck = λ rest is. subst (λ ps. AreStuck direction tree changes (ps ++ rest)) (sym none_stuck) is;
}

longer : (old more rest : List (List ℕ)) (path : List ℕ) → more ≡ old ++ path ∷ [] → old ++ path ∷ rest ≡ more ++ rest
longer old more rest path is = sym (ap (λ ps. ps ++ rest) is ∙ append_assoc old (path ∷ []) rest)

pub found_next : (direction : Direction) (tree : Files) (changes : List Change) (change : Change) (left : List Change)
    (made more_made stuck more_stuck : List (List ℕ)) → IsProper change
    → AreFoundSoFar direction tree changes (change ∷ left) made stuck
    → FindsNext direction tree change made more_made stuck more_stuck
    → AreFoundSoFar direction tree changes left more_made more_stuck
found_next direction tree changes change left made more_made stuck more_stuck proper so_far (inl before) = record {
  so_made = λ rest is. subst (λ ps. AreMade direction tree changes (ps ++ rest)) (sym before.1)
      (so_far.so_made rest
      (inr (λ can. ready_once direction change (get tree (path_of change)) proper before.0 can.ready, is)));
  so_stuck = λ rest is. subst (λ ps. AreStuck direction tree changes (ps ++ rest)) (sym before.2)
      (so_far.so_stuck rest (inr (inl before.0, is)));
}
found_next direction tree changes change left made more_made stuck more_stuck proper so_far (inr (inl here)) = record {
  so_made = λ rest is. subst (AreMade direction tree changes) (longer made more_made rest (path_of change) here.2)
      (so_far.so_made (path_of change ∷ rest) (inl (here.1, rest, refl, is)));
  so_stuck = λ rest is. subst (λ ps. AreStuck direction tree changes (ps ++ rest)) (sym here.3)
      (so_far.so_stuck rest (inr (inr here.1, is)));
}
found_next direction tree changes change left made more_made stuck more_stuck proper so_far (inr (inr here)) = record {
  so_made = λ rest is. subst (λ ps. AreMade direction tree changes (ps ++ rest)) (sym here.1)
      (so_far.so_made rest (inr (λ can. here.0 (inr can), is)));
  so_stuck = λ rest is. subst (AreStuck direction tree changes) (longer stuck more_stuck rest (path_of change) here.2)
      (so_far.so_stuck (path_of change ∷ rest) (inl (here.0, rest, refl, is)));
}

pub found_all : (direction : Direction) (tree : Files) (changes left : List Change) (made stuck : List (List ℕ))
    → left ≡ [] → AreFoundSoFar direction tree changes left made stuck → AreFound direction tree changes made stuck
found_all direction tree changes left made stuck none so_far =
    let at_end = subst (λ l. AreFoundSoFar direction tree changes l made stuck) none so_far in
    record {
      made = subst (AreMade direction tree changes) (append-nil made) (at_end.so_made [] refl);
      stuck = subst (AreStuck direction tree changes) (append-nil stuck) (at_end.so_stuck [] refl);
    }

-- ---- paths that are picked

less_differs : (p q : List ℕ) → slice_cmp nat_cmp p q ≡ Less → q ≡ p → ⊥
less_differs p q less same =
    let e : Equal ≡ Less = sym (tied_itself nat_list_cmp_total p) ∙ ap (slice_cmp nat_cmp p) (sym same) ∙ less in
    absurd (cc)

module _ (Yes No : Change → Type 0) where
  all_picked : (P : List ℕ → Type 0) (changes : List Change) (paths : List (List ℕ)) → Picks Yes No changes paths
      → AllByRecursion P (paths_of changes) → AllByRecursion P paths
  all_picked P [] paths is all = subst (AllByRecursion P) (sym is) tt
  all_picked P (change ∷ changes) paths (inl this) all =
      subst (AllByRecursion P) (sym this.2) (all.0, all_picked P changes this.1 this.3 all.1)
  all_picked P (change ∷ changes) paths (inr other) all = all_picked P changes paths other.1 all.1

  sorted_none : ArePaths []
  unfolding IsStrictlySortedBy
  sorted_none = tt

  sorted_more : (path : List ℕ) (paths : List (List ℕ))
      → AllByRecursion (λ other. slice_cmp nat_cmp path other ≡ Less) paths → ArePaths paths → ArePaths (path ∷ paths)
  unfolding IsStrictlySortedBy
  sorted_more path paths below sorted = (below, sorted)

  pub picked_ascend : (changes : List Change) (paths : List (List ℕ)) → Picks Yes No changes paths
      → ArePaths (paths_of changes) → ArePaths paths
  picked_ascend [] paths is sorted = subst ArePaths (sym is) sorted_none
  picked_ascend (change ∷ changes) paths (inl this) sorted =
      let below = sorted_head (slice_cmp nat_cmp) (path_of change) (paths_of changes) sorted in
      subst ArePaths (sym this.2) (sorted_more (path_of change) this.1
      (all_picked (λ other. slice_cmp nat_cmp (path_of change) other ≡ Less) changes this.1 this.3 below)
      (picked_ascend changes this.1 this.3
      (sorted_tail (slice_cmp nat_cmp) (path_of change) (paths_of changes) sorted)))
  picked_ascend (change ∷ changes) paths (inr other) sorted =
      picked_ascend changes paths other.1 (sorted_tail (slice_cmp nat_cmp) (path_of change) (paths_of changes) sorted)

  not_itself : (p q : List ℕ) → slice_cmp nat_cmp p q ≡ Less → bytes_eq q p ≡ false
  not_itself p q less = false_from_ne_true (bytes_eq q p) (λ e. less_differs p q less ((bytes_eq-Decides q p).0 e))

  not_among : (path : List ℕ) (paths : List (List ℕ))
      → AllByRecursion (λ other. slice_cmp nat_cmp path other ≡ Less) paths → is_among paths path ≡ false
  not_among path [] below = refl
  not_among path (other ∷ paths) below = or_from (bytes_eq path other) (is_among paths path)
      (not_itself' path other below.0) (not_among path paths below.1)
    where
      not_itself' : (p q : List ℕ) → slice_cmp nat_cmp p q ≡ Less → bytes_eq p q ≡ false
      not_itself' p q less =
          false_from_ne_true (bytes_eq p q) (λ e. less_differs p q less (sym ((bytes_eq-Decides p q).0 e)))

  -- the change is one of those, and its path among these, or it isn't
  abbrev pub IsPicked : List (List ℕ) → Change → Type 0
  IsPicked paths change =
      (Yes change × (is_among paths (path_of change) ≡ true)) ⊎ (No change × (is_among paths (path_of change) ≡ false))

  still_picked : (first : List ℕ) (paths : List (List ℕ)) (changes : List Change)
      → AllByRecursion (λ other. slice_cmp nat_cmp first other ≡ Less) (paths_of changes)
      → All (IsPicked paths) changes → All (IsPicked (first ∷ paths)) changes
  still_picked first paths [] below all = All-nil (IsPicked (first ∷ paths))
  still_picked first paths (change ∷ changes) below all =
      let same : is_among (first ∷ paths) (path_of change) ≡ is_among paths (path_of change) =
      ap (λ b. b || is_among paths (path_of change)) (not_itself first (path_of change) below.0) in
      All-cons (IsPicked (first ∷ paths)) change changes
      (⊎_elim
      (λ (this : Yes change × (is_among paths (path_of change) ≡ true)). inl (this.0, same ∙ this.1))
      (λ (other : No change × (is_among paths (path_of change) ≡ false)). inr (other.0, same ∙ other.1))
      (All-head (IsPicked paths) change changes all))
      (still_picked first paths changes below.1 (All-tail (IsPicked paths) change changes all))

  pub picked : (changes : List Change) (paths : List (List ℕ)) → Picks Yes No changes paths
      → ArePaths (paths_of changes) → All (IsPicked paths) changes
  picked [] paths is sorted = All-nil (IsPicked paths)
  picked (change ∷ changes) paths (inl this) sorted =
      let below = sorted_head (slice_cmp nat_cmp) (path_of change) (paths_of changes) sorted in
      let later =
      picked changes this.1 this.3 (sorted_tail (slice_cmp nat_cmp) (path_of change) (paths_of changes) sorted) in
      subst (λ ps. All (IsPicked ps) (change ∷ changes)) (sym this.2)
      (All-cons (IsPicked (path_of change ∷ this.1)) change changes
      (inl (
        this.0,
        ap (λ b. b || is_among this.1 (path_of change)) ((bytes_eq-Decides (path_of change) (path_of change)).1 refl),
      ))
      (still_picked (path_of change) this.1 changes below later))
  picked (change ∷ changes) paths (inr other) sorted =
      let below = sorted_head (slice_cmp nat_cmp) (path_of change) (paths_of changes) sorted in
      All-cons (IsPicked paths) change changes
      (inr (
        other.0,
        not_among (path_of change) paths
            (all_picked (λ other. slice_cmp nat_cmp (path_of change) other ≡ Less) changes paths other.1 below),
      ))
      (picked changes paths other.1 (sorted_tail (slice_cmp nat_cmp) (path_of change) (paths_of changes) sorted))

  pub none_picked : (changes : List Change) → Picks Yes No changes [] → All No changes
  none_picked [] is = All-nil No
  none_picked (change ∷ changes) (inl this) = let e = this.2 in absurd (cc)
  none_picked (change ∷ changes) (inr other) = All-cons No change changes other.0 (none_picked changes other.1)

-- the first that is stuck
pub first_stuck : (Holds : Change → Type 0) (changes : List Change) (path : List ℕ) (rest : List (List ℕ))
    → Picks (λ change. ¬ (Holds change)) Holds changes (path ∷ rest) → IsFirstWithout Holds changes path
first_stuck Holds [] path rest is = absurd (cc)
first_stuck Holds (change ∷ changes) path rest (inl this) = record {
  before = [];
  change = change;
  behind = changes;
  list = refl;
  here = let e = this.2 in cc;
  passed = All-nil Holds;
  stuck = this.0;
}
first_stuck Holds (change ∷ changes) path rest (inr other) =
    let later = first_stuck Holds changes path rest other.1 in
    record {
      before = change ∷ later.before;
      change = later.change;
      behind = later.behind;
      list = ap (λ cs. change ∷ cs) later.list;
      here = later.here;
      passed = All-cons Holds change later.before other.0 later.passed;
      stuck = later.stuck;
    }
