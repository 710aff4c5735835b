-- Changes of distinct paths lead from a tree to another where they do one after the other.
use Rattle.std.proofs.Common.{◌≡◌, ◌≢◌, ◌⊎◌, inl, inr, ◌↔◌, ℕ, suc, ◌<◌, Bool, true, false, ◌||◌, List, [], ◌∷◌, length}
use Rattle.std.proofs.Common.{get_or, map, Less, refl, sym, ap, ap₂, subst, ◌∙◌, arith}
use Rattle.std.specs.Ordering.{nat_cmp}
use Rattle.std.specs.Cmp.Lexicographic.{slice_cmp, nat_list_cmp_total, nat_list_eq_equiv}
use Rattle.std.specs.Str.{bytes_eq}
use Rattle.std.specs.List.{All, AllByRecursion, IsDistinct}
use Rattle.std.specs.List.Sorted.{IsStrictlySortedBy, IsPermutation}
use Rattle.std.specs.FinMap.{get}
use Rattle.std.proofs.lemmas.Bool.{false≢true, or_parts}
use Rattle.std.proofs.lemmas.Cmp.{tied_itself}
use Rattle.std.proofs.lemmas.List.Elements.{All-cons, All-nil}
use Rattle.std.proofs.lemmas.List.Sorted.{All-permutation, IsPermutation-sym, list_any-IsPermutation}
use Rattle.std.proofs.lemmas.Map.Keys.{IsDistinct-IsPermutation, sorted_head, sorted_tail}
use Rattle.std.proofs.lemmas.Slice.Eq.{bytes_eq-Decides}
use Rattle.reuse_change.specs.Files.{Files}
use Rattle.reuse_change.specs.Change.{path_of, inverse_of, Applies, Leads}
use Rattle.reuse_change.specs.declared.change.Change.{Change}
use Rattle.reuse_change.proofs.FileMaps.{same_files, same_or_other}
use Rattle.reuse_change.proofs.Applying.{applies_back, inverse_twice, path_of-inverse}
use Rattle.reuse_change.specs.declared.direction.Direction.{Direction}
use Rattle.reuse_change.specs.declared.direction.Direction.TheVariants.{Backward}
use Rattle.reuse_change.specs.Entry.{touches, paths_of, IsEntry, AppliesBy, LeadsBy, LeadsAll}
use Rattle.reuse_journal.specs.InTurn.{LeadsInTurn}
use Rattle.reuse_plan.specs.Outcome.{with_file}
use Rattle.reuse_plan.proofs.Planning.{with_same, with_other}
use Rattle.reuse_change.proofs.Walk.{of_no_change}

-- ---- one change before others of other paths

abbrev AppliesBetween : Files → Files → Change → Type 0
AppliesBetween before after change = Applies change (get before (path_of change)) (get after (path_of change))

module _ (change : Change) (changes : List Change) (apart : touches changes (path_of change) ≡ false)
    (before after : Files) where
  other_path : (k : ℕ) (d : Change) → k < length changes → path_of (get_or changes k d) ≢ path_of change
  other_path = of_no_change changes (path_of change) apart

  no_change_of : (path : List ℕ) → path ≢ path_of change → touches changes path ≡ false
      → touches (change ∷ changes) path ≡ false
  no_change_of path other none = of_test (bytes_eq path (path_of change)) refl
    where
      of_test : (b : Bool) → bytes_eq path (path_of change) ≡ b → (b || touches changes path) ≡ false
      of_test true e = absurd (other ((bytes_eq-Decides path (path_of change)).0 e))
      of_test false e = none

  -- the tree after the first change
  abbrev first_made : Files
  first_made = with_file before (path_of change) (get after (path_of change))

  first_leads : LeadsAll (change ∷ changes) before after → Leads change before first_made
  first_leads leads = record {
    here = subst (Applies change (get before (path_of change)))
        (sym (with_same before (path_of change) (get after (path_of change)))) (leads.each 0 change (omega arith));
    elsewhere = λ path other. with_other before (path_of change) (get after (path_of change)) path other;
  }

  rest_lead : LeadsAll (change ∷ changes) before after → LeadsAll changes first_made after
  rest_lead leads = record {
    each = λ k d lt.
        let next = get_or changes k d in
        subst (λ f. Applies next f (get after (path_of next)))
        (sym (with_other before (path_of change) (get after (path_of change)) (path_of next) (other_path k d lt)))
        (leads.each (suc k) d (omega arith));
    others = λ path none. at_path path none (same_or_other path (path_of change));
  }
    where
      at_path : (path : List ℕ) → touches changes path ≡ false → (path ≡ path_of change) ⊎ (path ≢ path_of change)
          → get after path ≡ get first_made path
      at_path path none (inl same) = ap (get after) same
          ∙ sym (with_same before (path_of change) (get after (path_of change))) ∙ ap (get first_made) (sym same)
      at_path path none (inr other) = leads.others path (no_change_of path other none)
          ∙ sym (with_other before (path_of change) (get after (path_of change)) path other)

  both_lead : (between : Files) → Leads change before between → LeadsAll changes between after
      → LeadsAll (change ∷ changes) before after
  both_lead between first rest = record {
    each = All-cons (AppliesBetween before after) change changes
        (subst (Applies change (get before (path_of change))) (sym (rest.others (path_of change) apart)) first.here)
        (λ k d lt. let next = get_or changes k d in subst (λ f. Applies next f (get after (path_of next)))
        (first.elsewhere (path_of next) (other_path k d lt)) (rest.each k d lt));
    others = λ path none.
        let parts = or_parts (bytes_eq path (path_of change)) (touches changes path) none in
        rest.others path parts.1
        ∙ first.elsewhere path (λ same. false≢true (sym parts.0 ∙ (bytes_eq-Decides path (path_of change)).1 same));
  }

-- ---- changes of distinct paths

abbrev same_path : Change → Change → Bool
same_path change other = bytes_eq (path_of change) (path_of other)

abbrev AreOfDistinctPaths : List Change → Type 0
AreOfDistinctPaths changes = IsDistinct same_path changes

none_touched : (path : List ℕ) (changes : List Change)
    → AllByRecursion (λ other. bytes_eq path (path_of other) ≡ false) changes → touches changes path ≡ false
none_touched path [] others = refl
none_touched path (change ∷ changes) others = ap₂ (λ a b. a || b) others.0 (none_touched path changes others.1)

distinct_nil : AreOfDistinctPaths []
unfolding IsDistinct
distinct_nil = tt

distinct_cons : (change : Change) (changes : List Change)
    → AllByRecursion (λ other. same_path change other ≡ false) changes → AreOfDistinctPaths changes
    → AreOfDistinctPaths (change ∷ changes)
unfolding IsDistinct
distinct_cons change changes others distinct = (others, distinct)

distinct_others : (change : Change) (changes : List Change) → AreOfDistinctPaths (change ∷ changes)
    → AllByRecursion (λ other. same_path change other ≡ false) changes
unfolding IsDistinct
distinct_others change changes distinct = distinct.0

distinct_head : (change : Change) (changes : List Change) → AreOfDistinctPaths (change ∷ changes)
    → touches changes (path_of change) ≡ false
distinct_head change changes distinct = none_touched (path_of change) changes (distinct_others change changes distinct)

distinct_tail : (change : Change) (changes : List Change) → AreOfDistinctPaths (change ∷ changes)
    → AreOfDistinctPaths changes
unfolding IsDistinct
distinct_tail change changes distinct = distinct.1

above_other : (path : List ℕ) (changes : List Change) → AllByRecursion (λ other. slice_cmp nat_cmp path other ≡ Less)
    (paths_of changes) → AllByRecursion (λ other. bytes_eq path (path_of other) ≡ false) changes
above_other path [] above = tt
above_other path (change ∷ changes) above =
    (of_test (bytes_eq path (path_of change)) refl, above_other path changes above.1)
  where
    not_itself : slice_cmp nat_cmp path path ≡ Less → ⊥
    not_itself e = let s = sym e ∙ tied_itself nat_list_cmp_total path in cc

    of_test : (b : Bool) → bytes_eq path (path_of change) ≡ b → b ≡ false
    of_test true e =
        absurd (not_itself (ap (slice_cmp nat_cmp path) ((bytes_eq-Decides path (path_of change)).0 e) ∙ above.0))
    of_test false e = refl

-- paths that ascend are distinct
ascending_distinct : (changes : List Change) → IsStrictlySortedBy (slice_cmp nat_cmp) (paths_of changes)
    → AreOfDistinctPaths changes
ascending_distinct [] ascending = distinct_nil
ascending_distinct (change ∷ changes) ascending = distinct_cons change changes
    (above_other (path_of change) changes
    (sorted_head (slice_cmp nat_cmp) (path_of change) (paths_of changes) ascending))
    (ascending_distinct changes (sorted_tail (slice_cmp nat_cmp) (path_of change) (paths_of changes) ascending))

to_applies : (changes : List Change) (before after : Files) → AreOfDistinctPaths changes → LeadsAll changes before after
    → LeadsInTurn changes before after
to_applies [] before after distinct leads = same_files after before (λ path. leads.others path refl)
to_applies (change ∷ changes) before after distinct leads = (
  first_made change changes (distinct_head change changes distinct) before after,
  first_leads change changes (distinct_head change changes distinct) before after leads,
  to_applies changes (first_made change changes (distinct_head change changes distinct) before after) after
      (distinct_tail change changes distinct)
      (rest_lead change changes (distinct_head change changes distinct) before after leads),
)

from_applies : (changes : List Change) (before after : Files) → AreOfDistinctPaths changes
    → LeadsInTurn changes before after → LeadsAll changes before after
from_applies [] before after distinct same = record {
  each = All-nil (AppliesBetween before after);
  others = λ path none. ap (λ tree. get tree path) same;
}
from_applies (change ∷ changes) before after distinct applies =
    both_lead change changes (distinct_head change changes distinct) before after applies.0 applies.1
    (from_applies changes applies.0 after (distinct_tail change changes distinct) applies.2)

pub leads_in_turn : (changes : List Change) (before after : Files) → AreOfDistinctPaths changes
    → LeadsAll changes before after ↔ LeadsInTurn changes before after
leads_in_turn changes before after distinct =
    (to_applies changes before after distinct, from_applies changes before after distinct)

-- ---- the way back

inverse_touches : (changes : List Change) (path : List ℕ) → touches (map inverse_of changes) path ≡ touches changes path
inverse_touches [] path = refl
inverse_touches (change ∷ changes) path =
    ap₂ (λ other b. bytes_eq path other || b) (path_of-inverse change) (inverse_touches changes path)

inverse_others : (change : Change) (changes : List Change)
    → AllByRecursion (λ other. same_path change other ≡ false) changes
    → AllByRecursion (λ other. same_path (inverse_of change) other ≡ false) (map inverse_of changes)
inverse_others change [] others = tt
inverse_others change (other ∷ changes) others =
    (ap₂ bytes_eq (path_of-inverse change) (path_of-inverse other) ∙ others.0, inverse_others change changes others.1)

inverse_distinct : (changes : List Change) → AreOfDistinctPaths changes → AreOfDistinctPaths (map inverse_of changes)
inverse_distinct [] distinct = distinct_nil
inverse_distinct (change ∷ changes) distinct = distinct_cons (inverse_of change) (map inverse_of changes)
    (inverse_others change changes (distinct_others change changes distinct))
    (inverse_distinct changes (distinct_tail change changes distinct))

-- the other way, a change leads where its inverse does
module _ (before after : Files) where
  abbrev AppliesBack : Change → Type 0
  AppliesBack change = Applies change (get after (path_of change)) (get before (path_of change))

  inverse_applies : (change : Change) → AppliesBack change → AppliesBetween before after (inverse_of change)
  inverse_applies change applies = subst (λ path. Applies (inverse_of change) (get before path) (get after path))
      (sym (path_of-inverse change)) (applies_back change _ _ applies)

  change_applies : (change : Change) → AppliesBetween before after (inverse_of change) → AppliesBack change
  change_applies change applies =
      subst (λ c. Applies c (get after (path_of change)) (get before (path_of change))) (inverse_twice change)
      (applies_back (inverse_of change) _ _
      (subst (λ path. Applies (inverse_of change) (get before path) (get after path)) (path_of-inverse change) applies))

  inverses_apply : (changes : List Change) → All AppliesBack changes
      → All (AppliesBetween before after) (map inverse_of changes)
  inverses_apply [] all = All-nil (AppliesBetween before after)
  inverses_apply (change ∷ changes) all =
      All-cons (AppliesBetween before after) (inverse_of change) (map inverse_of changes) (inverse_applies change
      (all 0 change (omega arith))) (inverses_apply changes (λ k d lt. all (suc k) d (omega arith)))

  changes_apply : (changes : List Change) → All (AppliesBetween before after) (map inverse_of changes)
      → All AppliesBack changes
  changes_apply [] all = All-nil AppliesBack
  changes_apply (change ∷ changes) all =
      All-cons AppliesBack change changes (change_applies change (all 0 change (omega arith)))
      (changes_apply changes (λ k d lt. all (suc k) d (omega arith)))

  pub leads_by_inverses : (changes : List Change)
      → LeadsBy Backward changes before after ↔ LeadsAll (map inverse_of changes) before after
  leads_by_inverses changes = (
    λ leads. record {
      each = inverses_apply changes leads.each;
      others = λ path none. leads.others path (sym (inverse_touches changes path) ∙ none);
    },
    λ leads. record {
      each = changes_apply changes leads.each;
      others = λ path none. leads.others path (inverse_touches changes path ∙ none);
    },
  )

-- ---- entries

-- in whichever order changes are listed, they lead from one tree to the other
reordered : (direction : Direction) (changes others : List Change) (before after : Files) → IsPermutation changes others
    → LeadsBy direction changes before after → LeadsBy direction others before after
reordered direction changes others before after moved leads = record {
  each = All-permutation
      (λ c. AppliesBy direction c (get before (path_of c)) (get after (path_of c))) changes others moved leads.each;
  others = λ path none. leads.others path
      (list_any-IsPermutation (λ c. bytes_eq path (path_of c)) changes others moved ∙ none);
}

pub entry_in_turn : (changes : List Change) (before after : Files) → IsEntry changes
    → LeadsAll changes before after ↔ LeadsInTurn changes before after
entry_in_turn changes before after good = leads_in_turn changes before after (ascending_distinct changes good.ascending)

pub entry_back_in_turn : (changes others : List Change) (before after : Files) → IsEntry changes
    → IsPermutation changes others
    → LeadsBy Backward changes before after ↔ LeadsInTurn (map inverse_of others) before after
entry_back_in_turn changes others before after good moved =
    let distinct = IsDistinct-IsPermutation same_path (λ x y. nat_list_eq_equiv.symm (path_of x) (path_of y)) changes
    others moved (ascending_distinct changes good.ascending) in
    let back = leads_by_inverses before after others in
    let applies = leads_in_turn (map inverse_of others) before after (inverse_distinct others distinct) in (
      λ leads. applies.0 (back.0 (reordered Backward changes others before after moved leads)),
      λ leads. reordered Backward others changes before after (IsPermutation-sym changes others moved)
          (back.1 (applies.1 leads)),
    )
