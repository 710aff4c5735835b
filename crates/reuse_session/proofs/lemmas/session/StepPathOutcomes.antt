-- An undo or a redo follows the path outcomes that its preview reports.
use Rattle.std.proofs.Common.{◌≡◌, ◌↔◌, ◌⊎◌, inl, inr, ℕ, List, [], ◌∷◌, map, Option, Some, None, Result, Ok, Err, refl}
use Rattle.std.proofs.Common.{sym, ap, ◌∙◌}
use Rattle.std.specs.List.{All}
use Rattle.std.proofs.lemmas.List.Elements.{All-cons, All-nil}
use Rattle.std.proofs.lemmas.Option.{none-some, same_Some}
use Rattle.reuse_change.specs.Files.{Files}
use Rattle.reuse_change.specs.Change.{path_of}
use Rattle.reuse_change.specs.declared.change.Change.{Change}
use Rattle.reuse_change.specs.Entry.{paths_of, CanBeMade, IsFirstWithout, IsFirstStuck}
use Rattle.reuse_plan.specs.PathOutcomes.{changes_plainly, first_refusal, IsPathOutcomeOf, ArePathOutcomesOf}
use Rattle.reuse_journal.specs.Journal.{Recorded, State, Replays}
use Rattle.reuse_session.specs.session.Previews.{PreviewsReplay}
use Rattle.reuse_change.specs.declared.direction.Direction.{Direction}
use Rattle.reuse_command.specs.declared.path_outcome.PathOutcome.{PathOutcome}
use Rattle.reuse_command.specs.declared.path_outcome.PathOutcome.TheVariants as path_outcome
use Rattle.reuse_command.specs.declared.reply.Refusal.{Refusal}
use Rattle.reuse_command.specs.declared.reply.Refusal.TheVariants as refusals
use Rattle.reuse_command.specs.declared.reply.Response.{Response}
use Rattle.reuse_change.proofs.Walk.{none_stuck}
use Rattle.reuse_journal.proofs.OneOpening.{without_once}
use Rattle.reuse_session.proofs.lemmas.session.Previewing.{all_change}

-- ---- the first that is stuck

later : (Holds : Change → Type 0) (change : Change) (changes : List Change) (path : List ℕ) → Holds change
    → IsFirstWithout Holds changes path → IsFirstWithout Holds (change ∷ changes) path
later Holds change changes path holds first = record {
  before = change ∷ first.before;
  change = first.change;
  behind = first.behind;
  list = ap (λ cs. change ∷ cs) first.list;
  here = first.here;
  passed = All-cons Holds change first.before holds first.passed;
  stuck = first.stuck;
}

-- ---- the first refusal

-- the one refusal of changes that are made one way: the first that is stuck
abbrev IsStuckBy : Direction → Files → List Change → Refusal → Type 0
IsStuckBy direction tree changes refusal =
    (path : List ℕ) × (refusal ≡ refusals.Moved path) × IsFirstStuck direction tree changes path

same_error : (one other : Refusal) (result : Result Response Refusal) → result ≡ Err one
    → result ≡ Err other → one ≡ other
same_error one other result e f = cc

reported_of : (direction : Direction) (tree : Files) (change : Change) (reported : PathOutcome)
    → IsPathOutcomeOf direction tree change reported
    → ((reported ≡ changes_plainly (path_of change)) × CanBeMade direction tree change)
    ⊎ ((reported ≡ path_outcome.Refused (refusals.Moved (path_of change))) × (CanBeMade direction tree change → ⊥))
reported_of direction tree change (path_outcome.Changes path None) is = inl (ap changes_plainly is.0, is.1)
reported_of direction tree change (path_outcome.Refused (refusals.Moved path)) is =
    inr (ap (λ p. path_outcome.Refused (refusals.Moved p)) is.0, is.1)
reported_of direction tree change reported is = absurd is

module _ (direction : Direction) (tree : Files) where
  stuck_first : (changes : List Change) (path_outcomes : List PathOutcome) (refusal : Refusal)
      → ArePathOutcomesOf direction tree changes path_outcomes → first_refusal path_outcomes ≡ Some refusal
      → IsStuckBy direction tree changes refusal
  stuck_first [] [] refusal are h = absurd (none-some refusal h)
  stuck_first (c ∷ cs) (f ∷ fs) refusal are h =
      of_one (reported_of direction tree c f are.0) (stuck_first cs fs refusal are.1)
    where
      of_one : ((f ≡ changes_plainly (path_of c)) × CanBeMade direction tree c)
          ⊎ ((f ≡ path_outcome.Refused (refusals.Moved (path_of c))) × (CanBeMade direction tree c → ⊥))
          → (first_refusal fs ≡ Some refusal → IsStuckBy direction tree cs refusal)
          → IsStuckBy direction tree (c ∷ cs) refusal
      of_one (inl a) rest =
          let found = rest (sym (ap (λ x. first_refusal (x ∷ fs)) a.0) ∙ h) in
          (found.0, found.1, later (CanBeMade direction tree) c cs found.0 a.1 found.2)
      of_one (inr b) rest = (
        path_of c,
        same_Some refusal (refusals.Moved (path_of c)) (sym h ∙ ap (λ x. first_refusal (x ∷ fs)) b.0),
        record {
          before = [];
          change = c;
          behind = cs;
          list = refl;
          here = refl;
          passed = All-nil (CanBeMade direction tree);
          stuck = b.1;
        },
      )
  stuck_first [] (f ∷ fs) refusal are h = absurd are
  stuck_first (c ∷ cs) [] refusal are h = absurd are

  all_made : (changes : List Change) (path_outcomes : List PathOutcome)
      → ArePathOutcomesOf direction tree changes path_outcomes → first_refusal path_outcomes ≡ None
      → All (CanBeMade direction tree) changes
  all_made [] [] are h = All-nil (CanBeMade direction tree)
  all_made (c ∷ cs) (f ∷ fs) are h = of_one (reported_of direction tree c f are.0) (all_made cs fs are.1)
    where
      of_one : ((f ≡ changes_plainly (path_of c)) × CanBeMade direction tree c)
          ⊎ ((f ≡ path_outcome.Refused (refusals.Moved (path_of c))) × (CanBeMade direction tree c → ⊥))
          → (first_refusal fs ≡ None → All (CanBeMade direction tree) cs) → All (CanBeMade direction tree) (c ∷ cs)
      of_one (inl a) rest =
          All-cons (CanBeMade direction tree) c cs a.1 (rest (sym (ap (λ x. first_refusal (x ∷ fs)) a.0) ∙ h))
      of_one (inr b) rest =
          absurd (none-some (refusals.Moved (path_of c)) (sym h ∙ ap (λ x. first_refusal (x ∷ fs)) b.0))
  all_made [] (f ∷ fs) are h = absurd are
  all_made (c ∷ cs) [] are h = absurd are

  none_of_changes : (paths : List (List ℕ)) → first_refusal (map changes_plainly paths) ≡ None
  none_of_changes [] = refl
  none_of_changes (p ∷ paths) = none_of_changes paths

  first_reported : (changes : List Change) (path_outcomes : List PathOutcome) (path : List ℕ)
      → ArePathOutcomesOf direction tree changes path_outcomes → IsFirstStuck direction tree changes path
      → first_refusal path_outcomes ≡ Some (refusals.Moved path)
  first_reported changes path_outcomes path are stuck = of_first (first_refusal path_outcomes) refl
    where
      of_first : (first : Option Refusal) → first_refusal path_outcomes ≡ first → first ≡ Some (refusals.Moved path)
      of_first None h = absurd (none_stuck direction tree changes path (all_made changes path_outcomes are h) stuck)
      of_first (Some refusal) h =
          let found = stuck_first changes path_outcomes refusal are h in
          ap (λ r. Some r)
          (found.1 ∙ ap refusals.Moved (without_once (CanBeMade direction tree) changes found.0 path found.2 stuck))

pub refused_where_stuck : (direction : Direction) (tree : Files) (changes : List Change)
    (path_outcomes : List PathOutcome) (refusal : Refusal) → ArePathOutcomesOf direction tree changes path_outcomes
    → (first_refusal path_outcomes ≡ Some refusal) ↔ IsStuckBy direction tree changes refusal
refused_where_stuck direction tree changes path_outcomes refusal are = (
  stuck_first direction tree changes path_outcomes refusal are,
  λ stuck. first_reported direction tree changes path_outcomes stuck.0 are stuck.2 ∙ ap (λ r. Some r) (sym stuck.1),
)

pub accepted_where_made : (direction : Direction) (tree : Files) (changes : List Change)
    (path_outcomes : List PathOutcome) → ArePathOutcomesOf direction tree changes path_outcomes
    → (first_refusal path_outcomes ≡ None) ↔ All (CanBeMade direction tree) changes
accepted_where_made direction tree changes path_outcomes are = (
  all_made direction tree changes path_outcomes are,
  λ all. ap first_refusal (all_change direction tree changes path_outcomes all are)
      ∙ none_of_changes direction tree (paths_of changes),
)

-- ---- whole calls

pub calls_as_previewed : (direction : Direction) (steps : List Recorded) (old new : State)
    (path_outcomes : List PathOutcome) (result : Result Response Refusal) (refusal : Refusal)
    → PreviewsReplay direction steps old.tree (Ok path_outcomes) → Replays direction steps old result new
    → (result ≡ Err refusal) ↔ (first_refusal path_outcomes ≡ Some refusal)
calls_as_previewed direction [] old new path_outcomes result refusal reported goes = absurd (cc)
calls_as_previewed direction (step ∷ steps) old new path_outcomes (Ok reply) refusal reported goes = (
  λ e. absurd (cc),
  λ h. let found = stuck_first direction old.tree step.changes path_outcomes refusal reported h in
      absurd (none_stuck direction old.tree step.changes found.0 goes.1 found.2),
)
calls_as_previewed direction (step ∷ steps) old new path_outcomes (Err other) refusal reported goes =
    let first : first_refusal path_outcomes ≡ Some other =
    first_reported direction old.tree step.changes path_outcomes goes.0.0 reported goes.0.2
    ∙ ap (λ r. Some r) (sym goes.0.1) in (
      λ e. first ∙ ap (λ r. Some r) (same_error other refusal (Err other) refl e),
      λ h. ap (λ r. Err r) (same_Some other refusal (sym first ∙ h)),
    )
