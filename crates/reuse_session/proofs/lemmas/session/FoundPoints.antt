-- The points at which files are that a loss of power may leave.
use Rattle.std.proofs.Common.{◌≡◌, ◌⊎◌, inl, inr, ⊎_elim, true, false, Some, refl, sym, ap, subst, ◌∙◌}
use Rattle.std.proofs.lemmas.Bool.{false≢true}
use Rattle.reuse_change.specs.Files.{Files}
use Rattle.reuse_change.specs.Tree.{undo_folder_of}
use Rattle.reuse_store.specs.Asked.{IsSynced}
use Rattle.reuse_store.specs.declared.store.Store.{Ghosts}
use Rattle.reuse_tree.specs.declared.journal.head.PendingDirection.{PendingDirection}
use Rattle.reuse_journal.specs.CommittedState.{BetweenStates, IsCommittedState, IsPending, IsStep, JournalTransition}
use Rattle.reuse_journal.specs.Journal.{Recorded, State}
use Rattle.reuse_journal.specs.Losses.{AreBetweenStates, Earlier, IsSafe, IsSafeBeside, RecoversToTree}
use Rattle.reuse_journal.specs.Losses.{beyond}
use Rattle.reuse_session.specs.session.Found.{AllAreAtSome, AreAtSome, IsAtOrBegun, IsWhereStopped, start_between}
use Rattle.reuse_session.specs.session.Machine.{Snapshots}
use Rattle.reuse_session.specs.session.Session.{Simulates}
use Rattle.reuse_session.specs.session.Stops.{RunState, FilesAt, start_at}
use Rattle.reuse_session.proofs.lemmas.journal.StepDoubt.{synced_is_safe}
use Rattle.reuse_session.proofs.lemmas.session.Driving.{no_step}
use Rattle.reuse_session.proofs.lemmas.session.FoundSteps.{leads_on}

-- no forgetting was stopped, and this is the state before
abbrev pub only_earlier : State → Earlier
only_earlier earlier = record { state = earlier; forgetting = false }

-- where forgetting wasn't stopped, nothing is safe beside the state
pub unforgotten : (earlier held : State) (left : Files) → IsSafe (only_earlier earlier) held left
    → RecoversToTree earlier held left
unforgotten earlier held left =
    ⊎_elim (λ (safe : RecoversToTree earlier held left). safe)
    (λ (beside : (false ≡ true) × IsSafeBeside held left). absurd (false≢true beside.0))

-- no step leads from a committed state to itself
pub no_step_here : (direction : PendingDirection) (step : Recorded) (earlier held : State) → earlier ≡ held
    → IsStep direction step earlier held → ⊥
no_step_here direction step earlier held same is_step =
    no_step direction step held.journal
    (subst (λ (s : State). JournalTransition direction step s.journal held.journal) same is_step.transition)

-- the same files at fewer points
pub at_more : (Is Also : RunState → Type 0) (left : Files) → ((found : RunState) → Is found → Also found)
    → AreAtSome Is left → AreAtSome Also left
at_more Is Also left also at = (at.0, also at.0 at.1, at.2)

module _ (held : State) (state : Snapshots) (holds : Simulates held state) (left : Files) where
  pub at_state : IsCommittedState left held → AreAtSome (IsAtOrBegun state) left
  at_state committed = (start_at state, inl refl, (held, committed, holds))

  pub at_begun : (next : State) (direction : PendingDirection) (step : Recorded) → IsStep direction step held next
      → IsPending direction step held left → AreAtSome (IsAtOrBegun state) left
  at_begun next direction step is_step under =
      let to = leads_on held next state holds step direction (undo_folder_of left) under.kept is_step in (
        start_between state to.0,
        inr (to.0, to.1, refl),
        (held, next, holds, to.2, inr (inr (direction, step, is_step, under))),
      )

-- between two states
pub at_between : (held next : State) (state after : Snapshots) (left : Files) → Simulates held state
    → Simulates next after → BetweenStates held next left
    → FilesAt left (start_between state after).state (start_between state after).next
at_between held next state after left holds reaches between = (held, next, holds, reaches, between)

-- where the state is the end's, or the step that led to it is pending again
abbrev pub IsKept : RunState → Snapshots → RunState → Type 0
IsKept start state found = IsAtOrBegun state found
    ⊎ ((start.next ≡ Some state) × (found ≡ start_between start.state state))

-- or the next step is pending or made
abbrev pub IsKeptOrStopped : RunState → (state after : Snapshots) → RunState → Type 0
IsKeptOrStopped start state after found =
    IsKept start state found ⊎ ((found ≡ start_between state after) ⊎ IsAtOrBegun after found)

pub kept_is : (start end : RunState) (state : Snapshots) (found : RunState) → end.state ≡ state
    → IsKept start state found → IsWhereStopped start end found
kept_is start end state found same (inl at) = inl (subst (λ s. IsAtOrBegun s found) (sym same) at)
kept_is start end state found same (inr again) = inr (inl
    (subst (λ s. (start.next ≡ Some s) × (found ≡ start_between start.state s)) (sym same) again))

pub stopped_is : (start end : RunState) (state after : Snapshots) (found : RunState) → end.state ≡ state
    → end.next ≡ Some after → IsKeptOrStopped start state after found → IsWhereStopped start end found
stopped_is start end state after found same stopped (inl kept) = kept_is start end state found same kept
stopped_is start end state after found same stopped (inr (inl is)) =
    inr (inr (after, stopped, inl (is ∙ ap (λ s. start_between s after) (sym same))))
stopped_is start end state after found same stopped (inr (inr at)) = inr (inr (after, stopped, inr at))

-- A call went from the point `start` and stands at the state `state`. It came there from the start's state by a step
-- that had stopped, or it stands where it started.
module _ (start : RunState) (state : Snapshots) (earlier held : State) (precedes : Simulates earlier start.state)
    (holds : Simulates held state) (came : (earlier ≡ held) ⊎ (start.next ≡ Some state)) where
  pub at_safe : (left : Files) → RecoversToTree earlier held left → AreAtSome (IsKept start state) left
  at_safe left safe = by_case safe.opens
    where
      again : (direction : PendingDirection) (step : Recorded) → IsStep direction step earlier held
          → IsPending direction step earlier left
          → (earlier ≡ held) ⊎ (start.next ≡ Some state) → AreAtSome (IsKept start state) left
      again direction step is_step under (inl same) = absurd (no_step_here direction step earlier held same is_step)
      again direction step is_step under (inr reached) = (
        start_between start.state state,
        inr (reached, refl),
        (earlier, held, precedes, holds, inr (inr (direction, step, is_step, under))),
      )

      by_case : IsCommittedState left held
          ⊎ ((next : State) × (direction : PendingDirection) × (step : Recorded) × IsStep direction step held next
          × IsPending direction step held left)
          ⊎ ((direction : PendingDirection) × (step : Recorded) × IsStep direction step earlier held
          × IsPending direction step earlier left) → AreAtSome (IsKept start state) left
      by_case (inl committed) = at_more (IsAtOrBegun state) (IsKept start state) left (λ found is. inl is)
          (at_state held state holds left committed)
      by_case (inr (inl (next, direction, step, is_step, under))) =
          at_more (IsAtOrBegun state) (IsKept start state) left (λ found is. inl is)
          (at_begun held state holds left next direction step is_step under)
      by_case (inr (inr (direction, step, is_step, under))) = again direction step is_step under came

  module _ (next : State) (after : Snapshots) (reaches : Simulates next after) where
    kept : (left : Files) → RecoversToTree earlier held left → AreAtSome (IsKeptOrStopped start state after) left
    kept left safe = at_more (IsKept start state) (IsKeptOrStopped start state after) left (λ found is. inl is) (at_safe left safe)

    pub at_next : (left : Files) → IsCommittedState left next → AreAtSome (IsKeptOrStopped start state after) left
    at_next left committed = at_more (IsAtOrBegun after) (IsKeptOrStopped start state after) left (λ found is. inr (inr is))
        (at_state next after reaches left committed)

    pub at_doubt : (left : Files) → BetweenStates held next left → AreAtSome (IsKeptOrStopped start state after) left
    at_doubt left between =
        (start_between state after, inr (inl refl), at_between held next state after left holds reaches between)

    -- safe on the next state, where the one before it is this
    beyond_safe : (left : Files) → RecoversToTree held next left → AreAtSome (IsKeptOrStopped start state after) left
    beyond_safe left safe = by_case safe.opens
      where
        by_case : IsCommittedState left next
            ⊎ ((third : State) × (direction : PendingDirection) × (step : Recorded) × IsStep direction step next third
            × IsPending direction step next left)
            ⊎ ((direction : PendingDirection) × (step : Recorded) × IsStep direction step held next
            × IsPending direction step held left) → AreAtSome (IsKeptOrStopped start state after) left
        by_case (inl committed) = at_next left committed
        by_case (inr (inl (third, direction, step, is_step, under))) =
            at_more (IsAtOrBegun after) (IsKeptOrStopped start state after) left (λ found is. inr (inr is))
            (at_begun next after reaches left third direction step is_step under)
        by_case (inr (inr between)) = at_doubt left (inr (inr between))

    module _ {S : Type 0} (store : Ghosts S) (new : S) where
      pub safe_or_next : ((left : Files) → store.crash_states new left
          → IsSafe (only_earlier earlier) held left ⊎ IsCommittedState left next)
          → AllAreAtSome store (IsKeptOrStopped start state after) new
      safe_or_next lefts left may =
          ⊎_elim (λ (safe : IsSafe (only_earlier earlier) held left). kept left (unforgotten earlier held left safe))
          (λ (committed : IsCommittedState left next). at_next left committed) (lefts left may)

      pub doubtful : AreBetweenStates store (only_earlier earlier) held next new
          → AllAreAtSome store (IsKeptOrStopped start state after) new
      doubtful (inl (committed, safe)) left may = kept left (unforgotten earlier held left (safe left may))
      doubtful (inr (inl (committed, safe))) left may =
          beyond_safe left (unforgotten held next left (safe left may))
      doubtful (inr (inr (direction, step, is_step, under, lefts))) left may =
          ⊎_elim (λ (safe : IsSafe (only_earlier earlier) held left). kept left (unforgotten earlier held left safe))
          (λ (between : BetweenStates held next left). at_doubt left between) (lefts left may)

-- where a call was stopped between two states
pub stopped_starts : {S : Type 0} (store : Ghosts S) (new : S) (first second : State) (state next : Snapshots)
    → Simulates first state → Simulates second next
    → AreBetweenStates store (only_earlier first) first second new
    → AllAreAtSome store (IsWhereStopped (start_at state) (start_between state next)) new
stopped_starts store new first second state next holds reaches doubt left may =
    at_more (IsKeptOrStopped (start_at state) state next) (IsWhereStopped (start_at state) (start_between state next))
    left (λ found is. stopped_is (start_at state) (start_between state next) state next found refl refl is)
    (doubtful (start_at state) state first first holds holds (inl refl) second next reaches store new doubt left may)

-- ---- a start at which all is durable

module _ {S : Type 0} (store : Ghosts S) (old : S) (synced : IsSynced store old) where
  pub durable_alone : (held : State) → IsCommittedState (store.files old) held
      → AreBetweenStates store (only_earlier held) held held old
  durable_alone held committed = inl (committed, synced_is_safe store (only_earlier held) held old committed synced)

  pub durable_doubt : (first second : State) → BetweenStates first second (store.files old)
      → AreBetweenStates store (only_earlier first) first second old
  durable_doubt first second (inl committed) =
      inl (committed, synced_is_safe store (only_earlier first) first old committed synced)
  durable_doubt first second (inr (inl committed)) =
      inr (inl (committed, synced_is_safe store (beyond (only_earlier first) first) second old committed synced))
  durable_doubt first second (inr (inr (direction, step, is_step, under))) = inr (inr (
    direction,
    step,
    is_step,
    under,
    λ left may. inr (subst (BetweenStates first second) (sym (synced left may))
        (inr (inr (direction, step, is_step, under)))),
  ))
