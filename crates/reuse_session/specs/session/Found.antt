-- What is found after a loss of power: the points from which the next call goes on.
use Rattle.std.specs.Prelude.{◌≡◌, ◌⊎◌, ◌+◌, false, List, [], ◌∷◌, Some, Result}
use Rattle.reuse_change.specs.Files.{Files}
use Rattle.reuse_change.specs.declared.direction.Direction.{Direction}
use Rattle.reuse_change.specs.declared.direction.Direction.TheVariants as go
use Rattle.reuse_command.specs.declared.reply.Refusal.{Refusal}
use Rattle.reuse_command.specs.declared.reply.Response.{Response}
use Rattle.reuse_store.specs.Asked.{Leaves}
use Rattle.reuse_store.specs.declared.store.Store.{Ghosts}
use Rattle.reuse_session.specs.session.Machine.{Kept, Snapshots}
use Rattle.reuse_session.specs.session.Model.{kept_ahead}
use Rattle.reuse_session.specs.session.Requests.{as_step}
use Rattle.reuse_session.specs.session.Stops.{RunState, FilesAt, is_durable, start_at}

-- ---- one step further

-- the last step that was done is undone, or the next that was undone is done again, and the tree is this
abbrev pub moved : Direction → Kept → List Kept → Snapshots → Files → Snapshots
moved go.Backward kept others state tree =
    record { tree = tree; past = others; future = kept ∷ state.future; used = state.used }
moved go.Forward kept others state tree =
    record { tree = tree; past = kept ∷ state.past; future = others; used = state.used }

-- one step more is done in the other state, and none can be redone
abbrev pub HasNewStep : Kept → (state other : Snapshots) → Type 0
HasNewStep kept state other = (kept.label.number ≡ state.used + 1)
    × (other ≡ record { tree = other.tree; past = kept ∷ state.past; future = []; used = state.used + 1 })

-- the other state is one step from the state: a step is new, or the last is undone, or the next is done again
abbrev pub IsOneStepFrom : (state other : Snapshots) → Type 0
IsOneStepFrom state other = (kept : Kept) × (HasNewStep kept state other
    ⊎ ((direction : Direction) × (others : List Kept) × (kept_ahead direction state ≡ kept ∷ others)
    × (other ≡ moved direction kept others state other.tree)))

-- ---- the points

-- where a step is pending from the one state to the other
abbrev pub start_between : (state next : Snapshots) → RunState
start_between state next = record { is_open = false; state = state; next = Some next; forgetting = false }

-- it is at the state; or a step from there is pending, as a call leaves it that failed before any change
abbrev pub IsAtOrBegun : Snapshots → RunState → Type 0
IsAtOrBegun state found = (found ≡ start_at state)
    ⊎ ((other : Snapshots) × IsOneStepFrom state other × (found ≡ start_between state other))

-- It is where the call ended. Or the call ended at the state after a step that had stopped before it, and that step is
-- pending again. Or the call was stopped, and its own step is pending or made.
abbrev pub IsWhereStopped : (start end found : RunState) → Type 0
IsWhereStopped start end found = IsAtOrBegun end.state found
    ⊎ ((start.next ≡ Some end.state) × (found ≡ start_between start.state end.state))
    ⊎ ((next : Snapshots) × (end.next ≡ Some next)
    × ((found ≡ start_between end.state next) ⊎ IsAtOrBegun next found))

-- What a loss of power leads to behind a call that was answered so, and went from one point to the other: behind a step
-- that was made, to the state after it and nowhere else.
abbrev pub IsAfterLoss : Result Response Refusal → (start end found : RunState) → Type 0
IsAfterLoss answer start end found = (found ≡ start_at end.state)
    ⊎ ((is_durable (as_step answer) ≡ false) × IsWhereStopped start end found)

-- ---- the files

-- the files are where such a point is
abbrev pub AreAtSome : (RunState → Type 0) → Files → Type 0
AreAtSome Is files = (found : RunState) × Is found × FilesAt files found.state found.next

-- all that a loss of power may leave is where such a point is
abbrev pub AllAreAtSome : {S : Type 0} → Ghosts S → (RunState → Type 0) → S → Type 0
AllAreAtSome store Is new = Leaves store new (AreAtSome Is)
