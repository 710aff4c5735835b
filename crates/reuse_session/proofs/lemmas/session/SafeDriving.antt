-- A driven session, and what a loss of power may leave of it.
use Rattle.std.proofs.Common.{◌≡◌, ◌⊎◌, inl, inr, ⊎_elim, ◌||◌, ◌&&◌, Bool, false, not, Option, Some, None, Result, Ok}
use Rattle.std.proofs.Common.{Err, IfErr, refl, sym, ap, subst}
use Rattle.reuse_store.specs.Asked.{IsSynced}
use Rattle.reuse_store.specs.declared.cause.Cause.{Cause}
use Rattle.reuse_store.specs.declared.store.Store.{Ghosts}
use Rattle.reuse_command.specs.Answer.{IsFailure}
use Rattle.reuse_session.specs.session.SessionSlot.{SimulatesSafely, IsSafelyAt, GoesSafely, store_in}
use Rattle.reuse_journal.specs.Journal.{State}
use Rattle.reuse_journal.specs.Losses.{AllRecoverToTree, AreBetweenStates, Earlier, beyond}
use Rattle.reuse_session.specs.session.Machine.{Snapshots}
use Rattle.reuse_session.specs.session.Session.{store_of, SimulatesState}
use Rattle.reuse_journal.specs.CommittedState.{BetweenStates}
use Rattle.reuse_session.specs.session.Requests.{IfFailed, MayFail, as_step}
use Rattle.reuse_session.specs.session.Stops.{RunState, open_at, closed, forgets, is_durable, Reopens, Continues}
use Rattle.reuse_session.specs.session.Stops.{FilesAt, CrashStatesWithin}
use Rattle.reuse_session.specs.declared.events.SessionSlot.{SessionSlot}
use Rattle.reuse_session.specs.declared.events.SessionSlot.TheVariants.{Open, Closed}
use Rattle.reuse_command.specs.declared.request.Request.{Request}
use Rattle.reuse_command.specs.declared.reply.Response.{Response}
use Rattle.reuse_command.specs.declared.reply.Response.TheVariants.{Opened}
use Rattle.reuse_command.specs.declared.reply.Refusal.{Refusal}
use Rattle.reuse_command.specs.declared.failure.Failure.TheVariants.{Memory, Fault, Interrupted}
use Rattle.reuse_command.specs.declared.reply.Refusal.TheVariants.{Failed}
use Rattle.reuse_session.specs.declared.session.Session.{Session}
use Rattle.reuse_session.proofs.lemmas.session.Driving.{left_out, no_step, some_doubt}
use Rattle.reuse_session.proofs.lemmas.journal.StepDoubt.{synced_is_safe}

-- ---- a request to an open session

-- one that wasn't interrupted leaves the session open
pub goes_on_safely : {S : Type 0} (store : Ghosts S) (state : Snapshots) (forgetting : Bool) (session : Session S)
    (request : Request) (answer : Result Response Refusal) → GoesSafely store request answer state forgetting session
    → IfErr answer (IfFailed (MayFail request)) → ((cause : Cause) → answer ≡ Err (Failed (Interrupted cause)) → ⊥)
    → (new : RunState) × Continues request answer (open_at forgetting state) new × IsSafelyAt store (Open session) new
goes_on_safely store state forgetting session request (Ok reply) safely fails other = (
  open_at (not (is_durable (as_step (Ok reply))) && forgetting) safely.0,
  (safely.0, safely.1, refl),
  (refl, safely.2),
)
goes_on_safely store state forgetting session request (Err (Failed (Fault fault))) safely fails other =
    (open_at forgetting state, (fails, refl), (refl, safely))
goes_on_safely store state forgetting session request (Err (Failed Memory)) safely fails other =
    (open_at forgetting state, (fails, refl), (refl, safely))
goes_on_safely store state forgetting session request (Err (Failed (Interrupted cause))) safely fails other =
    absurd (other cause refl)
goes_on_safely store state forgetting session request (Err refusal) safely fails other =
    (open_at forgetting safely.0, (safely.0, safely.1, refl), (refl, safely.2))

-- one that was closes it
pub closes_safely : {S : Type 0} (store : Ghosts S) (request : Request) (answer : Result Response Refusal)
    (state : Snapshots) (forgetting : Bool) (session : Session S) (cause : Cause)
    → answer ≡ Err (Failed (Interrupted cause))
    → IfErr answer (IfFailed (MayFail request)) → GoesSafely store request answer state forgetting session
    → (new : RunState) × Continues request answer (open_at forgetting state) new
    × IsSafelyAt store (Closed (store_of session)) new
closes_safely store request answer state forgetting session cause is fails safely =
    let left = subst (λ a. GoesSafely store request a state forgetting session) is safely in
    let new : RunState = record {
      is_open = false;
      state = state;
      next = Some left.1;
      forgetting = forgets request || forgetting;
    } in (
      new,
      subst (λ a. Continues request a (open_at forgetting state) new) (sym is)
          (subst (λ a. IfErr a (IfFailed (MayFail request))) is fails, left.0, left.1, left.2, refl),
      (refl, left.3),
    )

-- ---- opening

-- files in doubt are left so
pub doubt_left : {S : Type 0} (store : Ghosts S) (earlier : Earlier) (held next : State) (new : S)
    → AreBetweenStates store earlier held next new → BetweenStates held next (store.files new)
doubt_left store earlier held next new (inl (committed, safe)) = inl committed
doubt_left store earlier held next new (inr (inl (committed, safe))) = inr (inl committed)
doubt_left store earlier held next new (inr (inr (direction, recorded, leads, under, left))) =
    inr (inr (direction, recorded, leads, under))

pub found_left : {S : Type 0} (store : Ghosts S) (new : S) (state : Snapshots) (next : Option Snapshots)
    (forgetting : Bool) → CrashStatesWithin store new state next forgetting → FilesAt (store.files new) state next
found_left store new state None forgetting found = (found.1, found.3, found.2)
found_left store new state (Some next) forgetting found = (
  found.1,
  found.2,
  found.3,
  found.4,
  doubt_left store (record { state = found.0; forgetting = forgetting }) found.1 found.2 new found.5,
)

-- what may be found of an open session, or where none is
pub found_in : {S : Type 0} (store : Ghosts S) (slot : SessionSlot S) (run_state : RunState)
    → IsSafelyAt store slot run_state
    → CrashStatesWithin store (store_in slot) run_state.state run_state.next run_state.forgetting
found_in store (Open session) run_state at =
    subst (λ next. CrashStatesWithin store (store_of session) run_state.state next run_state.forgetting)
    (sym (ap (λ (p : RunState). p.next) at.0))
    (at.1.earlier, at.1.at.held, at.1.at.holds, at.1.at.stands.committed, at.1.safe)
found_in store (Closed new) run_state at = at.1

pub safely_open : {S : Type 0} (store : Ghosts S) (slot : SessionSlot S) (session : Session S) (run_state : RunState)
    → slot ≡ Open session → IsSafelyAt store slot run_state
    → (run_state ≡ open_at run_state.forgetting run_state.state)
    × SimulatesSafely store session run_state.state run_state.forgetting
safely_open store slot session run_state is at = subst (λ d. IsSafelyAt store d run_state) is at

pub safely_closed : {S : Type 0} (store : Ghosts S) (slot : SessionSlot S) (new : S) (run_state : RunState)
    → slot ≡ Closed new → IsSafelyAt store slot run_state
    → (run_state.is_open ≡ false) × CrashStatesWithin store new run_state.state run_state.next run_state.forgetting
safely_closed store slot new run_state is at = subst (λ d. IsSafelyAt store d run_state) is at

module _ {S : Type 0} (store : Ghosts S) (before : S) where
  -- where a session opens, it stands safely on one of the states
  reached : (session : Session S) (state : Snapshots) (next : Option Snapshots) (forgetting : Bool)
      → CrashStatesWithin store before state next forgetting
      → ((earlier : Earlier) (held second : State) → AreBetweenStates store earlier held second before
      → (SimulatesState store.files session held × AllRecoverToTree store earlier held (store_of session))
      ⊎ (SimulatesState store.files session second
      × AllRecoverToTree store (beyond earlier held) second (store_of session)))
      → (s : Snapshots) × ((state ≡ s) ⊎ (next ≡ Some s)) × SimulatesSafely store session s forgetting
  reached session state None forgetting (earlier, held, holds, committed, safe) survives =
      let on : (first : State) → SimulatesState store.files session held
      → AllRecoverToTree store (record { state = first; forgetting = forgetting }) held (store_of session)
      → SimulatesSafely store session state forgetting =
      λ first stands still. record {
        at = record { held = held; stands = stands; holds = holds };
        earlier = first;
        safe = still;
      } in (
        state,
        inl refl,
        ⊎_elim (λ h. on earlier h.0 h.1) (λ h. on held h.0 h.1)
            (survives (record { state = earlier; forgetting = forgetting }) held held (inl (committed, safe))),
      )
  reached session state (Some next) forgetting (earlier, held, second, holds, reaches, doubt) survives = ⊎_elim
      (λ h. (
        state,
        inl refl,
        record { at = record { held = held; stands = h.0; holds = holds }; earlier = earlier; safe = h.1 },
      ))
      (λ h. (
        next,
        inr refl,
        record { at = record { held = second; stands = h.0; holds = reaches }; earlier = held; safe = h.1 },
      ))
      (survives (record { state = earlier; forgetting = forgetting }) held second doubt)

  pub opens_safely : (session : Session S) (old : RunState)
      → CrashStatesWithin store before old.state old.next old.forgetting
      → ((earlier : Earlier) (held second : State) → AreBetweenStates store earlier held second before
      → (SimulatesState store.files session held × AllRecoverToTree store earlier held (store_of session))
      ⊎ (SimulatesState store.files session second
      × AllRecoverToTree store (beyond earlier held) second (store_of session)))
      → (new : RunState) × Reopens (Ok Opened) old new × IsSafelyAt store (Open session) new
  opens_safely session old found survives = let r = reached session old.state old.next old.forgetting found survives in
      (open_at old.forgetting r.0, (r.0, r.1, refl), (refl, r.2))

  -- where none opens, what may be found is as it was
  pub found_again : (after : S) (state : Snapshots) (next : Option Snapshots) (forgetting : Bool)
      → CrashStatesWithin store before state next forgetting
      → ((earlier : Earlier) (held second : State) → AreBetweenStates store earlier held second before
      → AreBetweenStates store earlier held second after) → CrashStatesWithin store after state next forgetting
  found_again after state None forgetting (earlier, held, holds, committed, safe) survives =
      alone (survives (record { state = earlier; forgetting = forgetting }) held held (inl (committed, safe)))
    where
      alone : AreBetweenStates store (record { state = earlier; forgetting = forgetting }) held held after
          → CrashStatesWithin store after state None forgetting
      alone (inl (stands, still)) = (earlier, held, holds, stands, still)
      alone (inr (inl (stands, still))) = (held, held, holds, stands, still)
      alone (inr (inr (direction, recorded, leads, under, others))) =
          absurd (no_step direction recorded held.journal leads.transition)
  found_again after state (Some next) forgetting (earlier, held, second, holds, reaches, doubt) survives = (
    earlier,
    held,
    second,
    holds,
    reaches,
    survives (record { state = earlier; forgetting = forgetting }) held second doubt,
  )

  pub closed_safely : (after : S) (refusal : Refusal) (old : RunState)
      → CrashStatesWithin store before old.state old.next old.forgetting
      → ((first second : State) → BetweenStates first second (store.files before)
      → IsFailure refusal × BetweenStates first second (store.files after))
      → ((earlier : Earlier) (held second : State) → AreBetweenStates store earlier held second before
      → AreBetweenStates store earlier held second after)
      → (new : RunState) × Reopens (Err refusal) old new × IsSafelyAt store (Closed after) new
  closed_safely after refusal old found recovers survives =
      let some = some_doubt (store.files before) old.state old.next
      (found_left store before old.state old.next old.forgetting found) in (
        closed old,
        left_out refusal old (recovers some.0 some.1 some.2).0,
        (refl, found_again after old.state old.next old.forgetting found survives),
      )

-- where the files hold a state, and are all that may be left, it is found
pub held_found : {S : Type 0} (store : Ghosts S) (new : S) (state : Snapshots) → FilesAt (store.files new) state None
    → IsSynced store new → CrashStatesWithin store new state None false
held_found store new state held synced = (
  held.0,
  held.0,
  held.2,
  held.1,
  synced_is_safe store (record { state = held.0; forgetting = false }) held.0 new held.1 synced,
)
