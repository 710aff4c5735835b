-- A driven session: what one event makes of the point where it stands, and what many make of it.
use Rattle.std.proofs.Common.{◌≡◌, ◌⊎◌, inl, inr, ⊎_elim, ℕ, ◌||◌, ◌&&◌, Bool, true, false, not, length, Option, Some}
use Rattle.std.proofs.Common.{None, Result, Ok, Err, IfErr, refl, sym, ap, subst, ◌∙◌, arith}
use Rattle.std.specs.FinMap.{get}
use Rattle.std.proofs.lemmas.Option.{none-some}
use Rattle.reuse_change.specs.Files.{Files}
use Rattle.reuse_command.specs.declared.command.Command.{Command}
use Rattle.reuse_session.specs.declared.events.SessionSlot.{SessionSlot}
use Rattle.reuse_session.specs.declared.events.SessionSlot.TheVariants.{Open, Closed}
use Rattle.reuse_session.specs.declared.events.Event.TheVariants as asked
use Rattle.reuse_tree.specs.declared.journal.head.Head.{Head}
use Rattle.reuse_tree.specs.declared.journal.head.Pending.{Pending}
use Rattle.reuse_tree.specs.declared.journal.head.PendingDirection.{PendingDirection}
use Rattle.reuse_tree.specs.declared.journal.head.PendingDirection.TheVariants as pending
use Rattle.reuse_store.specs.declared.cause.Cause.{Cause}
use Rattle.reuse_command.specs.declared.reply.Response.{Response}
use Rattle.reuse_command.specs.declared.reply.Response.TheVariants.{Opened}
use Rattle.reuse_command.specs.declared.reply.Refusal.{Refusal}
use Rattle.reuse_command.specs.declared.failure.Failure.TheVariants.{Memory, Fault, Interrupted}
use Rattle.reuse_command.specs.declared.reply.Refusal.TheVariants.{Failed}
use Rattle.reuse_command.specs.declared.request.Request.{Request}
use Rattle.reuse_session.specs.declared.session.Session.{Session}
use Rattle.reuse_command.specs.Answer.{IsEarly, IsFailure, DidNotFail}
use Rattle.reuse_journal.specs.Journal.{Recorded, Journal, State}
use Rattle.reuse_journal.specs.JournalFiles.{head_path, head_of, number_of}
use Rattle.reuse_session.specs.session.Machine.{Snapshots, ran_by}
use Rattle.reuse_session.specs.session.Model.{Gives}
use Rattle.reuse_journal.specs.Opening.{OpensOn}
use Rattle.reuse_session.specs.session.Requests.{IfFailed, MayFail, as_step}
use Rattle.reuse_session.specs.session.Session.{store_of, Simulates, SimulatesState, SimulatesInSession, IsKept, IsRun}
use Rattle.reuse_journal.specs.Remembered.{Remembers}
use Rattle.reuse_journal.specs.CommittedState.{IsCommittedState, IsStep, IsPending, BetweenStates, JournalTransition}
use Rattle.reuse_session.specs.session.SessionSlot.{IsAt, store_in}
use Rattle.reuse_session.specs.session.Stops.{RunState, open_at, closed, forgets, is_durable, Reopens, Continues}
use Rattle.reuse_session.specs.session.Stops.{AnswersEvent, FilesAt}
use Rattle.reuse_change.specs.Tree.{undo_folder_of}
use Rattle.reuse_journal.proofs.OpeningLemmas.{same_head}
use Rattle.reuse_session.proofs.lemmas.session.RunFollowing.{step_follows}

-- ---- the state after a step that stopped

pub ran_on : (held : State) (state : Snapshots) → Simulates held state → (second : State) (command : Command) (when : ℕ)
    (files : Files) → IsCommittedState files held → IsRun command when held second
    → Simulates second (ran_by state command when).1
ran_on held state holds second command when files good run =
    (step_follows held state holds command when second run good.good.are_files).1

-- ---- opening

-- no step leads from a journal to itself
pub no_step : (direction : PendingDirection) (recorded : Recorded) (journal : Journal)
    → JournalTransition direction recorded journal journal → ⊥
no_step pending.Do recorded journal mutations = omega (arith, ap (λ (j : Journal). j.used) mutations.1)
no_step pending.Undo recorded journal mutations =
    omega (arith, ap length mutations.1, ap (λ (j : Journal). length j.done) mutations.2)
no_step pending.Redo recorded journal mutations =
    omega (arith, ap length mutations.1, ap (λ (j : Journal). length j.undone) mutations.2)

-- files in doubt between a committed state and itself are it
one_committed : (files : Files) (held : State) → BetweenStates held held files → IsCommittedState files held
one_committed files held doubt =
    ⊎_elim (λ (first : IsCommittedState files held). first)
    (λ (rest : IsCommittedState files held ⊎ ((direction : PendingDirection) × (step : Recorded)
    × IsStep direction step held held × IsPending direction step held files)).
    ⊎_elim (λ (second : IsCommittedState files held). second)
    (λ (under : (direction : PendingDirection) × (step : Recorded) × IsStep direction step held held × IsPending
    direction step held files). absurd (no_step under.0 under.1 held.journal under.2.transition)) rest) doubt

-- where a session opens, it stands on one of the states
pub reached : {S : Type 0} (files : S → Files) (before : Files) (session : Session S) (state : Snapshots)
    (next : Option Snapshots) → FilesAt before state next
    → ((first second : State) → BetweenStates first second before
    → SimulatesState files session first ⊎ SimulatesState files session second)
    → (s : Snapshots) × ((state ≡ s) ⊎ (next ≡ Some s)) × SimulatesInSession files session s
reached files before session state None left recovers = (
  state,
  inl refl,
  record {
    held = left.0;
    stands = ⊎_elim (λ (stands : SimulatesState files session left.0). stands)
        (λ (stands : SimulatesState files session left.0). stands) (recovers left.0 left.0 (inl left.1));
    holds = left.2;
  },
)
reached files before session state (Some next) left recovers =
    ⊎_elim (λ (stands : SimulatesState files session left.0).
    (state, inl refl, record { held = left.0; stands = stands; holds = left.2 }))
    (λ (stands : SimulatesState files session left.1).
    (next, inr refl, record { held = left.1; stands = stands; holds = left.3 })) (recovers left.0 left.1 left.4)

pub opens : {S : Type 0} (files : S → Files) (before : Files) (session : Session S) (old : RunState)
    → FilesAt before old.state old.next
    → ((first second : State) → BetweenStates first second before
    → SimulatesState files session first ⊎ SimulatesState files session second)
    → (new : RunState) × Reopens (Ok Opened) old new × IsAt files (Open session) new
opens files before session old left recovers =
    let r = reached files before session old.state old.next left recovers in
    (open_at old.forgetting r.0, (r.0, r.1, refl), (refl, r.2))

-- where it fails the files are left as they were
pub left_again : (before after : Files) (state : Snapshots) (next : Option Snapshots) → FilesAt before state next
    → ((first second : State) → BetweenStates first second before → BetweenStates first second after)
    → FilesAt after state next
left_again before after state None left recovers =
    (left.0, one_committed after left.0 (recovers left.0 left.0 (inl left.1)), left.2)
left_again before after state (Some next) left recovers =
    (left.0, left.1, left.2, left.3, recovers left.0 left.1 left.4)

-- files that are left have committed states
pub some_doubt : (before : Files) (state : Snapshots) (next : Option Snapshots) → FilesAt before state next
    → (first : State) × (second : State) × BetweenStates first second before
some_doubt before state None left = (left.0, left.0, inl left.1)
some_doubt before state (Some next) left = (left.0, left.1, left.4)

pub left_out : (refusal : Refusal) (old : RunState) → IsFailure refusal → Reopens (Err refusal) old (closed old)
left_out (Failed how) old failure = refl
left_out refusal old failure = absurd failure

pub stays_closed : {S : Type 0} (files : S → Files) (before : Files) (store : S) (refusal : Refusal) (old : RunState)
    → FilesAt before old.state old.next
    → ((first second : State) → BetweenStates first second before
    → IsFailure refusal × BetweenStates first second (files store))
    → (new : RunState) × Reopens (Err refusal) old new × IsAt files (Closed store) new
stays_closed files before store refusal old left recovers =
    let some = some_doubt before old.state old.next left in (
      closed old,
      left_out refusal old (recovers some.0 some.1 some.2).0,
      (
        refl,
        left_again before (files store) old.state old.next left (λ first second doubt. (recovers first second doubt).1),
      ),
    )

-- no step is pending in files whose journal has none
pub none_pending : (files : Files) (held : State) (direction : PendingDirection) (recorded : Recorded) (first : State)
    → IsCommittedState files held → IsPending direction recorded first files → ⊥
none_pending files held direction recorded first good under =
    let pending : Pending = record { entry = number_of recorded; direction = direction } in
    none-some pending (ap (λ (h : Head). h.pending) (same_head (get (undo_folder_of files) head_path)
    (head_of held.journal None) (head_of first.journal (Some pending)) good.journal.head under.journal.head))

-- a committed state stays when it is opened
pub stays_open : (before after : Files) (held first : State) → IsCommittedState before held → OpensOn before first after
    → after ≡ before
stays_open before after held first good opened =
    ⊎_elim (λ (same : IsCommittedState before first × (after ≡ before)). same.1)
    (λ (under : (direction : PendingDirection) × (step : Recorded) × IsPending direction step first before
    × IsCommittedState after first). absurd (none_pending before held under.0 under.1 first good under.2)) opened

-- ---- a request to an open session

-- a session that is kept stands where it stood
pub stands_still : {S : Type 0} (files : S → Files) (old new : Session S) (held : State) → SimulatesState files old held
    → IsKept old new → files (store_of new) ≡ files (store_of old) → SimulatesState files new held
stands_still files old new held stands kept same = record {
  whole = kept.1 ∙ stands.whole;
  committed = subst (λ f. IsCommittedState f held) (sym same) stands.committed;
  remembers = subst (λ m. Remembers m held.journal) (sym kept.0) stands.remembers;
}

pub stands_early : {S : Type 0} (files : S → Files) (old new : Session S) (held : State)
    (answer : Result Response Refusal) → SimulatesState files old held
    → IfErr answer (λ refusal. IsEarly refusal → IsKept old new)
    → IfErr answer (λ refusal. IsEarly refusal → files (store_of new) ≡ files (store_of old))
    → IfErr answer (λ refusal. IsEarly refusal → SimulatesState files new held)
stands_early files old new held (Ok reply) stands kept same = kept
stands_early files old new held (Err refusal) stands kept same =
    λ early. stands_still files old new held stands (kept early) (same early)

-- one that wasn't interrupted leaves the session open
pub goes_on : {S : Type 0} (files : S → Files) (request : Request) (answer : Result Response Refusal)
    (state : Snapshots) (forgetting : Bool) (session : Session S)
    → (DidNotFail answer → (next : Snapshots) × Gives state request answer next × SimulatesInSession files session next)
    → IfErr answer (λ refusal. IsEarly refusal → SimulatesInSession files session state)
    → IfErr answer (IfFailed (MayFail request)) → ((cause : Cause) → answer ≡ Err (Failed (Interrupted cause)) → ⊥)
    → (new : RunState) × Continues request answer (open_at forgetting state) new × IsAt files (Open session) new
goes_on files request (Ok reply) state forgetting session follows stands fails other = let f = follows tt in
    (open_at (not (is_durable (as_step (Ok reply))) && forgetting) f.0, (f.0, f.1, refl), (refl, f.2))
goes_on files request (Err (Failed (Fault fault))) state forgetting session follows stands fails other =
    (open_at forgetting state, (fails, refl), (refl, stands tt))
goes_on files request (Err (Failed Memory)) state forgetting session follows stands fails other =
    (open_at forgetting state, (fails, refl), (refl, stands tt))
goes_on files request (Err (Failed (Interrupted cause))) state forgetting session follows stands fails other =
    absurd (other cause refl)
goes_on files request (Err refusal) state forgetting session follows stands fails other = let f = follows tt in
    (open_at forgetting f.0, (f.0, f.1, refl), (refl, f.2))

-- one that was closes it
pub closes : {S : Type 0} (files : S → Files) (request : Request) (answer : Result Response Refusal) (state : Snapshots)
    (forgetting : Bool) (store : S) (cause : Cause) → answer ≡ Err (Failed (Interrupted cause))
    → IfErr answer (IfFailed (MayFail request)) → (given : Result Response Refusal) × (next : Snapshots)
    × Gives state request given next × FilesAt (files store) state (Some next)
    → (new : RunState) × Continues request answer (open_at forgetting state) new × IsAt files (Closed store) new
closes files request answer state forgetting store cause is fails left =
    let new : RunState = record {
      is_open = false;
      state = state;
      next = Some left.1;
      forgetting = forgets request || forgetting;
    } in (
      new,
      subst (λ a. Continues request a (open_at forgetting state) new) (sym is)
          (subst (λ a. IfErr a (IfFailed (MayFail request))) is fails, left.0, left.1, left.2, refl),
      (refl, left.3),
    )

-- ---- an event

pub answers_reopen : (is_open : Bool) (answer : Result Response Refusal) (old new : RunState) → Reopens answer old new
    → AnswersEvent is_open asked.Reopen answer old new
answers_reopen true answer old new h = h
answers_reopen false answer old new h = h

pub at_open : {S : Type 0} (files : S → Files) (slot : SessionSlot S) (session : Session S) (run_state : RunState)
    → slot ≡ Open session → IsAt files slot run_state
    → (run_state ≡ open_at run_state.forgetting run_state.state) × SimulatesInSession files session run_state.state
at_open files slot session run_state is at = subst (λ d. IsAt files d run_state) is at

pub at_closed : {S : Type 0} (files : S → Files) (slot : SessionSlot S) (store : S) (run_state : RunState)
    → slot ≡ Closed store → IsAt files slot run_state
    → (run_state.is_open ≡ false) × FilesAt (files store) run_state.state run_state.next
at_closed files slot store run_state is at = subst (λ d. IsAt files d run_state) is at

-- what the store of a driven session holds
pub left_at : {S : Type 0} (files : S → Files) (slot : SessionSlot S) (run_state : RunState) → IsAt files slot run_state
    → FilesAt (files (store_in slot)) run_state.state run_state.next
left_at files (Open session) run_state at =
    subst (λ next. FilesAt (files (store_of session)) run_state.state next) (sym (ap (λ (p : RunState). p.next) at.0))
    (at.1.held, at.1.stands.committed, at.1.holds)
left_at files (Closed store) run_state at = at.1
