-- Many events, one after the other, and the model beside them.
use Rattle.std.proofs.Common.{◌≡◌, ⊎_elim, ℕ, ◌+◌, ◌<◌, ◌≤◌, ◌&&◌, Bool, true, false, not, List, [], ◌∷◌, ◌++◌, length}
use Rattle.std.proofs.Common.{take, get_or, Some, None, Result, Ok, Err, IfErr, refl, sym, ap, subst, ◌∙◌, arith}
use Rattle.std.specs.List.{AllByRecursion}
use Rattle.std.proofs.lemmas.List.{take_more}
use Rattle.reuse_command.specs.declared.failure.Fault.TheVariants as faults
use Rattle.reuse_session.specs.declared.events.Event.{Event}
use Rattle.reuse_session.specs.declared.events.Event.TheVariants as asked
use Rattle.reuse_store.specs.declared.cause.Cause.TheVariants as causes
use Rattle.reuse_command.specs.declared.reply.Response.{Response}
use Rattle.reuse_command.specs.declared.reply.Response.TheVariants.{Opened}
use Rattle.reuse_command.specs.declared.request.Request.{Request}
use Rattle.reuse_command.specs.declared.reply.Refusal.{Refusal}
use Rattle.reuse_command.specs.declared.failure.Failure.TheVariants.{Memory, Fault, Interrupted}
use Rattle.reuse_command.specs.declared.reply.Refusal.TheVariants.{Failed}
use Rattle.reuse_command.specs.Answer.{IsNoWantOfMemory, IsNoClash, HasCause, DidNotFail}
use Rattle.reuse_session.specs.session.Machine.{Snapshots}
use Rattle.reuse_session.specs.session.Model.{Gives, GivesEvent, AnswersAll}
use Rattle.reuse_session.specs.session.Requests.{as_step}
use Rattle.reuse_session.specs.session.Stops.{RunState, open_at, start_at, is_durable, Reopens, Continues, AnswersEvent}
use Rattle.reuse_session.specs.session.Stops.{RunsWithStops, HaveCauses}
use Rattle.reuse_session.proofs.lemmas.session.Driving.{answers_reopen}

-- ---- many events

-- one more event at the end
pub runs_more : (events : List Event) (answers : List (Result Response Refusal)) (event : Event)
    (answer : Result Response Refusal) (old mid new : RunState)
    → RunsWithStops events answers old mid → AnswersEvent mid.is_open event answer mid new
    → RunsWithStops (events ++ event ∷ []) (answers ++ answer ∷ []) old new
runs_more [] [] event answer old mid new runs last =
    (new, subst (λ (p : RunState). AnswersEvent p.is_open event answer p new) runs last, refl)
runs_more (e ∷ events) (a ∷ answers) event answer old mid new runs last =
    (runs.0, runs.1, runs_more events answers event answer runs.0 mid new runs.2 last)
runs_more [] (a ∷ answers) event answer old mid new runs last = absurd runs
runs_more (e ∷ events) [] event answer old mid new runs last = absurd runs

take_none : (events : List Event) → take 0 events ≡ []
take_none [] = refl
take_none (event ∷ events) = refl

-- the opening alone
pub runs_first : (events : List Event) (answers : List (Result Response Refusal)) (answer : Result Response Refusal)
    (old new : RunState) → answers ≡ answer ∷ [] → Reopens answer old new
    → RunsWithStops (asked.Reopen ∷ take 0 events) answers old new
runs_first events answers answer old new items h =
    let whole : RunsWithStops (asked.Reopen ∷ []) (answer ∷ []) old new =
    (new, answers_reopen old.is_open answer old new h, refl) in
    subst (λ (es : List Event). RunsWithStops (asked.Reopen ∷ es) answers old new) (sym (take_none events))
    (subst (λ (list : List (Result Response Refusal)). RunsWithStops (asked.Reopen ∷ []) list old new)
    (sym items) whole)

take_event : (events : List Event) (i : ℕ) (event : Event) → i < length events → event ≡ get_or events i event
    → take i events ++ event ∷ [] ≡ take (i + 1) events
take_event events i event lt is = ap (λ e. take i events ++ e ∷ []) is ∙ sym (take_more events i event lt)

pub runs_next : (events : List Event) (i : ℕ) (event : Event) → i < length events → event ≡ get_or events i event
    → (answers more : List (Result Response Refusal)) (answer : Result Response Refusal)
    → more ≡ answers ++ answer ∷ [] → (old mid new : RunState)
    → RunsWithStops (asked.Reopen ∷ take i events) answers old mid → AnswersEvent mid.is_open event answer mid new
    → RunsWithStops (asked.Reopen ∷ take (i + 1) events) more old new
runs_next events i event lt is answers more answer items old mid new runs last =
    let whole : RunsWithStops (asked.Reopen ∷ (take i events ++ event ∷ [])) (answers ++ answer ∷ []) old new =
    runs_more (asked.Reopen ∷ take i events) answers event answer old mid new runs last in
    subst (λ (es : List Event). RunsWithStops (asked.Reopen ∷ es) more old new) (take_event events i event lt is)
    (subst (λ (list : List (Result Response Refusal)). RunsWithStops
    (asked.Reopen ∷ (take i events ++ event ∷ [])) list old new) (sym items) whole)

pub all_reported : (answers : List (Result Response Refusal)) (answer : Result Response Refusal)
    → AllByRecursion DidNotFail answers → DidNotFail answer → AllByRecursion DidNotFail (answers ++ answer ∷ [])
all_reported [] answer reported last = (last, tt)
all_reported (a ∷ answers) answer reported last = (reported.0, all_reported answers answer reported.1 last)

-- a fault that has one cause has the other that follows
caused : (Rose Higher : Type 0) → (Rose → Higher) → (answer : Result Response Refusal) → IfErr answer (HasCause Rose)
    → IfErr answer (HasCause Higher)
caused Rose Higher on (Ok reply) h = tt
caused Rose Higher on (Err (Failed (Fault faults.Device))) h = on h
caused Rose Higher on (Err (Failed (Interrupted causes.Device))) h = on h
caused Rose Higher on (Err refusal) h = tt

-- the answers so far and one more have their causes
pub one_more : (first before after : ℕ) → before ≤ after
    → (answers : List (Result Response Refusal)) (answer : Result Response Refusal)
    → HaveCauses answers first before → IfErr answer (HasCause (before < after))
    → HaveCauses (answers ++ answer ∷ []) first after
one_more first before after le [] answer causes last = (
  after,
  omega (arith, causes, le),
  caused (before < after) (first < after) (λ rose. omega (arith, rose, causes)) answer last,
  omega arith,
)
one_more first before after le (a ∷ answers) answer causes last =
    (causes.0, causes.1, causes.2, one_more causes.0 before after le answers answer causes.3 last)

-- the first answer has its cause
pub first_one : (first after : ℕ) → first ≤ after → (answers : List (Result Response Refusal))
    (answer : Result Response Refusal) → answers ≡ answer ∷ [] → IfErr answer (HasCause (first < after))
    → HaveCauses answers first after
first_one first after le answers answer items cause =
    subst (λ (list : List (Result Response Refusal)). HaveCauses list first after) (sym items)
    (one_more first first after le [] answer (omega arith) cause)

-- an answer with a cause that didn't come to pass reports no fault
pub no_fault : (before after : ℕ) (answer : Result Response Refusal) → IfErr answer (HasCause (before < after))
    → IfErr answer IsNoClash → IsNoWantOfMemory answer → after ≡ before → DidNotFail answer
no_fault before after (Ok reply) cause clash enough same = tt
no_fault before after (Err (Failed (Fault faults.Device))) cause clash enough same = omega arith
no_fault before after (Err (Failed (Fault faults.Clash))) cause clash enough same = clash
no_fault before after (Err (Failed (Interrupted causes.Device))) cause clash enough same = omega arith
no_fault before after (Err (Failed (Interrupted causes.Clash))) cause clash enough same = clash
no_fault before after (Err (Failed (Interrupted causes.Moved))) cause clash enough same = clash
no_fault before after (Err (Failed (Interrupted causes.Memory))) cause clash enough same = enough
no_fault before after (Err (Failed Memory)) cause clash enough same = enough
no_fault before after (Err _) cause clash enough same = tt

-- ---- the model, where no answer reports a fault

reopened : (answer : Result Response Refusal) (old new : RunState) → old.next ≡ None → DidNotFail answer
    → Reopens answer old new → (answer ≡ Ok Opened) × (new ≡ open_at old.forgetting old.state)
reopened (Ok Opened) old new none reported h = (
  refl,
  h.2 ∙ ⊎_elim (λ (same : old.state ≡ h.0). ap (open_at old.forgetting) (sym same))
      (λ (next : old.next ≡ Some h.0). cc) h.1,
)
reopened (Ok reply) old new none reported h = absurd h
reopened (Err (Failed failure)) old new none reported h = absurd reported
reopened (Err refusal) old new none reported h = absurd h

went : (request : Request) (answer : Result Response Refusal) (old new : RunState) → DidNotFail answer
    → Continues request answer old new
    → (next : Snapshots) × Gives old.state request answer next × (forgetting : Bool) × (new ≡ open_at forgetting next)
went request (Ok reply) old new reported h = (h.0, h.1, not (is_durable (as_step (Ok reply))) && old.forgetting, h.2)
went request (Err (Failed failure)) old new reported h = absurd reported
went request (Err refusal) old new reported h = (h.0, h.1, old.forgetting, h.2)

answered : (event : Event) (answer : Result Response Refusal) (state : Snapshots) (forgetting : Bool) (new : RunState)
    → DidNotFail answer → AnswersEvent true event answer (open_at forgetting state) new
    → (next : Snapshots) × GivesEvent state event answer next × (forgetting : Bool) × (new ≡ open_at forgetting next)
answered (asked.Ask request) answer state forgetting new reported h =
    went request answer (open_at forgetting state) new reported h
answered asked.Reopen answer state forgetting new reported h =
    let r = reopened answer (open_at forgetting state) new refl reported h in (state, (r.0, refl), forgetting, r.1)

runs_on : (events : List Event) (answers : List (Result Response Refusal)) (state : Snapshots) (forgetting : Bool)
    (run_state : RunState) → AllByRecursion DidNotFail answers
    → RunsWithStops events answers (open_at forgetting state) run_state
    → (end : Snapshots) × AnswersAll events answers state end × (forgetting : Bool)
    × (run_state ≡ open_at forgetting end)
runs_on [] [] state forgetting run_state reported runs = (state, refl, forgetting, runs)
runs_on (event ∷ events) (answer ∷ answers) state forgetting run_state reported runs =
    let first = answered event answer state forgetting runs.0 reported.0 runs.1 in
    let others = runs_on events answers first.0 first.2 run_state reported.1
    (subst (λ (p : RunState). RunsWithStops events answers p run_state) first.3 runs.2) in
    (others.0, (first.0, first.1, others.1), others.2, others.3)
runs_on [] (answer ∷ answers) state forgetting run_state reported runs = absurd runs
runs_on (event ∷ events) [] state forgetting run_state reported runs = absurd runs

-- the opening and the events after it
pub runs_as_model : (events : List Event) (answers : List (Result Response Refusal)) (state : Snapshots)
    (run_state : RunState) → AllByRecursion DidNotFail answers
    → RunsWithStops (asked.Reopen ∷ events) answers (start_at state) run_state → (end : Snapshots)
    × AnswersAll (asked.Reopen ∷ events) answers state end × (forgetting : Bool) × (run_state ≡ open_at forgetting end)
runs_as_model events [] state run_state reported runs = absurd runs
runs_as_model events (answer ∷ answers) state run_state reported runs =
    let first = reopened answer (start_at state) runs.0 refl reported.0 runs.1 in
    let others = runs_on events answers state false run_state reported.1
    (subst (λ (p : RunState). RunsWithStops events answers p run_state) first.1 runs.2) in
    (others.0, (state, (first.0, refl), others.1), others.2, others.3)
