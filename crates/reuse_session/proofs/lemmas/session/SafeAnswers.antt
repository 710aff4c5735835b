-- What a session that stands at a state of the model answers and leaves, from how it answers a request.
use Rattle.std.proofs.Common.{◌≡◌, ◌⊎◌, ⊎_elim, inl, inr, ℕ, ◌||◌, ◌&&◌, Bool, true, false, not, List, [], ◌∷◌, Some}
use Rattle.std.proofs.Common.{Result, Ok, Err, IfErr, refl, sym, ap, subst, ◌∙◌}
use Rattle.reuse_store.specs.Asked.{Leaves}
use Rattle.reuse_store.specs.declared.cause.Cause.{Cause}
use Rattle.reuse_store.specs.declared.store.Store.{Ghosts}
use Rattle.reuse_change.specs.declared.direction.Direction.{Direction}
use Rattle.reuse_change.specs.declared.direction.Direction.TheVariants as direction
use Rattle.reuse_command.specs.Answer.{IsEarly, IsNoStep, IsStop, DidNotFail}
use Rattle.reuse_session.specs.session.Calls.{files_of}
use Rattle.reuse_session.specs.session.SessionSlot.{SimulatesSafely, GoesSafely}
use Rattle.reuse_journal.specs.Journal.{Recorded, State, Replays}
use Rattle.reuse_journal.specs.Losses.{AllRecoverToTree, AreBetweenStates, Survives, Earlier}
use Rattle.reuse_session.specs.session.Machine.{Snapshots}
use Rattle.reuse_session.specs.session.Model.{Gives}
use Rattle.reuse_session.specs.session.Forgetting.{asked_numbers, Forgets, SurvivesForgetting}
use Rattle.reuse_session.specs.session.Requests.{MayFail, IfFailed, Makes, LeadsTo, IsAfterCall, IsAfter, IsStopped}
use Rattle.reuse_session.specs.session.Requests.{SurvivesRequest, as_answer, as_step, IsAnswered}
use Rattle.reuse_session.specs.session.RevertCalls.{Reverts, TakesBack, as_run}
use Rattle.reuse_session.specs.session.Session.{store_of, Runs, SimulatesState, SimulatesInSession}
use Rattle.reuse_session.specs.session.Showing.{IsUnused}
use Rattle.reuse_journal.specs.CommittedState.{IsCommittedState}
use Rattle.reuse_session.specs.session.Stops.{FilesAt, forgets, is_durable}
use Rattle.reuse_command.specs.declared.command.Command.{Command}
use Rattle.reuse_command.specs.declared.failure.Failure.TheVariants.{Fault, Memory, Interrupted}
use Rattle.reuse_command.specs.declared.reply.Refusal.{Refusal}
use Rattle.reuse_command.specs.declared.reply.Refusal.TheVariants.{JournalFull, NoSuchStep, Failed}
use Rattle.reuse_command.specs.declared.reply.Response.{Response}
use Rattle.reuse_command.specs.declared.reply.Response.TheVariants as responses
use Rattle.reuse_command.specs.declared.path_outcome.PathOutcome.{PathOutcome}
use Rattle.reuse_command.specs.declared.reply.Reverted.{Reverted}
use Rattle.reuse_command.specs.declared.reply.Shown.{Shown}
use Rattle.reuse_command.specs.declared.request.Call.{Call}
use Rattle.reuse_command.specs.declared.request.Call.TheVariants as calls
use Rattle.reuse_command.specs.declared.request.Request.{Request}
use Rattle.reuse_command.specs.declared.request.Request.TheVariants as requests
use Rattle.reuse_session.specs.declared.session.Session.{Session}
use Rattle.reuse_session.proofs.lemmas.session.Answering.{revert_is_step}
use Rattle.reuse_journal.specs.Numbered.{state_besides}
use Rattle.reuse_session.proofs.lemmas.session.Forgetting.{none_in_order}
use Rattle.reuse_session.proofs.lemmas.session.ForgottenTrees.{same_besides}
use Rattle.reuse_session.proofs.lemmas.session.Modelling.{after_as_model, gives_to, reverts_one, stopped_near}
use Rattle.reuse_command.proofs.OnlyReading.{at_stop}

-- ---- where no step is made, the state stays

runs_stay : (command : Command) (when : ℕ) (held left : State) (answer : Result Response Refusal)
    → Runs command when held answer left → IsNoStep answer → left ≡ held
runs_stay command when held left (Ok (responses.Changed paths leaves)) runs none = absurd none
runs_stay command when held left (Ok (responses.NothingChanged leaves)) runs none = runs.2
runs_stay command when held left (Ok reply) runs none = absurd runs
runs_stay command when held left (Err JournalFull) runs none = runs.1
runs_stay command when held left (Err refusal) runs none = runs.2

replays_stay : (go : Direction) (steps : List Recorded) (held left : State) (answer : Result Response Refusal)
    → Replays go steps held answer left → IsNoStep (as_step answer) → left ≡ held
replays_stay go [] held left answer replays none = replays.1
replays_stay direction.Backward (step ∷ steps) held left (Ok reply) replays none =
    absurd (subst (λ r. IsNoStep (as_step (Ok r))) replays.0 none)
replays_stay direction.Forward (step ∷ steps) held left (Ok reply) replays none =
    absurd (subst (λ r. IsNoStep (as_step (Ok r))) replays.0 none)
replays_stay go (step ∷ steps) held left (Err refusal) replays none = replays.1

reverts_stay : (number : ℕ) (skip_moved : Bool) (when : ℕ) (held left : State) (answer : Result Reverted Refusal)
    → Reverts number skip_moved when held answer left → IsNoStep (as_run answer) → left ≡ held
reverts_stay number skip_moved when held left answer reverts none =
    ⊎_elim
    (λ (absent : (answer ≡ Err (NoSuchStep number)) × IsUnused number held.journal.done × (left ≡ held)). absent.2)
    (λ (back : TakesBack number skip_moved when held answer left). runs_stay _ when held left
    (as_run answer) back.runs none) (reverts_one number skip_moved when held answer left reverts)

-- a run's answer is a step as it is
runs_as_step : (command : Command) (when : ℕ) (held left : State) (answer : Result Response Refusal)
    → Runs command when held answer left → as_step answer ≡ answer
runs_as_step command when held left (Ok (responses.Reverted reverted)) runs = absurd runs
runs_as_step command when held left (Ok reply) runs = refl
runs_as_step command when held left (Err refusal) runs = refl

makes_stay : (call : Call) (when : ℕ) (held left : State) (answer : Result Response Refusal)
    → Makes call when held answer left → IsNoStep (as_step answer) → left ≡ held
makes_stay (calls.Run command) when held left answer makes none = runs_stay command when held left answer makes
    (subst IsNoStep (runs_as_step command when held left answer makes) none)
makes_stay calls.Undo when held left answer makes none =
    replays_stay direction.Backward held.journal.done held left answer makes none
makes_stay calls.Redo when held left answer makes none =
    replays_stay direction.Forward held.journal.undone held left answer makes none
makes_stay (calls.Revert number skip_moved) when held left answer makes none =
    reverts_stay number skip_moved when held left makes.0 makes.2
    (subst IsNoStep (ap as_step makes.1 ∙ revert_is_step makes.0) none)

-- ---- answers by which nothing is made durable

preview_quiet : (answer : Result (List PathOutcome) Refusal)
    → is_durable (as_step (as_answer responses.Preview answer)) ≡ false
preview_quiet (Ok path_outcomes) = refl
preview_quiet (Err refusal) = refl

shown_quiet : (answer : Result Shown Refusal) → is_durable (as_step (as_answer responses.Shown answer)) ≡ false
shown_quiet (Ok shown) = refl
shown_quiet (Err refusal) = refl

-- ---- forgetting

forgotten_as_step : (answer : Result (List ℕ) Refusal)
    → as_step (as_answer responses.Forgotten answer) ≡ as_answer responses.Forgotten answer
forgotten_as_step (Ok forgotten) = refl
forgotten_as_step (Err refusal) = refl

abbrev response : List ℕ → Result Response Refusal
response forgotten = Ok (responses.Forgotten forgotten)

abbrev refused : Refusal → Result Response Refusal
refused refusal = Err refusal

one_list : (one other : List ℕ) → response one ≡ response other → one ≡ other
one_list one other e = cc

one_refusal : (one other : Refusal) → refused one ≡ refused other → one ≡ other
one_refusal one other e = cc

none_refused : (forgotten : List ℕ) (refusal : Refusal) → response forgotten ≡ refused refusal → ⊥
none_refused forgotten refusal e = cc

one_result : (one other : Result (List ℕ) Refusal)
    → as_answer responses.Forgotten one ≡ as_answer responses.Forgotten other → one ≡ other
one_result (Ok one) (Ok other) e = ap (λ x. Ok x) (one_list one other e)
one_result (Err one) (Err other) e = ap (λ x. Err x) (one_refusal one other e)
one_result (Ok one) (Err other) e = absurd (none_refused one other e)
one_result (Err one) (Ok other) e = absurd (none_refused other one (sym e))

-- ---- what may be left is safe on the next state

module _ {S : Type 0} (store : Ghosts S) (earlier : Earlier) (held left : State) (new : S) where
  -- all that may be left is the next state; or nothing was made durable, and all is safe as it was before
  abbrev pub IsSafeBehind : Result Response Refusal → Type 0
  IsSafeBehind step = Leaves store new (λ file. IsCommittedState file left)
      ⊎ ((is_durable step ≡ false) × (left ≡ held) × AllRecoverToTree store earlier held new)

  -- all that may be left is safe on the next state, and where nothing was made durable as it was before
  abbrev IsSafeAfter : Result Response Refusal → Type 0
  IsSafeAfter step = (first : State) × AllRecoverToTree store
      (record { state = first; forgetting = not (is_durable step) && earlier.forgetting }) left new

  behind_is_after : (step : Result Response Refusal) → IsSafeBehind step → IsSafeAfter step
  behind_is_after step (inl stands) =
      (left, λ file is. inl (record { tree = (stands file is).tree; opens = inl (stands file is) }))
  behind_is_after step (inr (quiet, same, safe)) =
      subst (λ b. (first : State) × AllRecoverToTree store
      (record { state = first; forgetting = not b && earlier.forgetting }) left new) (sym quiet)
      (earlier.state, subst (λ s. AllRecoverToTree store earlier s new) (sym same) safe)

  safe_behind_step : (IsNext : State → Type 0) (step : Result Response Refusal) → (IsNoStep step → left ≡ held)
      → DidNotFail step → IsCommittedState (store.files new) left → Survives store IsNext earlier held step new
      → IsSafeBehind step
  safe_behind_step IsNext (Ok (responses.NothingChanged leaves)) stays reported committed survives =
      inr (refl, stays tt, survives)
  safe_behind_step IsNext (Ok reply) stays reported committed survives =
      inl (λ file is. subst (λ f. IsCommittedState f left) (sym (survives file is)) committed)
  safe_behind_step IsNext (Err (Failed failure)) stays reported committed survives = absurd reported
  safe_behind_step IsNext (Err refusal) stays reported committed survives = inr (refl, stays reported, survives)

  -- forgetting leaves nothing else than the next state, or where there is no number what was there
  safe_behind_forgetting : (numbers : List ℕ) (forgotten : Result (List ℕ) Refusal)
      → Forgets numbers held forgotten left → DidNotFail (as_answer responses.Forgotten forgotten)
      → SurvivesForgetting store numbers earlier held forgotten new
      → IsSafeBehind (as_answer responses.Forgotten forgotten)
  safe_behind_forgetting numbers (Ok []) forgets reported survives = inr (
    refl,
    forgets.2 ∙ ap (λ ns. state_besides ns held) (none_in_order numbers forgets.1) ∙ same_besides held,
    survives,
  )
  safe_behind_forgetting numbers (Ok (number ∷ more)) forgets reported survives =
      inl (λ file is. subst (IsCommittedState file) (sym forgets.2) (survives file is))
  safe_behind_forgetting numbers (Err (NoSuchStep number)) forgets reported survives = inr (refl, forgets.1, survives)
  safe_behind_forgetting numbers (Err (Failed failure)) forgets reported survives = absurd reported
  safe_behind_forgetting numbers (Err refusal) forgets reported survives = absurd forgets

  reported_as_step : (answer : Result Response Refusal) → DidNotFail answer → DidNotFail (as_step answer)
  reported_as_step (Ok (responses.Reverted reverted)) reported = tt
  reported_as_step (Ok reply) reported = tt
  reported_as_step (Err (Failed failure)) reported = absurd reported
  reported_as_step (Err refusal) reported = reported

  pub safe_behind : (request : Request) (answer : Result Response Refusal) → LeadsTo request held answer left
      → DidNotFail answer → IsCommittedState (store.files new) left
      → SurvivesRequest store request earlier held answer new
      → IsSafeBehind (as_step answer)
  safe_behind (requests.Make call when) answer leads reported committed survives =
      safe_behind_step (IsAfterCall call when held) (as_step answer) (makes_stay call when held left answer leads)
      (reported_as_step answer reported) committed survives
  safe_behind (requests.Forget steps) answer leads reported committed survives =
      subst IsSafeBehind (sym (ap as_step leads.1 ∙ forgotten_as_step leads.0))
      (safe_behind_forgetting (asked_numbers steps held.journal) leads.0 leads.2 (subst DidNotFail leads.1 reported)
      (subst (λ f. SurvivesForgetting store (asked_numbers steps held.journal) earlier held f new)
      (one_result survives.0 leads.0 (sym survives.1 ∙ leads.1)) survives.2))
  safe_behind (requests.Preview call) answer leads reported committed survives =
      inr (ap (λ a. is_durable (as_step a)) leads.1 ∙ preview_quiet leads.0, leads.3, survives)
  safe_behind (requests.Recover skip_moved) answer leads reported committed survives =
      inr (ap (λ a. is_durable (as_step a)) leads.0, leads.1, survives)
  safe_behind requests.Log answer leads reported committed survives =
      inr (ap (λ a. is_durable (as_step a)) leads.0, leads.1, survives)
  safe_behind (requests.Show number) answer leads reported committed survives =
      inr (ap (λ a. is_durable (as_step a)) leads.1 ∙ shown_quiet leads.0, leads.3, survives)

  safe_after : (request : Request) (answer : Result Response Refusal) → LeadsTo request held answer left
      → DidNotFail answer → IsCommittedState (store.files new) left
      → SurvivesRequest store request earlier held answer new
      → IsSafeAfter (as_step answer)
  safe_after request answer leads reported committed survives = behind_is_after (as_step answer)
      (safe_behind request answer leads reported committed survives)

-- one that failed left what was safe, or files in doubt
module _ {S : Type 0} (store : Ghosts S) (earlier : Earlier) (held : State) (new : S) where
  forget_failed : (numbers : List ℕ) (forgotten : Result (List ℕ) Refusal) (refusal : Refusal) → IsEarly refusal
      → refused refusal ≡ as_answer responses.Forgotten forgotten
      → SurvivesForgetting store numbers earlier held forgotten new
      → AllRecoverToTree store earlier held new
  forget_failed numbers (Ok forgotten) refusal early is survives = absurd (none_refused forgotten refusal (sym is))
  forget_failed numbers (Err (Failed (Interrupted cause))) refusal early is survives =
      absurd (subst IsEarly (one_refusal refusal (Failed (Interrupted cause)) is) early)
  forget_failed numbers (Err other) refusal early is survives = survives

  pub forget_stopped : (numbers : List ℕ) (forgotten : Result (List ℕ) Refusal) (cause : Cause)
      → refused (Failed (Interrupted cause)) ≡ as_answer responses.Forgotten forgotten
      → SurvivesForgetting store numbers earlier held forgotten new
      → SurvivesForgetting store numbers earlier held (Err (Failed (Interrupted cause))) new
  forget_stopped numbers forgotten cause is survives =
      subst (λ f. SurvivesForgetting store numbers earlier held f new)
      (sym (one_result (Err (Failed (Interrupted cause))) forgotten is)) survives

  pub failed_safe : (request : Request) (refusal : Refusal) → IsEarly refusal
      → SurvivesRequest store request earlier held (Err refusal) new → AllRecoverToTree store earlier held new
  failed_safe (requests.Make call when) (Failed (Interrupted cause)) early survives = absurd early
  failed_safe (requests.Make call when) refusal early survives = survives
  failed_safe (requests.Forget steps) refusal early survives =
      forget_failed (asked_numbers steps held.journal) survives.0 refusal early survives.1 survives.2
  failed_safe (requests.Preview call) refusal early survives = survives
  failed_safe (requests.Recover skip_moved) refusal early survives = survives
  failed_safe requests.Log refusal early survives = survives
  failed_safe (requests.Show number) refusal early survives = survives

  stopped_safe : (request : Request) (cause : Cause) → MayFail request (Interrupted cause)
      → SurvivesRequest store request earlier held (Err (Failed (Interrupted cause))) new
      → IsStopped request held (store.files new)
      → (next : State) × IsAfter request held next × AreBetweenStates store
      (record { state = earlier.state; forgetting = forgets request || earlier.forgetting }) held next new
  stopped_safe (requests.Make call when) cause may survives stopped = survives
  stopped_safe (requests.Forget steps) cause may survives stopped =
      let numbers = asked_numbers steps held.journal in
      let doubt = (forget_stopped numbers survives.0 cause survives.1 survives.2).1 in (
        stopped.0,
        stopped.1,
        subst (λ s. AreBetweenStates store (record { state = earlier.state; forgetting = true }) held s new)
            (sym stopped.1.1.2) doubt,
      )
  stopped_safe (requests.Preview call) cause may survives stopped = absurd may
  stopped_safe (requests.Recover skip_moved) cause may survives stopped = absurd may
  stopped_safe requests.Log cause may survives stopped = absurd may
  stopped_safe (requests.Show number) cause may survives stopped = absurd may

-- ---- from how a request is answered

module _ {S : Type 0} (store : Ghosts S) (request : Request) (answer : Result Response Refusal) (old new : Session S)
    (is : IsAnswered store request answer old new) (honest : store.honest (store_of new)) where
  -- of a session that stands at a state
  module _ (state : Snapshots) (at : SimulatesInSession store.files old state) where
    pub follows : DidNotFail answer
        → (next : Snapshots) × Gives state request answer next × SimulatesInSession store.files new next
    follows reported =
        let left = is.exact honest at.held at.stands reported in
        let to =
        gives_to at.held state at.holds (files_of store old) at.stands.committed request answer left.0 left.2 in
        (to.0, to.1, record { held = left.0; stands = left.1; holds = to.2 })

    pub stands : IfErr answer (λ refusal. IsEarly refusal → SimulatesInSession store.files new state)
    stands = by_answer answer (is.stands honest at.held at.stands)
      where
        by_answer : (answer : Result Response Refusal)
            → IfErr answer (λ refusal. IsEarly refusal → SimulatesState store.files new at.held)
            → IfErr answer (λ refusal. IsEarly refusal → SimulatesInSession store.files new state)
        by_answer (Ok reply) kept = tt
        by_answer (Err refusal) kept = λ early. record { held = at.held; stands = kept early; holds = at.holds }

    pub stops : (cause : Cause) → answer ≡ Err (Failed (Interrupted cause)) → (given : Result Response Refusal)
        × (next : Snapshots) × Gives state request given next × FilesAt (files_of store new) state (Some next)
    stops cause e = stopped_near at.held state at.holds (files_of store old) at.stands.committed request
        (files_of store new) (at_stop _ e (is.doubt honest at.held at.stands))

  -- of one that stands safely there
  module _ (state : Snapshots) (forgetting : Bool) (safely : SimulatesSafely store old state forgetting) where
    abbrev held : State
    held = safely.at.held

    abbrev earlier : Earlier
    earlier = record { state = safely.earlier; forgetting = forgetting }

    went : DidNotFail answer → (next : Snapshots) × Gives state request answer next
        × SimulatesSafely store new next (not (is_durable (as_step answer)) && forgetting)
    went reported =
        let left = is.exact honest held safely.at.stands reported in
        let to = gives_to held state safely.at.holds
        (files_of store old) safely.at.stands.committed request answer left.0 left.2 in
        let safe = safe_after store earlier held left.0 (store_of new) request answer left.2 reported left.1.committed
        (is.survives honest earlier held safely.at.stands safely.safe) in (
          to.0,
          to.1,
          record { at = record { held = left.0; stands = left.1; holds = to.2 }; earlier = safe.0; safe = safe.1 },
        )

    by_answer : (given : Result Response Refusal)
        → (DidNotFail given → (next : Snapshots) × Gives state request given next
        × SimulatesSafely store new next (not (is_durable (as_step given)) && forgetting))
        → IfErr given (λ refusal. IsEarly refusal → SimulatesState store.files new held)
        → IfErr given (λ refusal. IsStop refusal → IsStopped request held (files_of store new))
        → IfErr given (IfFailed (MayFail request))
        → SurvivesRequest store request earlier held given (store_of new)
        → GoesSafely store request given state forgetting new
    by_answer (Ok reply) on early doubt fails survives = on tt
    by_answer (Err (Failed (Interrupted cause))) on early doubt fails survives =
        let stopped = stopped_safe store earlier held (store_of new) request cause fails survives (doubt tt) in
        let after = after_as_model held state safely.at.holds
        (files_of store old) safely.at.stands.committed request stopped.0 stopped.1 in
        (after.0, after.1, after.2, (safely.earlier, held, stopped.0, safely.at.holds, after.3, stopped.2))
    by_answer (Err (Failed (Fault fault))) on early doubt fails survives = record {
      at = record { held = held; stands = early tt; holds = safely.at.holds };
      earlier = safely.earlier;
      safe = failed_safe store earlier held (store_of new) request (Failed (Fault fault)) tt survives;
    }
    by_answer (Err (Failed Memory)) on early doubt fails survives = record {
      at = record { held = held; stands = early tt; holds = safely.at.holds };
      earlier = safely.earlier;
      safe = failed_safe store earlier held (store_of new) request (Failed Memory) tt survives;
    }
    by_answer (Err refusal) on early doubt fails survives = on tt

    pub goes_safely : GoesSafely store request answer state forgetting new
    goes_safely = by_answer answer went (is.stands honest held safely.at.stands)
        (is.doubt honest held safely.at.stands) is.fails (is.survives honest earlier held safely.at.stands safely.safe)
