-- A call that began where all was durable, and the points at which a loss of power may leave the files behind it.
use Rattle.std.proofs.Common.{◌≡◌, ◌⊎◌, inl, inr, ⊎_elim, ◌||◌, ◌&&◌, Bool, false, not, Option, Some, None, Result, Ok}
use Rattle.std.proofs.Common.{Err, IfErr, IfOk, MatchResult, refl, sym, subst, ◌∙◌}
use Rattle.reuse_change.specs.Files.{Files}
use Rattle.reuse_store.specs.Asked.{IsSynced}
use Rattle.reuse_store.specs.declared.cause.Cause.{Cause}
use Rattle.reuse_store.specs.declared.store.Store.{Ghosts}
use Rattle.reuse_command.specs.Answer.{IsFailure, DidNotFail}
use Rattle.reuse_command.specs.declared.failure.Failure.TheVariants.{Fault, Interrupted, Memory}
use Rattle.reuse_command.specs.declared.reply.Recovered.{Recovered}
use Rattle.reuse_command.specs.declared.reply.Refusal.{Refusal}
use Rattle.reuse_command.specs.declared.reply.Refusal.TheVariants.{Failed}
use Rattle.reuse_command.specs.declared.reply.Response.{Response}
use Rattle.reuse_command.specs.declared.reply.Response.TheVariants as responses
use Rattle.reuse_command.specs.declared.request.Request.{Request}
use Rattle.reuse_command.specs.declared.request.Request.TheVariants as requests
use Rattle.reuse_command.proofs.OnlyReading.{at_stop}
use Rattle.reuse_journal.specs.CommittedState.{BetweenStates, IsCommittedState}
use Rattle.reuse_journal.specs.Journal.{State}
use Rattle.reuse_journal.specs.Losses.{AllRecoverToTree, AreBetweenStates, Earlier, IsSafe, SurvivesBetweenStates, beyond}
use Rattle.reuse_journal.specs.Recovery.{RecoversFiles}
use Rattle.reuse_session.specs.declared.session.Session.{Session}
use Rattle.reuse_session.specs.session.Calls.{files_of}
use Rattle.reuse_session.specs.session.Forgetting.{asked_numbers}
use Rattle.reuse_session.specs.session.Found.{AllAreAtSome, IsAfterLoss}
use Rattle.reuse_session.specs.session.Machine.{Snapshots}
use Rattle.reuse_session.specs.session.Model.{Gives}
use Rattle.reuse_session.specs.session.Requests.{IfFailed, IsAnswered, IsStopped, MayFail, SurvivesRequest}
use Rattle.reuse_session.specs.session.Requests.{as_answer, as_step}
use Rattle.reuse_session.specs.session.Session.{store_of, Simulates, SimulatesState}
use Rattle.reuse_session.specs.session.Stops.{RunState, open_at, closed, forgets, is_durable, start_at, Continues, FilesAt}
use Rattle.reuse_session.specs.session.Stops.{IsReached, Recovers, Reopens}
use Rattle.reuse_session.proofs.lemmas.session.ClosedRecovery.{at_first, at_second, nothing_pending}
use Rattle.reuse_session.proofs.lemmas.session.Driving.{left_out, some_doubt}
use Rattle.reuse_session.proofs.lemmas.session.FoundPoints.{IsKept, IsKeptOrStopped, at_more, at_safe, doubtful}
use Rattle.reuse_session.proofs.lemmas.session.FoundPoints.{durable_alone, durable_doubt, kept_is, no_step_here}
use Rattle.reuse_session.proofs.lemmas.session.FoundPoints.{only_earlier, safe_or_next, stopped_is, unforgotten}
use Rattle.reuse_session.proofs.lemmas.session.Modelling.{after_as_model, gives_to}
use Rattle.reuse_session.proofs.lemmas.session.QuietAnswers.{quiet_stays}
use Rattle.reuse_session.proofs.lemmas.session.SafeAnswers.{IsSafeBehind, failed_safe, forget_stopped, safe_behind}

-- ---- a call that stands at a state

module _ {S : Type 0} (store : Ghosts S) (start : RunState) (state : Snapshots) (earlier held : State)
    (precedes : Simulates earlier start.state) (holds : Simulates held state)
    (came : (earlier ≡ held) ⊎ (start.next ≡ Some state)) (new : S) where
  -- it made nothing durable
  pub quiet_points : (answer : Result Response Refusal) (end : RunState) → is_durable (as_step answer) ≡ false
      → end.state ≡ state → AllRecoverToTree store (only_earlier earlier) held new
      → AllAreAtSome store (IsAfterLoss answer start end) new
  quiet_points answer end quiet same safe left may =
      at_more (IsKept start state) (IsAfterLoss answer start end) left
      (λ found kept. inr (quiet, kept_is start end state found same kept))
      (at_safe start state earlier held precedes holds came left (unforgotten earlier held left (safe left may)))

  -- or it stopped on the way to another
  pub stopped_points : (answer : Result Response Refusal) (end : RunState) (after : Snapshots)
      → is_durable (as_step answer) ≡ false → end.state ≡ state → end.next ≡ Some after
      → AllAreAtSome store (IsKeptOrStopped start state after) new
      → AllAreAtSome store (IsAfterLoss answer start end) new
  stopped_points answer end after quiet same stopped at left may =
      at_more (IsKeptOrStopped start state after) (IsAfterLoss answer start end) left
      (λ found is. inr (quiet, stopped_is start end state after found same stopped is)) (at left may)

  stopped_at : (before : Files) → IsCommittedState before held → (request : Request) (cause : Cause)
      → MayFail request (Interrupted cause)
      → SurvivesRequest store request (only_earlier earlier) held (Err (Failed (Interrupted cause))) new
      → IsStopped request held (store.files new)
      → (given : Result Response Refusal) × (after : Snapshots) × Gives state request given after
      × AllAreAtSome store (IsKeptOrStopped start state after) new
  stopped_at before committed (requests.Make call when) cause may survives stopped =
      let to = after_as_model held state holds before committed (requests.Make call when) survives.0 survives.1 in (
        to.0,
        to.1,
        to.2,
        doubtful start state earlier held precedes holds came survives.0 to.1 to.3 store new survives.2,
      )
  stopped_at before committed (requests.Forget steps) cause may survives stopped =
      let numbers = asked_numbers steps held.journal in
      let to = after_as_model held state holds before committed (requests.Forget steps) stopped.0 stopped.1 in
      let lefts = (forget_stopped store (only_earlier earlier) held new numbers survives.0 cause survives.1
      survives.2).0 in (
        to.0,
        to.1,
        to.2,
        safe_or_next start state earlier held precedes holds came stopped.0 to.1 to.3 store new
            (subst (λ s. (left : Files) → store.crash_states new left
            → IsSafe (only_earlier earlier) held left ⊎ IsCommittedState left s) (sym stopped.1.1.2) lefts),
      )
  stopped_at before committed (requests.Preview call) cause may survives stopped = absurd may
  stopped_at before committed (requests.Recover skip_moved) cause may survives stopped = absurd may
  stopped_at before committed requests.Log cause may survives stopped = absurd may
  stopped_at before committed (requests.Show number) cause may survives stopped = absurd may

-- ---- a request to a session that stands at the state

module _ {S : Type 0} (store : Ghosts S) (start : RunState) (state : Snapshots) (earlier held : State)
    (precedes : Simulates earlier start.state) (holds : Simulates held state)
    (came : (earlier ≡ held) ⊎ (start.next ≡ Some state)) (request : Request) (new : S) where
  abbrev pub GoesOn : Result Response Refusal → Type 0
  GoesOn answer = (end : RunState) × Continues request answer (open_at start.forgetting state) end
      × AllAreAtSome store (IsAfterLoss answer start end) new

  -- what the model answers, and all that may be left then
  abbrev pub Answers : Result Response Refusal → Type 0
  Answers answer = (left : State) × (next : Snapshots) × Gives state request answer next × Simulates left next
      × IsSafeBehind store (only_earlier earlier) held left new (as_step answer)

  answered_points : (answer : Result Response Refusal) (end : RunState) (left : State) (next : Snapshots)
      → Gives state request answer next → Simulates left next → end.state ≡ next
      → IsSafeBehind store (only_earlier earlier) held left new (as_step answer)
      → AllAreAtSome store (IsAfterLoss answer start end) new
  answered_points answer end left next gives simulates same (inl stands) file may = (
    start_at end.state,
    inl refl,
    (left, stands file may, subst (Simulates left) (sym same) simulates),
  )
  answered_points answer end left next gives simulates same (inr (quiet, stays, safe)) file may =
      quiet_points store start state earlier held precedes holds came new answer end quiet
      (same ∙ quiet_stays state request answer next gives quiet) safe file may

  -- where it stops
  abbrev pub Stops : Type 0
  Stops = (given : Result Response Refusal) × (after : Snapshots) × Gives state request given after
      × AllAreAtSome store (IsKeptOrStopped start state after) new

  stopped_there : Stops → (cause : Cause) → MayFail request (Interrupted cause)
      → GoesOn (Err (Failed (Interrupted cause)))
  stopped_there (given, after, gives, at) cause may =
      let end : RunState = record {
        is_open = false;
        state = state;
        next = Some after;
        forgetting = forgets request || start.forgetting;
      } in (
        end,
        (may, given, after, gives, refl),
        stopped_points store start state earlier held precedes holds came new (Err (Failed (Interrupted cause))) end
            after refl refl refl at,
      )

  pub by_answer : (answer : Result Response Refusal) → (DidNotFail answer → Answers answer)
      → IfErr answer (IfFailed (MayFail request))
      → SurvivesRequest store request (only_earlier earlier) held answer new
      → ((cause : Cause) → answer ≡ Err (Failed (Interrupted cause)) → Stops) → GoesOn answer
  by_answer (Ok reply) answers fails survives stops =
      let a = answers tt in
      let end = open_at (not (is_durable (as_step (Ok reply))) && start.forgetting) a.1 in
      (end, (a.1, a.2, refl), answered_points (Ok reply) end a.0 a.1 a.2 a.3 refl a.4)
  by_answer (Err (Failed (Fault fault))) answers fails survives stops = (
    open_at start.forgetting state,
    (fails, refl),
    quiet_points store start state earlier held precedes holds came new (Err (Failed (Fault fault)))
        (open_at start.forgetting state) refl refl
        (failed_safe store (only_earlier earlier) held new request (Failed (Fault fault)) tt survives),
  )
  by_answer (Err (Failed Memory)) answers fails survives stops = (
    open_at start.forgetting state,
    (fails, refl),
    quiet_points store start state earlier held precedes holds came new (Err (Failed Memory))
        (open_at start.forgetting state) refl refl
        (failed_safe store (only_earlier earlier) held new request (Failed Memory) tt survives),
  )
  by_answer (Err (Failed (Interrupted cause))) answers fails survives stops =
      stopped_there (stops cause refl) cause fails
  by_answer (Err refusal) answers fails survives stops =
      let a = answers tt in
      let end = open_at start.forgetting a.1 in
      (end, (a.1, a.2, refl), answered_points (Err refusal) end a.0 a.1 a.2 a.3 refl a.4)

-- ---- a session that opened where all was durable, and what it was asked for

module _ {S : Type 0} (store : Ghosts S) (opened asked : Session S) (request : Request)
    (answer : Result Response Refusal) (answered : IsAnswered store request answer opened asked)
    (honest : store.honest (store_of asked)) (start : RunState) where
  on_state : (state : Snapshots) (earlier held : State) → Simulates earlier start.state → Simulates held state
      → (earlier ≡ held) ⊎ (start.next ≡ Some state) → SimulatesState store.files opened held
      → AllRecoverToTree store (only_earlier earlier) held (store_of opened)
      → (end : RunState) × Continues request answer (open_at start.forgetting state) end
      × AllAreAtSome store (IsAfterLoss answer start end) (store_of asked)
  on_state state earlier held precedes holds came stands safe =
      let new = store_of asked in
      let survives = answered.survives honest (only_earlier earlier) held stands safe in
      by_answer store start state earlier held precedes holds came request new answer
      (λ reported. let left = answered.exact honest held stands reported in
      let to = gives_to held state holds (files_of store opened) stands.committed request answer left.0 left.2 in (
        left.0,
        to.0,
        to.1,
        to.2,
        safe_behind store (only_earlier earlier) held left.0 new request answer left.2 reported left.1.committed survives,
      ))
      answered.fails survives
      (λ cause is. stopped_at store start state earlier held precedes holds came new (files_of store opened)
      stands.committed request cause (subst (λ a. IfErr a (IfFailed (MayFail request))) is answered.fails)
      (subst (λ a. SurvivesRequest store request (only_earlier earlier) held a new) is survives)
      (at_stop _ is (answered.doubt honest held stands)))

  pub asked_points : (before : S) → FilesAt (store.files before) start.state start.next → IsSynced store before
      → ((earlier : Earlier) (held second : State) → AreBetweenStates store earlier held second before
      → (SimulatesState store.files opened held × AllRecoverToTree store earlier held (store_of opened))
      ⊎ (SimulatesState store.files opened second
      × AllRecoverToTree store (beyond earlier held) second (store_of opened)))
      → (state : Snapshots) × IsReached start state
      × ((end : RunState) × Continues request answer (open_at start.forgetting state) end
      × AllAreAtSome store (IsAfterLoss answer start end) (store_of asked))
  asked_points before found synced survives = by_next start.next refl found
    where
      by_next : (next : Option Snapshots) → start.next ≡ next → FilesAt (store.files before) start.state next
          → (state : Snapshots) × IsReached start state
          × ((end : RunState) × Continues request answer (open_at start.forgetting state) end
          × AllAreAtSome store (IsAfterLoss answer start end) (store_of asked))
      by_next None is (held, committed, holds) = (
        start.state,
        inl refl,
        ⊎_elim (λ h. on_state start.state held held holds holds (inl refl) h.0 h.1)
            (λ h. on_state start.state held held holds holds (inl refl) h.0 h.1)
            (survives (only_earlier held) held held (durable_alone store before synced held committed)),
      )
      by_next (Some next) is (first, second, holds, reaches, between) = ⊎_elim
          (λ h. (start.state, inl refl, on_state start.state first first holds holds (inl refl) h.0 h.1))
          (λ h. (next, inr is, on_state next first second holds reaches (inr is) h.0 h.1))
          (survives (only_earlier first) first second (durable_doubt store before synced first second between))

-- ---- a refusal, or a recovery, where all was durable

module _ {S : Type 0} (store : Ghosts S) (before after : S) (synced : IsSynced store before) (start : RunState) where
  -- what was in doubt is so still
  pub still_points : (refusal : Refusal) (end : RunState) → end.state ≡ start.state → end.next ≡ start.next
      → FilesAt (store.files before) start.state start.next
      → ((earlier : Earlier) (held second : State) → AreBetweenStates store earlier held second before
      → AreBetweenStates store earlier held second after)
      → AllAreAtSome store (IsAfterLoss (Err refusal) start end) after
  still_points refusal end same stays found survives = by_next start.next refl found
    where
      alone : (held : State) → Simulates held start.state
          → AreBetweenStates store (only_earlier held) held held after
          → AllAreAtSome store (IsAfterLoss (Err refusal) start end) after
      alone held holds (inl (committed, safe)) = quiet_points store start start.state held held holds holds (inl refl)
          after (Err refusal) end refl same safe
      alone held holds (inr (inl (committed, safe))) = quiet_points store start start.state held held holds holds
          (inl refl) after (Err refusal) end refl same safe
      alone held holds (inr (inr (direction, step, is_step, under, lefts))) =
          absurd (no_step_here direction step held held refl is_step)

      by_next : (next : Option Snapshots) → start.next ≡ next → FilesAt (store.files before) start.state next
          → AllAreAtSome store (IsAfterLoss (Err refusal) start end) after
      by_next None is (held, committed, holds) = alone held holds
          (survives (only_earlier held) held held (durable_alone store before synced held committed))
      by_next (Some next) is (first, second, holds, reaches, between) =
          stopped_points store start start.state first first holds holds (inl refl) after (Err refusal) end next refl same
          (stays ∙ is)
          (doubtful start start.state first first holds holds (inl refl) second next reaches store after
          (survives (only_earlier first) first second (durable_doubt store before synced first second between)))

  pub refused_points : (refusal : Refusal) → FilesAt (store.files before) start.state start.next
      → ((first second : State) → BetweenStates first second (store.files before) → IsFailure refusal)
      → ((earlier : Earlier) (held second : State) → AreBetweenStates store earlier held second before
      → AreBetweenStates store earlier held second after)
      → (end : RunState) × Reopens (Err refusal) start end
      × AllAreAtSome store (IsAfterLoss (Err refusal) start end) after
  refused_points refusal found fails survives =
      let some = some_doubt (store.files before) start.state start.next found in (
        closed start,
        left_out refusal start (fails some.0 some.1 some.2),
        still_points refusal (closed start) refl refl found survives,
      )

  module _ (skip_moved : Bool) where
    not_recovered : (refusal : Refusal) → IsFailure refusal → Recovers (Err refusal) (closed start) (closed start)
    not_recovered (Failed failure) is = refl
    not_recovered refusal is = absurd is

    abbrev Recovering : Result Recovered Refusal → Type 0
    Recovering answer = (end : RunState) × Recovers (as_answer responses.Recovered answer) (closed start) end
        × AllAreAtSome store (IsAfterLoss (as_answer responses.Recovered answer) start end) after

    pub recovered_points : (answer : Result Recovered Refusal) → FilesAt (store.files before) start.state start.next
        → IfOk answer (RecoversFiles skip_moved (store.files before) (store.files after))
        → ((first second : State) → BetweenStates first second (store.files before) → MatchResult answer
        (λ recovered. IsCommittedState (store.files after) first ⊎ IsCommittedState (store.files after) second)
        (λ refusal. IsFailure refusal × BetweenStates first second (store.files after)))
        → ((earlier : Earlier) (held next : State) → AreBetweenStates store earlier held next before
        → SurvivesBetweenStates store earlier held next answer after)
        → Recovering answer
    recovered_points (Err refusal) found recovered recovers survives =
        let some = some_doubt (store.files before) start.state start.next found in (
          closed start,
          not_recovered refusal (recovers some.0 some.1 some.2).0,
          still_points refusal (closed start) refl refl found survives,
        )
    recovered_points (Ok reported) found recovered recovers survives = by_next start.next refl found
      where
        at_held : (state : Snapshots) (earlier held : State) → Simulates earlier start.state → Simulates held state
            → (earlier ≡ held) ⊎ (start.next ≡ Some state) → AllRecoverToTree store (only_earlier earlier) held after
            → AllAreAtSome store (IsAfterLoss (Ok (responses.Recovered reported)) start
            (closed (open_at start.forgetting state))) after
        at_held state earlier held precedes holds came safe =
            quiet_points store start state earlier held precedes holds came after (Ok (responses.Recovered reported))
            (closed (open_at start.forgetting state)) refl refl safe

        by_next : (next : Option Snapshots) → start.next ≡ next → FilesAt (store.files before) start.state next
            → Recovering (Ok reported)
        by_next None is (held, committed, holds) =
            let at = nothing_pending skip_moved (store.files before) (store.files after) reported (closed start) held
            committed recovered in (
              closed (open_at start.forgetting start.state),
              (start.state, inl (at.0, inl refl), refl),
              ⊎_elim (λ h. at_held start.state held held holds holds (inl refl) h.1)
                  (λ h. at_held start.state held held holds holds (inl refl) h.1)
                  (survives (only_earlier held) held held (durable_alone store before synced held committed)),
            )
        by_next (Some next) is (first, second, holds, reaches, between) = ⊎_elim
            (λ (h : IsCommittedState (store.files after) first
            × AllRecoverToTree store (only_earlier first) first after). (
              closed (open_at start.forgetting start.state),
              (
                start.state,
                at_first skip_moved (store.files before) (store.files after) reported (closed start) first second next is
                    holds reaches between recovered,
                refl,
              ),
              at_held start.state first first holds holds (inl refl) h.1,
            ))
            (λ (h : IsCommittedState (store.files after) second
            × AllRecoverToTree store (beyond (only_earlier first) first) second after). (
              closed (open_at start.forgetting next),
              (
                next,
                at_second skip_moved (store.files before) (store.files after) reported (closed start) first second next is
                    holds reaches between recovered h.0,
                refl,
              ),
              at_held next first second holds reaches (inr is) h.1,
            ))
            (survives (only_earlier first) first second (durable_doubt store before synced first second between))
