-- What a session answers from a committed state is what the model gives in the state that this holds.
use Rattle.std.proofs.Common.{◌≡◌, ◌⊎◌, inl, inr, ⊎_elim, ◌∙◌, ℕ, Bool, cond, List, [], ◌∷◌, Some, Result, Ok, Err}
use Rattle.std.proofs.Common.{IfOk, refl, sym, ap, subst, length}
use Rattle.std.specs.List.{Contains}
use Rattle.reuse_change.specs.Files.{Files}
use Rattle.reuse_change.specs.Entry.{paths_of}
use Rattle.reuse_change.specs.declared.change.Change.{Change}
use Rattle.reuse_change.specs.declared.direction.Direction.{Direction}
use Rattle.reuse_change.specs.declared.direction.Direction.TheVariants as go
use Rattle.reuse_plan.specs.PathOutcomes.{path_outcomes_of}
use Rattle.reuse_journal.specs.Journal.{State, Recorded}
use Rattle.reuse_journal.specs.JournalFiles.{number_of}
use Rattle.reuse_session.specs.session.Forgetting.{asked_numbers, Forgets, ForgetsTo, numbers_asked}
use Rattle.reuse_session.specs.session.Machine.{Snapshots, ran_by, run_path_outcomes}
use Rattle.reuse_journal.specs.Labels.{is_full}
use Rattle.reuse_session.specs.session.Model.{ShowsBy, command_back, as_reverted, ReplaysTo, kept_ahead, RevertsTo}
use Rattle.reuse_session.specs.session.Model.{PreviewsBack, MakesTo, PreviewsTo, Gives}
use Rattle.reuse_session.specs.session.Previews.{run_path_outcomes_on}
use Rattle.reuse_session.specs.session.Requests.{as_answer, PreviewsRevert, Previews, Makes, LeadsTo, IsAfterCall}
use Rattle.reuse_session.specs.session.Requests.{IsAfter, IsLeftBetween, IsStopped}
use Rattle.reuse_session.specs.session.RevertCalls.{Reverts, TakesBack, IsAfterRevert, as_run, changed_or_none, left_of}
use Rattle.reuse_session.specs.session.RevertCalls.{touched_later}
use Rattle.reuse_session.specs.session.Session.{Simulates, IsReplay, IsRun, Runs}
use Rattle.reuse_session.specs.session.Showing.{IsUnused, ShowsIn}
use Rattle.reuse_journal.specs.CommittedState.{BetweenStates, IsCommittedState}
use Rattle.reuse_session.specs.session.Stops.{FilesAt}
use Rattle.reuse_command.specs.declared.command.Command.{Command}
use Rattle.reuse_command.specs.declared.command.Command.TheVariants.{Revert}
use Rattle.reuse_command.specs.declared.path_outcome.PathOutcome.{PathOutcome}
use Rattle.reuse_command.specs.declared.reply.Response.{Response}
use Rattle.reuse_command.specs.declared.reply.Response.TheVariants as responses
use Rattle.reuse_command.specs.declared.reply.Reverted.{Reverted}
use Rattle.reuse_command.specs.declared.reply.Shown.{Shown}
use Rattle.reuse_command.specs.declared.reply.Refusal.{Refusal}
use Rattle.reuse_command.specs.declared.reply.Refusal.TheVariants.{JournalFull, NoSuchStep}
use Rattle.reuse_command.specs.declared.request.Call.{Call}
use Rattle.reuse_command.specs.declared.request.Call.TheVariants as calls
use Rattle.reuse_command.specs.declared.request.Request.{Request}
use Rattle.reuse_command.specs.declared.request.Request.TheVariants as requests
use Rattle.reuse_command.specs.declared.request.Steps.{Steps}
use Rattle.reuse_session.proofs.lemmas.session.Driving.{ran_on}
use Rattle.reuse_session.proofs.lemmas.session.Following.{replay_follows, stopped_replay_follows, log_follows}
use Rattle.reuse_session.proofs.lemmas.session.Following.{is_full_alike}
use Rattle.reuse_session.proofs.lemmas.session.ForgottenTrees.{asked_alike, forgets_to}
use Rattle.reuse_session.proofs.lemmas.session.LaterSteps.{later_as_machine}
use Rattle.reuse_session.proofs.lemmas.session.Previewing.{replay_as_previewed_to}
use Rattle.reuse_session.proofs.lemmas.session.RunFollowing.{runs_as_machine}
use Rattle.reuse_session.proofs.lemmas.session.StepsByNumber.{led_to_tree, shows_at, unkept}

-- ---- reverts

-- what a revert answers: that no such step is done, or what it takes back
pub reverts_one : (number : ℕ) (skip_moved : Bool) (when : ℕ) (old : State) (answer : Result Reverted Refusal)
    (new : State) → Reverts number skip_moved when old answer new
    → ((answer ≡ Err (NoSuchStep number)) × IsUnused number old.journal.done × (new ≡ old))
    ⊎ TakesBack number skip_moved when old answer new
reverts_one number skip_moved when old (Ok reverted) new back = inr back
reverts_one number skip_moved when old (Err (NoSuchStep other)) new none =
    inl (ap (λ n. Err (NoSuchStep n)) none.0, none.1, none.2)
reverts_one number skip_moved when old (Err refusal) new back = inr back

-- its reply is that of the run, with the other paths of the step
module _ (changes : List Change) where
  by_paths : (paths skipped : List (List ℕ)) → skipped ≡ left_of (paths_of changes) paths
      → Ok (responses.Reverted (record { changed = paths; skipped = skipped })) ≡ as_reverted changes
      (Ok (changed_or_none paths))
  by_paths [] skipped is = ap (λ (s : List (List ℕ)). Ok (responses.Reverted (record { changed = []; skipped = s }))) is
  by_paths (path ∷ paths) skipped is =
      ap (λ (s : List (List ℕ)). Ok (responses.Reverted (record { changed = path ∷ paths; skipped = s }))) is

  reverted_as_run : (answer : Result Reverted Refusal)
      → IfOk answer (λ (reverted : Reverted). reverted.skipped ≡ left_of (paths_of changes) reverted.changed)
      → as_answer responses.Reverted answer ≡ as_reverted changes (as_run answer)
  reverted_as_run (Ok reverted) is = by_paths reverted.changed reverted.skipped is
  reverted_as_run (Err refusal) is = refl

module _ (held : State) (state : Snapshots) (holds : Simulates held state) where
  -- ---- what only reads

  -- a step that is shown
  shown_by : (number : ℕ) (shown : Result Shown Refusal) → ShowsIn held.journal number shown
      → ShowsBy state number shown
  shown_by number (Ok shown) shows = shows_at held state holds number shown shows
  shown_by number (Err refusal) none = (
    none.0,
    unkept number held.journal.done state.past holds.past none.1,
    unkept number held.journal.undone state.future holds.future none.2,
  )

  -- what a run would do
  run_alike : (command : Command) → run_path_outcomes_on held command ≡ run_path_outcomes state command
  run_alike command =
      sym
      (ap (λ b. cond b (Err JournalFull) (Ok (path_outcomes_of command held.tree))) (is_full_alike held state holds))
      ∙ ap (λ t. cond (is_full (length state.past) state.used) (Err JournalFull)
      (Ok (path_outcomes_of command t))) holds.tree

  -- what a revert would do
  previews_back : (number : ℕ) (skip_moved : Bool) (answer : Result (List PathOutcome) Refusal)
      → PreviewsRevert number skip_moved held answer → PreviewsBack state number skip_moved answer
  previews_back number skip_moved answer previews =
      ⊎_elim (λ (none : (answer ≡ Err (NoSuchStep number)) × IsUnused number held.journal.done). inl
      (none.0, unkept number held.journal.done state.past holds.past none.1))
      (λ (back : (step : Recorded) × Contains held.journal.done step × (number_of step ≡ number)
      × (answer ≡ run_path_outcomes_on held
      (Revert step.changes (touched_later number held.journal.done step.changes) skip_moved))).
      let changes = back.0.changes in
      inr (
        changes,
        led_to_tree held state holds back.0 number back.1 back.2,
        back.3 ∙ run_alike (Revert changes (touched_later number held.journal.done changes) skip_moved)
            ∙ ap (λ late. run_path_outcomes state (Revert changes late skip_moved))
            (later_as_machine held state holds number changes),
      )) previews

  pub previews_to : (call : Call) (path_outcomes : Result (List PathOutcome) Refusal) → Previews call held path_outcomes
      → PreviewsTo state call path_outcomes
  previews_to (calls.Run command) path_outcomes previews = previews ∙ run_alike command
  previews_to calls.Undo path_outcomes previews =
      replay_as_previewed_to held state holds go.Backward path_outcomes previews
  previews_to calls.Redo path_outcomes previews =
      replay_as_previewed_to held state holds go.Forward path_outcomes previews
  previews_to (calls.Revert number skip_moved) path_outcomes previews =
      previews_back number skip_moved path_outcomes previews

  -- ---- what is made

  module _ (files : Files) (committed : IsCommittedState files held) where
    reverts_to : (number : ℕ) (skip_moved : Bool) (when : ℕ) (answer : Result Reverted Refusal) (left : State)
        → Reverts number skip_moved when held answer left
        → (next : Snapshots) × RevertsTo state number skip_moved when (as_answer responses.Reverted answer) next
        × Simulates left next
    reverts_to number skip_moved when answer left reverts =
        ⊎_elim (λ (none : (answer ≡ Err (NoSuchStep number)) × IsUnused number held.journal.done × (left ≡ held)). (
          state,
          inl (
            ap (as_answer responses.Reverted) none.0,
            unkept number held.journal.done state.past holds.past none.1,
            refl,
          ),
          subst (λ s. Simulates s state) (sym none.2) holds,
        ))
        (λ (back : TakesBack number skip_moved when held answer left).
        let changes = back.step.changes in
        let runs = subst (λ late. Runs (Revert changes late skip_moved) when held (as_run answer) left)
        (later_as_machine held state holds number changes) back.runs in
        let ran = runs_as_machine held state holds (command_back state number skip_moved changes) when
        (as_run answer) left committed.good.are_files runs in (
          (ran_by state (command_back state number skip_moved changes) when).1,
          inr (
            changes,
            led_to_tree held state holds back.step number back.is_done back.numbered,
            (reverted_as_run changes answer back.skipped ∙ ap (as_reverted changes) ran.0, refl),
          ),
          ran.1,
        )) (reverts_one number skip_moved when held answer left reverts)

    makes_to : (call : Call) (when : ℕ) (answer : Result Response Refusal) (left : State)
        → Makes call when held answer left
        → (next : Snapshots) × MakesTo state call when answer next × Simulates left next
    makes_to (calls.Run command) when answer left makes =
        let ran = runs_as_machine held state holds command when answer left committed.good.are_files makes in
        ((ran_by state command when).1, (ran.0, refl), ran.1)
    makes_to calls.Undo when answer left makes =
        replay_follows held state holds committed.good.are_files left go.Backward answer makes
    makes_to calls.Redo when answer left makes =
        replay_follows held state holds committed.good.are_files left go.Forward answer makes
    makes_to (calls.Revert number skip_moved) when answer left makes =
        let to = reverts_to number skip_moved when makes.0 left makes.2 in
        (to.0, subst (λ a. RevertsTo state number skip_moved when a to.0) (sym makes.1) to.1, to.2)

    forgotten_to : (steps : Steps) (answer : Result (List ℕ) Refusal) (left : State)
        → Forgets (asked_numbers steps held.journal) held answer left
        → (next : Snapshots) × ForgetsTo (numbers_asked steps state) state answer next × Simulates left next
    forgotten_to steps answer left forgets = forgets_to held state holds (numbers_asked steps state) answer left
        (subst (λ ns. Forgets ns held answer left) (asked_alike held state holds steps) forgets)

    -- the same of a request
    pub gives_to : (request : Request) (answer : Result Response Refusal) (left : State)
        → LeadsTo request held answer left → (next : Snapshots) × Gives state request answer next × Simulates left next
    gives_to (requests.Make call when) answer left leads = makes_to call when answer left leads
    gives_to (requests.Forget steps) answer left leads = let to = forgotten_to steps leads.0 left leads.2 in
        (to.0, (leads.0, leads.1, to.1), to.2)
    gives_to (requests.Preview call) answer left leads = (
      state,
      (leads.0, leads.1, previews_to call leads.0 leads.2, refl),
      subst (λ s. Simulates s state) (sym leads.3) holds,
    )
    gives_to (requests.Recover skip_moved) answer left leads =
        (state, (leads.0, refl), subst (λ s. Simulates s state) (sym leads.1) holds)
    gives_to requests.Log answer left leads = (
      state,
      (leads.0 ∙ ap (λ rows. Ok (responses.Log rows)) (log_follows held state holds), refl),
      subst (λ s. Simulates s state) (sym leads.1) holds,
    )
    gives_to (requests.Show number) answer left leads = (
      state,
      (leads.0, leads.1, shown_by number leads.0 leads.2, refl),
      subst (λ s. Simulates s state) (sym leads.3) holds,
    )

    -- ---- where it stops

    after_revert : (number : ℕ) (skip_moved : Bool) (when : ℕ) (second : State)
        → IsAfterRevert number skip_moved when held second
        → (given : Result Response Refusal) × (next : Snapshots) × RevertsTo state number skip_moved when given next
        × Simulates second next
    after_revert number skip_moved when second after =
        let changes = after.0.changes in
        let command = command_back state number skip_moved changes in
        let run = subst (λ late. IsRun (Revert changes late skip_moved) when held second)
        (later_as_machine held state holds number changes) after.3 in (
          as_reverted changes (ran_by state command when).0,
          (ran_by state command when).1,
          inr (changes, led_to_tree held state holds after.0 number after.1 after.2, (refl, refl)),
          ran_on held state holds second command when files committed run,
        )

    after_replay : (way : Direction) (second : State) → IsReplay way held second → (given : Result Response Refusal)
        × (next : Snapshots) × ReplaysTo way (kept_ahead way state) state given next × Simulates second next
    after_replay way second after =
        let to = stopped_replay_follows held state holds committed.good.are_files second way after in
        (to.0, to.1.0, to.1.1, to.1.2)

    after_call : (call : Call) (when : ℕ) (second : State) → IsAfterCall call when held second
        → (given : Result Response Refusal) × (next : Snapshots) × MakesTo state call when given next
        × Simulates second next
    after_call (calls.Run command) when second after = (
      (ran_by state command when).0,
      (ran_by state command when).1,
      (refl, refl),
      ran_on held state holds second command when files committed after,
    )
    after_call calls.Undo when second after = after_replay go.Backward second after
    after_call calls.Redo when second after = after_replay go.Forward second after
    after_call (calls.Revert number skip_moved) when second after = after_revert number skip_moved when second after

    pub after_as_model : (request : Request) (second : State) → IsAfter request held second
        → (given : Result Response Refusal) × (next : Snapshots) × Gives state request given next
        × Simulates second next
    after_as_model (requests.Make call when) second after = after_call call when second after
    after_as_model (requests.Forget steps) second after = let to = forgotten_to steps (Ok after.0) second after.1 in
        (Ok (responses.Forgotten after.0), to.0, (Ok after.0, refl, to.1), to.2)
    after_as_model (requests.Preview call) second after = absurd after
    after_as_model (requests.Recover skip_moved) second after = absurd after
    after_as_model requests.Log second after = absurd after
    after_as_model (requests.Show number) second after = absurd after

    doubt_between : (request : Request) (old new : State) (left : Files) → IsLeftBetween request old new left
        → BetweenStates old new left
    doubt_between (requests.Forget steps) old new left between =
        ⊎_elim (λ (first : IsCommittedState left old). inl first)
        (λ (second : IsCommittedState left new). inr (inl second)) between
    doubt_between request old new left between = between

    pub stopped_near : (request : Request) (left : Files) → IsStopped request held left
        → (given : Result Response Refusal) × (next : Snapshots) × Gives state request given next
        × FilesAt left state (Some next)
    stopped_near request left stopped =
        let after = after_as_model request stopped.0 stopped.1 in (
          after.0,
          after.1,
          after.2,
          (held, stopped.0, holds, after.3, doubt_between request held stopped.0 left stopped.2),
        )
