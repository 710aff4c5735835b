-- What a run answers and leaves from any committed state, and that it follows the reference model.
use Rattle.std.proofs.Common.{◌≡◌, ℕ, ◌+◌, false, List, [], ◌∷◌, length, Result, Ok, Err, refl, sym, ap, ap₂, subst}
use Rattle.std.proofs.Common.{◌∙◌}
use Rattle.std.proofs.lemmas.List.Elements.{All-nil}
use Rattle.std.proofs.lemmas.List.{nil_from_length}
use Rattle.reuse_change.specs.Files.{Files, AreFiles}
use Rattle.reuse_change.specs.declared.change.Change.{Change}
use Rattle.reuse_command.specs.Answer.{DidNotFail, IsOfPlan}
use Rattle.reuse_command.specs.Command.{name_of}
use Rattle.reuse_change.specs.Entry.{paths_of, LeadsAll}
use Rattle.reuse_journal.specs.Journal.{Journal, State}
use Rattle.reuse_session.specs.session.Machine.{Snapshots, Step, ran_by}
use Rattle.reuse_journal.specs.Labels.{is_full}
use Rattle.reuse_plan.specs.Outcome.{outcome_of}
use Rattle.reuse_plan.specs.PathOutcomes.{left_paths}
use Rattle.reuse_edit.specs.Answered.{IsRefusalOf}
use Rattle.reuse_session.specs.session.Session.{Simulates, SimulatesState, SimulatesInSession, Follows, IsRun, Runs}
use Rattle.reuse_command.specs.declared.command.Command.{Command}
use Rattle.reuse_change.specs.declared.direction.Direction.TheVariants as direction
use Rattle.reuse_command.specs.declared.reply.Response.{Response}
use Rattle.reuse_command.specs.declared.reply.Response.TheVariants.{Changed, NothingChanged}
use Rattle.reuse_command.specs.declared.reply.Refusal.{Refusal}
use Rattle.reuse_command.specs.declared.reply.Refusal.TheVariants.{JournalFull, Failed}
use Rattle.reuse_session.specs.declared.session.Session.{Session}
use Rattle.reuse_change.proofs.Differ.{changed_by_entry}
use Rattle.reuse_session.proofs.lemmas.session.Following.{journal_full, run_refused, run_nothing, run_follows}
use Rattle.reuse_change.proofs.Walk.{leads_once}

-- no change leads from files to the same
stays_by_none : (files : Files) → LeadsAll [] files files
stays_by_none files = record { each = All-nil _; others = λ path e. refl }

-- ---- what a run answers

-- a refusal of the plan that reports no fault
pub runs_refused : (command : Command) (when : ℕ) (held : State) (refusal : Refusal)
    → is_full (length held.journal.done) held.journal.used ≡ false → IsOfPlan refusal
    → DidNotFail {A = Response} (Err refusal) → IsRefusalOf (outcome_of command held.tree) refusal
    → Runs command when held (Err refusal) held
runs_refused command when held JournalFull room planned reported expected = absurd planned
runs_refused command when held (Failed failure) room planned reported expected = absurd reported
runs_refused command when held refusal room planned reported expected = (room, expected, refl)

-- a plan without changes
pub runs_nothing : (command : Command) (when : ℕ) (held : State) (changes : List Change) (after : Files)
    → is_full (length held.journal.done) held.journal.used ≡ false
    → outcome_of command held.tree ≡ Ok after → length changes ≡ 0 → LeadsAll changes held.tree after
    → (left : List (List ℕ)) → left ≡ left_paths command held.tree
    → Runs command when held (Ok (NothingChanged left)) held
runs_nothing command when held changes after room outcome none leads left is_left =
    let same : after ≡ held.tree = leads_once direction.Forward [] held.tree after held.tree
    (subst (λ cs. LeadsAll cs held.tree after) (nil_from_length changes none) leads) (stays_by_none held.tree) in
    (room, outcome ∙ ap (λ t. Ok t) same, refl, is_left)

-- ---- that it follows the model

module _ (held : State) (state : Snapshots) (holds : Simulates held state) (command : Command) (when : ℕ) where
  -- a step of a run does
  pub step_follows : (second : State) (run : IsRun command when held second) → AreFiles held.tree
      → (Ok (Changed (paths_of run.step.changes) (left_paths command held.tree)) ≡ (ran_by state command when).0)
      × Simulates second (ran_by state command when).1
  step_follows second run are =
      let labelled : ◌≡◌ {A = Journal}
      (record { done = run.step ∷ held.journal.done; undone = []; used = held.journal.used + 1 })
      (record {
        done = record {
          label = record { number = held.journal.used + 1; when = when; command = name_of command };
          changes = run.step.changes;
        } ∷ held.journal.done;
        undone = [];
        used = held.journal.used + 1;
      }) =
      λ i. record {
        done = record { label = run.label i; changes = run.step.changes } ∷ held.journal.done;
        undone = [];
        used = held.journal.used + 1;
      } in
      run_follows held state holds command when run.step.changes second.tree run.room run.outcome run.entry
      run.is_step.leads are run.are_files second refl
      (run.is_step.transition.1 ∙ labelled)

  stays_put : (result : Result Response Refusal) (left : State) → left ≡ held
      → ran_by state command when ≡ (result, state)
      → (result ≡ (ran_by state command when).0) × Simulates left (ran_by state command when).1
  stays_put result left same is = subst (λ (step : Step). (result ≡ step.0) × Simulates left step.1) (sym is)
      (refl, subst (λ h. Simulates h state) (sym same) holds)

  -- a run does
  pub runs_as_machine : (result : Result Response Refusal) (left : State) → AreFiles held.tree
      → Runs command when held result left
      → (result ≡ (ran_by state command when).0) × Simulates left (ran_by state command when).1
  runs_as_machine (Ok (Changed paths leaves)) left are runs =
      let run = runs.1 in
      let follows = step_follows left run are in (
        ap₂ (λ ps ls. Ok (Changed ps ls))
            (runs.0 ∙ changed_by_entry run.step.changes held.tree left.tree run.entry run.is_step.leads) runs.2
            ∙ follows.0,
        follows.1,
      )
  runs_as_machine (Ok (NothingChanged leaves)) left are runs =
      stays_put (Ok (NothingChanged leaves)) left runs.2
      (run_nothing held state holds command when [] held.tree runs.0 runs.1 refl (stays_by_none held.tree)
      ∙ ap (λ (ls : List (List ℕ)). (Ok (NothingChanged ls), state)) (sym runs.3))
  runs_as_machine (Err JournalFull) left are runs =
      stays_put (Err JournalFull) left runs.1 (journal_full held state holds command when runs.0)
  runs_as_machine (Err refusal) left are runs =
      stays_put (Err refusal) left runs.2 (run_refused held state holds command when refusal runs.0 runs.1)
  runs_as_machine (Ok reply) left are runs = absurd runs

-- a session that goes on from a committed state of the model's as the command says goes on as the model
pub follows_exact : {S : Type 0} (files : S → Files) (new : Session S) {old : Session S} (state : Snapshots)
    (stands_at : SimulatesInSession files old state) (command : Command) (when : ℕ) (result : Result Response Refusal)
    → (left : State) × SimulatesState files new left × Runs command when stands_at.held result left
    → Follows files result new (ran_by state command when)
follows_exact files new state stands_at command when result exact =
    let follows = runs_as_machine stands_at.held state stands_at.holds command when result exact.0
    stands_at.stands.committed.good.are_files exact.2 in
    (follows.0, record { held = exact.0; stands = exact.1; holds = follows.1 })
