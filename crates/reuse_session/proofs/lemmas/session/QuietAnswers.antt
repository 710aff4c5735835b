-- Where a request is answered and nothing is made durable, the model stays at its state.
use Rattle.std.proofs.Common.{◌≡◌, ◌⊎◌, inl, inr, ℕ, Bool, true, false, cond, not, List, [], ◌∷◌, length, Result, Ok}
use Rattle.std.proofs.Common.{Err, refl, sym, ap, ◌∙◌}
use Rattle.std.proofs.lemmas.Bool.{false≢true}
use Rattle.reuse_change.specs.Files.{Files}
use Rattle.reuse_change.specs.Tree.{changed_paths}
use Rattle.reuse_change.specs.declared.change.Change.{Change}
use Rattle.reuse_change.specs.declared.command_name.CommandName.{CommandName}
use Rattle.reuse_change.specs.declared.direction.Direction.{Direction}
use Rattle.reuse_change.specs.declared.direction.Direction.TheVariants as go
use Rattle.reuse_command.specs.Command.{name_of}
use Rattle.reuse_command.specs.declared.command.Command.{Command}
use Rattle.reuse_command.specs.declared.reply.Refusal.{Refusal}
use Rattle.reuse_command.specs.declared.reply.Refusal.TheVariants.{JournalFull, NoSuchStep}
use Rattle.reuse_command.specs.declared.reply.Response.{Response}
use Rattle.reuse_command.specs.declared.reply.Response.TheVariants as responses
use Rattle.reuse_command.specs.declared.request.Call.TheVariants as calls
use Rattle.reuse_command.specs.declared.request.Request.{Request}
use Rattle.reuse_command.specs.declared.request.Request.TheVariants as requests
use Rattle.reuse_journal.specs.Labels.{is_full}
use Rattle.reuse_journal.specs.Numbered.{is_one_of}
use Rattle.reuse_plan.specs.Outcome.{outcome_of}
use Rattle.reuse_plan.specs.PathOutcomes.{left_paths}
use Rattle.reuse_session.specs.session.Forgetting.{ForgetsTo, kept_besides, numbers_asked, snapshots_besides}
use Rattle.reuse_session.specs.session.Machine.{Kept, Snapshots, Step, ran, ran_by, taken}
use Rattle.reuse_session.specs.session.Model.{Gives, ReplaysTo, RevertsTo, as_reverted, command_back}
use Rattle.reuse_session.specs.session.Requests.{as_answer, as_step}
use Rattle.reuse_session.specs.session.Stops.{is_durable}
use Rattle.reuse_session.proofs.lemmas.session.Forgetting.{none_in_order}
use Rattle.reuse_session.proofs.lemmas.session.ForgottenSteps.{filter_whole}

abbrev is_quiet : Result Response Refusal → Type 0
is_quiet answer = is_durable (as_step answer) ≡ false

module _ (state : Snapshots) where
  -- ---- a run

  -- a run leaves the state, or answers some paths that changed
  abbrev StaysOrChanges : Step → Type 0
  StaysOrChanges step = (step.1 ≡ state) ⊎ ((path : List ℕ) × (paths : List (List ℕ)) × (left : List (List ℕ))
      × (step.0 ≡ Ok (responses.Changed (path ∷ paths) left)))

  taken_so : (when : ℕ) (command : CommandName) (left : List (List ℕ)) (after : Files) (paths : List (List ℕ))
      → StaysOrChanges (taken state when command left after paths)
  taken_so when command left after [] = inl refl
  taken_so when command left after (path ∷ paths) = inr (path, paths, left, refl)

  ran_so : (when : ℕ) (command : CommandName) (left : List (List ℕ)) (outcome : Result Files Refusal)
      → StaysOrChanges (ran state when command left outcome)
  ran_so when command left (Err refusal) = inl refl
  ran_so when command left (Ok after) = taken_so when command left after (changed_paths state.tree after)

  ran_by_so : (command : Command) (when : ℕ) → StaysOrChanges (ran_by state command when)
  ran_by_so command when = by_test (is_full (length state.past) state.used)
    where
      by_test : (b : Bool) → StaysOrChanges (cond b (Err JournalFull, state)
          (ran state when (name_of command) (left_paths command state.tree) (outcome_of command state.tree)))
      by_test true = inl refl
      by_test false = ran_so when (name_of command) (left_paths command state.tree) (outcome_of command state.tree)

  quiet_run : (step : Step) → StaysOrChanges step → is_quiet step.0 → step.1 ≡ state
  quiet_run step (inl same) quiet = same
  quiet_run step (inr (path, paths, left, is)) quiet =
      absurd (false≢true (sym quiet ∙ ap (λ a. is_durable (as_step a)) is))

  quiet_back : (changes : List Change) (step : Step) → StaysOrChanges step → is_quiet (as_reverted changes step.0)
      → step.1 ≡ state
  quiet_back changes step (inl same) quiet = same
  quiet_back changes step (inr (path, paths, left, is)) quiet =
      absurd (false≢true (sym quiet ∙ ap (λ a. is_durable (as_step (as_reverted changes a))) is))

  as_quiet : (answer given : Result Response Refusal) → answer ≡ given → is_quiet answer → is_quiet given
  as_quiet answer given is quiet = sym (ap (λ a. is_durable (as_step a)) is) ∙ quiet

  quiet_revert : (number : ℕ) (skip_moved : Bool) (when : ℕ) (answer : Result Response Refusal) (next : Snapshots)
      → RevertsTo state number skip_moved when answer next → is_quiet answer → next ≡ state
  quiet_revert number skip_moved when answer next (inl absent) quiet = absent.2
  quiet_revert number skip_moved when answer next (inr (changes, led, back)) quiet =
      let command = command_back state number skip_moved changes in
      back.1 ∙ quiet_back changes (ran_by state command when) (ran_by_so command when)
      (as_quiet answer (as_reverted changes (ran_by state command when).0) back.0 quiet)

  -- ---- undo and redo

  quiet_replay : (direction : Direction) (steps : List Kept) (answer : Result Response Refusal) (next : Snapshots)
      → ReplaysTo direction steps state answer next → is_quiet answer → next ≡ state
  quiet_replay direction [] answer next to quiet = to.1
  quiet_replay go.Backward (kept ∷ others) (Ok reply) next to quiet =
      absurd (false≢true (sym quiet ∙ ap (λ r. is_durable (as_step (Ok r))) to.2.0))
  quiet_replay go.Forward (kept ∷ others) (Ok reply) next to quiet =
      absurd (false≢true (sym quiet ∙ ap (λ r. is_durable (as_step (Ok r))) to.2.0))
  quiet_replay direction (kept ∷ others) (Err refusal) next to quiet = to.2.1

  -- ---- forgetting

  whole : (copies : List Kept) → kept_besides [] copies ≡ copies
  whole copies = filter_whole (λ (kept : Kept). not (is_one_of [] kept.label.number)) copies (λ kept within. refl)

  besides_none : snapshots_besides [] state ≡ state
  besides_none = λ i. record {
    tree = state.tree;
    past = whole state.past i;
    future = whole state.future i;
    used = state.used;
  }

  quiet_forget : (numbers : List ℕ) (forgotten : Result (List ℕ) Refusal) (next : Snapshots)
      → ForgetsTo numbers state forgotten next → is_quiet (as_answer responses.Forgotten forgotten) → next ≡ state
  quiet_forget numbers (Ok []) next forgets quiet =
      forgets.2 ∙ ap (λ ns. snapshots_besides ns state) (none_in_order numbers forgets.1) ∙ besides_none
  quiet_forget numbers (Ok (number ∷ more)) next forgets quiet = absurd (false≢true (sym quiet))
  quiet_forget numbers (Err (NoSuchStep number)) next forgets quiet = forgets.1
  quiet_forget numbers (Err refusal) next forgets quiet = absurd forgets

  -- ---- any request

  pub quiet_stays : (request : Request) (answer : Result Response Refusal) (next : Snapshots)
      → Gives state request answer next → is_durable (as_step answer) ≡ false → next ≡ state
  quiet_stays (requests.Make (calls.Run command) when) answer next gives quiet =
      gives.1 ∙ quiet_run (ran_by state command when) (ran_by_so command when)
      (as_quiet answer (ran_by state command when).0 gives.0 quiet)
  quiet_stays (requests.Make calls.Undo when) answer next gives quiet =
      quiet_replay go.Backward state.past answer next gives quiet
  quiet_stays (requests.Make calls.Redo when) answer next gives quiet =
      quiet_replay go.Forward state.future answer next gives quiet
  quiet_stays (requests.Make (calls.Revert number skip_moved) when) answer next gives quiet =
      quiet_revert number skip_moved when answer next gives quiet
  quiet_stays (requests.Forget steps) answer next gives quiet =
      quiet_forget (numbers_asked steps state) gives.0 next gives.2
      (as_quiet answer (as_answer responses.Forgotten gives.0) gives.1 quiet)
  quiet_stays (requests.Preview call) answer next gives quiet = gives.3
  quiet_stays (requests.Recover skip_moved) answer next gives quiet = gives.1
  quiet_stays requests.Log answer next gives quiet = gives.1
  quiet_stays (requests.Show number) answer next gives quiet = gives.3
