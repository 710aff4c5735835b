-- How an undo and a redo answer a request: alike, but for their direction.
use Rattle.std.proofs.Common.{◌≡◌, ◌↔◌, ℕ, true, List, [], ◌∷◌, Result, Ok, Err, IfErr, refl, sym, subst}
use Rattle.reuse_change.specs.Files.{Clashes}
use Rattle.reuse_change.specs.declared.direction.Direction.{Direction}
use Rattle.reuse_change.specs.declared.direction.Direction.TheVariants as direction
use Rattle.reuse_store.specs.declared.store.Store.{Ghosts}
use Rattle.reuse_journal.specs.Journal.{Recorded, State, Replays, ahead}
use Rattle.reuse_journal.specs.JournalFiles.{head_path}
use Rattle.reuse_journal.specs.Losses.{Survives, Earlier}
use Rattle.reuse_session.specs.session.SafeCalls.{SurvivesCall}
use Rattle.reuse_command.specs.Answer.{HasClash, IsStop, DidNotFail}
use Rattle.reuse_session.specs.session.Calls.{files_of, folder_of, IsCall, LeavesReplay}
use Rattle.reuse_session.specs.session.Requests.{LeadsTo, IsStopped, HasCallClash, KeepsFolder, SurvivesRequest}
use Rattle.reuse_session.specs.session.Requests.{as_step, IsAnswered}
use Rattle.reuse_session.specs.session.Session.{store_of, is_broken, IsReplay, SimulatesState, StopsAfterReplay}
use Rattle.reuse_journal.specs.Remembered.{IsSameBut}
use Rattle.reuse_command.specs.declared.reply.Refusal.{Refusal}
use Rattle.reuse_command.specs.declared.reply.Refusal.TheVariants.{Broken}
use Rattle.reuse_command.specs.declared.reply.Response.{Response}
use Rattle.reuse_command.specs.declared.reply.Response.TheVariants as responses
use Rattle.reuse_command.specs.declared.reply.Reverted.{Reverted}
use Rattle.reuse_command.specs.declared.request.Call.{Call}
use Rattle.reuse_command.specs.declared.request.Request.TheVariants as requests
use Rattle.reuse_session.specs.declared.session.Session.{Session}
use Rattle.reuse_session.proofs.lemmas.journal.StepAnswers.{back_no_clash}
use Rattle.reuse_session.proofs.lemmas.session.Answering.{make_fails}
use Rattle.reuse_session.proofs.lemmas.session.Driving.{stands_early}
use Rattle.reuse_command.proofs.OnlyReading.{early_files}

-- its answer is no revert's
no_revert : (go : Direction) (steps : List Recorded) (held left : State) (reverted : Reverted)
    → Replays go steps held (Ok (responses.Reverted reverted)) left → ⊥
no_revert direction.Backward [] held left reverted replays = let is = replays.0 in cc
no_revert direction.Forward [] held left reverted replays = let is = replays.0 in cc
no_revert direction.Backward (step ∷ steps) held left reverted replays = let is = replays.0 in cc
no_revert direction.Forward (step ∷ steps) held left reverted replays = let is = replays.0 in cc

-- so it is a step as it is
replay_is_step : (go : Direction) (steps : List Recorded) (held : State) (Stands : State → Type 0)
    (answer : Result Response Refusal)
    → (DidNotFail answer → (left : State) × Stands left × Replays go steps held answer left)
    → as_step answer ≡ answer
replay_is_step go steps held Stands (Ok (responses.Reverted reverted)) exact = let e = exact tt in
    absurd (no_revert go steps held e.0 reverted e.2)
replay_is_step go steps held Stands (Ok reply) exact = refl
replay_is_step go steps held Stands (Err refusal) exact = refl

-- It answers each call of which the request's clauses say what those of the direction say.
module _ {S : Type 0} (store : Ghosts S) (go : Direction) (call : Call) (when : ℕ) (answer : Result Response Refusal)
    (old new : Session S)
    (leads : (held left : State) → Replays go (ahead go held.journal) held answer left
    → LeadsTo (requests.Make call when) held answer left)
    (stops : (held : State) → IfErr answer (λ refusal. IsStop refusal → StopsAfterReplay go held (files_of store new))
    → IfErr answer (λ refusal. IsStop refusal → IsStopped (requests.Make call when) held (files_of store new)))
    (survives : (earlier : Earlier) (held : State)
    → Survives store (IsReplay go held) earlier held (as_step answer) (store_of new)
    → SurvivesRequest store (requests.Make call when) earlier held answer (store_of new))
    (clashes : (held : State) → IfErr answer (HasClash ⊥ (Clashes (files_of store old) head_path))
    → IfErr answer (HasCallClash (requests.Make call when) held (files_of store old)))
    (keeps : (held : State) → IsSameBut head_path (folder_of store old) (folder_of store new)
    → KeepsFolder (requests.Make call when) held (files_of store old) (files_of store new))
  where
    pub replay_answers : (answer ≡ Err Broken) ↔ (is_broken old ≡ true)
        → (store.honest (store_of new) → (held : State) → SimulatesState store.files old held
        → DidNotFail answer
        → (left : State) × SimulatesState store.files new left × Replays go (ahead go held.journal) held answer left)
        → SurvivesCall store (IsReplay go) answer old new → IsCall store answer old new
        → LeavesReplay store go answer old new
        → IsAnswered store (requests.Make call when) answer old new
    replay_answers broken exact survived counted leaves = record {
      broken = broken;
      exact = λ honest held stands reported. let e = exact honest held stands reported in
          (e.0, e.1, leads held e.0 e.2);
      stands = λ honest held stands.
          stands_early store.files old new held answer stands counted.refused
          (early_files store (store_of old) (store_of new) answer leaves.early honest);
      unchanged = λ honest. tt;
      doubt = λ honest held stands. stops held (leaves.doubt honest held stands);
      fails = make_fails call when answer;
      survives = λ honest earlier held stands safe.
          survives earlier held (subst (λ a. Survives store (IsReplay go held) earlier held a (store_of new))
          (sym (replay_is_step go (ahead go held.journal) held (SimulatesState store.files new) answer
          (exact honest held stands))) (survived honest earlier held stands safe));
      reads_only = λ look. absurd look;
      kept = λ look. absurd look;
      clash = λ honest held stands. clashes held (leaves.clash honest);
      unclashed = λ honest held stands free. back_no_clash (files_of store old) held stands.committed free answer
          (leaves.clash honest);
      free = leaves.free;
      folder = λ honest held stands. keeps held (leaves.folder honest);
      call = counted;
    }
