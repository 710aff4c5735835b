-- What a call counts is no part of what its session stands at or leaves.
use Rattle.std.proofs.Common.{ℕ, Result, Ok, Err, OnOk}
use Rattle.reuse_change.specs.Files.{Files}
use Rattle.reuse_store.specs.declared.store.Store.{Ghosts}
use Rattle.reuse_session.specs.session.Calls.{LeavesRun}
use Rattle.reuse_journal.specs.Journal.{State}
use Rattle.reuse_session.specs.session.Previews.{path_outcomes_alone}
use Rattle.reuse_session.specs.session.Session.{SimulatesState}
use Rattle.reuse_command.specs.declared.command.Command.{Command}
use Rattle.reuse_plan.specs.declared.counts.Counts.{Counts}
use Rattle.reuse_command.specs.declared.path_outcome.Previewed.{Previewed}
use Rattle.reuse_command.specs.declared.reply.Refusal.{Refusal}
use Rattle.reuse_command.specs.declared.reply.Response.{Response}
use Rattle.reuse_session.specs.declared.session.Session.{Session}

-- what a session counted is no part of what it stands at
pub still_counted : {S : Type 0} (files : S → Files) (session : Session S) (counted : Counts) (held : State)
    → SimulatesState files session held → SimulatesState files (record session { counts = counted }) held
still_counted files session counted held stands = record {
  whole = stands.whole;
  committed = stands.committed;
  remembers = stands.remembers;
}

-- nor of what a run leaves
pub leaves_counted : {S : Type 0} (store : Ghosts S) (old new : Session S) (counted : Counts) (command : Command)
    (when : ℕ) (result : Result Response Refusal)
    → LeavesRun store command when result (record old { counts = counted }) new
    → LeavesRun store command when result old new
leaves_counted store old new counted command when result leaves = record {
  unchanged = leaves.unchanged;
  stands = λ honest held stands. leaves.stands honest held (still held stands);
  early = λ honest held stands. leaves.early honest held (still held stands);
  doubt = λ honest held stands. leaves.doubt honest held (still held stands);
  late = leaves.late;
  folder = leaves.folder;
  texts = leaves.texts;
  written = λ honest held stands. leaves.written honest held (still held stands);
  mutations = leaves.mutations;
  begins = leaves.begins;
  clash = leaves.clash;
  free = leaves.free;
}
  where
    still : (held : State) → SimulatesState store.files old held
        → SimulatesState store.files (record old { counts = counted }) held
    still held stands = still_counted store.files old counted held stands

-- what is so of an answer with changes is so of it without them
pub on_path_outcomes : (answer : Result Previewed Refusal) (Claim : Type 0) → OnOk answer Claim
    → OnOk (path_outcomes_alone answer) Claim
on_path_outcomes (Ok previewed) Claim is = is
on_path_outcomes (Err refusal) Claim is = tt
