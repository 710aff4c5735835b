-- What a preview of a call answers and leaves.
use Rattle.std.specs.Prelude.{◌≡◌, List, [], ◌∷◌, Result, Ok, Err, length, if◌then◌else◌}
use Rattle.reuse_store.specs.Asked.{OnlyReads}
use Rattle.reuse_change.specs.Files.{Files}
use Rattle.reuse_store.specs.declared.store.Store.{Ghosts}
use Rattle.reuse_command.specs.Answer.{RefusedAsRead, IsReadRefusal}
use Rattle.reuse_plan.specs.PathOutcomes.{ArePathOutcomesOf, path_outcomes_of}
use Rattle.reuse_journal.specs.Journal.{Recorded, State, end_of}
use Rattle.reuse_journal.specs.Labels.{is_full}
use Rattle.reuse_session.specs.session.Session.{store_of, IsKept}
use Rattle.reuse_command.specs.declared.command.Command.{Command}
use Rattle.reuse_change.specs.declared.direction.Direction.{Direction}
use Rattle.reuse_command.specs.declared.path_outcome.PathOutcome.{PathOutcome}
use Rattle.reuse_command.specs.declared.path_outcome.Previewed.{Previewed}
use Rattle.reuse_command.specs.declared.reply.Refusal.{Refusal}
use Rattle.reuse_command.specs.declared.reply.Refusal.TheVariants.{Broken, JournalFull, NothingToUndo, NothingToRedo}
use Rattle.reuse_session.specs.declared.session.Session.{Session}

-- a preview of an undo or a redo: the path outcomes of the next step's changes, or that there is no step
abbrev pub PreviewsReplay : Direction → List Recorded → Files → Result (List PathOutcome) Refusal → Type 0
PreviewsReplay direction [] tree answer = answer ≡ Err (end_of direction)
PreviewsReplay direction (step ∷ steps) tree (Ok path_outcomes) =
    ArePathOutcomesOf direction tree step.changes path_outcomes
PreviewsReplay direction (step ∷ steps) tree (Err refusal) = ⊥

-- the path outcomes of what is previewed with its changes, as an answer
abbrev pub path_outcomes_alone : Result Previewed Refusal → Result (List PathOutcome) Refusal
path_outcomes_alone (Ok previewed) = Ok previewed.path_outcomes
path_outcomes_alone (Err refusal) = Err refusal

-- the store is read alone, and what is remembered stays
pub record ReadsOnly {S A : Type 0} (store : Ghosts S) (answer : Result A Refusal) (old new : Session S) : Type 0 where
  pub reads : OnlyReads store (store_of old) (store_of new)
  pub kept : IsKept old new
  pub fails : RefusedAsRead store (store_of old) (store_of new) answer

-- the refusals of a preview; that of an entry that is listed reads it
abbrev pub IsPreviewRefusal : Refusal → Type 0
IsPreviewRefusal Broken = Unit {0}
IsPreviewRefusal JournalFull = Unit {0}
IsPreviewRefusal NothingToUndo = Unit {0}
IsPreviewRefusal NothingToRedo = Unit {0}
IsPreviewRefusal refusal = IsReadRefusal refusal

-- what a run of the command would do on a committed state, path by path, or that the journal is full
abbrev pub run_path_outcomes_on : State → Command → Result (List PathOutcome) Refusal
run_path_outcomes_on old command = if is_full (length old.journal.done) old.journal.used then Err JournalFull
    else Ok (path_outcomes_of command old.tree)
