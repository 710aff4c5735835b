-- What a recovery leaves of the files, and how it is refused.
use Rattle.std.specs.Prelude.{◌≡◌, ◌⊎◌, Bool, Result, Err, IfOk, IfErr, MatchResult}
use Rattle.reuse_change.specs.Files.{Files}
use Rattle.reuse_change.specs.Tree.{undo_folder_of}
use Rattle.reuse_store.specs.declared.cause.Cause.{Cause}
use Rattle.reuse_command.specs.Answer.{IsEarly, IsFailure, IsNoClash, IsOpenRefusal, DidNotFail}
use Rattle.reuse_journal.specs.Journal.{State}
use Rattle.reuse_journal.specs.JournalFiles.{head_path}
use Rattle.reuse_journal.specs.Recovery.{RecoversFiles, RefusesRecovery, StopsRecovering}
use Rattle.reuse_journal.specs.Remembered.{IsSameBut}
use Rattle.reuse_journal.specs.CommittedState.{IsCommittedState, BetweenStates}
use Rattle.reuse_command.specs.declared.reply.Recovered.{Recovered}
use Rattle.reuse_command.specs.declared.reply.Refusal.{Refusal}
use Rattle.reuse_command.specs.declared.failure.Failure.TheVariants.{Interrupted}
use Rattle.reuse_command.specs.declared.reply.Refusal.TheVariants.{Failed}

-- how it is refused, and what it leaves then
pub record RefusesToRecover (skip_moved : Bool) (before : Files) (refusal : Refusal) (after : Files) : Type 0 where
  pub is_of_opening : IsOpenRefusal refusal
  -- unless an I/O error or an allocation failure is reported, exactly where the journal is bad or a path is stuck
  pub exact : DidNotFail {A = Recovered} (Err refusal) → RefusesRecovery skip_moved before (Err refusal)
  pub no_clash : IsNoClash refusal
  pub unchanged : IsEarly refusal → after ≡ before
  -- it stops only where a step is pending: that is recovered, or each of its paths is as it was or as recovering leaves
  -- it
  pub stopped : (cause : Cause) → refusal ≡ Failed (Interrupted cause) → StopsRecovering before after

-- the files are recovered, and what became of them is reported; or it is refused
pub record RecoveryLeaves (skip_moved : Bool) (before : Files) (answer : Result Recovered Refusal) (after : Files)
    : Type 0 where
  pub recovered : IfOk answer (RecoversFiles skip_moved before after)
  pub refused : IfErr answer (λ refusal. RefusesToRecover skip_moved before refusal after)
  -- files in doubt hold one of the two then, and where it fails they are in doubt still
  pub recovers : (first second : State) → BetweenStates first second before
      → MatchResult answer (λ reported. IsCommittedState after first ⊎ IsCommittedState after second)
      (λ refusal. IsFailure refusal × BetweenStates first second after)
  -- of the journal's files none but the head holds something else
  pub folder : IsSameBut head_path (undo_folder_of before) (undo_folder_of after)
