-- What comes of what a line asks a session for.
use Rattle.std.specs.Prelude.{◌≡◌, ◌⊎◌, List, Some, ℕ, Result, Ok, Err, IfErr, true}
use Rattle.reuse_change.specs.Files.{Files}
use Rattle.reuse_change.specs.Tree.{undo_folder_of}
use Rattle.reuse_store.specs.declared.cause.Cause.{Cause}
use Rattle.reuse_command.specs.Answer.{IsEarly, IsFailure, IsNoClash, IsOpenRefusal}
use Rattle.reuse_journal.specs.Journal.{State}
use Rattle.reuse_journal.specs.JournalFiles.{head_path}
use Rattle.reuse_session.specs.session.Machine.{Snapshots}
use Rattle.reuse_session.specs.session.Model.{Gives}
use Rattle.reuse_journal.specs.Opening.{IsFirstBad, IsStuckAt, OpensOn, StopsOpening}
use Rattle.reuse_session.specs.session.Requests.{HasCallClash, KeepsFolder, Meets, StaysEarly, as_answer}
use Rattle.reuse_journal.specs.Remembered.{IsSameBut}
use Rattle.reuse_journal.specs.CommittedState.{IsCommittedState, BetweenStates}
use Rattle.reuse_session.specs.session.Stops.{SimulatesInFiles, FilesAt}
use Rattle.reuse_command.specs.declared.failure.Failure.TheVariants as failures
use Rattle.reuse_command.specs.declared.reply.Recovered.{Recovered}
use Rattle.reuse_command.specs.declared.reply.Refusal.{Refusal}
use Rattle.reuse_command.specs.declared.reply.Refusal.TheVariants as refusals
use Rattle.reuse_command.specs.declared.reply.Response.{Response}
use Rattle.reuse_command.specs.declared.reply.Response.TheVariants as responses
use Rattle.reuse_command.specs.declared.request.Request.{Request}
use Rattle.reuse_command.specs.declared.request.Request.TheVariants as requests
use Rattle.reuse_print.specs.declared.fault.Fault.{Fault}
use Rattle.reuse_print.specs.declared.fault.Fault.TheVariants as faults
use Rattle.reuse_arguments.specs.declared.line.PrintOptions.{PrintOptions}
use Rattle.reuse_print.specs.Lines.{path_count}
use Rattle.reuse_print.specs.Outputs.{AddsFront, AddsSome}
use Rattle.reuse_undo.specs.run.Recoveries.{RecoveryLeaves}
use Rattle.reuse_report.specs.Responses.{IsPrintedText, is_refused, IsDrawnPreview, WouldBeMade}

-- ---- from any files

-- no session was opened
pub record IsUnopened (before : Files) (refusal : Refusal) (after : Files) : Type 0 where
  pub is_of_opening : IsOpenRefusal refusal
  pub bad : (path : List ℕ) → refusal ≡ refusals.BadJournal path → IsFirstBad before path
  pub moved : (path : List ℕ) → refusal ≡ refusals.Moved path → IsStuckAt before path
  pub no_clash : IsNoClash refusal
  pub unchanged : IsEarly refusal → after ≡ before
  -- it stops only where a step was pending
  pub stopped : (cause : Cause) → refusal ≡ refusals.Failed (failures.Interrupted cause) → StopsOpening before after
  -- files in doubt stay in doubt between the same two
  pub recovers : (first second : State) → BetweenStates first second before
      → IsFailure refusal × BetweenStates first second after
  -- of the journal's files none but the head holds something else
  pub folder : IsSameBut head_path (undo_folder_of before) (undo_folder_of after)

-- a session was opened on the committed state, and the request is answered from it
abbrev pub AnswersOn : Request → State → Result Response Refusal → Files → Type 0
AnswersOn request held answer after = (opened : Files) × IsCommittedState opened held × Meets request held answer after

-- A session was opened, which of the journal's files puts none but the head, and the call was made on the committed
-- state that it found. A clash that is reported is one of the files as the opening left them.
pub record IsMade (before : Files) (request : Request) (answer : Result Response Refusal) (after : Files) : Type 0 where
  pub made : (found : State) × (opened : Files) × OpensOn before found opened × Meets request found answer after
      × IfErr answer (HasCallClash request found opened)
      × IsSameBut head_path (undo_folder_of before) (undo_folder_of opened) × KeepsFolder request found opened after
      × StaysEarly request answer opened after
  -- of files in doubt that is one of the two
  pub recovers : (first second : State) → BetweenStates first second before → AnswersOn request first answer after
      ⊎ AnswersOn request second answer after

-- a session's answer to the request, or its opening's refusal, and the files then
abbrev pub SessionLeaves : Files → Request → Result Response Refusal → Files → Type 0
SessionLeaves before request answer after = ((refusal : Refusal) × (answer ≡ Err refusal)
    × IsUnopened before refusal after) ⊎ IsMade before request answer after

-- The same of any request: no session is opened for a recovery, since none can be while a path of the pending step is
-- stuck.
abbrev pub RequestLeaves : Files → Request → Result Response Refusal → Files → Type 0
RequestLeaves before (requests.Recover skip_moved) answer after = (recovered : Result Recovered Refusal)
    × (answer ≡ as_answer responses.Recovered recovered) × RecoveryLeaves skip_moved before recovered after
RequestLeaves before request answer after = SessionLeaves before request answer after

-- ---- from a state of the model

-- The answer and the files are those that the model gives. An early failure leaves the state, and a stop leaves it, or
-- files in doubt between it and the one that the model would be in.
abbrev pub FollowsModel : Snapshots → Request → Result Response Refusal → Files → Type 0
FollowsModel state request (Err (refusals.Failed (failures.Interrupted cause))) files =
    SimulatesInFiles files state
    ⊎ ((given : Result Response Refusal) × (next : Snapshots) × Gives state request given next
    × FilesAt files state (Some next))
FollowsModel state request (Err (refusals.Failed failure)) files = SimulatesInFiles files state
FollowsModel state request answer files =
    (next : Snapshots) × Gives state request answer next × SimulatesInFiles files next

-- ---- what is reported of it

-- The answer is one of these. Of it the output took the lines, and the paths that changed are counted, or it failed
-- behind some front part of them; a refusal is handed on, and nothing is written of it, nor for an allocation failure.
-- A call that was only looked at is a fault exactly where one of its path outcomes is a refusal. That another run works
-- on the tree is reported before a store is asked, so never here.
abbrev pub ReportsAnswer : PrintOptions → (Result Response Refusal → Type 0) → List ℕ → List ℕ → Result ℕ Fault → Type 0
ReportsAnswer options IsAnswer old new (Ok count) = (response : Response) × IsAnswer (Ok response)
    × WouldBeMade response
    × AddsSome old new (IsPrintedText options response) × (count ≡ path_count response)
ReportsAnswer options IsAnswer old new (Err (faults.Refused refusal)) = IsAnswer (Err refusal) × (new ≡ old)
ReportsAnswer options IsAnswer old new (Err (faults.WouldRefuse path_outcomes)) =
    IsAnswer (Ok (responses.Preview path_outcomes)) × (is_refused path_outcomes ≡ true)
    × AddsSome old new (IsPrintedText options (responses.Preview path_outcomes))
ReportsAnswer options IsAnswer old new (Err (faults.NoDiff refusal)) =
    ((response : Response) × IsAnswer (Ok response) × IsDrawnPreview options response) × (new ≡ old)
ReportsAnswer options IsAnswer old new (Err faults.InUse) = ⊥
ReportsAnswer options IsAnswer old new (Err faults.Write) =
    (response : Response) × IsAnswer (Ok response) × (text : List ℕ) × IsPrintedText options response text
    × AddsFront old new text
ReportsAnswer options IsAnswer old new (Err faults.Memory) = ((response : Response) × IsAnswer (Ok response))
    × (new ≡ old)

-- a refusal that is reported
abbrev pub IfRefused : {T : Type 0} → Result T Fault → (Refusal → Type 0) → Type 0
IfRefused (Err (faults.Refused refusal)) Claim = Claim refusal
IfRefused result Claim = Unit {0}
