-- What comes of a session's one call, from any files.
use Rattle.std.proofs.Common.{◌⊎◌, inl, inr, ⊎_elim, ◌+◌, ◌≡◌, Result, Ok, Err, IfErr}
use Rattle.reuse_change.specs.Files.{Files, Clashes}
use Rattle.reuse_change.specs.Tree.{undo_folder_of}
use Rattle.reuse_store.specs.declared.cause.Cause.TheVariants as causes
use Rattle.reuse_store.specs.declared.store.Store.{Ghosts}
use Rattle.reuse_command.specs.Answer.{IsEarly, IsStop, IsNoClash, HasClash, DidNotFail}
use Rattle.reuse_session.specs.session.Calls.{files_of}
use Rattle.reuse_journal.specs.Journal.{State}
use Rattle.reuse_journal.specs.JournalFiles.{head_path, entry_path}
use Rattle.reuse_journal.specs.Opening.{OpensOn}
use Rattle.reuse_session.specs.session.Requests.{HasCallClash, IfFailed, IsAnswered, IsStopped, KeepsFolder, LeadsTo}
use Rattle.reuse_session.specs.session.Requests.{MayFail, Meets, StaysEarly}
use Rattle.reuse_session.specs.session.Session.{store_of, SimulatesState}
use Rattle.reuse_journal.specs.Remembered.{IsSameBut}
use Rattle.reuse_journal.specs.CommittedState.{IsCommittedState, BetweenStates}
use Rattle.reuse_command.specs.declared.failure.Fault.TheVariants as stores
use Rattle.reuse_command.specs.declared.failure.Failure.TheVariants.{Fault as StoreFailed, Memory, Interrupted}
use Rattle.reuse_command.specs.declared.reply.Refusal.{Refusal}
use Rattle.reuse_command.specs.declared.reply.Refusal.TheVariants.{Failed}
use Rattle.reuse_command.specs.declared.reply.Response.{Response}
use Rattle.reuse_command.specs.declared.request.Call.TheVariants as calls
use Rattle.reuse_command.specs.declared.request.Request.{Request}
use Rattle.reuse_command.specs.declared.request.Request.TheVariants as requests
use Rattle.reuse_session.specs.declared.session.Session.{Session}
use Rattle.reuse_session.proofs.lemmas.session.Driving.{stays_open}
use Rattle.reuse_undo.specs.run.RunLine.{SessionLeaves}

-- ---- clashes

no_clash_of : (entry head : Type 0) (refusal : Refusal) → IsNoClash refusal → HasClash entry head refusal
no_clash_of entry head (Failed (StoreFailed stores.Clash)) none = absurd none
no_clash_of entry head (Failed (Interrupted causes.Clash)) none = absurd none
no_clash_of entry head (Failed (Interrupted causes.Moved)) none = none
no_clash_of entry head refusal none = tt

-- a refusal that reports no clash
pub unclashed : (request : Request) (held : State) (files : Files) (refusal : Refusal) → IsNoClash refusal
    → HasCallClash request held files refusal
unclashed (requests.Make (calls.Run command) when) held files refusal none =
    no_clash_of (Clashes files (entry_path (held.journal.used + 1))) (Clashes files head_path) refusal none
unclashed (requests.Make (calls.Revert number skip_moved) when) held files refusal none =
    no_clash_of (Clashes files (entry_path (held.journal.used + 1))) (Clashes files head_path) refusal none
unclashed (requests.Make calls.Undo when) held files refusal none = no_clash_of ⊥ (Clashes files head_path) refusal none
unclashed (requests.Make calls.Redo when) held files refusal none = no_clash_of ⊥ (Clashes files head_path) refusal none
unclashed (requests.Forget steps) held files refusal none = no_clash_of ⊥ (Clashes files head_path) refusal none
unclashed request held files refusal none = none

-- ---- the call

-- how a request is answered, as what it leaves of the files
pub meets_by : {S : Type 0} (store : Ghosts S) (request : Request) (answer : Result Response Refusal)
    (old new : Session S) → IsAnswered store request answer old new → store.honest (store_of new) → (held : State)
    → SimulatesState store.files old held → Meets request held answer (files_of store new)
meets_by {S} store request answer old new is honest held stands =
    by_answer answer (is.exact honest held stands) (is.stands honest held stands) (is.doubt honest held stands) is.fails
  where
    by_answer : (answer : Result Response Refusal)
        → (DidNotFail answer → (left : State) × SimulatesState store.files new left × LeadsTo request held answer left)
        → IfErr answer (λ refusal. IsEarly refusal → SimulatesState store.files new held)
        → IfErr answer (λ refusal. IsStop refusal → IsStopped request held (files_of store new))
        → IfErr answer (IfFailed (MayFail request)) → Meets request held answer (files_of store new)
    by_answer (Ok reply) exact early doubt fails = let left = exact tt in (left.0, left.2, left.1.committed)
    by_answer (Err (Failed (StoreFailed fault))) exact early doubt fails = (fails, (early tt).committed)
    by_answer (Err (Failed Memory)) exact early doubt fails = (fails, (early tt).committed)
    by_answer (Err (Failed (Interrupted cause))) exact early doubt fails = (fails, doubt tt)
    by_answer (Err refusal) exact early doubt fails = let left = exact tt in (left.0, left.2, left.1.committed)

-- ---- the opening and the call

pub carried : {S : Type 0} (files : S → Files) (before : Files) (request : Request) (session : Session S)
    (answer : Result Response Refusal) (after : Files)
    → (held : State) × SimulatesState files session held × OpensOn before held (files (store_of session))
    → ((first second : State) → BetweenStates first second before
    → SimulatesState files session first ⊎ SimulatesState files session second)
    → ((held : State) → SimulatesState files session held → Meets request held answer after)
    → ((held : State) → SimulatesState files session held
    → IfErr answer (HasCallClash request held (files (store_of session))))
    → IsSameBut head_path (undo_folder_of before) (undo_folder_of (files (store_of session)))
    → ((held : State) → SimulatesState files session held → KeepsFolder request held (files (store_of session)) after)
    → StaysEarly request answer (files (store_of session)) after
    → SessionLeaves before request answer after
carried files before request session answer after opened recovers meets clashes same keeps stays =
    inr (record {
      made = (
        opened.0,
        files (store_of session),
        opened.2,
        meets opened.0 opened.1,
        clashes opened.0 opened.1,
        same,
        keeps opened.0 opened.1,
        stays,
      );
      recovers = λ first second doubt.
          ⊎_elim (λ (stands : SimulatesState files session first). inl
          (files (store_of session), stands.committed, meets first stands))
          (λ (stands : SimulatesState files session second). inr
          (files (store_of session), stands.committed, meets second stands)) (recovers first second doubt);
    })

-- a session that opened on a committed state stands on it, and the files are the same
pub found_again : {S : Type 0} (files : S → Files) (before : Files) (session : Session S) (held : State)
    → IsCommittedState before held
    → (found : State) × SimulatesState files session found × OpensOn before found (files (store_of session))
    → ((first second : State) → BetweenStates first second before
    → SimulatesState files session first ⊎ SimulatesState files session second)
    → SimulatesState files session held × (files (store_of session) ≡ before)
found_again files before session held committed opened recovers = (
  ⊎_elim (λ (stands : SimulatesState files session held). stands)
      (λ (stands : SimulatesState files session held). stands) (recovers held held (inl committed)),
  stays_open before (files (store_of session)) held opened.0 committed opened.2,
)
