-- How a session answers a request, from what its calls say.
use Rattle.std.proofs.Common.{◌≡◌, ◌↔◌, ⊎_elim, ◌+◌, ℕ, Bool, true, false, List, Result, Ok, Err, IfOk, IfErr, refl}
use Rattle.std.proofs.Common.{sym, ap, subst, ◌∙◌}
use Rattle.std.proofs.lemmas.Bool.{false≢true}
use Rattle.std.specs.FinMap.{get}
use Rattle.std.specs.List.{Contains}
use Rattle.reuse_store.specs.Asked.{OnlyReads}
use Rattle.reuse_change.specs.Files.{Files, Clashes}
use Rattle.reuse_change.specs.Tree.{undo_folder_of}
use Rattle.reuse_change.specs.declared.change.Change.{Change}
use Rattle.reuse_json.specs.declared.entry.Entry.{Entry}
use Rattle.reuse_store.specs.declared.store.Store.{Ghosts}
use Rattle.reuse_store.specs.declared.cause.Cause.{Cause}
use Rattle.reuse_command.specs.Answer.{IsBrokenOrMemory, IsEarly, IsStop, IsNoClash, IsRunAnswer, HasClash}
use Rattle.reuse_command.specs.Answer.{RefusedAsRead, DidNotFail, nothing_recovered}
use Rattle.reuse_session.specs.session.Calls.{files_of, folder_of, IsCall, LeavesRun}
use Rattle.reuse_journal.specs.Journal.{Recorded, State, rows_in}
use Rattle.reuse_journal.specs.JournalFiles.{head_path, entry_in, entry_path, number_of, EntrySays, IsFree}
use Rattle.reuse_journal.specs.Losses.{AllRecoverToTree, Earlier}
use Rattle.reuse_session.specs.session.Requests.{IsReading, MayFail, IfFailed, as_answer, LeadsTo, HasCallClash}
use Rattle.reuse_session.specs.session.Requests.{KeepsFolder, StaysEarly, SurvivesRequest, as_step, IsAnswered}
use Rattle.reuse_session.specs.session.Requests.{ReadsOnlyWithCause}
use Rattle.reuse_session.specs.session.RevertCalls.{IsAfterRevert, LeavesRevert, as_run, touched_later}
use Rattle.reuse_session.specs.session.Session.{store_of, is_broken, memory_of, IsKept, SimulatesState, StopsAfterRun}
use Rattle.reuse_journal.specs.Remembered.{IsSameButTwo, Remembers}
use Rattle.reuse_journal.specs.Numbered.{lists}
use Rattle.reuse_journal.specs.CommittedState.{BetweenStates, IsCommittedState}
use Rattle.reuse_command.specs.declared.command.Command.TheVariants.{Revert}
use Rattle.reuse_command.specs.declared.failure.Fault.TheVariants as stores
use Rattle.reuse_command.specs.declared.failure.Failure.TheVariants.{Fault, Memory, Interrupted}
use Rattle.reuse_command.specs.declared.reply.Refusal.{Refusal}
use Rattle.reuse_command.specs.declared.reply.Refusal.TheVariants.{Broken, NoSuchStep, Failed}
use Rattle.reuse_command.specs.declared.reply.Response.{Response}
use Rattle.reuse_command.specs.declared.reply.Response.TheVariants as responses
use Rattle.reuse_command.specs.declared.reply.Recovered.{Recovered}
use Rattle.reuse_command.specs.declared.reply.Reverted.{Reverted}
use Rattle.reuse_command.specs.declared.reply.Row.{Row}
use Rattle.reuse_command.specs.declared.request.Call.{Call}
use Rattle.reuse_command.specs.declared.request.Request.{Request}
use Rattle.reuse_command.specs.declared.request.Request.TheVariants as requests
use Rattle.reuse_session.specs.declared.session.Session.{Session}
use Rattle.reuse_store.specs.declared.cause.Cause.TheVariants as causes
use Rattle.reuse_journal.proofs.JournalLemmas.{same_entry}
use Rattle.reuse_session.proofs.lemmas.session.Peeking.{refused, same_refusal, read_only_call, read_only_unclashed}
use Rattle.reuse_session.proofs.lemmas.session.Peeking.{still_stands, unclashed_read}
use Rattle.reuse_session.proofs.lemmas.journal.StepDoubt.{reads_are_safe}
use Rattle.reuse_session.proofs.lemmas.session.StepsByNumber.{done_step, says_step}

-- ---- answers as responses

-- what holds of a refusal holds of it as a reply's
pub err_as_answer : {A : Type 0} (reply : A → Response) (answer : Result A Refusal) (P : Refusal → Type 0)
    → IfErr answer P → IfErr (as_answer reply answer) P
err_as_answer reply (Ok value) P h = tt
err_as_answer reply (Err refusal) P h = h

pub reported_as_answer : {A : Type 0} (reply : A → Response) (answer : Result A Refusal)
    → DidNotFail (as_answer reply answer) → DidNotFail answer
reported_as_answer reply (Ok value) reported = tt
reported_as_answer reply (Err (Failed failure)) reported = absurd reported
reported_as_answer reply (Err refusal) reported = tt

is_as_answer : {A : Type 0} (reply : A → Response) (answer : Result A Refusal) (refusal : Refusal)
    → as_answer reply answer ≡ Err refusal → answer ≡ Err refusal
is_as_answer reply (Ok value) refusal is = absurd (cc)
is_as_answer {A} reply (Err other) refusal is = ap (refused A) (same_refusal Response other refusal is)

pub broken_as_answer : {A : Type 0} (reply : A → Response) (answer : Result A Refusal) (P : Type 0)
    → (answer ≡ Err Broken ↔ P) → (as_answer reply answer ≡ Err Broken ↔ P)
broken_as_answer reply answer P h = (λ is. h.0 (is_as_answer reply answer Broken is), λ p. ap (as_answer reply) (h.1 p))

pub call_as_answer : {A S : Type 0} (store : Ghosts S) (reply : A → Response) (answer : Result A Refusal)
    (old new : Session S) → IsCall store answer old new → IsCall store (as_answer reply answer) old new
call_as_answer store reply (Ok value) old new call = record {
  refused = tt;
  interrupted = tt;
  fault = tt;
  later = call.later;
}
call_as_answer store reply (Err refusal) old new call = record {
  refused = call.refused;
  interrupted = call.interrupted;
  fault = call.fault;
  later = call.later;
}

-- ---- what only reads

safe_look : {S : Type 0} (store : Ghosts S) (request : Request) (earlier : Earlier) (held : State)
    (answer : Result Response Refusal) (new : S) → IsReading request → AllRecoverToTree store earlier held new
    → SurvivesRequest store request earlier held answer new
safe_look store (requests.Make call when) earlier held answer new look safe = absurd look
safe_look store (requests.Forget steps) earlier held answer new look safe = absurd look
safe_look store (requests.Preview call) earlier held answer new look safe = safe
safe_look store (requests.Recover skip_moved) earlier held answer new look safe = safe
safe_look store requests.Log earlier held answer new look safe = safe
safe_look store (requests.Show number) earlier held answer new look safe = safe

clash_look : (request : Request) (held : State) (files : Files) (refusal : Refusal) → IsReading request
    → IsNoClash refusal → HasCallClash request held files refusal
clash_look (requests.Make call when) held files refusal look none = absurd look
clash_look (requests.Forget steps) held files refusal look none = absurd look
clash_look (requests.Preview call) held files refusal look none = none
clash_look (requests.Recover skip_moved) held files refusal look none = none
clash_look requests.Log held files refusal look none = none
clash_look (requests.Show number) held files refusal look none = none

folder_look : (request : Request) (held : State) (before after : Files) → IsReading request → after ≡ before
    → KeepsFolder request held before after
folder_look (requests.Make call when) held before after look same = absurd look
folder_look (requests.Forget steps) held before after look same = absurd look
folder_look (requests.Preview call) held before after look same = same
folder_look (requests.Recover skip_moved) held before after look same = same
folder_look requests.Log held before after look same = same
folder_look (requests.Show number) held before after look same = same

unchanged_look : (request : Request) (answer : Result Response Refusal) (before after : Files) → IsReading request
    → after ≡ before → StaysEarly request answer before after
unchanged_look (requests.Make call when) answer before after look same = tt
unchanged_look request (Ok reply) before after look same = tt
unchanged_look request (Err refusal) before after look same = λ early. same

-- a look that isn't a log fails early
pub fails_early : (request : Request) → ((refusal : Refusal) → IsEarly refusal → IfFailed (MayFail request) refusal)
    → {A : Type 0} (answer : Result A Refusal) → IfErr answer IsEarly → IfErr answer (IfFailed (MayFail request))
fails_early request may (Ok value) early = tt
fails_early request may (Err refusal) early = may refusal early

pub preview_fails : (call : Call) (refusal : Refusal) → IsEarly refusal
    → IfFailed (MayFail (requests.Preview call)) refusal
preview_fails call (Failed (Interrupted cause)) early = early
preview_fails call (Failed (Fault fault)) early = tt
preview_fails call (Failed Memory) early = tt
preview_fails call refusal early = tt

pub show_fails : (number : ℕ) (refusal : Refusal) → IsEarly refusal → IfFailed (MayFail (requests.Show number)) refusal
show_fails number (Failed (Interrupted cause)) early = early
show_fails number (Failed (Fault fault)) early = tt
show_fails number (Failed Memory) early = tt
show_fails number refusal early = tt

-- a log fails for an allocation failure alone, and answers its rows
pub log_fails : (answer : Result (List Row) Refusal) → IfErr answer IsBrokenOrMemory
    → IfErr answer (IfFailed (MayFail requests.Log))
log_fails (Ok rows) is = tt
log_fails (Err Broken) is = tt
log_fails (Err (Failed Memory)) is = tt
log_fails (Err refusal) is = absurd is

pub log_leads : {S : Type 0} (files : S → Files) (session : Session S) (held : State)
    (answer : Result (List Row) Refusal) → SimulatesState files session held
    → (answer ≡ Err Broken → is_broken session ≡ true)
    → IfOk answer (λ rows. rows ≡ rows_in held.journal) → IfErr answer IsBrokenOrMemory → DidNotFail answer
    → LeadsTo requests.Log held (as_answer responses.Log answer) held
log_leads files session held (Ok rows) stands broken is kinds reported =
    (ap (λ (rs : List Row). Ok (responses.Log rs)) is, refl)
log_leads files session held (Err Broken) stands broken is kinds reported =
    absurd (false≢true (sym stands.whole ∙ broken refl))
log_leads files session held (Err (Failed Memory)) stands broken is kinds reported = absurd reported
log_leads files session held (Err refusal) stands broken is kinds reported = absurd kinds

-- of an open session a recovery is refused only once that was interrupted, and else answers that nothing was pending
pub broken_alone : {A : Type 0} (answer : Result A Refusal) → IfErr answer (λ refusal. refusal ≡ Broken)
    → IfErr answer IsBrokenOrMemory
broken_alone (Ok value) is = tt
broken_alone (Err refusal) is = subst IsBrokenOrMemory (sym is) tt

pub recover_fails : (skip_moved : Bool) (answer : Result Recovered Refusal) → IfErr answer (λ refusal. refusal ≡ Broken)
    → IfErr answer (IfFailed (MayFail (requests.Recover skip_moved)))
recover_fails skip_moved (Ok recovered) is = tt
recover_fails skip_moved (Err refusal) is = subst (IfFailed (MayFail (requests.Recover skip_moved))) (sym is) tt

pub recover_leads : {S : Type 0} (files : S → Files) (session : Session S) (held : State) (skip_moved : Bool)
    (answer : Result Recovered Refusal) → SimulatesState files session held
    → (answer ≡ Err Broken → is_broken session ≡ true)
    → IfOk answer (λ recovered. recovered ≡ nothing_recovered) → IfErr answer (λ refusal. refusal ≡ Broken)
    → LeadsTo (requests.Recover skip_moved) held (as_answer responses.Recovered answer) held
recover_leads files session held skip_moved (Ok recovered) stands broken is kinds =
    (ap (λ r. Ok (responses.Recovered r)) is, refl)
recover_leads files session held skip_moved (Err refusal) stands broken is kinds =
    absurd (false≢true (sym stands.whole ∙ broken (ap (λ r. Err r) kinds)))

module _ {S A : Type 0} (store : Ghosts S) (request : Request) (look : IsReading request) (reply : A → Response)
    (answer : Result A Refusal) (old new : Session S) (reads_with_cause : ReadsOnlyWithCause store answer old new)
    (broken : answer ≡ Err Broken ↔ (is_broken old ≡ true)) (fails : IfErr answer (IfFailed (MayFail request)))
    (exact : store.honest (store_of new) → (held : State) → SimulatesState store.files old held → DidNotFail answer
    → LeadsTo request held (as_answer reply answer) held)
  where
    early_stands : (answer : Result Response Refusal) (held : State) → SimulatesState store.files new held
        → IfErr answer (λ refusal. IsEarly refusal → SimulatesState store.files new held)
    early_stands (Ok value) held stands = tt
    early_stands (Err refusal) held stands = λ early. stands

    no_stop : (P : Type 0) (answer : Result A Refusal) → IfErr answer IsEarly
        → IfErr (as_answer reply answer) (λ refusal. IsStop refusal → P)
    no_stop P (Ok value) early = tt
    no_stop P (Err (Failed (Interrupted cause))) early = absurd early
    no_stop P (Err refusal) early = λ stop. absurd stop

    clashes : (held : State) (answer : Result A Refusal) → IfErr answer IsNoClash
        → IfErr (as_answer reply answer) (HasCallClash request held (files_of store old))
    clashes held (Ok value) none = tt
    clashes held (Err refusal) none = clash_look request held (files_of store old) refusal look none

    pub answered_look : IsAnswered store request (as_answer reply answer) old new
    answered_look = record {
      broken = broken_as_answer reply answer _ broken;
      exact = λ honest held stands reported. (
        held,
        still_stands store answer old new held reads_with_cause honest stands,
        exact honest held stands (reported_as_answer reply answer reported),
      );
      stands = λ honest held stands. early_stands (as_answer reply answer) held
          (still_stands store answer old new held reads_with_cause honest stands);
      unchanged = λ honest. unchanged_look request (as_answer reply answer) (files_of store old)
          (files_of store new) look (reads_with_cause.reads.files honest);
      doubt = λ honest held stands. no_stop _ answer reads_with_cause.unstopped;
      fails = err_as_answer reply answer _ fails;
      survives = λ honest earlier held stands safe. safe_look store request earlier held (as_answer reply answer)
          (store_of new) look
          (reads_are_safe store earlier held (store_of old) (store_of new) reads_with_cause.reads safe);
      reads_only = λ is. reads_with_cause.reads;
      kept = λ is. reads_with_cause.kept;
      clash =
          λ honest held stands. clashes held answer (read_only_unclashed store answer old new reads_with_cause honest);
      unclashed = λ honest held stands free. err_as_answer reply answer IsNoClash
          (read_only_unclashed store answer old new reads_with_cause honest);
      free = λ honest free. subst (λ (f : Files). IsFree (undo_folder_of f))
          (sym (reads_with_cause.reads.files honest)) free;
      folder = λ honest held stands. folder_look request held (files_of store old) (files_of store new) look
          (reads_with_cause.reads.files honest);
      call = call_as_answer store reply answer old new (read_only_call store answer old new reads_with_cause);
    }

-- ---- a run

pub make_fails : {A : Type 0} (call : Call) (when : ℕ) (answer : Result A Refusal)
    → IfErr answer (IfFailed (MayFail (requests.Make call when)))
make_fails call when (Ok value) = tt
make_fails call when (Err (Failed failure)) = tt
make_fails call when (Err refusal) = tt

-- its answer is a step as it is
pub run_is_step : (answer : Result Response Refusal) → IsRunAnswer answer → as_step answer ≡ answer
run_is_step (Ok (responses.Reverted reverted)) is = absurd is
run_is_step (Ok reply) is = refl
run_is_step (Err refusal) is = refl

-- ---- a revert

-- its answer is a step as that of its run
pub revert_is_step : (answer : Result Reverted Refusal) → as_step (as_answer responses.Reverted answer) ≡ as_run answer
revert_is_step (Ok reverted) = refl
revert_is_step (Err refusal) = refl

-- refused after readings alone, or as a run of the command that takes back what an entry says
abbrev ReadAlone : {S : Type 0} → Ghosts S → Result Reverted Refusal → Session S → Session S → Type 0
ReadAlone store result old new = (refusal : Refusal) × (result ≡ Err refusal) × IsEarly refusal
    × OnlyReads store (store_of old) (store_of new) × RefusedAsRead store (store_of old) (store_of new) result

abbrev RunBack : {S : Type 0} → Ghosts S → ℕ → Bool → ℕ → Result Reverted Refusal → Session S → Session S → Type 0
RunBack store number skip_moved when result old new =
    (entry : Entry) × (store.honest (store_of new) → EntrySays (get (folder_of store old) (entry_path number)) entry)
    × (touched : List (List ℕ))
    × (store.honest (store_of new) → (held : State) → SimulatesState store.files old held
    → touched ≡ touched_later number held.journal.done entry.changes)
    × LeavesRun store (Revert entry.changes touched skip_moved) when (as_run result) old new

-- an answer that isn't that of an absent step is of a step that is done
is_listed : {S : Type 0} (number : ℕ) (old : Session S) (answer : Result Reverted Refusal) → is_broken old ≡ false
    → ((is_broken old ≡ false) × (lists (memory_of old).done number ≡ false) → answer ≡ Err (NoSuchStep number))
    → ¬ (answer ≡ Err (NoSuchStep number)) → lists (memory_of old).done number ≡ true
is_listed number old answer whole absent other = by_test (lists (memory_of old).done number) refl
  where
    by_test : (b : Bool) → lists (memory_of old).done number ≡ b → lists (memory_of old).done number ≡ true
    by_test true e = e
    by_test false e = absurd (other (absent (whole, e)))

-- the step that an entry of the number says, where one is listed as done
listed_step : {S : Type 0} (files : S → Files) (session : Session S) (held : State) → SimulatesState files session held
    → (number : ℕ) → lists (memory_of session).done number ≡ true → (entry : Entry)
    → EntrySays (get (undo_folder_of (files (store_of session))) (entry_path number)) entry
    → (step : Recorded) × Contains held.journal.done step × (number_of step ≡ number) × (entry.changes ≡ step.changes)
listed_step files session held stands number listed entry says =
    let at = done_step (memory_of session) held.journal number stands.remembers listed in
    let is = says_step
    (undo_folder_of (files (store_of session))) held.journal stands.committed.journal true at.0 number at.1 at.2 in
    (at.0, at.1, at.2, ap (λ (e : Entry). e.changes) (same_entry _ entry (entry_in at.0) says is))

is_no_absence : (cause : Cause) (number : ℕ)
    → refused Reverted (Failed (Interrupted cause)) ≡ refused Reverted (NoSuchStep number) → ⊥
is_no_absence cause number is = cc

no_early_stop : (cause : Cause) (refusal : Refusal)
    → refused Reverted (Failed (Interrupted cause)) ≡ refused Reverted refusal → IsEarly refusal → ⊥
no_early_stop cause refusal is early =
    subst IsEarly (sym (same_refusal Reverted (Failed (Interrupted cause)) refusal is)) early

module _ {S : Type 0} (store : Ghosts S) (number : ℕ) (skip_moved : Bool) (when : ℕ) (old new : Session S) where
  -- where a run of the command that takes the step back stopped, the next state is that after the revert
  after_revert : (held : State) (left : Files) (step : Recorded) → Contains held.journal.done step
      → number_of step ≡ number
      → StopsAfterRun
      (Revert step.changes (touched_later number held.journal.done step.changes) skip_moved) when held left
      → (second : State) × IsAfterRevert number skip_moved when held second × BetweenStates held second left
  after_revert held left step is_done numbered stopped = (stopped.0, (step, is_done, numbered, stopped.1), stopped.2)

  pub revert_stands : (answer : Result Reverted Refusal) (held : State) → store.honest (store_of new)
      → SimulatesState store.files old held → LeavesRevert store number skip_moved when answer old new
      → IfErr answer (λ refusal. IsEarly refusal → IsKept old new)
      → IfErr (as_answer responses.Reverted answer) (λ refusal. IsEarly refusal → SimulatesState store.files new held)
  revert_stands (Ok reverted) held honest stands leaves kept = tt
  revert_stands (Err refusal) held honest stands leaves kept = λ early.
      ⊎_elim (λ (read : ReadAlone store (Err refusal) old new).
      record {
        whole = (kept early).1 ∙ stands.whole;
        committed = subst (λ f. IsCommittedState f held) (sym (read.3.files honest)) stands.committed;
        remembers = subst (λ m. Remembers m held.journal) (sym (kept early).0) stands.remembers;
      })
      (λ (run : RunBack store number skip_moved when (Err refusal) old new).
      run.4.stands honest held stands early) leaves

  pub revert_doubt : (answer : Result Reverted Refusal) (held : State) → store.honest (store_of new)
      → SimulatesState store.files old held
      → ((is_broken old ≡ false) × (lists (memory_of old).done number ≡ false) → answer ≡ Err (NoSuchStep number))
      → LeavesRevert store number skip_moved when answer old new
      → IfErr (as_answer responses.Reverted answer) (λ refusal. IsStop refusal → (second : State)
      × IsAfterRevert number skip_moved when held second × BetweenStates held second (files_of store new))
  revert_doubt (Ok reverted) held honest stands absent leaves = tt
  revert_doubt (Err (Failed (Interrupted cause))) held honest stands absent leaves = λ stop.
      ⊎_elim (λ (read : ReadAlone store (Err (Failed (Interrupted cause))) old new). absurd
      (no_early_stop cause read.0 read.1 read.2))
      (λ (run : RunBack store number skip_moved when (Err (Failed (Interrupted cause))) old new).
      let listed =
      is_listed number old (Err (Failed (Interrupted cause))) stands.whole absent (is_no_absence cause number) in
      let step = listed_step store.files old held stands number listed run.0 (run.1 honest) in
      let Stops = (λ (cs : List Change) (late : List (List ℕ)). StopsAfterRun (Revert cs late skip_moved) when held
      (store.files (store_of new))) in
      after_revert held (files_of store new) step.0 step.1 step.2
      (subst (λ cs. Stops cs (touched_later number held.journal.done cs)) step.3
      (subst (Stops run.0.changes) (run.3 honest held stands) (run.4.doubt honest held stands tt)))) leaves
  revert_doubt (Err refusal) held honest stands absent leaves = λ stop. absurd stop

  -- a clash that a revert reports is that of the path that is put
  pub revert_clash : (answer : Result Reverted Refusal) → store.honest (store_of new)
      → LeavesRevert store number skip_moved when answer old new
      → IfErr (as_answer responses.Reverted answer) (HasClash
      (Clashes (files_of store old) (entry_path ((memory_of old).used + 1))) (Clashes (files_of store old) head_path))
  revert_clash (Ok reverted) honest leaves = tt
  revert_clash (Err refusal) honest leaves =
      ⊎_elim (λ (read : ReadAlone store (Err refusal) old new).
      no_clash_of _ _ refusal (unclashed_read refusal (λ is. read.4.clash honest (ap (λ r. Err r) is))
      (let same : read.0 ≡ refusal = sym (same_refusal Reverted refusal read.0 read.1) in subst IsEarly same read.2)))
      (λ (run : RunBack store number skip_moved when (Err refusal) old new). run.4.clash honest) leaves
    where
      no_clash_of : (entry head : Type 0) (refusal : Refusal) → IsNoClash refusal → HasClash entry head refusal
      no_clash_of entry head (Failed (Fault stores.Clash)) none = absurd none
      no_clash_of entry head (Failed (Interrupted causes.Clash)) none = absurd none
      no_clash_of entry head (Failed (Interrupted causes.Moved)) none = none
      no_clash_of entry head refusal none = tt

  -- and of the journal's files it puts none but that of the next entry and the head
  pub revert_folder : (answer : Result Reverted Refusal) → store.honest (store_of new)
      → LeavesRevert store number skip_moved when answer old new
      → IsSameButTwo (entry_path ((memory_of old).used + 1)) head_path (folder_of store old) (folder_of store new)
  revert_folder answer honest leaves =
      ⊎_elim (λ (read : ReadAlone store answer old new). λ other no_entry no_head. ap
      (λ f. get (undo_folder_of f) other) (read.3.files honest))
      (λ (run : RunBack store number skip_moved when answer old new). run.4.folder honest) leaves

  pub revert_free : (answer : Result Reverted Refusal) → store.honest (store_of new)
      → LeavesRevert store number skip_moved when answer old new → IsFree (folder_of store old)
      → IsFree (folder_of store new)
  revert_free answer honest leaves free =
      ⊎_elim (λ (read : ReadAlone store answer old new). subst (λ (f : Files). IsFree (undo_folder_of f))
      (sym (read.3.files honest)) free)
      (λ (run : RunBack store number skip_moved when answer old new). run.4.free honest free) leaves
