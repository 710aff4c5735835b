-- What a line does: it locks and opens the folder that it names, and carries its one request out there.
use Rattle.std.specs.Prelude.{◌≡◌, ◌⊎◌, ℕ, Bool, false, true, List, Option, None, Some, Result, Ok, Err, string_bytes}
use Rattle.std.specs.declared.alloc.Global.{Global}
use Rattle.std.specs.declared.vec.Vec.{Vec}
use Rattle.std.specs.List.{Contains}
use Rattle.reuse_change.specs.Files.{AreFiles}
use Rattle.reuse_change.specs.Layout.{journal_folder}
use Rattle.reuse_store.specs.Asked.{Leaves}
use Rattle.reuse_store.specs.Calls.{Start}
use Rattle.reuse_store.specs.declared.store.Store.{Ghosts}
use Rattle.reuse_command.specs.declared.command.Command.TheVariants.{AddStyles}
use Rattle.reuse_command.specs.declared.failure.Failure.TheVariants.{Memory}
use Rattle.reuse_command.specs.declared.licence.LicenceText.{LicenceText}
use Rattle.reuse_command.specs.declared.reply.Refusal.{Refusal}
use Rattle.reuse_command.specs.declared.reply.Refusal.TheVariants.{Failed}
use Rattle.reuse_command.specs.declared.request.Call.TheVariants.{Run}
use Rattle.reuse_command.specs.declared.request.Request.{Request}
use Rattle.reuse_ready.specs.Needed.{additions_of}
use Rattle.reuse_ready.specs.declared.name_count.NameCount.{NameCount}
use Rattle.reuse_ready.specs.declared.additions.StyleAdditions.{StyleAdditions}
use Rattle.reuse_arguments.specs.Requests.{made_or_seen, with_texts}
use Rattle.reuse_arguments.specs.declared.line.Line.{Line}
use Rattle.reuse_arguments.specs.declared.line.NamesUse.{NamesUse}
use Rattle.reuse_arguments.specs.declared.line.NamesUse.TheVariants.{Added, Listed}
use Rattle.reuse_arguments.specs.declared.line.PrintOptions.{PrintOptions}
use Rattle.reuse_arguments.specs.declared.settings.Settings.{Settings}
use Rattle.reuse_lock.specs.Locks.{calls_of, AreOpen, IsLocked}
use Rattle.reuse_lock.specs.declared.RootLock.{RootLock}
use Rattle.reuse_disk.specs.Noted.{IsNoted}
use Rattle.reuse_disk.specs.declared.syncs.Unsynced.{Unsynced}
use Rattle.reuse_system.specs.declared.owner.OwnerChange.{OwnerChange}
use Rattle.reuse_print.specs.declared.fault.Fault.{Fault}
use Rattle.reuse_print.specs.declared.fault.Fault.TheVariants as faults
use Rattle.reuse_print.specs.declared.output.Sink as sinks
use Rattle.reuse_report.specs.declared.access_refusal.AccessRefusal.{AccessRefusal}
use Rattle.reuse_report.specs.declared.access_refusal.AccessRefusal.TheVariants.{JournalOfAnother}
use Rattle.reuse_undo.specs.declared.run.locked.RunOptions.{RunOptions}
use Rattle.reuse_report.specs.Endings.{result_of}
use Rattle.reuse_report.specs.declared.run_result.RunResult.{RunResult}
use Rattle.reuse_undo.specs.run.FoundNames.{FindsNames}
use Rattle.reuse_undo.specs.run.OneCall.{AnswersOnce, EndsOnce, Stays, StaysThenLooks}

-- ---- what is asked for

-- the names without a style were found, once
pub record FindsOnce {S : Type 0} (store : Ghosts S) (noted : S → Unsynced) (request : Request) (old new : S)
    (found : Result (Vec NameCount Global) Refusal) : Type 0 where
  pub begun : S
  pub left : S
  pub goes : Stays store noted old begun
  pub finds : FindsNames store request begun left found
  pub comes_back : Stays store noted left new

-- what is ready for the names that were found; or the refusal of the finding, or an allocation failure
abbrev pub AreAdditionsFor : Result (Vec NameCount Global) Refusal → Result StyleAdditions Refusal → Type 0
AreAdditionsFor (Ok rows) (Ok additions) = additions ≡ additions_of rows.items
AreAdditionsFor (Ok rows) (Err refusal) = refusal ≡ Failed Memory
AreAdditionsFor (Err refused) additions = additions ≡ Err refused

-- to add them; or the request is refused
abbrev pub IsToAdd : ℕ → Bool → Request → Result StyleAdditions Refusal → Request → Option Refusal → Type 0
IsToAdd when dry_run request (Ok additions) asked refusal =
    (asked ≡ made_or_seen (Run (AddStyles additions)) when dry_run) × (refusal ≡ None)
IsToAdd when dry_run request (Err refused) asked refusal = (asked ≡ request) × (refusal ≡ Some refused)

-- what a session is to be asked for, or why nothing: the request, or where ready styles are added, to add them for the
-- names that the request finds
abbrev pub IsAsked : {S : Type 0} → Ghosts S → (noted : S → Unsynced) → NamesUse → Request → S → S → Request
    → Option Refusal → Type 0
IsAsked store noted (Added when dry_run) request old new asked refusal =
    (found : Result (Vec NameCount Global) Refusal) × FindsOnce store noted request old new found
    × (additions : Result StyleAdditions Refusal) × AreAdditionsFor found additions
    × IsToAdd when dry_run request additions asked refusal
IsAsked store noted names request old new asked refusal = (new ≡ old) × (asked ≡ request) × (refusal ≡ None)

abbrev pub is_listing : NamesUse → Bool
is_listing Listed = true
is_listing names = false

-- it is refused, and nothing is asked for; or it is carried out once
abbrev pub IsAnsweredSo : {S O : Type 0} → Ghosts S → sinks.Ghosts O → (noted : S → Unsynced) → NamesUse
    → PrintOptions → Option Refusal → Request → S → S → Result (Result ℕ Fault) AccessRefusal → Type 0
IsAnsweredSo store sink noted names options (Some refusal) asked old new ending =
    (new ≡ old) × (ending ≡ Ok (Err (faults.Refused refusal)))
IsAnsweredSo store sink noted names options None asked old new ending =
    EndsOnce store (AnswersOnce store sink noted (is_listing names) asked options) noted asked old new ending

-- The request of a line was answered, as what was asked for in the end.
pub record AnswersLine {S O : Type 0} (store : Ghosts S) (sink : sinks.Ghosts O) (noted : S → Unsynced)
    (names : NamesUse) (options : PrintOptions) (request : Request) (old new : S) (asked : Request)
    (ending : Result (Result ℕ Fault) AccessRefusal) : Type 0 where
  pub ready : S
  pub refusal : Option Refusal
  pub asks : IsAsked store noted names request old ready asked refusal
  pub answers : IsAnsweredSo store sink noted names options refusal asked ready new ending

-- ---- on which folder

-- what a store works with, as it was opened: the path of its root, what is to be synced, and whether files may lose
-- their owners
pub record OpenedStore : Type 0 where
  pub root : List ℕ
  pub unsynced : Unsynced
  pub owner_change : OwnerChange

-- The root was locked, and a store of it was opened. It syncs and keeps owners as the settings say; what is noted then
-- is the journal's folder.
pub record OpensFolder (root : List ℕ) (settings : Settings) (opened : OpenedStore) : Type 0 where
  pub lock : RootLock
  pub is_of_root : string_bytes lock.root ≡ root
  pub is_locked : IsLocked root (calls_of lock.held)
  pub is_held : AreOpen lock.held
  pub is_at_root : opened.root ≡ root
  pub syncs : opened.unsynced.syncs ≡ settings.syncs
  pub owners : opened.owner_change ≡ settings.owner_change
  pub noted : IsNoted opened.unsynced journal_folder

-- The store holds the files of the start, and is honest if these are files. A loss of power leaves no more of it than
-- what might be left then.
pub record HoldsStart {S : Type 0} (store : Ghosts S) (start : Start) (folder : S) : Type 0 where
  pub files : store.files folder ≡ start.files
  pub honest : AreFiles start.files → store.honest folder
  pub lost : Leaves store folder (λ left. (left ≡ start.files) ⊎ Contains start.initial_crash_states left)

-- how the answer is printed
abbrev pub options_of : Line → RunOptions → PrintOptions
options_of line run_options = record { format = line.format; names = run_options.names }

-- The request of the line was carried out, with these texts, on the folder as it was, and beside that it was only
-- looked at.
pub record WorksOn {S O : Type 0} (store : Ghosts S) (sink : sinks.Ghosts O) (noted : S → Unsynced) (line : Line)
    (run_options : RunOptions) (texts : List LicenceText) (old new : S) (result : RunResult) : Type 0 where
  pub begun : S
  pub left : S
  pub asked : Request
  pub stays : Stays store noted old begun
  pub answers : AnswersLine store sink noted line.names (options_of line run_options)
      (with_texts texts line.request) begun left asked result.ending
  pub looks : StaysThenLooks store noted left new

-- the journal isn't trusted, and is another user's: nothing was carried out
abbrev pub IsDenied : {S : Type 0} → Ghosts S → (noted : S → Unsynced) → Settings → (old new : S) → RunResult → Type 0
IsDenied store noted settings old new result = (settings.trusts_journal ≡ false) × Stays store noted old new
    × (result ≡ result_of (Err JournalOfAnother))

-- so it was, or it was denied
abbrev pub WorksUnlessDenied : {S O : Type 0} → Ghosts S → sinks.Ghosts O → (noted : S → Unsynced) → Line
    → RunOptions → List LicenceText → (old new : S) → RunResult → Type 0
WorksUnlessDenied store sink noted line run_options texts old new result =
    IsDenied store noted run_options.settings old new result
    ⊎ WorksOn store sink noted line run_options texts old new result

-- another run works on the tree, or memory ran out: no folder was opened
abbrev pub IsNotBegun : RunResult → Type 0
IsNotBegun result = (fault : Fault) × ((fault ≡ faults.InUse) ⊎ (fault ≡ faults.Memory))
    × (result ≡ result_of (Ok (Err fault)))

-- The folder that the line names was locked and opened, and the line carried out there, with texts that were found for
-- it. The folder's files are those of the start.
pub record RunsOnFolder {S O : Type 0} (store : Ghosts S) (sink : sinks.Ghosts O) (noted : S → Unsynced)
    (opened : S → OpenedStore) (start : Start) (line : Line) (run_options : RunOptions)
    (result : RunResult) : Type 0 where
  pub folder : S
  pub texts : List LicenceText
  pub end : S
  pub opens : OpensFolder (string_bytes line.root) run_options.settings (opened folder)
  pub holds : HoldsStart store start folder
  pub works : WorksUnlessDenied store sink noted line run_options texts folder end result

abbrev pub RunsLine : {S O : Type 0} → Ghosts S → sinks.Ghosts O → (noted : S → Unsynced)
    → (opened : S → OpenedStore) → Start → Line → RunOptions → RunResult → Type 0
RunsLine store sink noted opened start line run_options result =
    IsNotBegun result ⊎ RunsOnFolder store sink noted opened start line run_options result
