-- When a folder is honest: its answers are those of a folder that nobody else writes and that gives back what was
-- written.
use Rattle.std.specs.Prelude.{◌≡◌, ◌≢◌, ◌⊎◌, ℕ, Bool, true, false, IsTrue, List, [], ◌∷◌, Result, Ok, Err, MatchResult}
use Rattle.std.specs.Prelude.{if◌then◌else◌, cond, refl}
use Rattle.std.specs.List.{Contains}
use Rattle.std.specs.FinMap.{get, insert, remove}
use Rattle.reuse_store.specs.Calls.{Call}
use Rattle.reuse_store.specs.Calls.Call.{ListCall, ReadCall, PutCall, RemoveCall, SyncCall}
use Rattle.reuse_change.specs.Files.{Files, Clashes, AreFiles}
use Rattle.reuse_store.specs.Durable.{DurableAfterBarrier}
use Rattle.reuse_change.specs.Listing.{is_among, listed_paths}
use Rattle.reuse_change.specs.Path.{is_path}
use Rattle.std.proofs.Common.{inl, inr}
use Rattle.reuse_store.specs.Store.{reading_of}
use Rattle.reuse_store.specs.declared.fault.StoreFault.{StoreFault}
use Rattle.reuse_store.specs.declared.fault.StoreFault.TheVariants.{Device, Clash, Memory}

-- whether a put or a removal took effect: a good answer says so, a clash that it didn't, and of another fault it is
-- left open
abbrev pub has_effect : Result (Unit {0}) StoreFault → Bool → Bool
has_effect (Ok done) took = true
has_effect (Err Clash) took = false
has_effect (Err Device) took = took
has_effect (Err Memory) took = took

-- the files after a call
abbrev pub files_after : Files → Call → Files
files_after files (ListCall folders pruned answer) = files
files_after files (ReadCall path limit answer) = files
files_after files (PutCall path bytes answer took) = if has_effect answer took then insert files path bytes else files
files_after files (RemoveCall path answer took) = if has_effect answer took then remove files path else files
files_after files (SyncCall changes answer) = files

-- the files after these calls, the newest first
abbrev pub files_of : Files → List Call → Files
files_of start [] = start
files_of start (call ∷ calls) = files_after (files_of start calls) call

-- a file can be made at the path
pub record HasRoom (files : Files) (path : List ℕ) : Type 0 where
  pub is_good : IsTrue (is_path path)
  pub is_free : ¬ (Clashes files path)

-- a folder that holds these files may answer a put so
abbrev pub MayAnswerPut : Files → List ℕ → Result (Unit {0}) StoreFault → Bool → Type 0
MayAnswerPut files path (Ok done) took = HasRoom files path
MayAnswerPut files path (Err Clash) took = Clashes files path
MayAnswerPut files path (Err Device) took = IsTrue took → HasRoom files path
MayAnswerPut files path (Err Memory) took = IsTrue took → HasRoom files path

-- a folder that holds these files may answer the call so
abbrev pub MayAnswer : Files → Call → Type 0
MayAnswer files (ListCall folders pruned answer) =
    MatchResult answer (λ paths. paths ≡ listed_paths files folders (is_among pruned)) (λ fault. fault ≢ Clash)
MayAnswer files (ReadCall path limit answer) =
    MatchResult answer (λ reading. reading ≡ reading_of (get files path) limit) (λ fault. fault ≢ Clash)
MayAnswer files (PutCall path bytes answer took) = MayAnswerPut files path answer took
MayAnswer files (RemoveCall path answer took) = answer ≢ Err Clash
MayAnswer files (SyncCall changes answer) = answer ≢ Err Clash

-- the files at the start are files, and each call was answered as a folder that holds the files of its moment may
abbrev pub IsHonest : Files → List Call → Type 0
IsHonest start [] = AreFiles start
IsHonest start (call ∷ calls) = MayAnswer (files_of start calls) call × IsHonest start calls

-- What a loss of power may leave after these calls, the newest first: at the start the files, or one of what else might
-- be left then. Behind a put or a removal it is what might be left before, with it or without, whatever was answered;
-- behind a barrier that succeeded it is one of what might be left before, and certain where that says so.
abbrev pub IsCrashState : Files → List Files → List Call → Files → Type 0
IsCrashState start initial_crash_states [] left = (left ≡ start) ⊎ Contains initial_crash_states left
IsCrashState start initial_crash_states (ListCall folders pruned answer ∷ calls) left =
    IsCrashState start initial_crash_states calls left
IsCrashState start initial_crash_states (ReadCall path limit answer ∷ calls) left =
    IsCrashState start initial_crash_states calls left
IsCrashState start initial_crash_states (PutCall path bytes answer took ∷ calls) left =
    IsCrashState start initial_crash_states calls left
    ⊎ ((kept : Files) × IsCrashState start initial_crash_states calls kept × (left ≡ insert kept path bytes))
IsCrashState start initial_crash_states (RemoveCall path answer took ∷ calls) left =
    IsCrashState start initial_crash_states calls left
    ⊎ ((kept : Files) × IsCrashState start initial_crash_states calls kept × (left ≡ remove kept path))
IsCrashState start initial_crash_states (SyncCall changes (Ok done) ∷ calls) left =
    IsCrashState start initial_crash_states calls left × DurableAfterBarrier changes (files_of start calls) left left
IsCrashState start initial_crash_states (SyncCall changes (Err fault) ∷ calls) left =
    IsCrashState start initial_crash_states calls left

-- what is there may be left
put_may : (start : Files) (initial_crash_states : List Files) (calls : List Call) (path bytes : List ℕ)
    (answer : Result (Unit {0}) StoreFault) (took effect : Bool)
    → IsCrashState start initial_crash_states calls (files_of start calls)
    → IsCrashState start initial_crash_states (PutCall path bytes answer took ∷ calls)
    (cond effect (insert (files_of start calls) path bytes) (files_of start calls))
put_may start initial_crash_states calls path bytes answer took true may = inr (files_of start calls, may, refl)
put_may start initial_crash_states calls path bytes answer took false may = inl may

removal_may : (start : Files) (initial_crash_states : List Files) (calls : List Call) (path : List ℕ)
    (answer : Result (Unit {0}) StoreFault) (took effect : Bool)
    → IsCrashState start initial_crash_states calls (files_of start calls)
    → IsCrashState start initial_crash_states (RemoveCall path answer took ∷ calls)
    (cond effect (remove (files_of start calls) path) (files_of start calls))
removal_may start initial_crash_states calls path answer took true may = inr (files_of start calls, may, refl)
removal_may start initial_crash_states calls path answer took false may = inl may

pub files_are_a_crash_state : (start : Files) (initial_crash_states : List Files) (calls : List Call)
    → IsCrashState start initial_crash_states calls (files_of start calls)
files_are_a_crash_state start initial_crash_states [] = inl refl
files_are_a_crash_state start initial_crash_states (ListCall folders pruned answer ∷ calls) =
    files_are_a_crash_state start initial_crash_states calls
files_are_a_crash_state start initial_crash_states (ReadCall path limit answer ∷ calls) =
    files_are_a_crash_state start initial_crash_states calls
files_are_a_crash_state start initial_crash_states (PutCall path bytes answer took ∷ calls) =
    put_may start initial_crash_states calls path bytes answer took (has_effect answer took)
    (files_are_a_crash_state start initial_crash_states calls)
files_are_a_crash_state start initial_crash_states (RemoveCall path answer took ∷ calls) =
    removal_may start initial_crash_states calls path answer took (has_effect answer took)
    (files_are_a_crash_state start initial_crash_states calls)
files_are_a_crash_state start initial_crash_states (SyncCall changes (Ok done) ∷ calls) = (
  files_are_a_crash_state start initial_crash_states calls,
  record { folder = refl; here = λ path touched. refl; others = λ path none. inl refl },
)
files_are_a_crash_state start initial_crash_states (SyncCall changes (Err fault) ∷ calls) =
    files_are_a_crash_state start initial_crash_states calls
