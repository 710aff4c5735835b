-- The locks that a run asks for, and what of them it holds.
use Rattle.std.specs.Prelude.{◌≡◌, ◌≢◌, ◌⊎◌, ℕ, ◌+◌, ◌<◌, List, [], ◌∷◌, ◌++◌, length, Option, IfSome, slice_index}
use Rattle.std.specs.Prelude.{Bool, true, false, Result, Ok, Err, is_some}
use Rattle.std.specs.List.{list_any}
use Rattle.std.specs.declared.fs.TryLockError.{TryLockError}
use Rattle.std.specs.declared.fs.TryLockError.TheVariants.{Error, WouldBlock}
use Rattle.reuse_lock.specs.declared.LockedFolders.{LockedFolders}
use Rattle.reuse_lock.specs.declared.record.LockMode.{LockMode}
use Rattle.reuse_lock.specs.declared.record.LockMode.TheVariants.{Exclusive, Shared}
use Rattle.reuse_lock.specs.declared.record.LockAnswer.{LockAnswer}
use Rattle.reuse_lock.specs.declared.record.LockAnswer.TheVariants.{Granted, HeldByAnother, NoLocks, NotOpened}
use Rattle.reuse_lock.specs.LockCall.{LockCall}
use Rattle.reuse_lock.specs.LockCall.LockCall.{PathCall, TryCall}

-- the call was made
abbrev pub WasAsked : LockCall → List LockCall → Type 0
WasAsked call [] = ⊥
WasAsked call (one ∷ calls) = (call ≡ one) ⊎ WasAsked call calls

-- the folder was asked for so, and the answer wasn't that another run holds it
abbrev pub IsGranted : List ℕ → LockMode → List LockCall → Type 0
IsGranted folder mode calls =
    (answer : LockAnswer) × (answer ≢ HeldByAnother) × WasAsked (TryCall folder mode answer) calls

-- the folder that such a front of an absolute path names, which is the root of the file system where it is empty
abbrev pub folder_of : List ℕ → List ℕ
folder_of [] = 47 ∷ []
folder_of (byte ∷ front) = byte ∷ front

-- a folder above this absolute path: one that a front of it names that a slash follows
abbrev pub IsAbove : List ℕ → List ℕ → Type 0
IsAbove path folder = (path ≢ 47 ∷ []) × (front : List ℕ) × (rest : List ℕ) × (path ≡ front ++ 47 ∷ rest)
    × (folder ≡ folder_of front)

-- The root is locked: the system was asked where it lies; each folder above what it reported was asked for, to be
-- shared with other runs, and the root, to be held by this one alone; and no other run held them.
pub record IsLocked (root : List ℕ) (calls : List LockCall) : Type 0 where
  pub reported : Option (List ℕ)
  pub asked : WasAsked (PathCall root reported) calls
  pub above : IfSome reported (λ path. (folder : List ℕ) → IsAbove path folder → IsGranted folder Shared calls)
  pub itself : IsGranted root Exclusive calls

-- what was asked for these
abbrev pub calls_of : LockedFolders → List LockCall
calls_of held = held.asked.calls

-- how many of the folders that were asked for could be opened and weren't held by another run
abbrev pub opened_in : List LockCall → ℕ
opened_in [] = 0
opened_in (TryCall folder mode Granted ∷ calls) = opened_in calls + 1
opened_in (TryCall folder mode NoLocks ∷ calls) = opened_in calls + 1
opened_in (call ∷ calls) = opened_in calls

-- as many are kept open, and so their locks are held
abbrev pub AreOpen : LockedFolders → Type 0
AreOpen held = length held.folders.items ≡ opened_in (calls_of held)

-- for a folder that was asked for there was no lock to be had at all
abbrev pub lacks_lock : List LockCall → Bool
lacks_lock [] = false
lacks_lock (TryCall folder mode NoLocks ∷ calls) = true
lacks_lock (call ∷ calls) = lacks_lock calls

-- why that was is known of an open folder, if there was such a one
abbrev pub AreExplained : LockedFolders → Type 0
AreExplained held = list_any (λ folder. is_some folder.error) held.folders.items ≡ lacks_lock (calls_of held)

-- ---- for private clauses

-- there is no lock to be had
abbrev pub has_no_lock : LockAnswer → Bool
has_no_lock NoLocks = true
has_no_lock Granted = false
has_no_lock HeldByAnother = false
has_no_lock NotOpened = false

-- the call failed, and not since another run holds the lock
abbrev pub has_error : Result (Unit {0}) TryLockError → Bool
has_error (Ok done) = false
has_error (Err WouldBlock) = false
has_error (Err (Error error)) = true

-- what was asked before was asked
abbrev pub AreKept : List LockCall → List LockCall → Type 0
AreKept before after = (call : LockCall) → WasAsked call before → WasAsked call after

-- no slash is among these bytes
abbrev pub HasNoSlash : List ℕ → Type 0
HasNoSlash text = (i : ℕ) → i < length text → slice_index text i ≢ 47

-- the text is cut at its last slash
abbrev pub IsCutAtLast : List ℕ → List ℕ → Type 0
IsCutAtLast text front = (rest : List ℕ) × (text ≡ front ++ 47 ∷ rest) × HasNoSlash rest

-- the folder that stands before each slash is locked
abbrev pub AreLockedAt : List ℕ → List LockCall → Type 0
AreLockedAt path calls = (front rest : List ℕ) → path ≡ front ++ 47 ∷ rest → IsGranted (folder_of front) Shared calls

-- where the system reported where the root lies, the folders above that are locked
abbrev pub AreLockedAbove : List ℕ → List LockCall → Type 0
AreLockedAbove root calls = (reported : Option (List ℕ)) × WasAsked (PathCall root reported) calls
    × IfSome reported (λ path. (folder : List ℕ) → IsAbove path folder → IsGranted folder Shared calls)
