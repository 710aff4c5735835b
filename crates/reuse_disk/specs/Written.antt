-- A file is written as a whole or not at all.
use Rattle.std.specs.Prelude.{◌≡◌, ◌≢◌, ◌⊎◌, ℕ, Bool, true, false, List, IsTrue, None, Result, Ok, Err}
use Rattle.reuse_system.specs.FileStates.{FileKey, Place, FileState, Holds, file, IsNot}
use Rattle.reuse_system.specs.SystemLaws.{IsAlike, IsOneFile, IsSynced}
use Rattle.reuse_system.specs.declared.syncs.Syncs.{Syncs}
use Rattle.reuse_system.specs.declared.syncs.Syncs.TheVariants.{Kept, LeftOut}

-- whether what is written is made durable
abbrev pub is_kept : Syncs → Bool
is_kept Kept = true
is_kept LeftOut = false

-- it was given its name
abbrev pub is_named : {E : Type 0} → Result Bool E → Bool
is_named (Ok named) = named
is_named (Err error) = false

-- the data of the file is synced, or nothing differs
abbrev pub IsSyncedIf : Bool → FileKey → FileState → FileState → Type 0
IsSyncedIf true key old new = IsSynced key old new
IsSyncedIf false key old new = IsAlike old new

-- this file stands at the place with these bytes, and nowhere else
pub record StandsAlone (place : Place) (key : FileKey) (bytes : List ℕ) (is_durable : Bool)
    (held : FileState) : Type 0 where
  pub here : held place ≡ file key bytes is_durable
  pub alone : (other : Place) → other ≢ place → IsNot key (held other)

-- the target leads to the file that it led to before, or to the one that stood at this place
abbrev pub IsMoved : (from target : Place) → FileState → FileState → Type 0
IsMoved from target old new = (new target ≡ old target) ⊎ (new target ≡ old from)

-- the target leads to the file that it led to before, or to one that stood at no other place than this
abbrev pub IsFresh : (from target : Place) → FileState → FileState → Type 0
IsFresh from target old new =
    (new target ≡ old target) ⊎ ((other : Place) → other ≢ from → ¬ (IsOneFile (new target) (old other)))

-- no new file is left: each of these places leads to the file that it led to before, or to none
abbrev pub LeavesNone : (IsTempFile : Place → Type 0) → FileState → FileState → Type 0
LeavesNone IsTempFile old new = (place : Place) → IsTempFile place → (new place ≡ old place) ⊎ (new place ≡ None)

-- Where it is done, the target has these bytes. Done or not, the target has them or what it had, if it is none of the
-- places where new files are written; and nothing differs but there and at the target.
pub record IsWritten (IsTempFile : Place → Type 0) (target : Place) (bytes : List ℕ) (is_durable : Bool)
    (old new : FileState) (is_done : Bool) : Type 0 where
  pub done : IsTrue is_done → Holds new target bytes is_durable
  pub whole : ¬ (IsTempFile target) → (new target ≡ old target) ⊎ Holds new target bytes is_durable
  pub others : (place : Place) → ¬ (IsTempFile place) → place ≢ target → new place ≡ old place

-- A file was written at a place of its own, and was to become the target from there. If it was done the target has
-- these bytes, and done or not, it has them or what it had. Nothing differs but there and at the target, and no file
-- that stood elsewhere came there. If all went well, the file has left its first place.
pub record IsPlaced (Honest : Type 0) (from target : Place) (bytes : List ℕ) (is_durable : Bool) (old new : FileState)
    (is_done is_well : Bool) : Type 0 where
  pub written : IsWritten (λ place. place ≡ from) target bytes is_durable old new is_done
  pub fresh : from ≢ target → IsFresh from target old new
  pub gone : Honest → from ≢ target → IsTrue is_well → new from ≡ None
