-- A call of the system by which a root is locked.
use Rattle.std.specs.Prelude.{ℕ, List, Option}
use Rattle.reuse_lock.specs.declared.record.LockMode.{LockMode}
use Rattle.reuse_lock.specs.declared.record.LockAnswer.{LockAnswer}

-- the system was asked where the root lies, and reported this absolute path, if any; or it was asked for the lock on
-- the folder at a path, to be held so, and answered this
pub data LockCall : Type 0 where
  PathCall : (root : List ℕ) (reported : Option (List ℕ)) → LockCall
  TryCall : (folder : List ℕ) (mode : LockMode) (answer : LockAnswer) → LockCall
