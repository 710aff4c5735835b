-- A batch of changes: what their paths held, and the writes that make them.
use Rattle.std.specs.Prelude.{◌≡◌, ℕ, List, length, take, map, Option}
use Rattle.std.specs.FinMap.{get}
use Rattle.reuse_text.specs.declared.TheConstants.{LONGEST_FILE}
use Rattle.reuse_change.specs.Change.{path_of}
use Rattle.reuse_change.specs.Entry.{IsReady, AppliesBy}
use Rattle.reuse_change.specs.Files.{Files}
use Rattle.reuse_store.specs.Store.{reading_of}
use Rattle.reuse_store.specs.Apply.{held_in}
use Rattle.reuse_change.specs.declared.change.Change.{Change}
use Rattle.reuse_store.specs.declared.file_write.FileWrite.{FileWrite}
use Rattle.reuse_store.specs.declared.apply_changes.ReadChange.{ReadChange}
use Rattle.reuse_change.specs.declared.direction.Direction.{Direction}

-- these are the first of the changes
abbrev pub IsFrontOf : List Change → List ReadChange → Type 0
IsFrontOf changes batch = map (λ read. read.change.now) batch ≡ take (length batch) changes

-- it was read in these files
abbrev pub IsReadIn : Files → ReadChange → Type 0
IsReadIn files read = read.reading ≡ reading_of (get files (path_of read.change.now)) LONGEST_FILE

-- a file was read of which the change can be made this way
abbrev pub IsReadReady : Direction → ReadChange → Type 0
IsReadReady direction read =
    (file : Option (List ℕ)) × (read.reading ≡ reading_of file LONGEST_FILE) × IsReady direction read.change.now file

-- the write makes the change this way of each file that may have been read, where it can be made
pub record MakesRead (direction : Direction) (read : ReadChange) (write : FileWrite) : Type 0 where
  pub path : write.path.now ≡ path_of read.change.now
  pub applies : (file : Option (List ℕ)) → read.reading ≡ reading_of file LONGEST_FILE
      → IsReady direction read.change.now file → AppliesBy direction read.change.now file (held_in write.file)
