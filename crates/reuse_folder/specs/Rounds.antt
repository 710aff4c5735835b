-- New temporary files that are written together, before the first of them gets its name.
use Rattle.std.specs.Prelude.{◌≡◌, ◌≢◌, ◌⊎◌, ℕ, ◌<◌, ◌≤◌, ◌^◌, Bool, true, false, IsTrue, List, [], ◌∷◌, ◌++◌, length}
use Rattle.std.specs.Prelude.{take, Option, None, Some, Result, Ok, Err, slice_index_or}
use Rattle.reuse_change.specs.Parts.{joined}
use Rattle.reuse_change.specs.declared.parts.Pieces.{Pieces}
use Rattle.reuse_store.specs.declared.file_write.FileWrite.{FileWrite}
use Rattle.reuse_system.specs.TempFiles.{IsNewIn, key_of, new_name, place_of}
use Rattle.reuse_system.specs.FileStates.{FileState, Place, IsNot, file, place_in}
use Rattle.reuse_system.specs.SystemLaws.{IsAlikeUnless}
use Rattle.reuse_system.specs.declared.fault.FolderFault.{FolderFault}
use Rattle.reuse_system.specs.declared.place.Identity.{Identity}
use Rattle.reuse_disk.specs.Written.{StandsAlone}
use Rattle.reuse_disk.specs.declared.new_file.NewFile.{NewFile}
use Rattle.reuse_folder.specs.Batches.{AreMade, DisksAfter, IsWriteOn}
use Rattle.reuse_folder.specs.Disk.{Disk}
use Rattle.reuse_folder.specs.FolderWrites.{IsFolderOf, IsNewOf, IsTidy}
use Rattle.reuse_folder.specs.declared.folder.batch.NewContent.{NewContent}
use Rattle.reuse_folder.specs.declared.folder.batch.Round.{Round}
use Rattle.reuse_folder.specs.declared.folder.batch.Stop.{Stop}

-- the place of the new file of this number
abbrev pub new_place : (new_files : Identity) → ℕ → Place
new_place new_files number = place_in new_files (new_name number)

-- it is that of one of the first so many numbers
abbrev pub IsNumbered : (new_files : Identity) → (count : ℕ) → Place → Type 0
IsNumbered new_files count place = (k : ℕ) × (k < count) × (k < 2 ^ 64) × (place ≡ new_place new_files k)

-- this one has the place of its number
abbrev pub HasPlace : (new_files : Identity) → (number : ℕ) → NewContent → Type 0
HasPlace new_files number one = (number < 2 ^ 64) × (place_of one.temp_file ≡ new_place new_files number)

-- so has each
abbrev pub HavePlaces : (new_files : Identity) → List NewContent → Type 0
HavePlaces new_files temp_files = (k : ℕ) (one : NewContent) → k < length temp_files
    → one ≡ slice_index_or temp_files k one → HasPlace new_files k one

-- What the write is to put stands aside as the new file of this number, which is one of so many. No name leads to it
-- but those of these.
pub record StandsTempFile (new_files : Identity) (count : ℕ) (is_durable : Bool) (held : FileState) (number : ℕ)
    (write : FileWrite) (one : NewContent) : Type 0 where
  pub parts : Pieces
  pub is_file : write.file ≡ Some parts
  pub is_one : number < count
  pub place : HasPlace new_files number one
  pub here : held (place_of one.temp_file) ≡ file (key_of one.temp_file) (joined parts) is_durable
  pub alone : (other : Place) → ¬ (IsNumbered new_files count other) → IsNot (key_of one.temp_file) (held other)

-- so it is of the writes from this number on, and before that one
abbrev pub AreTempFile : (new_files : Identity) → (is_durable : Bool) → FileState → (from to : ℕ) → List FileWrite
    → List NewContent → Type 0
AreTempFile new_files is_durable held from to writes temp_files =
    (k : ℕ) (write : FileWrite) (one : NewContent) → from ≤ k → k < to → write ≡ slice_index_or writes k write
    → one ≡ slice_index_or temp_files k one
    → StandsTempFile new_files (length temp_files) is_durable held k write one

-- each is another file
abbrev pub AreApart : List NewContent → Type 0
AreApart temp_files =
    (i j : ℕ) (one other : NewContent) → i < j → j < length temp_files → one ≡ slice_index_or temp_files i one
    → other ≡ slice_index_or temp_files j other
    → key_of one.temp_file ≢ key_of other.temp_file

-- one more new file stands aside, and no other name leads to it; or none does
abbrev pub IsAdded : (new_files : Identity) → FileState → (bytes : List ℕ) → (old new : List NewContent)
    → (is_done : Bool) → Type 0
IsAdded new_files held bytes old new true =
    (one : NewContent) × (new ≡ (old ++ (one ∷ []))) × HasPlace new_files (length old) one
    × StandsAlone (place_of one.temp_file) (key_of one.temp_file) bytes false held
IsAdded new_files held bytes old new false = new ≡ old

-- New files of the first so many writes stand aside, and no other new file came.
pub record AreWrittenTempFile (new_files : Identity) (writes : List FileWrite) (temp_files : List NewContent)
    (old new : FileState) : Type 0 where
  pub temp_file : AreTempFile new_files false new 0 (length temp_files) writes temp_files
  pub apart : AreApart temp_files
  pub past : (place : Place) → IsNewIn new_files place → ¬ (IsNumbered new_files (length temp_files) place)
      → (new place ≡ old place) ⊎ (new place ≡ None)

-- So it is if this holds. Nothing differs but new files in the folder.
pub record AreBegun (Well : Type 0) (new_files : Identity) (writes : List FileWrite) (temp_files : List NewContent)
    (old new : FileState) : Type 0 where
  pub few : length temp_files ≤ length writes
  pub places : HavePlaces new_files temp_files
  pub others : IsAlikeUnless (IsNewIn new_files) old new
  pub written : Well → AreWrittenTempFile new_files writes temp_files old new

-- one or more new files stand aside, in the folder that was open for them, if one was; or nothing differs but new files
-- there
abbrev pub IsRoundOf : (Honest : Type 0) → List FileWrite → (before : Option NewFile) → (old new : FileState)
    → Result Round FolderFault → Type 0
IsRoundOf Honest writes before old new (Ok round) =
    IsFolderOf before round.new_file.folder.identity
    × (0 < length round.temp_files.items)
    × AreBegun Honest round.new_file.folder.identity writes round.temp_files.items old new
IsRoundOf Honest writes before old new (Err fault) =
    (new_files : Identity) × IsFolderOf before new_files × IsAlikeUnless (IsNewIn new_files) old new

-- A file that stood aside got its name, which is one write, or it didn't. If it did, it has left its place there, and
-- the others still stand aside.
pub record IsNamed (new_files : Identity) (count : ℕ) (is_durable : Bool) (number : ℕ) (write : FileWrite)
    (one : NewContent) (old new : Disk) (is_done : Bool) : Type 0 where
  pub put : IsWriteOn new_files is_durable write.path.now write.file old new is_done
  pub stay : IsTrue is_done → (k : ℕ) (later : FileWrite) (other : NewContent) → number ≢ k
      → key_of one.temp_file ≢ key_of other.temp_file
      → StandsTempFile new_files count is_durable old.files k later other
      → StandsTempFile new_files count is_durable new.files k later other
  pub left : IsTrue is_done → new.files (new_place new_files number) ≡ None
  pub tidy : IsTidy new_files old.files new.files is_done

-- the new files of the first so many numbers are gone, and no other one is left
abbrev pub AreGone : (new_files : Identity) → (count : ℕ) → (old new : FileState) → Type 0
AreGone new_files count old new =
    (place : Place) → IsNewOf new_files place
    → (new place ≡ None) ⊎ ((new place ≡ old place) × ¬ (IsNumbered new_files count place))

-- files that stood aside got their names, one for each of the first so many writes, or it stopped
abbrev pub AreNamed : (new_files : Identity) → (is_durable : Bool) → List FileWrite → List NewContent → Disk → Disk
    → Result (Unit {0}) Stop → Type 0
AreNamed new_files is_durable writes temp_files old new (Ok done) =
    DisksAfter new_files is_durable (take (length temp_files) writes) old new
    × AreGone new_files (length temp_files) old.files new.files
AreNamed new_files is_durable writes temp_files old new (Err stop) =
    AreMade new_files is_durable stop.made writes old new

-- so many of the writes were made, and no new file is left; or it stopped
abbrev pub IsRound : (is_durable : Bool) → List FileWrite → (before after : Option NewFile) → Disk → Disk
    → Result ℕ Stop → Type 0
IsRound is_durable writes before after old new (Ok count) =
    (new_files : Identity) → IsFolderOf after new_files
    → IsFolderOf before new_files × DisksAfter new_files is_durable (take count writes) old new
    × IsTidy new_files old.files new.files true
IsRound is_durable writes before after old new (Err stop) =
    (new_files : Identity) × IsFolderOf before new_files × AreMade new_files is_durable stop.made writes old new
