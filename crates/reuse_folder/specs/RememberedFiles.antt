-- What is remembered of files that were read.
use Rattle.std.specs.Prelude.{◌≡◌, ℕ, List, [], ◌∷◌, ◌++◌, IsSome, Some, slice_get}
use Rattle.reuse_system.specs.declared.place.FileStatus.{FileStatus}
use Rattle.reuse_system.specs.declared.place.FileVersion.{FileVersion}
use Rattle.reuse_folder.specs.declared.remembered.Remembered.{Remembered}
use Rattle.reuse_folder.specs.declared.remembered.RememberedFile.{RememberedFile}

-- these bytes are remembered of a file of this version
pub record IsRemembered (remembered : Remembered) (version : FileVersion) (bytes : List ℕ) : Type 0 where
  pub at : ℕ
  pub file : RememberedFile
  pub is_there : slice_get remembered.files.items at ≡ Some file
  pub of_version : file.status.version ≡ version
  pub has_bytes : file.bytes ≡ Some bytes

-- one more file is remembered, of this path and status, with these bytes; when the call began is known
pub record IsRememberedNow (before after : Remembered) (path : List ℕ) (status : FileStatus)
    (bytes : List ℕ) : Type 0 where
  pub began : IsSome before.since
  pub added : after.files.items
      ≡ before.files.items ++ record { path = path; status = status; bytes = Some bytes } ∷ []
