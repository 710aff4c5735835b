-- Paths through open folders, and what errors of opening and syncing report.
use Rattle.std.specs.Prelude.{ℕ, ℤ, Bool, true, false, if◌then◌else◌, List, ◌++◌, Option, None, Some, codes, decimal}
use Rattle.std.specs.Prelude.{◌≡◌, IsTrue, Result, Ok, Err, string_bytes}
use Rattle.std.specs.Fd.{file_raw_fd}
use Rattle.std.specs.Fmt.{signed_decimal}
use Rattle.std.specs.IoError.{error_kind}
use Rattle.std.specs.declared.fs.File.{File}
use Rattle.std.specs.declared.io.Error.{Error}
use Rattle.std.specs.declared.io.ErrorKind.{ErrorKind}
use Rattle.std.specs.declared.io.ErrorKind.TheVariants as kind
use Rattle.reuse_system.specs.FolderFault.{fault_of_system}
use Rattle.reuse_system.specs.declared.fault.FolderFault.{FolderFault}
use Rattle.reuse_system.specs.declared.handle.Below.{Below}
use Rattle.reuse_system.specs.declared.handle.Below.TheVariants as below
use Rattle.reuse_system.specs.declared.handle.OpenFolder.{OpenFolder}
use Rattle.reuse_system.specs.declared.handle.Start.{Start}
use Rattle.reuse_system.specs.declared.handle.Start.TheVariants.{Root, Handles}
use Rattle.reuse_system.specs.declared.place.Found.TheVariants as found

-- where the system shows the open folder of this handle: from where it shows all handles of the process, or from the
-- root of the file system, by the number of the process where that is known
abbrev pub handle_path : Start → (process : Option ℕ) → (handle : ℤ) → List ℕ
handle_path Handles process handle = signed_decimal handle ++ codes "/"
handle_path Root (Some number) handle =
    codes "/proc/" ++ (decimal number ++ (codes "/fd/" ++ (signed_decimal handle ++ codes "/")))
handle_path Root None handle = codes "/proc/self/fd/" ++ (signed_decimal handle ++ codes "/")

-- a path through the folder goes through its handle, where that is shown
abbrev pub IsThroughHandle : OpenFolder → Type 0
IsThroughHandle folder =
    IsTrue folder.environment.is_shown → string_bytes folder.prefix
    ≡ handle_path folder.environment.start folder.environment.process.number (file_raw_fd folder.handle)

-- so it is of a folder that was opened; and of what stands there in its place it isn't reported that it is one
abbrev pub IsOpenedWell : Below → Type 0
IsOpenedWell (below.Folder folder) = IsThroughHandle folder
IsOpenedWell (below.Other (found.Folder identity)) = ⊥
IsOpenedWell (below.Other found) = Unit {0}

-- what was seen isn't there any more
abbrev pub is_of_change : ErrorKind → Bool
is_of_change kind.NotFound = true
is_of_change kind.NotADirectory = true
is_of_change kind.IsADirectory = true
is_of_change kind.FilesystemLoop = true
is_of_change kind = false

-- a file can't be opened for writing
abbrev pub is_of_writing : ErrorKind → Bool
is_of_writing kind.PermissionDenied = true
is_of_writing kind.ReadOnlyFilesystem = true
is_of_writing kind.ExecutableFileBusy = true
is_of_writing kind = false

-- folders can't be synced there at all
abbrev pub is_without_sync : ErrorKind → Bool
is_without_sync kind.InvalidInput = true
is_without_sync kind.Unsupported = true
is_without_sync kind = false

-- what is answered where a file that was seen can't be opened: nothing, if it isn't there any more
abbrev pub seen_where_failed : Error → Result (Option File) FolderFault
seen_where_failed error = if is_of_change (error_kind error) then Ok None else Err (fault_of_system error)
