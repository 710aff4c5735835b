-- The folder in which new files are written.
use Rattle.std.specs.Prelude.{◌≡◌, ◌<◌, ◌^◌, Option, Some, IfSome}
use Rattle.reuse_system.specs.declared.place.Identity.{Identity}
use Rattle.reuse_change.specs.Layout.{journal_folder}
use Rattle.reuse_system.specs.Folders.{Folders, folder_at}
use Rattle.reuse_system.specs.SystemLaws.{IsAlikeUnless}
use Rattle.reuse_system.specs.TempFiles.{IsNewIn}
use Rattle.reuse_folder.specs.Disk.{Disk, IsSameTree}
use Rattle.reuse_disk.specs.declared.new_file.NewFile.{NewFile}

-- this is the journal's folder
abbrev pub IsJournal : (journal : Option Identity) → Identity → Type 0
IsJournal journal folder = (journal ≡ Some folder) × (folder.number < 2 ^ 64)

-- the folder that is open for new files, if one is, is the journal's
abbrev pub IsOpenFor : Option NewFile → (journal : Option Identity) → Type 0
IsOpenFor open_for journal = IfSome open_for (λ new_file. IsJournal journal new_file.folder.identity)

-- so it is if the system is honest
abbrev pub IsOpenForIf : Type 0 → Folders → Option NewFile → Type 0
IsOpenForIf honest folders open_for = honest → IsOpenFor open_for (folder_at folders journal_folder)

-- where this is the journal's folder, it still is, and each path leads to the file that it led to
abbrev pub KeepsTree : (new_files : Identity) → Disk → Disk → Type 0
KeepsTree new_files old new = IsJournal (folder_at old.folders journal_folder) new_files
    → IsJournal (folder_at new.folders journal_folder) new_files × IsSameTree old new

-- nothing but new files there differs, and no path leads to another file
abbrev pub IsNewOnly : (new_files : Identity) → Disk → Disk → Type 0
IsNewOnly new_files old new = IsAlikeUnless (IsNewIn new_files) old.files new.files × IsSameTree old new
