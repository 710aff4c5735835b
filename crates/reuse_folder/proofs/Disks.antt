-- The disk of a system with other files.
use Rattle.reuse_system.specs.FileStates.{FileState}
use Rattle.reuse_system.specs.declared.system.System.{Ghosts}
use Rattle.reuse_folder.specs.Disk.{Disk}

-- the folders of the system, and these files
abbrev pub disk_with : {S : Type 0} → Ghosts S → S → FileState → Disk
disk_with members system held = record { folders = members.folders system; files = held }
