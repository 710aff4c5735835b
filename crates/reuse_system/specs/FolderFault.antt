-- Which fault of a folder an error is, and which fault of a store that is.
use Rattle.std.specs.IoError.{error_kind}
use Rattle.std.specs.declared.io.Error.{Error}
use Rattle.std.specs.declared.io.ErrorKind.{ErrorKind}
use Rattle.std.specs.declared.io.ErrorKind.TheVariants.{OutOfMemory}
use Rattle.reuse_change.specs.declared.path.PathError.{PathError}
use Rattle.reuse_change.specs.declared.path.PathError.TheVariants as path
use Rattle.reuse_store.specs.declared.fault.StoreFault.{StoreFault}
use Rattle.reuse_store.specs.declared.fault.StoreFault.TheVariants as store
use Rattle.reuse_system.specs.declared.fault.FolderFault.{FolderFault}
use Rattle.reuse_system.specs.declared.fault.FolderFault.TheVariants.{Device, Clash, Memory}
use Rattle.reuse_system.specs.declared.fault.IoReason.TheVariants.{System, BadName}

-- an error of this kind
abbrev pub fault_of_kind : ErrorKind → Error → FolderFault
fault_of_kind OutOfMemory error = Memory
fault_of_kind kind error = Device (System error)

-- the system's an allocation failure is an allocation failure, and all else a device fault that reports the system's
-- error
abbrev pub fault_of_system : Error → FolderFault
fault_of_system error = fault_of_kind (error_kind error) error

-- a name that makes no path is a device fault
abbrev pub fault_of_path : PathError → FolderFault
fault_of_path path.BadPath = Device BadName
fault_of_path path.Memory = Memory

abbrev pub fault_of_store : FolderFault → StoreFault
fault_of_store (Device obstacle) = store.Device
fault_of_store Clash = store.Clash
fault_of_store Memory = store.Memory
