-- How many files a run rolls back.
use Rattle.std.specs.Prelude.{ℕ, Bool, true, List, Option, Some, None, ◌+◌, ◌-◌, ◌^◌, if◌then◌else◌, min, ◌&&◌, not}
use Rattle.reuse_system.specs.Ignored.{begins_journal}
use Rattle.reuse_system.specs.Names.{between_slashes}
use Rattle.reuse_folder.specs.declared.rolled_back.Foreign.{Foreign}
use Rattle.reuse_folder.specs.declared.rolled_back.Foreign.TheVariants.{Absent, TooLong}
use Rattle.reuse_folder.specs.declared.rolled_back.RolledBack.{RolledBack}

-- after a file of the journal was written, or another one was written or removed
abbrev pub after_write : Bool → RolledBack → RolledBack
after_write in_journal rolled_back =
    if rolled_back.is_over then rolled_back
    else (if in_journal then record rolled_back { is_over = true }
    else record rolled_back { files = min (rolled_back.files + 1) (2 ^ 64 - 1) })

-- after the file at this path was to be written or removed, if that was done
abbrev pub after_writing : (path : List ℕ) → (is_done : Bool) → RolledBack → RolledBack
after_writing path is_done rolled_back =
    if is_done then after_write (begins_journal (between_slashes path)) rolled_back else rolled_back

-- those before the journal was first written
abbrev pub rolled_back_by : RolledBack → Option ℕ
rolled_back_by rolled_back = if rolled_back.is_over then Some rolled_back.files else None

-- what reading a path reports at which something stands that is neither a file nor a folder
abbrev pub foreign_of : RolledBack → Foreign
foreign_of rolled_back = if rolled_back.is_pending && not rolled_back.is_over then TooLong else Absent
