-- Which files are written anew, and whose they are to be.
use Rattle.std.specs.Prelude.{◌≡◌, ℕ, Bool, true, false, not, ◌&&◌, ◌==◌, ◌+◌, ◌-◌, ◌^◌, if◌then◌else◌, min, nat_lt}
use Rattle.std.specs.Prelude.{List, Option, None, Some}
use Rattle.reuse_system.specs.Ignored.{begins_journal}
use Rattle.reuse_system.specs.Names.{between_slashes}
use Rattle.reuse_system.specs.Owners.{cannot_keep, owner_of_new, rights_of_mode}
use Rattle.reuse_system.specs.declared.owner.Owner.{Owner}
use Rattle.reuse_system.specs.declared.owner.Process.{Process}
use Rattle.reuse_system.specs.declared.place.FileStatus.{FileStatus}
use Rattle.reuse_system.specs.declared.owner.OwnerChange.{OwnerChange}
use Rattle.reuse_system.specs.declared.owner.OwnerChange.TheVariants.{Allowed, Refused}
use Rattle.reuse_folder.specs.declared.ownership.OwnerReport.{OwnerReport}
use Rattle.reuse_folder.specs.declared.ownership.OwnershipPolicy.{OwnershipPolicy}
use Rattle.reuse_folder.specs.declared.ownership.PutGuard.{PutGuard}
use Rattle.reuse_folder.specs.declared.ownership.PutGuard.TheVariants as guard

-- a file that can't keep its owner only where that is allowed
abbrev pub may_write : OwnerChange → (cannot_keep : Bool) → Bool
may_write Allowed cannot_keep = true
may_write Refused cannot_keep = not cannot_keep

-- any other one is refused, but for a file of the journal
abbrev pub is_lost : (in_journal : Bool) → OwnerChange → (cannot_keep : Bool) → Bool
is_lost in_journal change cannot_keep = not in_journal && not (may_write change cannot_keep)

-- this file may not be written anew at the path
abbrev pub is_lost_at : OwnershipPolicy → (path : List ℕ) → FileStatus → Bool
is_lost_at ownership path seen =
    is_lost (begins_journal (between_slashes path)) ownership.owner_change
    (cannot_keep ownership.process seen.owner (rights_of_mode seen.mode))

-- it may be written anew there
abbrev pub MayReplace : OwnershipPolicy → (path : List ℕ) → FileStatus → Type 0
MayReplace ownership path seen = is_lost_at ownership path seen ≡ false

-- the owner of the file that was seen, or that of one which is made anew in a folder of this owner
abbrev pub owner_for : Process → (seen : Option FileStatus) → (folder : Owner) → (passes_group : Bool) → Owner
owner_for process None folder passes_group = owner_of_new process folder passes_group
owner_for process (Some seen) folder passes_group = seen.owner

-- ---- calls that are held

-- the next put is held
abbrev pub is_due : PutGuard → Bool
is_due guard.Off = false
is_due guard.Watching = false
is_due guard.Due = true
is_due guard.Held = true

abbrev pub guard_after : (cannot_be_written : Bool) → PutGuard → PutGuard
guard_after true guard.Watching = guard.Due
guard_after true guard.Off = guard.Off
guard_after true guard.Due = guard.Due
guard_after true guard.Held = guard.Held
guard_after false one = one

-- after a file was asked for, which can be written or can't
abbrev pub after_asking : (cannot_be_written : Bool) → OwnershipPolicy → OwnershipPolicy
after_asking cannot_be_written ownership =
    record ownership { guard = guard_after cannot_be_written ownership.guard }

-- ---- what is reported of owners

-- one more, but no number is larger than these
abbrev pub one_more : ℕ → ℕ
one_more count = min (count + 1) (2 ^ 64 - 1)

abbrev pub is_same_owner : Owner → Owner → Bool
is_same_owner one other = (one.user == other.user) && (one.group == other.group)

-- with a file that has another owner than the one that was seen
abbrev pub with_owner : Option Owner → Owner → OwnerReport → OwnerReport
with_owner None seen report = report
with_owner (Some owner) seen report =
    if is_same_owner owner seen then report else record report { changed = one_more report.changed }

-- with a file that had further names
abbrev pub with_links : ℕ → OwnerReport → OwnerReport
with_links links report = if nat_lt 1 links then record report { linked = one_more report.linked } else report

-- after a file was written anew in place of what was seen, and belongs to this owner; the journal's are left out
abbrev pub report_after : (in_journal : Bool) → Option FileStatus → Option Owner → OwnerReport → OwnerReport
report_after in_journal None owner report = report
report_after in_journal (Some seen) owner report =
    if in_journal then report else with_links seen.links (with_owner owner seen.owner report)
