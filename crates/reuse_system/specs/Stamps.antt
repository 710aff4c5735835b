-- When the stamps of a file are so old that what is done with it from now on has other stamps.
use Rattle.std.specs.Prelude.{ℕ, ◌+◌, ◌*◌, Bool, false, if◌then◌else◌, ◌&&◌, ◌==◌, nat_lt, ℤ, pos, negsuc}
use Rattle.reuse_system.specs.declared.place.FileVersion.{FileVersion}
use Rattle.reuse_system.specs.declared.place.Stamp.{Stamp}

-- By how many nanoseconds a stamp may lie behind the system's clock: by 50 milliseconds, since it is taken at the
-- clock's ticks; by three seconds if it may be of a file system whose stamps are of whole seconds, or of two.
abbrev pub nanos_behind : ℕ → ℕ
nanos_behind nanos = if nanos == 0 then 3_000_000_000 else 50_000_000

-- at these seconds and nanoseconds since 1970, before this time in nanoseconds since 1970
abbrev pub is_before : (seconds nanos : ℤ) → (since : ℕ) → Bool
is_before (pos seconds) (pos nanos) since =
    nat_lt (seconds * 1_000_000_000 + nanos + nanos_behind nanos) since
is_before (pos seconds) (negsuc nanos) since = false
is_before (negsuc seconds) nanos since = false

-- what is done at this time or later has another stamp
abbrev pub is_settled_stamp : Stamp → (since : ℕ) → Bool
is_settled_stamp stamp since = is_before stamp.seconds stamp.nanos since

-- what is written or changed at this time or later has another version
abbrev pub is_settled : FileVersion → (since : ℕ) → Bool
is_settled version since = is_settled_stamp version.written since && is_settled_stamp version.changed since
