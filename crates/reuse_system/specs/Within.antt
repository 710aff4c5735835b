-- What a reading with a limit may give, whatever a folder holds.
use Rattle.std.specs.Prelude.{ℕ, ◌≤◌, length}
use Rattle.reuse_store.specs.declared.store.Reading.{Reading}
use Rattle.reuse_store.specs.declared.store.Reading.TheVariants.{Absent, Found, TooLong}

-- the bytes that were found are no more than the limit
abbrev pub IsWithin : ℕ → Reading → Type 0
IsWithin limit Absent = Unit {0}
IsWithin limit (Found bytes) = length bytes ≤ limit
IsWithin limit TooLong = Unit {0}
