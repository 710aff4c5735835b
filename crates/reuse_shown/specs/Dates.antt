-- Dates in UTC.
use Rattle.std.specs.Prelude.{◌≡◌, ℕ, ◌/◌, pos, unsigned_abs}
use Rattle.jiff.specs.Types.{Date}
use Rattle.jiff.specs.Words.{epoch_day}

-- the date of a moment: that of the whole days since 1 January 1970, each of 86,400 seconds
abbrev pub IsDateOf : ℕ → Date → Type 0
IsDateOf moment date = epoch_day date ≡ pos (moment / 86_400)

-- the year of that date, which is not before 1970, so that its sign doesn't matter
abbrev pub IsYearOf : ℕ → ℕ → Type 0
IsYearOf moment year = (date : Date) × (IsDateOf moment date × (unsigned_abs date.year ≡ year))
