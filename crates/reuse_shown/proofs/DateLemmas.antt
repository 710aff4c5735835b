-- The day of a moment.
use Rattle.std.proofs.Common.{◌≡◌, ◌<◌, ℕ, ◌/◌, pos, ◌+ℤ◌, ◌*ℤ◌, arith, refl}
use Rattle.jiff.proofs.SpanFacts.{signed_arith}
use Rattle.jiff.specs.Words.{epoch_day, civil_nanos, time_nanos}
use Rattle.jiff.specs.Types.{DateTime, Time}

civil_nanos-parts : (dt : DateTime)
    → civil_nanos dt ≡ epoch_day dt.date *ℤ pos 86_400_000_000_000 +ℤ pos (time_nanos dt.time)
unfolding civil_nanos
civil_nanos-parts dt = refl

-- a time lies within its day
time_nanos_bound : (t : Time) → time_nanos t < 86_400_000_000_000
time_nanos_bound t = omega arith

pub epoch_day-of_seconds : (s : ℕ) (dt : DateTime) → civil_nanos dt ≡ pos s *ℤ pos 1_000_000_000
    → epoch_day dt.date ≡ pos (s / 86_400)
epoch_day-of_seconds s dt e =
    omega (arith, signed_arith, civil_nanos-parts dt, time_nanos_bound dt.time)
