use Rattle.std.proofs.Common.{arith, ◌≡◌, w64, pos, to_z, ◌*ℤ◌}
use Rattle.std.proofs.lemmas.Int.{ints}
use Rattle.jiff.proofs.SpanFacts.{signed_arith}
use Rattle.jiff.specs.Words.{civil_nanos}
use Rattle.reuse_shown.proofs.DateLemmas.{epoch_day-of_seconds}
use Rattle.reuse_shown.proofs.date.date_of.Goals as goal

pub returns : goal.returns
returns c =
    let v = rw c.unwrap-instant.ensures at c.from_second.ensures.value in
    let z : to_z w64 c.seconds-seconds.result ≡ pos c.seconds-seconds.result = omega (arith, ints) in
    let e : civil_nanos c.to_datetime.result ≡ pos c.seconds-seconds.result *ℤ pos 1_000_000_000 =
    omega (arith, signed_arith, v, z, c.to_datetime.ensures) in
    rw (c.date.ensures, ← c.seconds-seconds.ensures.seconds)
    (epoch_day-of_seconds c.seconds-seconds.result c.to_datetime.result e)
