-- Two tests, of which one fails.
use Rattle.std.proofs.Common.{◌≡◌, Bool, true, false, refl}
use Rattle.std.specs.Prelude.{◌&&◌}

pub not_first : (a b : Bool) → a ≡ false → (a && b) ≡ false
not_first a b e = rw e

pub not_second : (a b : Bool) → b ≡ false → (a && b) ≡ false
not_second true b e = e
not_second false b e = refl
