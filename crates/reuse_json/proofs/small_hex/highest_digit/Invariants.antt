use Rattle.std.proofs.Common.{◌≡◌, ◌*◌, ◌<◌, take}
use Rattle.hex.specs.Hex.{encode_lower}
use Rattle.reuse_json.proofs.small_hex.highest_digit.Given as goal

-- where all digits so far are some, they spell the bytes so far
abbrev pub invariant-loop-i : goal.invariant-loop-i
invariant-loop-i l = l.highest < 16 → take (2 * l.i) l.digits ≡ encode_lower (take l.i l.bytes)
