use Rattle.std.proofs.Common.{◌≡◌, ◌++◌, ◌-◌, take, length}
use Rattle.hex.specs.Hex.{encode_lower}
use Rattle.reuse_json.proofs.json_writing.append_digits.Given as goal

-- the digits so far are those of the bytes so far
abbrev pub invariant-loop-done : goal.invariant-loop-done
invariant-loop-done l = l.text.items ≡ l.fn.text.items ++ encode_lower (take l.done l.bytes)

abbrev pub decreases-loop-done : goal.decreases-loop-done
decreases-loop-done l = length l.bytes - l.done
