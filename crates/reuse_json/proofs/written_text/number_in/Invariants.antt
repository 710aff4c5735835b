use Rattle.std.proofs.Common.{◌≡◌, ◌≤◌, ◌-◌, decimal, length, take}
use Rattle.reuse_json.proofs.written_text.number_in.Given as goal

-- the digits so far are those of the number so far
abbrev pub invariant-loop-digit : goal.invariant-loop-digit
invariant-loop-digit l = (l.len ≤ length l.text) × (take l.len l.text ≡ decimal l.number)

abbrev pub decreases-loop-digit : goal.decreases-loop-digit
decreases-loop-digit l = length l.text - l.len
