-- Why an addition is refused.
use Rattle.std.specs.Prelude.{◌≡◌, Result, Err}
use Rattle.reuse_ready.specs.declared.own_lines.AddedLines.{AddedLines}
use Rattle.reuse_ready.specs.declared.own_lines.AdditionRefusal.{AdditionRefusal}
use Rattle.reuse_ready.specs.declared.own_lines.AdditionRefusal.TheVariants.{Memory}

-- a refusal is the one that is expected, or an allocation failure, which may take the place of each
abbrev pub IsAdditionRefused : Result AddedLines AdditionRefusal → AdditionRefusal → Type 0
IsAdditionRefused expected (Memory e) = Unit {0}
IsAdditionRefused expected refusal = expected ≡ Err refusal
