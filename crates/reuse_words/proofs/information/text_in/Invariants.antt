use Rattle.std.proofs.Common.{◌≡◌, take}
use Rattle.reuse_words.specs.Information.{text_in}
use Rattle.reuse_words.proofs.information.text_in.Given as goal

abbrev pub invariant-loop-line : goal.invariant-loop-line
invariant-loop-line l = l.made.items ≡ text_in l.gap (take l.line-index l.lines)
