use Rattle.std.proofs.Common.{◌≡◌, length}
use Rattle.std.specs.List.{list_any}
use Rattle.reuse_text.specs.Lines.{lines_left}
use Rattle.reuse_words.specs.Texts.{is_control, has_control}
use Rattle.reuse_words.proofs.text.has_control.Given as goal

abbrev pub invariant-loop-line : goal.invariant-loop-line
invariant-loop-line l = list_any (λ line. list_any is_control line.1.content) (lines_left l.rest) ≡ has_control l.file

abbrev pub decreases-loop-line : goal.decreases-loop-line
decreases-loop-line l = length (lines_left l.rest)
