use Rattle.std.proofs.Common.{◌≡◌, ◌++◌, length, map}
use Rattle.reuse_text.specs.Lines.{lines_left}
use Rattle.reuse_notice.specs.Tags.{is_blank, drop_end}
use Rattle.reuse_words.specs.Texts.{lines_in}
use Rattle.reuse_words.proofs.text.lines_in.Given as goal

abbrev pub invariant-loop-line : goal.invariant-loop-line
invariant-loop-line l =
    map (λ line. line.now) l.list.items ++ map (λ line. drop_end is_blank line.1.content) (lines_left l.rest)
    ≡ lines_in l.file

abbrev pub decreases-loop-line : goal.decreases-loop-line
decreases-loop-line l = length (lines_left l.rest)
