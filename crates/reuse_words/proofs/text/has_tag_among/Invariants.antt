use Rattle.std.proofs.Common.{◌≡◌, length, map}
use Rattle.std.specs.List.{list_any}
use Rattle.reuse_header.specs.Tagged.{has_tag}
use Rattle.reuse_words.specs.Texts.{every_mark}
use Rattle.reuse_words.proofs.text.has_tag_among.Given as goal

abbrev pub invariant-loop-rest : goal.invariant-loop-rest
invariant-loop-rest l =
    list_any (has_tag every_mark) (map (λ line. line.now) l.rest)
    ≡ list_any (has_tag every_mark) (map (λ line. line.now) l.lines)

abbrev pub decreases-loop-rest : goal.decreases-loop-rest
decreases-loop-rest l = length l.rest
