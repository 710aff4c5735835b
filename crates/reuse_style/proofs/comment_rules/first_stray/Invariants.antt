use Rattle.std.proofs.Common.{◌≡◌, ◌+◌, length}
use Rattle.std.specs.Prelude.{is_none}
use Rattle.std.specs.List.{position_from}
use Rattle.reuse_style.specs.StyleFile.{kind_named}
use Rattle.reuse_style.proofs.comment_rules.first_stray.Given as goal

abbrev pub invariant-loop-rules : goal.invariant-loop-rules
invariant-loop-rules l =
    (position_from (λ rule. is_none (kind_named l.comments rule.style)) l.number l.rules ≡ position_from
    (λ rule. is_none (kind_named l.comments rule.style)) 1 l.initial.rules)
    × (l.number + length l.rules ≡ 1 + length l.initial.rules)

abbrev pub decreases-loop-rules : goal.decreases-loop-rules
decreases-loop-rules l = length l.rules
