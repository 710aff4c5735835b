use Rattle.std.proofs.Common.{◌≡◌, length, map}
use Rattle.reuse_ready.specs.Ready.{is_named_in}
use Rattle.reuse_ready.proofs.tables.is_named_in.Given as goal

abbrev pub invariant-loop-rules : goal.invariant-loop-rules
invariant-loop-rules l = is_named_in (map (λ rules. (rules.0.now, rules.1.now)) l.rules) l.name
    ≡ is_named_in (map (λ rules. (rules.0.now, rules.1.now)) l.initial.rules) l.name

abbrev pub decreases-loop-rules : goal.decreases-loop-rules
decreases-loop-rules l = length l.rules
