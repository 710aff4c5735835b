use Rattle.std.proofs.Common.{◌≡◌, length, map}
use Rattle.reuse_ready.specs.Ready.{front_style}
use Rattle.reuse_ready.proofs.tables.front_style.Given as goal

abbrev pub invariant-loop-fronts : goal.invariant-loop-fronts
invariant-loop-fronts l = front_style (map (λ front. (front.0.now, front.1.now)) l.fronts) l.name
    ≡ front_style (map (λ front. (front.0.now, front.1.now)) l.initial.fronts) l.name

abbrev pub decreases-loop-fronts : goal.decreases-loop-fronts
decreases-loop-fronts l = length l.fronts
