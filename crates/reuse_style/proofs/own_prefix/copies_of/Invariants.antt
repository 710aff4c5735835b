use Rattle.std.proofs.Common.{◌≡◌, ◌++◌, map, length}
use Rattle.reuse_style.proofs.own_prefix.copies_of.Given as goal

abbrev pub invariant-loop-texts : goal.invariant-loop-texts
invariant-loop-texts l =
    l.copies.items ++ map (λ text. text.now) l.texts ≡ map (λ text. text.now) l.initial.texts

abbrev pub decreases-loop-texts : goal.decreases-loop-texts
decreases-loop-texts l = length l.texts
