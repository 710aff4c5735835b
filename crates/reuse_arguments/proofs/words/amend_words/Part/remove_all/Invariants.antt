use Rattle.std.proofs.Common.{◌≡◌, ℕ, List, Bor, length, map}
use Rattle.reuse_arguments.specs.AmendSteps.{all_removed}
use Rattle.reuse_arguments.proofs.words.amend_words.Part.remove_all.Given as goal

-- what is left is still to be done on what was made
abbrev pub invariant-loop-texts : goal.invariant-loop-texts
invariant-loop-texts l =
    all_removed l.self (map (λ (text : Bor (List ℕ)). text.now) l.initial.texts) l.initial.amendments
    ≡ all_removed l.self (map (λ (text : Bor (List ℕ)). text.now) l.texts) l.amendments

abbrev pub decreases-loop-texts : goal.decreases-loop-texts
decreases-loop-texts l = length l.texts
