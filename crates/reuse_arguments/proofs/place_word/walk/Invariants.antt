use Rattle.std.proofs.Common.{◌≡◌, ℕ, List, Bor, length, map}
use Rattle.reuse_arguments.specs.Places.{walked}
use Rattle.reuse_arguments.proofs.place_word.walk.Given as goal

-- the parts that are left lead on from the folder that is reached
abbrev pub invariant-loop-parts : goal.invariant-loop-parts
invariant-loop-parts l =
    walked (map (λ (part : Bor (List ℕ)). part.now) l.folder.items) (map (λ (part : Bor (List ℕ)). part.now) l.parts)
    ≡ walked (map (λ (part : Bor (List ℕ)). part.now) l.initial.folder.items)
    (map (λ (part : Bor (List ℕ)). part.now) l.initial.parts)

abbrev pub decreases-loop-parts : goal.decreases-loop-parts
decreases-loop-parts l = length l.parts
