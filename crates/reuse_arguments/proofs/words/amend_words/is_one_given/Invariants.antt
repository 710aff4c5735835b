use Rattle.std.proofs.Common.{◌≡◌, ℕ, List, Bor, length, map}
use Rattle.std.specs.List.{list_any}
use Rattle.reuse_arguments.specs.Found.{found_in, is_given}
use Rattle.reuse_arguments.proofs.words.amend_words.is_one_given.Given as goal

-- the options so far were not given
abbrev pub invariant-loop-options : goal.invariant-loop-options
invariant-loop-options l =
    list_any (is_given (found_in l.matches)) (map (λ (option : Bor (List ℕ)). option.now) l.initial.options)
    ≡ list_any (is_given (found_in l.matches)) (map (λ (option : Bor (List ℕ)). option.now) l.options)

abbrev pub decreases-loop-options : goal.decreases-loop-options
decreases-loop-options l = length l.options
