use Rattle.std.proofs.Common.{◌≡◌, length}
use Rattle.std.specs.List.{list_any}
use Rattle.reuse_amend.specs.Pieces.{pieces_of, has_operator, is_operator}
use Rattle.reuse_amend.proofs.replacing.has_operator.Given as goal

abbrev pub invariant-loop-rest : goal.invariant-loop-rest
invariant-loop-rest l = list_any (λ p. is_operator p.1) (pieces_of l.rest) ≡ has_operator l.text

abbrev pub decreases-loop-rest : goal.decreases-loop-rest
decreases-loop-rest l = length l.rest
