use Rattle.std.proofs.Common.{◌≡◌, length}
use Rattle.reuse_amend.specs.Named.{has_token}
use Rattle.reuse_amend.proofs.named.has_token.Given as goal

abbrev pub invariant-loop-token : goal.invariant-loop-token
invariant-loop-token l = has_token l.token l.rest ≡ has_token l.token l.text

abbrev pub decreases-loop-token : goal.decreases-loop-token
decreases-loop-token l = length l.rest
