use Rattle.std.proofs.Common.{refl}
use Rattle.reuse_change.proofs.Applying.{before_too}
use Rattle.reuse_change.proofs.change.Change.state_by_range.Goals as goal

pub returns-then-is_before_by_range-clause-at_after : goal.returns-then-is_before_by_range-clause-at_after
returns-then-is_before_by_range-clause-at_after c =
    λ after not_before. absurd (not_before (before_too _ _ (c.if-is_before_by_range.ensures.0 refl) after))
