use Rattle.reuse_change.proofs.Applying.{not_both, applies_once}
use Rattle.reuse_store.proofs.laws.change_has_two_ends.Goals as goal

pub returns : goal.returns
returns c = record { apart = not_both; once = applies_once }
