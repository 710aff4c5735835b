use Rattle.reuse_change.proofs.Applying.{is_sealed-inverse}
use Rattle.reuse_change.proofs.Sealed.{same_after, same_before}
use Rattle.reuse_store.proofs.laws.seal_distinguishes_files.Goals as goal

pub returns : goal.returns
returns c = record { after = same_after; before = same_before; inverse = is_sealed-inverse }
