use Rattle.std.proofs.Common.{sym, subst}
use Rattle.reuse_notice.proofs.SetLemmas.{sorted-set_of}
use Rattle.reuse_change.specs.Listing.{ArePaths}
use Rattle.reuse_command.proofs.choice.PathList.new.Goals as goal

pub invariant_of-result : goal.invariant_of-result
invariant_of-result c = subst ArePaths (sym c.sorted.ensures) (sorted-set_of c.args.paths.items)
