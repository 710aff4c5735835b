use Rattle.std.proofs.Common.{length, option_map}
use Rattle.reuse_tree.proofs.ChangeLists.{ChangesRead}
use Rattle.reuse_tree.proofs.journal.changes_reading.change_list.Given as goal

abbrev pub invariant-items : goal.invariant-items
invariant-items l = ChangesRead l.sealed l.fn.reader l.reader (option_map (λ v. v.items) l.found)

abbrev pub decreases-items : goal.decreases-items
decreases-items l = length l.reader
