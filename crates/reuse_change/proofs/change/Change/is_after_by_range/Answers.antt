use Rattle.reuse_change.proofs.Applying.{is_absent, drop_after, splice_after}
use Rattle.reuse_change.proofs.change.Change.is_after_by_range.Goals as goal

pub returns-in-Drop : goal.returns-in-Drop
returns-in-Drop c = let s = c.in-Drop in rw s.is (drop_after s.path _ s.before _ _ (is_absent _ _ c.is_none.ensures))

pub returns-in-Splice : goal.returns-in-Splice
returns-in-Splice c = let s = c.in-Splice in rw s.is (splice_after s.path _ _ _ _ s.seal _ _ c.holds_part.ensures)
