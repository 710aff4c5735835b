use Rattle.reuse_change.proofs.Applying.{is_absent, make_before, splice_before}
use Rattle.reuse_change.proofs.change.Change.is_before_by_range.Goals as goal

pub returns-in-Make : goal.returns-in-Make
returns-in-Make c = let s = c.in-Make in rw s.is (make_before s.path _ s.after _ _ (is_absent _ _ c.is_none.ensures))

pub returns-in-Splice : goal.returns-in-Splice
returns-in-Splice c = let s = c.in-Splice in rw s.is (splice_before s.path _ _ _ _ s.seal _ _ c.holds_part.ensures)
