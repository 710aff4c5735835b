use Rattle.std.proofs.Common.{◌≡◌, take}
use Rattle.reuse_change.specs.Entry.{paths_of}
use Rattle.reuse_journal.proofs.prepare.paths_of.Given as goal

abbrev pub invariant-loop-change : goal.invariant-loop-change
invariant-loop-change l = l.paths.items ≡ paths_of (take l.change-index l.changes)
