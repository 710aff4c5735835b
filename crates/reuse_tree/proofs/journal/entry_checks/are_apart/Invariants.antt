use Rattle.std.proofs.Common.{drop, map}
use Rattle.std.specs.Prelude.{◌↔◌}
use Rattle.reuse_change.specs.Change.{path_of}
use Rattle.reuse_tree.specs.EntryTests.{AreApart}
use Rattle.reuse_tree.proofs.journal.entry_checks.are_apart.Given as goal

-- the paths are apart where those of what is left are
abbrev pub invariant-loop-i : goal.invariant-loop-i
invariant-loop-i l = AreApart (map path_of l.changes) ↔ AreApart (drop l.i (map path_of l.changes))
