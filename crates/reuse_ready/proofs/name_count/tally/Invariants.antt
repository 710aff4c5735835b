use Rattle.std.proofs.Common.{take, map}
use Rattle.reuse_ready.specs.Counted.{IsCounted}
use Rattle.reuse_ready.specs.Tally.{name_of}
use Rattle.reuse_ready.proofs.name_count.tally.Given as goal

abbrev pub invariant-loop-path : goal.invariant-loop-path
invariant-loop-path l = IsCounted l.rows (map name_of (take l.path-index l.paths))
