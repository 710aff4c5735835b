use Rattle.std.proofs.Common.{◌≡◌, [], take, drop}
use Rattle.reuse_dep5.specs.Dep5.{line_fault}
use Rattle.reuse_dep5.specs.Steps.Names.{HoldsNames}
use Rattle.reuse_dep5.proofs.faults.first_line_fault.Given as goal

abbrev pub invariant-loop-i : goal.invariant-loop-i
invariant-loop-i l = record {
  same : line_fault (take l.i l.lines) (drop l.i l.lines) ≡ line_fault [] l.lines;
  holds : HoldsNames l.names (take l.i l.lines);
}
