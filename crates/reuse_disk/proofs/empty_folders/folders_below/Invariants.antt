use Rattle.reuse_disk.specs.ReadsOnly.{EntersOnly}
use Rattle.reuse_disk.proofs.empty_folders.folders_below.Given as goal

abbrev pub invariant-loop-index : goal.invariant-loop-index
invariant-loop-index g l = EntersOnly g.S.System l.fn.system l.system l.fn.open_folders l.open_folders
