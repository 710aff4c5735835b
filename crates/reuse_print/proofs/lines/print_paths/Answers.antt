use Rattle.std.proofs.Common.{arith}
use Rattle.reuse_print.specs.Lines.{line_of}
use Rattle.reuse_print.proofs.LineLemmas.{Appends-joined}
use Rattle.reuse_print.proofs.lines.print_paths.Goals as goal

pub loop-path-preserved : goal.loop-path-preserved
loop-path-preserved g c =
    Appends-joined (line_of c.args.names c.args.word.now) _ _ _ c.args.paths.now c.loop-path.path-index
    c.path-item.result (omega arith) c.path-item.is c.loop-path.invariant c.in_ok-print_path.ensures
