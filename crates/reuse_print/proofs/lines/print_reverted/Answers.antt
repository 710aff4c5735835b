use Rattle.std.proofs.Common.{codes, subst, OnOk}
use Rattle.std.specs.Io.KnownBytes.{Appends}
use Rattle.reuse_print.specs.Lines.{done_text}
use Rattle.reuse_print.proofs.lines.print_reverted.Goals as goal

pub returns : goal.returns
returns g c =
    let contents = g.W.Write.contents in
    subst (λ left. OnOk c.print_done.result (Appends (contents c.args.out.now) (contents c.print_done.new.out)
    (done_text c.args.names (codes "changed") c.args.reverted.now.changed (codes "skipped") left))) c.as_slice.ensures
    (subst (λ changed. OnOk c.print_done.result (Appends (contents c.args.out.now) (contents c.print_done.new.out)
    (done_text c.args.names (codes "changed") changed (codes "skipped") c.as_slice.result.now)))
    c.as_slice-changed.ensures c.print_done.ensures)
