use Rattle.std.proofs.Common.{subst, List}
use Rattle.std.proofs.lemmas.Result.{on_ok_weaker}
use Rattle.std.specs.Io.KnownBytes.{Appends}
use Rattle.reuse_change.specs.declared.change.Change.{Change}
use Rattle.reuse_print.specs.Lines.{change_lines}
use Rattle.reuse_print.proofs.RowLemmas.{AppendsSome-shown}
use Rattle.reuse_print.proofs.lines.print_shown.Goals as goal

pub returns : goal.returns
returns g c =
    let contents = g.W.Write.contents in
    let mid = contents c.print_row.new.out in
    let new = contents c.print_changes.new.out in
    on_ok_weaker c.print_changes.result
    (λ (wrote : Appends mid new (change_lines c.args.names c.as_slice.result.now)).
    AppendsSome-shown c.args.names c.args.shown.now (contents c.args.out.now) mid new c.in_ok-print_row.ensures
    (subst (λ (l : List Change). Appends mid new (change_lines c.args.names l)) c.as_slice.ensures.changes wrote))
    c.print_changes.ensures
