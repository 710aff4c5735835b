use Rattle.std.proofs.Common.{refl}
use Rattle.std.proofs.lemmas.Result.{on_ok_weaker}
use Rattle.std.specs.Io.KnownBytes.{Appends}
use Rattle.reuse_print.specs.RowLines.{row_line}
use Rattle.reuse_print.proofs.rows.print_row.Goals as goal

pub returns : goal.returns
returns g c =
    let contents = g.W.Write.contents in
    let line = row_line c.args.row.now c.date_of.result in
    on_ok_weaker c.print_dated.result
    (λ (wrote : Appends (contents c.args.out.now) (contents c.print_dated.new.out) line).
    (line, ((c.date_of.result, (c.date_of.ensures, refl)), wrote)))
    c.print_dated.ensures
