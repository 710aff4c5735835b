use Rattle.std.proofs.lemmas.Result.{on_ok_weaker}
use Rattle.std.proofs.KnownBytes.{Appends-trans}
use Rattle.std.specs.Io.KnownBytes.{Appends}
use Rattle.reuse_print.specs.Lines.{lines_of, some_paths_text}
use Rattle.reuse_print.proofs.lines.print_done.Goals as goal

pub returns : goal.returns
returns g c =
    let contents = g.W.Write.contents in
    let old = contents c.args.out.now in
    let mid = contents c.print_some_paths.new.out in
    let new = contents c.print_paths.new.out in
    let first = some_paths_text c.args.names c.args.word.now c.args.changed.now in
    let second = lines_of c.args.names c.args.left_word.now c.args.left.now in
    on_ok_weaker c.print_paths.result
    (λ (wrote : Appends mid new second). Appends-trans old mid new first second c.in_ok-print_some_paths.ensures wrote)
    c.print_paths.ensures
