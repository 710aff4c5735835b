use Rattle.std.proofs.Common.{◌∙◌, ap, sym}
use Rattle.reuse_arguments.proofs.LineFaultLemmas.{expected_same}
use Rattle.reuse_arguments.specs.CommandLine.{line_read, subcommand_read}
use Rattle.reuse_arguments.specs.Found.{found_in}
use Rattle.reuse_arguments.proofs.words.read_line.Goals as goal

pub returns-in-Some : goal.returns-in-Some
unfolding line_read
returns-in-Some c =
    expected_same _ _ _ _
    (ap (λ sub. line_read (found_in c.args.matches.now) sub c.args.moment c.args.context.now) (sym c.in-Some.ensures)
    ∙ ap (λ root. subcommand_read root c.in-Some.name.now (found_in c.in-Some.inner.now) c.args.moment c.args.context.now)
    (sym c.in_ok-root.ensures))
    c.read_subcommand.ensures

pub returns-in_ok-unread-in-None : goal.returns-in_ok-unread-in-None
unfolding line_read
returns-in_ok-unread-in-None c =
    rw c.in_ok-unread-in-None.ensures (ap
    (λ sub. line_read (found_in c.args.matches.now) sub c.args.moment c.args.context.now) (sym c.in-None.ensures))
