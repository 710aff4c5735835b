use Rattle.std.proofs.Common.{sym, ◌∙◌}
use Rattle.std.specs.Option.{option_copied}
use Rattle.reuse_diff.proofs.DiffTextLemmas.{diff-body}
use Rattle.reuse_diff.proofs.print_diff.Goals as goal

pub returns : goal.returns
returns g c = diff-body c.args.input.path.now (option_copied c.args.input.before) (option_copied c.args.input.after) _ _
    _ (sym c.is_same_side.ensures ∙ c.if-is_same_side.false) c.in_ok-print_head.ensures c.in_ok-print_body.ensures
