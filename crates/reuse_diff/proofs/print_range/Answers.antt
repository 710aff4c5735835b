use Rattle.std.specs.Option.{option_copied}
use Rattle.reuse_diff.proofs.DiffTextLemmas.{range-body}
use Rattle.reuse_diff.proofs.print_range.Goals as goal

pub returns : goal.returns
returns g c = range-body c.args.input.path.now (option_copied c.args.input.before)
    (option_copied c.args.input.after) c.args.at _ _ _ c.in_ok-print_head.ensures c.in_ok-print_range_body.ensures
