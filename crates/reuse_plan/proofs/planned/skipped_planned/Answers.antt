use Rattle.std.proofs.Common.{rules, tests}
use Rattle.std.proofs.lemmas.Iterator.Consumers.{YieldsList-from_filter, count_from_yields_List}
use Rattle.std.proofs.lemmas.Iterator.{YieldsList-from_slice}
use Rattle.reuse_plan.specs.Counted.{is_skip_planned}
use Rattle.reuse_plan.proofs.planned.skipped_planned.Goals as goal

pub returns : goal.returns
returns c =
    count_from_yields_List c.filter.result c.count.result c.count.ensures.ran
    (YieldsList-from_filter _ is_skip_planned (YieldsList-from_slice c.args.plans.now cc) c.filter.ensures.closure
    (λ x r q k. search (rules, tests)))
