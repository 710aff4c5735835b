use Rattle.std.proofs.Common.{◌∙◌, ap, sym, length, filter, rules, tests}
use Rattle.std.proofs.lemmas.Iterator.{YieldsList-from_slice}
use Rattle.std.proofs.lemmas.Iterator.Consumers.{YieldsList-from_filter, count_from_yields_List}
use Rattle.reuse_plan.specs.Unused.{is_unmet, unmet_count}
use Rattle.reuse_plan.proofs.unused.unmet_count.Goals as goal

pub returns-in-Some : goal.returns-in-Some
returns-in-Some c =
    let scope = c.args.scope.now in
    let selected = c.args.selected.now in
    count_from_yields_List c.filter.result c.count.result c.count.ensures.ran
    (YieldsList-from_filter _ (is_unmet scope selected)
    (YieldsList-from_slice c.as_slice.result.now cc) c.filter.ensures.closure (λ x r q k. search (rules, tests)))
    ∙ ap (λ names. length (filter (is_unmet c.args.scope.now c.args.selected.now) names)) c.as_slice.ensures
    ∙ ap (unmet_count scope selected) (sym c.in-Some.is)
