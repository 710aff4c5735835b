use Rattle.std.proofs.Common.{not, ap, rules, tests}
use Rattle.std.proofs.lemmas.Iterator.{YieldsList-from_slice}
use Rattle.std.proofs.lemmas.Iterator.Search.{any_from_yields_List}
use Rattle.reuse_plan.specs.FileTask.{scope_of, works_on}
use Rattle.reuse_plan.specs.Unused.{is_left_out_by}
use Rattle.reuse_plan.proofs.unused.leaves_none_out.Goals as goal

pub returns : goal.returns
returns c =
    ap not
    (any_from_yields_List (is_left_out_by (works_on c.args.asked.now) (scope_of c.args.asked.now) c.args.selected.now
    c.args.glob.now) _ _ _ c.any.ensures.ran (YieldsList-from_slice c.args.found.now cc) (λ x b q k. search (rules, tests)))
