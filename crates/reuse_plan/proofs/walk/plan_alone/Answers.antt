use Rattle.std.proofs.Common.{subst, sym}
use Rattle.reuse_command.specs.Reading.{tree_of, IsOfPlan}
use Rattle.reuse_plan.specs.FileTask.{at_by}
use Rattle.reuse_edit.specs.PathPlans.{AnswersPlan}
use Rattle.reuse_edit.specs.Pair.{ShowsPair}
use Rattle.reuse_edit.specs.declared.path_plan.Policy.TheVariants.{Stop}
use Rattle.reuse_command.proofs.Asking.{later}
use Rattle.reuse_plan.proofs.walk.plan_alone.Goals as goal

pub returns-in-Ok-clause-plan : goal.returns-in-Ok-clause-plan
returns-in-Ok-clause-plan g c honest =
    let before = c.plan_path.ensures.asks.reads.was_honest honest in
    let same = c.pair_paths.ensures.asks.reads.files before in
    subst
    (λ f. AnswersPlan Stop (tree_of f) (at_by c.args.asked.now (tree_of f) c.args.path.now) c.plan_path.result) same
    (c.plan_path.ensures.plan honest
    (subst (λ ps. ShowsPair ps (tree_of (g.S.Store.files c.pair_paths.new.store)) c.args.path.now)
    (sym c.deref.ensures.value)
    (subst (λ f. ShowsPair c.in-Ok.paths.items (tree_of f) c.args.path.now) (sym same) (c.in-Ok.ensures.paths before))))

pub returns-in-Ok-clause-asks : goal.returns-in-Ok-clause-asks
returns-in-Ok-clause-asks g c =
    later g.S.Store IsOfPlan _ _ _ _ c.pair_paths.ensures.asks.reads c.plan_path.ensures.asks
