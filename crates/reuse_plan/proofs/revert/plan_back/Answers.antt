use Rattle.std.proofs.Common.{◌∙◌, None, Ok, Err, cond, sym, ap, subst}
use Rattle.reuse_change.specs.Change.{path_of}
use Rattle.reuse_edit.specs.Answered.{MakesEdit}
use Rattle.reuse_plan.specs.Reverting.{back_or_refused, reverted_at, taken_back_unless}
use Rattle.reuse_command.specs.declared.reply.Refusal.TheVariants.{Moved}
use Rattle.reuse_plan.proofs.RevertPlanning.{found, same_found}
use Rattle.reuse_plan.proofs.revert.plan_back.Goals as goal

pub returns-in_ok-try_clone-in-None-2-clause-plan : goal.returns-in_ok-try_clone-in-None-2-clause-plan
returns-in_ok-try_clone-in-None-2-clause-plan c touched tree makes =
    let change = c.args.change.now in
    let none = same_found (taken_back_unless touched tree change) None
    (subst (MakesEdit tree (found (taken_back_unless touched tree change))) c.in-None-2.is makes) in
    c.refused.ensures.plan tree (reverted_at touched c.args.skip_moved tree change)
    (ap (back_or_refused c.args.skip_moved (path_of change)) none
    ∙ ap (λ b. cond b (Ok None) (Err (Moved (path_of change)))) c.if-skip_moved.false
    ∙ ap (λ p. Err (Moved p)) (sym (c.in_ok-try_clone-in-None-2.ensures ∙ c.path-in-None-2.ensures)))
