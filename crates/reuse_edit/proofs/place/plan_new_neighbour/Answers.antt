use Rattle.std.proofs.Common.{◌≡◌, inl, ◌∙◌, true, Err, sym, ap}
use Rattle.reuse_edit.proofs.AbsentFiles.{reported_as}
use Rattle.reuse_change.specs.Clash.{is_clash}
use Rattle.reuse_command.specs.Reading.{tree_of, IsOfPlan}
use Rattle.reuse_change.specs.Tree.{is_of_tree}
use Rattle.reuse_command.specs.declared.reply.Refusal.TheVariants as refusals
use Rattle.reuse_command.proofs.Asking.{no_fault, failed, plan_faults}
use Rattle.reuse_edit.proofs.AtTree.{clash_of_tree}
use Rattle.reuse_edit.proofs.EditLemmas.{new_clashes}
use Rattle.reuse_edit.proofs.NeighbourPaths.{beside_of_tree}
use Rattle.reuse_edit.proofs.place.plan_new_neighbour.Goals as goal

pub returns-then-branch-clause-edit : goal.returns-then-branch-clause-edit
returns-then-branch-clause-edit g c honest covered is none =
    let files = g.S.Store.files c.args.store.now in
    let of_tree : is_of_tree c.args.neighbour ≡ true = ap is_of_tree is ∙ beside_of_tree c.args.path.now (inl covered) in
    new_clashes c.args.asked.now (tree_of files) c.args.path.now
    (ap (is_clash (tree_of files)) (sym is) ∙ sym (clash_of_tree files c.args.neighbour of_tree)
    ∙ sym (c.in_ok-is_clash_at.ensures.clash honest) ∙ c.if-branch.true)
    ∙ ap (λ p. Err (refusals.Clash p)) (sym is)

pub returns-clause-edit : goal.returns-clause-edit
returns-clause-edit g c honest covered is none =
    let files = g.S.Store.files c.args.store.now in
    let of_tree : is_of_tree c.args.neighbour ≡ true = ap is_of_tree is ∙ beside_of_tree c.args.path.now (inl covered) in
    c.make_neighbour.ensures.edit (tree_of files) is none
    (sym (clash_of_tree files c.args.neighbour of_tree) ∙ sym (c.in_ok-is_clash_at.ensures.clash honest)
    ∙ c.if-branch.false)

pub returns-in_err-is_clash_at-clause-asks : goal.returns-in_err-is_clash_at-clause-asks
returns-in_err-is_clash_at-clause-asks g c = failed g.S.Store IsOfPlan _ _ c.in_err-is_clash_at.field-0.0 _
    (reported_as c.from_residual.result _ c.from_residual.ensures.1)
    (plan_faults c.in_err-is_clash_at.field-0.0) c.in_err-is_clash_at.ensures.fails c.in_err-is_clash_at.ensures.reads

pub returns-then-branch-clause-asks : goal.returns-then-branch-clause-asks
returns-then-branch-clause-asks g c = no_fault g.S.Store _ _ (Err (refusals.Clash _)) tt c.is_clash_at.ensures.reads

pub returns-clause-asks : goal.returns-clause-asks
returns-clause-asks g c =
    no_fault g.S.Store _ _ c.make_neighbour.result c.make_neighbour.ensures.no_fault c.is_clash_at.ensures.reads
