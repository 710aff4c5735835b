use Rattle.std.proofs.Common.{◌≡◌, ◌&&◌, IfOk, true, sym, ap, subst, ◌∙◌}
use Rattle.reuse_change.specs.Change.{path_of}
use Rattle.reuse_change.specs.Clash.{is_clash}
use Rattle.reuse_change.specs.Entry.{makes}
use Rattle.reuse_change.specs.Files.{tree_of}
use Rattle.reuse_change.specs.declared.direction.Direction.TheVariants.{Backward}
use Rattle.reuse_edit.proofs.AtTree.{clash_of_tree}
use Rattle.reuse_plan.proofs.revert.makes_at_clash.Goals as goal

pub returns-then-not-makes-clause-clash : goal.returns-then-not-makes-clause-clash
returns-then-not-makes-clause-clash g c honest of_tree =
    ap (λ b. b && is_clash (tree_of (g.S.Store.files c.args.store.now)) (path_of c.args.change.now))
    (sym c.if-not-makes.true ∙ c.makes.ensures)

pub returns-clause-clash : goal.returns-clause-clash
returns-clause-clash g c honest of_tree =
    let files = g.S.Store.files c.args.store.now in
    let path = path_of c.args.change.now in
    let made : makes Backward c.args.change.now ≡ true = sym c.makes.ensures ∙ c.if-not-makes.false in
    subst (λ b. IfOk c.is_clash_at.result (λ clash. clash ≡ b))
    (ap (is_clash files) c.path.ensures ∙ clash_of_tree files path of_tree
    ∙ ap (λ b. b && is_clash (tree_of files) path) (sym made))
    (c.is_clash_at.ensures.clash honest)
