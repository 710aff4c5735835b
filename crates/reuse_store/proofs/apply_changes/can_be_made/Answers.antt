use Rattle.std.proofs.Common.{sym, ap, refl, ◌∙◌}
use Rattle.std.specs.FinMap.{keys}
use Rattle.reuse_change.specs.Change.{path_of}
use Rattle.reuse_change.specs.Clash.{is_clash}
use Rattle.reuse_store.proofs.Testing.{not_ready, makes_none, makes_one}
use Rattle.reuse_store.proofs.apply_changes.can_be_made.Goals as goal

pub returns-then-not-branch-clause-ok : goal.returns-then-not-branch-clause-ok
returns-then-not-branch-clause-ok g c honest proper small of_tree =
    not_ready (g.S.Store.files c.args.store.now) c.args.direction c.args.change.now of_tree c.in_ok-can_apply.field-0
    c.if-not-branch.true (c.in_ok-can_apply.ensures.ok honest proper small)

pub returns-then-makes-clause-ok : goal.returns-then-makes-clause-ok
returns-then-makes-clause-ok g c honest proper small of_tree =
    let made = sym c.makes.ensures ∙ c.if-makes.true in
    let before = c.is_clash_at.ensures.reads.was_honest honest in
    makes_one (g.S.Store.files c.args.store.now) c.args.direction c.args.change.now of_tree made
    c.in_ok-can_apply.field-0 c.if-not-branch.false (c.in_ok-can_apply.ensures.ok before proper small)
    (keys (g.S.Store.files c.args.store.now)) refl c.in_ok-is_clash_at.field-0
    (rw c.path.ensures at (c.in_ok-is_clash_at.ensures.clash honest)
    ∙ ap (λ files. is_clash files (path_of c.args.change.now)) (c.can_apply.ensures.reads.files before))

pub returns-clause-ok : goal.returns-clause-ok
returns-clause-ok g c honest proper small of_tree =
    makes_none (g.S.Store.files c.args.store.now) c.args.direction c.args.change.now of_tree c.in_ok-can_apply.field-0
    c.if-not-branch.false (c.in_ok-can_apply.ensures.ok honest proper small)
    (sym c.makes.ensures ∙ c.if-makes.false)
