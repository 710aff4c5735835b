use Rattle.std.proofs.Common.{◌≡◌, ◌↔◌, inl, inr, ⊎_elim, true, IsTrue, refl, sym, ap, subst, ◌∙◌, ◌++◌, ◌∷◌, []}
use Rattle.std.specs.FinMap.{get}
use Rattle.std.proofs.lemmas.Bool.{false≢true}
use Rattle.reuse_change.specs.Change.{path_of, IsProper}
use Rattle.reuse_change.specs.Entry.{opposite, CanBeMade, IsReady, IsSmall}
use Rattle.reuse_change.specs.Files.{tree_of}
use Rattle.reuse_change.specs.Tree.{is_of_tree}
use Rattle.reuse_journal.proofs.Recovering.{is_before, not_before}
use Rattle.reuse_journal.proofs.recovery.find_next.Given.{Over}
use Rattle.reuse_journal.proofs.recovery.find_next.Goals.{In_ok-can_be_made}
use Rattle.reuse_journal.proofs.recovery.find_next.Goals as goal

pub returns-then-branch-clause-adds : goal.returns-then-branch-clause-adds
returns-then-branch-clause-adds g c honest proper small of_tree =
    inl (
      is_before c.args.direction c.args.change.now (g.S.Store.files c.args.store.now) of_tree c.in_ok-can_apply.field-0
          (c.in_ok-can_apply.ensures.ok honest proper small) c.if-branch.true,
      refl,
      refl,
    )

-- the second test reports whether the change is made and can be taken back
can_report : (g : Over) (c : In_ok-can_be_made g) → g.S.Store.honest c.can_be_made.new.store
    → IsProper c.args.change.now → IsSmall c.args.change.now → is_of_tree (path_of c.args.change.now) ≡ true
    → IsTrue c.in_ok-can_be_made.field-0
    ↔ CanBeMade (opposite c.args.direction) (tree_of (g.S.Store.files c.args.store.now)) c.args.change.now
can_report g c honest proper small of_tree =
    let same = c.can_apply.ensures.reads.files (c.can_be_made.ensures.reads.was_honest honest) in
    let answer = c.in_ok-can_be_made.field-0 in
    let change = c.args.change.now in
    subst (λ w. IsTrue answer ↔ CanBeMade w (tree_of (g.S.Store.files c.args.store.now)) change) c.opposite.ensures
    (subst (λ m. IsTrue answer ↔ CanBeMade c.opposite.result (tree_of m) change) same
    (c.in_ok-can_be_made.ensures.ok honest proper small of_tree))

not_ready : (g : Over) (c : In_ok-can_be_made g) → g.S.Store.honest c.can_be_made.new.store → IsProper c.args.change.now
    → IsSmall c.args.change.now → is_of_tree (path_of c.args.change.now) ≡ true
    → ¬ (IsReady c.args.direction c.args.change.now
    (get (tree_of (g.S.Store.files c.args.store.now)) (path_of c.args.change.now)))
not_ready g c honest proper small of_tree =
    not_before c.args.direction c.args.change.now (g.S.Store.files c.args.store.now) of_tree c.in_ok-can_apply.field-0
    (c.in_ok-can_apply.ensures.ok (c.can_be_made.ensures.reads.was_honest honest) proper small) c.if-branch.false

pub returns-in_ok-push-clause-adds : goal.returns-in_ok-push-clause-adds
returns-in_ok-push-clause-adds g c honest proper small of_tree =
    let at = (goal.at.returns-in_ok-push-clause-adds g c).In_ok-can_be_made in
    inr (inl (
      not_ready g at honest proper small of_tree,
      (can_report g at honest proper small of_tree).0 c.if-branch-2.true,
      c.in_ok-push.ensures.items
          ∙ ap (λ path. c.args.found.now.changed.items ++ path ∷ []) (c.in_ok-path.ensures ∙ c.path.ensures),
      refl,
    ))

pub returns-in_ok-push-2-clause-adds : goal.returns-in_ok-push-2-clause-adds
returns-in_ok-push-2-clause-adds g c honest proper small of_tree =
    let at = (goal.at.returns-in_ok-push-2-clause-adds g c).In_ok-can_be_made in
    inr (inr (
      λ can. ⊎_elim
          (not_ready g at honest proper small of_tree)
          (λ (made : CanBeMade (opposite c.args.direction)
          (tree_of (g.S.Store.files c.args.store.now)) c.args.change.now). false≢true
          (sym c.if-branch-2.false ∙ (can_report g at honest proper small of_tree).1 made))
          can,
      refl,
      c.in_ok-push-2.ensures.items
          ∙ ap (λ path. c.args.found.now.skipped.items ++ path ∷ []) (c.in_ok-path.ensures ∙ c.path.ensures),
    ))
