use Rattle.std.proofs.Common.{◌≡◌, ◌↔◌, IfOk, inl, inr, ⊎_elim, Bool, true, false, IsTrue, sym, refl, subst, ◌∙◌}
use Rattle.std.specs.FinMap.{get}
use Rattle.std.proofs.lemmas.Bool.{false≢true}
use Rattle.std.proofs.lemmas.Result.{IfOk-weaker}
use Rattle.reuse_change.specs.Files.{Files, tree_of}
use Rattle.reuse_change.specs.Change.{path_of}
use Rattle.reuse_change.specs.declared.change.Change.{Change}
use Rattle.reuse_change.specs.declared.direction.Direction.{Direction}
use Rattle.reuse_change.specs.Tree.{is_of_tree}
use Rattle.reuse_change.specs.Entry.{IsReady, CanBeMade, CanBeRolledBack, opposite}
use Rattle.reuse_journal.specs.Tested.{Passes}
use Rattle.reuse_journal.specs.declared.prepare.Check.{Check}
use Rattle.reuse_store.proofs.OfTree.{tree_at}
use Rattle.reuse_journal.proofs.prepare.passes.Goals as goal

module _ (direction : Direction) (change : Change) (files : Files) (of_tree : is_of_tree (path_of change) ≡ true)
    (ready : Bool) (is : IsTrue ready ↔ IsReady direction change (get files (path_of change))) where
  not_made : ready ≡ true → CanBeRolledBack direction (tree_of files) change
  not_made holds = inl (subst (IsReady direction change) (sym (tree_at files (path_of change) of_tree)) (is.0 holds))

  made : ready ≡ false → (other : Direction) → other ≡ opposite direction → (later : Files) → later ≡ files
      → (answer : Bool)
      → (IsTrue answer ↔ CanBeMade other (tree_of later) change)
      → IsTrue answer ↔ CanBeRolledBack direction (tree_of files) change
  made fails other is_opposite later same answer h =
      let can : IsTrue answer ↔ CanBeMade (opposite direction) (tree_of files) change =
      subst (λ w. IsTrue answer ↔ CanBeMade w (tree_of files) change) is_opposite
      (subst (λ m. IsTrue answer ↔ CanBeMade other (tree_of m) change) same h) in (
        λ holds. inr (can.0 holds),
        λ either. ⊎_elim
            (λ (r : IsReady direction change (get (tree_of files) (path_of change))). absurd (false≢true
            (sym fails ∙ is.1 (subst (IsReady direction change) (tree_at files (path_of change) of_tree) r))))
            (λ (m : CanBeMade (opposite direction) (tree_of files) change). can.1 m)
            either,
      )

pub returns-in-Go-clause-ok : goal.returns-in-Go-clause-ok
returns-in-Go-clause-ok g c honest proper small of_tree =
    subst (λ (check : Check). IfOk c.can_be_made.result (λ (b : Bool). IsTrue b
    ↔ Passes check c.args.direction (tree_of (g.S.Store.files c.args.store.now)) c.args.change.now)) (sym c.in-Go.is)
    (c.can_be_made.ensures.ok honest proper small of_tree)

pub returns-then-branch-clause-ok : goal.returns-then-branch-clause-ok
returns-then-branch-clause-ok g c honest proper small of_tree =
    let files = g.S.Store.files c.args.store.now in
    subst (λ (check : Check). IsTrue true ↔ Passes check c.args.direction (tree_of files) c.args.change.now)
    (sym c.in-RollingBack.is) (
      λ _. not_made c.args.direction c.args.change.now files of_tree c.in_ok-can_apply-in-RollingBack.field-0
          (c.in_ok-can_apply-in-RollingBack.ensures.ok honest proper small) c.if-branch.true,
      λ _. refl,
    )

pub returns-else-branch-clause-ok : goal.returns-else-branch-clause-ok
returns-else-branch-clause-ok g c honest proper small of_tree =
    let files = g.S.Store.files c.args.store.now in
    let direction = c.args.direction in
    let change = c.args.change.now in
    let before = c.can_be_made-in-RollingBack.ensures.reads.was_honest honest in
    let same = c.can_apply.ensures.reads.files before in
    subst (λ (check : Check). IfOk c.can_be_made-in-RollingBack.result
    (λ (b : Bool). IsTrue b ↔ Passes check direction (tree_of files) change)) (sym c.in-RollingBack.is) (
    IfOk-weaker c.can_be_made-in-RollingBack.result
    (λ (b : Bool). IsTrue b ↔ CanBeMade c.opposite.result (tree_of (g.S.Store.files c.can_apply.new.store)) change)
    (λ (b : Bool). IsTrue b ↔ CanBeRolledBack direction (tree_of files) change)
    (made direction change files of_tree c.in_ok-can_apply-in-RollingBack.field-0
    (c.in_ok-can_apply-in-RollingBack.ensures.ok before proper small) c.if-branch.false c.opposite.result
    c.opposite.ensures (g.S.Store.files c.can_apply.new.store) same)
    (c.can_be_made-in-RollingBack.ensures.ok honest proper small of_tree)
    )
