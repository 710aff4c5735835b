use Rattle.std.proofs.Common.{◌≡◌, ◌∙◌, Bool, cond, List, ℕ, Some, IsSome, sym, ap, subst, true, false, Ok, Err}
use Rattle.reuse_command.specs.Reading.{get, tree_of, IsOfPlan}
use Rattle.reuse_text.specs.declared.TheConstants.{LONGEST_FILE}
use Rattle.reuse_command.specs.declared.reply.Refusal.TheVariants as refusals
use Rattle.reuse_edit.specs.AnnotationPlan.{own_of, path_by, path_beside_by, path_by_place, place_by}
use Rattle.reuse_edit.specs.declared.target.Target.TheVariants as target
use Rattle.reuse_command.specs.Covered.{is_covered}
use Rattle.reuse_change.specs.Listing.{is_among}
use Rattle.reuse_edit.specs.Pair.{ShowsPair}
use Rattle.reuse_edit.specs.PathPlans.{AnswersPlan, IsPlanOf}
use Rattle.reuse_edit.specs.Answered.{IsRefusalOf}
use Rattle.reuse_edit.specs.Steps.{StepsTo}
use Rattle.reuse_store.proofs.AskedLemmas.{reads_none}
use Rattle.reuse_command.proofs.Asking.{no_fault, short, failed, later, plan_faults}
use Rattle.reuse_store.proofs.TreeLemmas.{read_there}
use Rattle.reuse_edit.proofs.AbsentFiles.{reported_as, some_file}
use Rattle.reuse_edit.proofs.EditLemmas.{some_bytes, uncovered_is, path_is}
use Rattle.reuse_edit.proofs.PathPlanLemmas.{is_refusal_of}
use Rattle.reuse_edit.specs.declared.path_plan.Policy.TheVariants.{Stop}
use Rattle.reuse_edit.proofs.annotate.plan_annotated.Given.{Over}
use Rattle.reuse_edit.proofs.annotate.plan_annotated.Goals.{After-is_covered, In_ok-goes_to_neighbour}
use Rattle.reuse_edit.proofs.annotate.plan_annotated.Goals as goal

pub returns-then-not-is_among-clause-plan : goal.returns-then-not-is_among-clause-plan
returns-then-not-is_among-clause-plan g c honest are =
    let tree = tree_of (g.S.Store.files c.args.store.now) in
    let asked = c.args.asked.now in
    is_refusal_of (path_by asked tree c.args.path.now).edit c.in_ok-absent_refusal.field-0
    (c.in_ok-absent_refusal.ensures.annotated asked.how.now asked.scope.now asked.additions.now (own_of asked) tree are
    (sym (c.is_among.ensures are.ordered ∙ ap (is_among c.args.paths.now) c.as_bytes.ensures.bytes)
    ∙ c.if-not-is_among.true))

-- the tree has a file at the path where it is among those of the tree
module _ (g : Over) (c : After-is_covered g)
    (are : ShowsPair c.args.paths.now (tree_of (g.S.Store.files c.args.store.now)) c.args.path.now) where
  some : IsSome (get (tree_of (g.S.Store.files c.args.store.now)) c.args.path.now)
  some =
      let there = sym (c.is_among.ensures are.ordered ∙ ap (is_among c.args.paths.now) c.as_bytes.ensures.bytes)
      ∙ c.if-not-is_among.false in
      some_file (tree_of (g.S.Store.files c.args.store.now)) c.args.path.now c.args.paths.now are.there there

  found : (bytes : List ℕ) × (get (tree_of (g.S.Store.files c.args.store.now)) c.args.path.now ≡ Some bytes)
  found = some_bytes (get (tree_of (g.S.Store.files c.args.store.now)) c.args.path.now) some

  covered : is_covered c.args.path.now ≡ c.is_covered.result
  covered = ap is_covered (sym c.as_bytes-2.ensures.bytes) ∙ sym c.is_covered.ensures

-- it is covered
is_so : (g : Over) (c : In_ok-goes_to_neighbour g) → is_covered c.args.path.now ≡ true
is_so g c = ap is_covered (sym c.as_bytes-2.ensures.bytes) ∙ sym c.is_covered.ensures ∙ c.if-not-is_covered.false

-- what is expected at a covered file, whether it goes beside or not
expected : (g : Over) (c : In_ok-goes_to_neighbour g)
    → ShowsPair c.args.paths.now (tree_of (g.S.Store.files c.args.store.now)) c.args.path.now → (bytes : List ℕ)
    → get (tree_of (g.S.Store.files c.args.store.now)) c.args.path.now ≡ Some bytes
    → (beside : Bool) → c.in_ok-goes_to_neighbour.field-0 ≡ beside
    → path_by c.args.asked.now (tree_of (g.S.Store.files c.args.store.now)) c.args.path.now
    ≡ path_by_place c.args.asked.now (tree_of (g.S.Store.files c.args.store.now)) c.args.path.now bytes
    (cond beside (Ok target.InNeighbour) (place_by c.args.asked.now c.args.path.now bytes))
expected g c are bytes here beside is =
    path_is c.args.asked.now (tree_of (g.S.Store.files c.args.store.now)) c.args.path.now bytes beside here
    (ap is_covered (sym c.as_bytes-2.ensures.bytes) ∙ sym c.is_covered.ensures ∙ c.if-not-is_covered.false)
    (sym (c.in_ok-goes_to_neighbour.ensures (tree_of (g.S.Store.files c.args.store.now)) are) ∙ is)

pub returns-then-not-is_covered-clause-plan : goal.returns-then-not-is_covered-clause-plan
returns-then-not-is_covered-clause-plan g c honest are =
    let at = (goal.at.returns-then-not-is_covered-clause-plan g c).After-is_covered in
    uncovered_is c.args.asked.now (tree_of (g.S.Store.files c.args.store.now)) c.args.path.now
    (get (tree_of (g.S.Store.files c.args.store.now)) c.args.path.now)
    (some g at are) (covered g at are ∙ c.if-not-is_covered.true)
    ∙ ap (λ p. Err (refusals.NotCovered p)) (sym c.in_ok-try_clone.ensures)

pub returns-then-branch-clause-plan : goal.returns-then-branch-clause-plan
returns-then-branch-clause-plan g c honest are =
    let at = goal.at.returns-then-branch-clause-plan g c in
    let file = found g at.After-is_covered are in
    subst (λ r. AnswersPlan Stop (tree_of (g.S.Store.files c.args.store.now)) r c.plan_in_neighbour.result)
    (sym (expected g at.In_ok-goes_to_neighbour are file.0 file.1 true c.if-branch.true))
    (c.plan_in_neighbour.ensures.plan honest are (is_so g at.In_ok-goes_to_neighbour))

pub returns-in-Ok-Done-clause-plan : goal.returns-in-Ok-Done-clause-plan
returns-in-Ok-Done-clause-plan g c honest are =
    let at = goal.at.returns-in-Ok-Done-clause-plan g c in
    let tree = tree_of (g.S.Store.files c.args.store.now) in
    let file = found g at.After-is_covered are in
    let step = c.in-Ok-Done.ensures.step tree file.0 file.1 (read_there (g.S.Store.files c.args.store.now)
    c.args.path.now file.0 LONGEST_FILE c.in_ok-reading.reading file.1 (c.in_ok-reading.ensures.reading honest)) in
    subst (λ r. IsPlanOf Stop tree r c.in-Ok-Done.plan)
    (sym (expected g at.In_ok-goes_to_neighbour are file.0 file.1 false c.if-branch.false))
    (subst (λ s. StepsTo c.args.asked.now tree c.args.path.now file.0 (Ok s)) c.in-Ok-Done.field-0-is step)

pub returns-in-Ok-InNeighbour-clause-plan : goal.returns-in-Ok-InNeighbour-clause-plan
returns-in-Ok-InNeighbour-clause-plan g c honest are =
    let at = goal.at.returns-in-Ok-InNeighbour-clause-plan g c in
    let file = found g at.After-is_covered are in
    let before = c.plan_in_neighbour-in-Ok-InNeighbour.ensures.asks.reads.was_honest honest in
    let same = c.in_ok-reading.ensures.reads.files before in
    let tree = tree_of (g.S.Store.files c.args.store.now) in
    let step = c.in-Ok-InNeighbour.ensures.step tree file.0 file.1 (read_there (g.S.Store.files c.args.store.now)
    c.args.path.now file.0 LONGEST_FILE c.in_ok-reading.reading file.1 (c.in_ok-reading.ensures.reading before)) in
    let aim =
    subst (λ s. StepsTo c.args.asked.now tree c.args.path.now file.0 (Ok s)) c.in-Ok-InNeighbour.field-0-is step in
    subst (λ r. AnswersPlan Stop tree r c.plan_in_neighbour-in-Ok-InNeighbour.result)
    (sym (expected g at.In_ok-goes_to_neighbour are file.0 file.1 false c.if-branch.false
    ∙ ap (path_by_place c.args.asked.now tree c.args.path.now file.0) aim))
    (subst (λ f. AnswersPlan Stop (tree_of f)
    (path_beside_by c.args.asked.now (tree_of f) c.args.path.now) c.plan_in_neighbour-in-Ok-InNeighbour.result) same
    (c.plan_in_neighbour-in-Ok-InNeighbour.ensures.plan honest (subst
    (λ f. ShowsPair c.args.paths.now (tree_of f) c.args.path.now) (sym same) are) (is_so g at.In_ok-goes_to_neighbour)))

pub returns-in-Err-clause-plan : goal.returns-in-Err-clause-plan
returns-in-Err-clause-plan g c honest are =
    let at = goal.at.returns-in-Err-clause-plan g c in
    let file = found g at.After-is_covered are in
    subst (λ r. IsRefusalOf r.edit c.in-Err.refusal)
    (sym (expected g at.In_ok-goes_to_neighbour are file.0 file.1 false c.if-branch.false))
    (c.in-Err.ensures.step (tree_of (g.S.Store.files c.args.store.now)) file.0 file.1
    (read_there (g.S.Store.files c.args.store.now) c.args.path.now file.0 LONGEST_FILE c.in_ok-reading.reading file.1
    (c.in_ok-reading.ensures.reading honest)))

pub returns-then-not-is_among-clause-asks : goal.returns-then-not-is_among-clause-asks
returns-then-not-is_among-clause-asks g c = no_fault g.S.Store _ _
    (Err c.in_ok-absent_refusal.field-0) c.in_ok-absent_refusal.ensures.no_fault (reads_none g.S.Store _)

pub returns-in_err-absent_refusal-clause-asks : goal.returns-in_err-absent_refusal-clause-asks
returns-in_err-absent_refusal-clause-asks g c = short g.S.Store IsOfPlan _ _ _
    (reported_as c.from_residual.result _ c.from_residual.ensures.1) tt (reads_none g.S.Store _)

pub returns-then-not-is_covered-clause-asks : goal.returns-then-not-is_covered-clause-asks
returns-then-not-is_covered-clause-asks g c =
    no_fault g.S.Store _ _ (Err (refusals.NotCovered c.in_ok-try_clone.field-0)) tt (reads_none g.S.Store _)

pub returns-in_err-try_clone-clause-asks : goal.returns-in_err-try_clone-clause-asks
returns-in_err-try_clone-clause-asks g c = short g.S.Store IsOfPlan _ _ _
    (reported_as c.from_residual-in_err-try_clone.result _ c.from_residual-in_err-try_clone.ensures.1) tt
    (reads_none g.S.Store _)

pub returns-in_err-goes_to_neighbour-clause-asks : goal.returns-in_err-goes_to_neighbour-clause-asks
returns-in_err-goes_to_neighbour-clause-asks g c = short g.S.Store IsOfPlan _ _ _
    (reported_as c.from_residual-in_err-goes_to_neighbour.result _ c.from_residual-in_err-goes_to_neighbour.ensures.1)
    tt (reads_none g.S.Store _)

pub returns-in_err-reading-clause-asks : goal.returns-in_err-reading-clause-asks
returns-in_err-reading-clause-asks g c = failed g.S.Store IsOfPlan _ _ c.in_err-reading.field-0.0 _
    (reported_as c.from_residual-in_err-reading.result _ c.from_residual-in_err-reading.ensures.1)
    (plan_faults c.in_err-reading.field-0.0) c.in_err-reading.ensures.fails c.in_err-reading.ensures.reads

pub returns-then-branch-clause-asks : goal.returns-then-branch-clause-asks
returns-then-branch-clause-asks g c = c.plan_in_neighbour.ensures.asks

pub returns-in-Ok-Done-clause-asks : goal.returns-in-Ok-Done-clause-asks
returns-in-Ok-Done-clause-asks g c = no_fault g.S.Store _ _ (Ok c.in-Ok-Done.plan) tt c.in_ok-reading.ensures.reads

pub returns-in-Ok-InNeighbour-clause-asks : goal.returns-in-Ok-InNeighbour-clause-asks
returns-in-Ok-InNeighbour-clause-asks g c =
    later g.S.Store IsOfPlan _ _ _ _ c.in_ok-reading.ensures.reads c.plan_in_neighbour-in-Ok-InNeighbour.ensures.asks

pub returns-in-Err-clause-asks : goal.returns-in-Err-clause-asks
returns-in-Err-clause-asks g c =
    no_fault g.S.Store _ _ (Err c.in-Err.refusal) c.in-Err.ensures.no_fault c.in_ok-reading.ensures.reads
