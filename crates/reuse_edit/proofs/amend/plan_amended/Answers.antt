use Rattle.std.proofs.Common.{◌≡◌, ◌∙◌, List, ℕ, true, Some, IsSome, sym, ap, subst, Err}
use Rattle.reuse_command.specs.Reading.{get, tree_of}
use Rattle.reuse_change.specs.Listing.{is_among}
use Rattle.reuse_edit.specs.AmendmentPlan.{amended_by, beside_by, inside_by, own_of}
use Rattle.reuse_edit.specs.Annotate.{neighbour_of}
use Rattle.reuse_command.specs.Covered.{is_covered}
use Rattle.reuse_edit.specs.Answered.{AnswersEdit}
use Rattle.reuse_edit.specs.Pair.{ShowsPair}
use Rattle.reuse_edit.specs.Tables.{is_table}
use Rattle.reuse_command.specs.declared.reply.Refusal.TheVariants as refusals
use Rattle.reuse_edit.proofs.AmendmentEdits.{uncovered_is, goes_to_neighbour, goes_inside, goes_to_table}
use Rattle.reuse_edit.proofs.AbsentFiles.{is_absent, some_file}
use Rattle.reuse_edit.proofs.EditLemmas.{some_bytes}
use Rattle.reuse_edit.proofs.LeftLemmas.{answers_path, no_table_left, own_answers}
use Rattle.reuse_edit.proofs.PathPlanLemmas.{is_refusal_of}
use Rattle.reuse_edit.proofs.TableLemmas.{not_table}
use Rattle.reuse_edit.proofs.amend.plan_amended.Given.{Over}
use Rattle.reuse_edit.proofs.amend.plan_amended.Goals.{After-is_covered, After-plan_table}
use Rattle.reuse_edit.proofs.amend.plan_amended.Goals as goal

pub returns-then-not-is_among-clause-edit : goal.returns-then-not-is_among-clause-edit
returns-then-not-is_among-clause-edit g c honest are =
    let tree = tree_of (g.S.Store.files c.args.store.now) in
    let asked = c.args.asked.now in
    is_refusal_of (amended_by asked tree c.args.path.now) c.in_ok-absent_refusal.field-0
    (c.in_ok-absent_refusal.ensures.amended asked.amendment.now asked.scope.now (own_of asked) tree are
    (sym (c.is_among.ensures are.ordered ∙ ap (is_among c.args.paths.now) c.as_bytes.ensures.bytes)
    ∙ c.if-not-is_among.true))

-- the table is there
module _ (g : Over) (c : After-plan_table g) (honest : g.S.Store.honest c.plan_table.new.store)
    (are : ShowsPair c.args.paths.now (tree_of (g.S.Store.files c.args.store.now)) c.args.path.now) where
  table : is_table c.args.path.now ≡ true
  table = ap is_table (sym c.as_bytes-2.ensures.bytes) ∙ sym c.is_table.ensures ∙ c.if-is_table.true

  of_table : AnswersEdit (tree_of (g.S.Store.files c.args.store.now))
      (amended_by c.args.asked.now (tree_of (g.S.Store.files c.args.store.now)) c.args.path.now) c.plan_table.result
  of_table =
      let tree = tree_of (g.S.Store.files c.args.store.now) in
      let path = c.args.path.now in
      let there = sym (c.is_among.ensures are.ordered ∙ ap (is_among c.args.paths.now) c.as_bytes.ensures.bytes)
      ∙ c.if-not-is_among.false in
      let file = some_bytes (get tree path) (some_file tree path c.args.paths.now are.there there) in
      subst (λ r. AnswersEdit tree r c.plan_table.result)
      (sym (goes_to_table c.args.asked.now tree path file.0 file.1 table))
      (c.plan_table.ensures.edit honest file.0 file.1)

pub returns-in-Ok-clause-edit : goal.returns-in-Ok-clause-edit
returns-in-Ok-clause-edit g c honest are =
    let at = (goal.at.returns-in-Ok-clause-edit g c).After-plan_table in
    let tree = tree_of (g.S.Store.files c.args.store.now) in (
      subst (AnswersEdit tree (amended_by c.args.asked.now tree c.args.path.now)) c.in-Ok.is
          (of_table g at honest are),
      no_table_left c.args.asked.now tree c.args.path.now (table g at honest are),
    )

pub returns-in-Err-clause-edit : goal.returns-in-Err-clause-edit
returns-in-Err-clause-edit g c honest are =
    let at = (goal.at.returns-in-Err-clause-edit g c).After-plan_table in
    let tree = tree_of (g.S.Store.files c.args.store.now) in
    subst (AnswersEdit tree (amended_by c.args.asked.now tree c.args.path.now)) c.in-Err.is (of_table g at honest are)

-- the tree has a file at the path where it is among those of the tree
module _ (g : Over) (c : After-is_covered g)
    (are : ShowsPair c.args.paths.now (tree_of (g.S.Store.files c.args.store.now)) c.args.path.now) where
  some : IsSome (get (tree_of (g.S.Store.files c.args.store.now)) c.args.path.now)
  some =
      let there = sym (c.is_among.ensures are.ordered ∙ ap (is_among c.args.paths.now) c.as_bytes.ensures.bytes)
      ∙ c.if-not-is_among.false in
      some_file (tree_of (g.S.Store.files c.args.store.now)) c.args.path.now c.args.paths.now are.there there

  found : (bytes : List ℕ) × (get (tree_of (g.S.Store.files c.args.store.now)) c.args.path.now ≡ Some bytes)
  found = some_bytes (get (tree_of (g.S.Store.files c.args.store.now)) c.args.path.now) some

  covered : is_covered c.args.path.now ≡ c.is_covered.result
  covered = ap is_covered (sym c.as_bytes-3.ensures.bytes) ∙ sym c.is_covered.ensures

pub returns-then-not-is_covered-clause-edit : goal.returns-then-not-is_covered-clause-edit
returns-then-not-is_covered-clause-edit g c honest are =
    let at = (goal.at.returns-then-not-is_covered-clause-edit g c).After-is_covered in
    let tree = tree_of (g.S.Store.files c.args.store.now) in
    uncovered_is c.args.asked.now tree c.args.path.now (get tree c.args.path.now) (some g at are)
    (ap is_table (sym c.as_bytes-2.ensures.bytes) ∙ sym c.is_table.ensures ∙ c.if-is_table.false)
    (covered g at are ∙ c.if-not-is_covered.true)
    ∙ ap (λ p. Err (refusals.NotCovered p)) (sym c.in_ok-try_clone.ensures)

pub returns-then-is_among-clause-edit : goal.returns-then-is_among-clause-edit
returns-then-is_among-clause-edit g c honest are =
    let at = (goal.at.returns-then-is_among-clause-edit g c).After-is_covered in
    let tree = tree_of (g.S.Store.files c.args.store.now) in
    let path = c.args.path.now in
    let file = found g at are in
    let among = sym (c.is_among-2.ensures are.ordered
    ∙ ap (is_among c.args.paths.now) (c.as_slice.ensures ∙ c.in_ok-neighbour.ensures)) ∙ c.if-is_among.true in
    let beside =
    some_bytes (get tree (neighbour_of path)) (some_file tree (neighbour_of path) c.args.paths.now are.beside among) in
    let is = covered g at are ∙ c.if-not-is_covered.false in
    answers_path c.args.asked.now tree path (beside_by c.args.asked.now path beside.0) c.plan_with_neighbour.result
    (not_table path is) (goes_to_neighbour c.args.asked.now tree path file.0 beside.0 file.1 is beside.1)
    (c.plan_with_neighbour.ensures.edit honest file.0 beside.0 file.1 beside.1)

pub returns-clause-edit : goal.returns-clause-edit
returns-clause-edit g c honest are =
    let at = (goal.at.returns-clause-edit g c).After-is_covered in
    let tree = tree_of (g.S.Store.files c.args.store.now) in
    let path = c.args.path.now in
    let file = found g at are in
    let among = sym (c.is_among-2.ensures are.ordered
    ∙ ap (is_among c.args.paths.now) (c.as_slice.ensures ∙ c.in_ok-neighbour.ensures)) ∙ c.if-is_among.false in
    let alone = is_absent tree (neighbour_of path) c.args.paths.now are.beside among in
    let is = covered g at are ∙ c.if-not-is_covered.false in
    answers_path c.args.asked.now tree path (inside_by c.args.asked.now path file.0) c.plan_inside.result
    (not_table path is) (goes_inside c.args.asked.now tree path file.0 file.1 is alone)
    (own_answers c.args.asked.now tree path file.0 file.1 alone c.plan_inside.result
    (c.plan_inside.ensures.edit honest file.0 file.1))
