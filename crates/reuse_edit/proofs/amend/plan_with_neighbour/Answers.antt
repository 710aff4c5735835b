use Rattle.std.proofs.Common.{◌∙◌, sym, ap}
use Rattle.reuse_command.specs.Reading.{get, tree_of}
use Rattle.reuse_amend.specs.declared.amendments.Amendments.{Amendments}
use Rattle.reuse_text.specs.declared.TheConstants.{LONGEST_FILE}
use Rattle.reuse_command.specs.Command.{values_of}
use Rattle.reuse_store.proofs.TreeLemmas.{read_there}
use Rattle.reuse_edit.specs.AmendmentPlan.{beside_by}
use Rattle.reuse_edit.specs.Left.{still_names}
use Rattle.reuse_edit.proofs.TellingLemmas.{beside_place, file_tells, neighbour_tells}
use Rattle.reuse_edit.proofs.amend.plan_with_neighbour.Goals as goal

pub returns-then-not-takes_away-clause-edit : goal.returns-then-not-takes_away-clause-edit
returns-then-not-takes_away-clause-edit g c honest bytes beside here there =
    let asked = c.args.asked.now in
    let path = c.args.path.now in
    let made = c.in-Ok.ensures.edit honest beside there in (
      made.0,
      made.1 ∙ neighbour_tells (values_of asked.amendment.now) (tree_of (g.S.Store.files c.args.store.now)) path bytes
          beside here there (beside_by asked path beside) (beside_place asked path beside) c.in-Ok.amended.change made.0
          (sym c.takes_away.ensures ∙ c.if-not-takes_away.true),
    )

pub returns-clause-edit : goal.returns-clause-edit
returns-clause-edit g c honest bytes beside here there =
    let asked = c.args.asked.now in
    let path = c.args.path.now in
    let before = c.in_ok-reading.ensures.reads.was_honest honest in
    let made = c.in-Ok.ensures.edit before beside there in
    let same = c.in-Ok.ensures.asks.reads.files before in
    let reading = read_there (g.S.Store.files c.plan_in_neighbour.new.store) path bytes LONGEST_FILE
    c.in_ok-reading.reading (ap (λ f. get (tree_of f) path) same ∙ here) (c.in_ok-reading.ensures.reading honest) in (
      made.0,
      c.still_names_read-is_left.ensures bytes reading
          ∙ ap (λ (a : Amendments). still_names a bytes) c.values.ensures
          ∙ file_tells (values_of asked.amendment.now) (tree_of (g.S.Store.files c.args.store.now)) path bytes beside
          here there (beside_by asked path beside) (beside_place asked path beside) c.in-Ok.amended.change made.0
          (sym c.takes_away.ensures ∙ c.if-not-takes_away.false),
    )
