use Rattle.std.proofs.Common.{◌∙◌, sym, ap}
use Rattle.reuse_amend.specs.declared.amendments.Amendments.{Amendments}
use Rattle.reuse_text.specs.declared.TheConstants.{LONGEST_FILE}
use Rattle.reuse_change.specs.Files.{tree_of}
use Rattle.reuse_command.specs.Command.{values_of}
use Rattle.reuse_edit.specs.AmendmentPlan.{names_behind}
use Rattle.reuse_edit.specs.Left.{still_names}
use Rattle.reuse_edit.proofs.AmendmentEdits.{passed_over_is}
use Rattle.reuse_store.proofs.TreeLemmas.{read_there}
use Rattle.reuse_edit.proofs.amend.plan_inside.Goals as goal

pub returns-then-is_passed_over-clause-edit : goal.returns-then-is_passed_over-clause-edit
returns-then-is_passed_over-clause-edit g c honest bytes here =
    let reading = read_there (g.S.Store.files c.args.store.now) c.args.path.now bytes LONGEST_FILE
    c.in_ok-reading.reading here (c.in_ok-reading.ensures.reading honest) in
    let asked = c.args.asked.now in
    let at = passed_over_is asked c.args.path.now bytes
    (sym (c.is_passed_over.ensures bytes reading) ∙ c.if-is_passed_over.true) in (
      at,
      c.still_names_read.ensures bytes reading
          ∙ ap (λ (a : Amendments). still_names a bytes) c.values.ensures
          ∙ sym (ap (names_behind (values_of asked.amendment.now) bytes) at),
    )

pub returns-clause-edit : goal.returns-clause-edit
returns-clause-edit g c honest bytes here =
    let reading = read_there (g.S.Store.files c.args.store.now) c.args.path.now bytes LONGEST_FILE
    c.in_ok-reading.reading here (c.in_ok-reading.ensures.reading honest) in
    c.plan_reading.ensures.edit (tree_of (g.S.Store.files c.args.store.now)) bytes here
    (sym (c.is_passed_over.ensures bytes reading) ∙ c.if-is_passed_over.false) reading
