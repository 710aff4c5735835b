use Rattle.std.proofs.Common.{length, Some, sym, ap, subst, ◌∙◌, arith}
use Rattle.reuse_amend.specs.declared.amendments.Amendments.{Amendments}
use Rattle.reuse_toml.specs.TomlAmending.{toml_amendment_of}
use Rattle.reuse_toml.specs.TomlAnswers.{IsTomlAnswer}
use Rattle.reuse_command.specs.Command.{values_of}
use Rattle.reuse_edit.specs.Amend.{table_amendment}
use Rattle.reuse_edit.specs.Answered.{AnswersEdit}
use Rattle.reuse_edit.proofs.AmendmentEdits.{table_is}
use Rattle.reuse_edit.proofs.EditLemmas.{short_is}
use Rattle.reuse_edit.proofs.TableLemmas.{within_answer}
use Rattle.reuse_edit.proofs.amend.plan_table_text.Goals as goal

pub table_change_by-requires : goal.table_change_by-requires
table_change_by-requires c =
    let a = values_of c.args.asked.now.amendment.now in
    within_answer a c.as_slice-2.result.now c.amend_toml-made.result
    (subst (λ xs. IsTomlAnswer (toml_amendment_of a xs) c.amend_toml-made.result)
    (c.as_slice.ensures ∙ sym c.as_slice-2.ensures)
    (subst (λ (v : Amendments). IsTomlAnswer (toml_amendment_of v c.as_slice.result.now) c.amend_toml-made.result)
    c.values.ensures c.amend_toml-made.ensures))

pub returns-clause-edit : goal.returns-clause-edit
returns-clause-edit c tree bytes here reading =
    let path = c.args.path.now in
    let a = values_of c.args.asked.now.amendment.now in
    let short = short_is path bytes c.in_ok-bytes.bytes (c.in_ok-bytes.ensures.answer bytes reading) in
    let same = short.1 in
    subst (λ r. AnswersEdit tree r c.table_change_by.result) (sym (table_is c.args.asked.now path bytes short.0))
    (subst (λ xs. AnswersEdit tree (table_amendment path xs (toml_amendment_of a xs)) c.table_change_by.result)
    (c.as_slice-2.ensures ∙ sym same)
    (c.table_change_by.ensures.edit tree a (here ∙ ap (λ xs. Some xs) (same ∙ sym c.as_slice-2.ensures))
    (omega (arith, ap length c.as_slice-2.ensures, c.in_ok-bytes.ensures.short))
    (subst (λ xs. IsTomlAnswer (toml_amendment_of a xs) c.amend_toml-made.result)
    (c.as_slice.ensures ∙ sym c.as_slice-2.ensures)
    (subst (λ (v : Amendments). IsTomlAnswer (toml_amendment_of v c.as_slice.result.now) c.amend_toml-made.result)
    c.values.ensures c.amend_toml-made.ensures))))
