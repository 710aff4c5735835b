use Rattle.std.proofs.Common.{Some, Ok, sym, subst, ap, ◌∙◌}
use Rattle.reuse_toml.specs.TomlAmending.{toml_amendment_of}
use Rattle.reuse_toml.specs.TomlAnswers.{IsTomlAnswer}
use Rattle.reuse_edit.specs.Amend.{table_amendment}
use Rattle.reuse_edit.specs.Answered.{IsRefusalOf, MakesEdit}
use Rattle.reuse_edit.proofs.TableLemmas.{table_made, table_refused}
use Rattle.reuse_edit.proofs.edit.table_change_by.Goals as goal

pub returns-in_ok-table_change-in-Ok-Some-clause-edit : goal.returns-in_ok-table_change-in-Ok-Some-clause-edit
returns-in_ok-table_change-in-Ok-Some-clause-edit c tree amendments here short answer =
    let path = c.args.path.now in
    let file = c.args.file.now in
    let splice = c.in-Ok-Some.splice in
    let is = subst (IsTomlAnswer (toml_amendment_of amendments file))
    (c.in-Ok-Some.is ∙ ap (λ o. Ok o) c.in-Ok-Some.field-0-is) answer in
    subst (λ expected. MakesEdit tree (table_amendment path file expected)
    (Some c.in_ok-table_change-in-Ok-Some.field-0)) (sym is)
    (subst (λ change. MakesEdit tree (table_amendment path file (Ok (Some splice))) (Some change))
    (sym c.in_ok-table_change-in-Ok-Some.ensures) (table_made amendments file splice is tree path here short))

pub returns-in_ok-table_refused_by-in-Err-clause-edit : goal.returns-in_ok-table_refused_by-in-Err-clause-edit
returns-in_ok-table_refused_by-in-Err-clause-edit c tree amendments here short answer =
    let path = c.args.path.now in
    let file = c.args.file.now in
    let given = subst (IsTomlAnswer (toml_amendment_of amendments file)) c.in-Err.is answer in
    subst (IsRefusalOf (table_amendment path file (toml_amendment_of amendments file)))
    (sym c.in_ok-table_refused_by-in-Err.ensures)
    (table_refused path file (toml_amendment_of amendments file) c.in-Err.refusal given)
