use Rattle.std.proofs.Common.{◌∙◌, ap, sym, Some}
use Rattle.toml.specs.View.{table_view}
use Rattle.reuse_toml.specs.TomlAmending.{if_ok, text_amended, text_judged, table_amended}
use Rattle.reuse_toml.proofs.TomlLemmas.{toml-stop, answer-of}
use Rattle.reuse_toml.proofs.toml_change.amend_table.Goals as goal

pub returns-in-Err : goal.returns-in-Err
returns-in-Err c =
    toml-stop (text_amended c.args.amendments.now c.args.file.now)
    (table_amended c.args.amendments.now c.args.file.now (Some (table_view c.args.old.now))) c.in-Err.refusal
    (λ expected. ap (if_ok (text_judged c.args.amendments.now c.args.file.now (table_view c.args.old.now))) expected)
    c.in-Err.ensures

pub returns-in-Ok : goal.returns-in-Ok
returns-in-Ok c =
    let judge = text_judged c.args.amendments.now c.args.file.now (table_view c.args.old.now) in
    answer-of (table_amended c.args.amendments.now c.args.file.now (Some (table_view c.args.old.now)))
    (judge c.as_slice.result.now) c.judge_text.result
    (ap (if_ok judge) c.in-Ok.ensures ∙ ap judge (sym c.as_slice.ensures)) c.judge_text.ensures
