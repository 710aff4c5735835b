use Rattle.std.proofs.Common.{◌∙◌, ap, option_map, Some}
use Rattle.toml.specs.View.{table_view}
use Rattle.reuse_toml.specs.TomlText.{read_toml}
use Rattle.reuse_toml.specs.TomlAmending.{change_judged}
use Rattle.reuse_toml.proofs.TomlLemmas.{answer-of}
use Rattle.reuse_toml.proofs.toml_change.judge_read.Goals as goal

pub returns-in-None : goal.returns-in-None
returns-in-None c =
    ap (change_judged c.args.amendments.now c.args.file.now c.args.text.now (table_view c.args.old.now))
    (c.in_ok-read_table.ensures ∙ ap (option_map table_view) c.in-None.is)

pub returns-in-Some : goal.returns-in-Some
returns-in-Some c =
    let judge = change_judged c.args.amendments.now c.args.file.now c.args.text.now (table_view c.args.old.now) in
    answer-of (judge (read_toml c.args.text.now)) (judge (Some (table_view c.in-Some.new))) c.judge_tables.result
    (ap judge (c.in_ok-read_table.ensures ∙ ap (option_map table_view) c.in-Some.is)) c.judge_tables.ensures
