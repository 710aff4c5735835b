use Rattle.std.proofs.Common.{◌∙◌, ap, option_map, Some, None}
use Rattle.toml.specs.View.{table_view}
use Rattle.reuse_toml.specs.TomlAmending.{table_amended, toml_amendment_of}
use Rattle.reuse_toml.proofs.TomlLemmas.{amendment-is, answer-of}
use Rattle.reuse_toml.proofs.toml_change.amend_toml.Goals as goal

pub returns-in-None : goal.returns-in-None
returns-in-None c = amendment-is c.args.amendments.now c.args.file.now None
    (c.in_ok-read_table.ensures ∙ ap (option_map table_view) c.in-None.is)

pub returns-in-Some : goal.returns-in-Some
returns-in-Some c =
    answer-of (toml_amendment_of c.args.amendments.now c.args.file.now)
    (table_amended c.args.amendments.now c.args.file.now (Some (table_view c.in-Some.old))) c.amend_table.result
    (amendment-is c.args.amendments.now c.args.file.now (Some (table_view c.in-Some.old))
    (c.in_ok-read_table.ensures ∙ ap (option_map table_view) c.in-Some.is)) c.amend_table.ensures
