use Rattle.std.proofs.Common.{◌∙◌, ap}
use Rattle.reuse_report.proofs.TextLemmas.{none_named}
use Rattle.reuse_report.specs.Texts.{licence_named}
use Rattle.reuse_report.proofs.texts.name_of.Goals as goal

pub returns-in-Ok : goal.returns-in-Ok
returns-in-Ok c = c.name_if_id.ensures ∙ ap licence_named (c.in-Ok.ensures.cases.0 ∙ c.as_slice.ensures)

pub returns-in-Err : goal.returns-in-Err
returns-in-Err c = none_named _ c.in-Err.ensures.cases.0 ∙ ap licence_named c.as_slice.ensures
