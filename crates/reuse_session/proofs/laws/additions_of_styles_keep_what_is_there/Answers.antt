use Rattle.reuse_command.specs.declared.command.Command.TheVariants.{AddStyles}
use Rattle.reuse_session.proofs.lemmas.session.LeftByRuns.{left_by_run}
use Rattle.reuse_plan.proofs.StylesAdding.{addition_adds}
use Rattle.reuse_session.proofs.laws.additions_of_styles_keep_what_is_there.Goals as goal

pub returns : goal.returns
returns c = record {
  made = addition_adds;
  left = λ additions when old new reply runs.
      addition_adds additions old.tree new.tree (left_by_run (AddStyles additions) when old new reply runs);
}
