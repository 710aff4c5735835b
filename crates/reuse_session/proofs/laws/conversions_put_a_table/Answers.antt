use Rattle.reuse_command.specs.declared.command.Command.TheVariants.{ConvertDep5}
use Rattle.reuse_plan.proofs.Accepting.{conversion_accepted}
use Rattle.reuse_session.proofs.lemmas.session.LeftByRuns.{left_by_run}
use Rattle.reuse_plan.proofs.Converting.{conversion_puts}
use Rattle.reuse_session.proofs.laws.conversions_put_a_table.Goals as goal

pub returns : goal.returns
returns c = record {
  accepted = conversion_accepted;
  made = conversion_puts;
  left = λ when old new reply runs. conversion_puts old.tree new.tree (left_by_run ConvertDep5 when old new reply runs);
}
