use Rattle.reuse_command.specs.declared.command.Command.TheVariants.{Download}
use Rattle.reuse_plan.proofs.Accepting.{download_accepted}
use Rattle.reuse_session.proofs.lemmas.session.LeftByRuns.{left_by_run}
use Rattle.reuse_plan.proofs.TextsPut.{download_puts}
use Rattle.reuse_session.proofs.laws.downloads_put_each_text.Goals as goal

pub returns : goal.returns
returns c = record {
  accepted = download_accepted;
  made = download_puts;
  left = λ ids texts when old new reply runs. download_puts ids texts old.tree new.tree
      (left_by_run (Download ids texts) when old new reply runs);
}
