use Rattle.reuse_command.proofs.OnlyReading.{passed_on}
use Rattle.reuse_session.proofs.session.later_steps.without_touched.Goals as goal

pub returns-in_err-entry-clause-bad : goal.returns-in_err-entry-clause-bad
returns-in_err-entry-clause-bad g c honest path e =
    (c.read_entry.ensures.bad honest path
    (passed_on c.from_residual.result c.read_entry.result c.from_residual.ensures.1 c.in_err-entry.was e)).1
