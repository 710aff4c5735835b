-- A run that isn't refused leaves the tree that its command gives.
use Rattle.std.proofs.Common.{◌≡◌, ℕ, Ok, sym, ap, ◌∙◌}
use Rattle.reuse_journal.specs.Journal.{State}
use Rattle.reuse_plan.specs.Outcome.{outcome_of}
use Rattle.reuse_session.specs.session.Session.{Runs}
use Rattle.reuse_command.specs.declared.command.Command.{Command}
use Rattle.reuse_command.specs.declared.reply.Response.{Response}
use Rattle.reuse_command.specs.declared.reply.Response.TheVariants.{Changed, NothingChanged}

pub left_by_run : (command : Command) (when : ℕ) (old new : State) (reply : Response)
    → Runs command when old (Ok reply) new → outcome_of command old.tree ≡ Ok new.tree
left_by_run command when old new (Changed paths left) runs = runs.1.outcome
left_by_run command when old new (NothingChanged left) runs = runs.1 ∙ ap (λ (held : State). Ok held.tree) (sym runs.2)
left_by_run command when old new reply runs = absurd runs
