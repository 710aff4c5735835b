use Rattle.std.proofs.Common.{◌≡◌, [], Result, Ok, sym, ◌∙◌}
use Rattle.reuse_change.specs.Files.{Files}
use Rattle.reuse_command.specs.declared.command.Command.TheVariants.{Revert}
use Rattle.reuse_command.specs.declared.reply.Refusal.{Refusal}
use Rattle.reuse_session.proofs.lemmas.session.LeftByRuns.{left_by_run}
use Rattle.reuse_plan.proofs.RevertLaws.{put_back_below, once, reverts_as_undo}
use Rattle.reuse_plan.proofs.RevertsByPath.{returned, still_there, is_refused}
use Rattle.reuse_session.proofs.laws.reverts_take_steps_back.Goals as goal

one_outcome : (one other : Files) → ◌≡◌ {A = Result Files Refusal} (Ok one) (Ok other) → one ≡ other
one_outcome one other same = cc

pub returns : goal.returns
returns c = record {
  undo = λ changes skip before after. reverts_as_undo before after changes skip;
  left = λ changes skip before when old new reply entry sealed are leads runs.
      one_outcome new.tree before (sym (left_by_run (Revert changes [] skip) when old new reply runs)
      ∙ reverts_as_undo before old.tree changes skip entry sealed are leads);
  returned = λ changes touched skip before after now reverted path.
      returned touched before after now path changes skip reverted;
  later = λ changes touched skip now reverted path later. still_there touched now path later changes skip reverted;
  unskipped = λ changes touched now reverted path touch later. is_refused touched now path later changes reverted touch;
  below = put_back_below;
  once = once;
}
