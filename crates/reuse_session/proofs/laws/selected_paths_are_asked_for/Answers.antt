use Rattle.reuse_command.specs.Covered.{is_covered}
use Rattle.reuse_edit.specs.Tables.{is_amendable}
use Rattle.reuse_plan.proofs.AmendedPlaces.{amended_exactly, amended_ascend}
use Rattle.reuse_plan.proofs.Choosing.{selected_exactly, given_exactly, selected_ascend, all_chosen}
use Rattle.reuse_session.proofs.laws.selected_paths_are_asked_for.Goals as goal

pub returns : goal.returns
returns c = record {
  asked = selected_exactly;
  given = given_exactly is_covered;
  ascend = selected_ascend;
  all = all_chosen;
  amended = amended_exactly;
  amended_given = given_exactly is_amendable;
  amended_ascend = amended_ascend;
}
