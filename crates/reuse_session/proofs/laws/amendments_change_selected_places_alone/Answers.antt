use Rattle.reuse_command.specs.declared.command.Command.TheVariants.{Amend}
use Rattle.reuse_plan.proofs.AcceptedAmendments.{amend_accepted}
use Rattle.reuse_plan.proofs.AmendedTrees.{amends, keeps_paths}
use Rattle.reuse_session.proofs.lemmas.session.LeftByRuns.{left_by_run}
use Rattle.reuse_plan.proofs.NoTexts.{no_texts_out}
use Rattle.reuse_plan.proofs.OneAmendment.{one_amended}
use Rattle.reuse_session.proofs.laws.amendments_change_selected_places_alone.Goals as goal

pub returns : goal.returns
returns c =
    let kept = c.amending_keeps_other_bytes.ensures in
    record {
      accepted = λ places amendment scope tree. amend_accepted places amendment scope tree kept.files kept.neighbours;
      made = λ places amendment scope tree after h.
          amends kept.files kept.neighbours places amendment scope tree after h;
      one = λ places amendment scope before after other this that.
          one_amended places amendment scope before after other this that;
      files = λ places amendment scope before after is. keeps_paths places amendment scope before after is;
      no_texts = λ places values scope before after is. no_texts_out places values scope before after is;
      left = λ places amendment scope when old new reply runs.
          amends kept.files kept.neighbours places amendment scope old.tree new.tree
          (left_by_run (Amend places amendment scope) when old new reply runs);
    }
