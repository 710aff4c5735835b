use Rattle.std.proofs.Common.{◌∙◌}
use Rattle.reuse_arguments.proofs.AmendWordLemmas.{removed_now}
use Rattle.reuse_arguments.proofs.LineFaultLemmas.{expected_after, mistake_first}
use Rattle.reuse_arguments.specs.AmendSteps.{removed}
use Rattle.reuse_arguments.proofs.words.amend_words.Part.remove.Goals as goal
use Rattle.reuse_arguments.proofs.words.amend_words.Part.remove.Goals.{in-Licence+in_ok-remove_licence-in-Licence}
use Rattle.reuse_arguments.proofs.words.amend_words.Part.remove.Goals.{in-Holder+in_ok-remove_holder-in-Holder}
use Rattle.reuse_arguments.proofs.words.amend_words.Part.remove.Goals.{
  in-Contributor+in_ok-remove_contributor-in-Contributor,
}

pub returns-in_err-text : goal.returns-in_err-text
unfolding removed
returns-in_err-text c = expected_after _ _ _ c.in_err-text.field-0.0 c.from_residual.ensures.1
    (mistake_first _ _ _ c.in_err-text.ensures)

pub returns : goal.returns
returns c = elim c.match-self.branch [
  | in-Licence+in_ok-remove_licence-in-Licence w ↦
      rw w.in-Licence.is (removed_now _ _ _ _ _ c.in_ok-text.ensures
      (w.amendments-is ∙ w.in_ok-remove_licence-in-Licence.ensures.ok))
  | in-Holder+in_ok-remove_holder-in-Holder w ↦
      rw w.in-Holder.is (removed_now _ _ _ _ _ c.in_ok-text.ensures
      (w.amendments-is ∙ w.in_ok-remove_holder-in-Holder.ensures.ok))
  | in-Contributor+in_ok-remove_contributor-in-Contributor w ↦
      rw w.in-Contributor.is (removed_now _ _ _ _ _ c.in_ok-text.ensures
      (w.amendments-is ∙ w.in_ok-remove_contributor-in-Contributor.ensures.ok))
]
