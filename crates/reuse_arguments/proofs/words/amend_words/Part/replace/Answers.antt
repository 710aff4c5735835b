use Rattle.std.proofs.Common.{◌∙◌}
use Rattle.reuse_notice.specs.Adding.{without_spaces}
use Rattle.reuse_arguments.proofs.AmendWordLemmas.{licence_fit, replaced_now, replaced_refused, text_fit, text_unfit}
use Rattle.reuse_arguments.proofs.LineFaultLemmas.{expected_after, mistake_first}
use Rattle.reuse_arguments.specs.AmendSteps.{replaced}
use Rattle.reuse_arguments.proofs.words.amend_words.Part.replace.Goals as goal
use Rattle.reuse_arguments.proofs.words.amend_words.Part.replace.Goals.{in-Licence+in_ok-replace_licence-in-Licence}
use Rattle.reuse_arguments.proofs.words.amend_words.Part.replace.Goals.{in-Holder+in_ok-replace_holder-in-Holder}
use Rattle.reuse_arguments.proofs.words.amend_words.Part.replace.Goals.{
  in-Contributor+in_ok-replace_contributor-in-Contributor,
}

pub returns-in_err-old : goal.returns-in_err-old
unfolding replaced
returns-in_err-old c = expected_after _ _ _ c.in_err-old.field-0.0 c.from_residual.ensures.1
    (mistake_first _ _ _ c.in_err-old.ensures)

pub returns-in_err-replace_licence-in-Licence : goal.returns-in_err-replace_licence-in-Licence
returns-in_err-replace_licence-in-Licence c =
    rw c.in-Licence.is (expected_after _ _ _ _ c.from_residual-in_err-replace_licence-in-Licence.ensures.1
    (replaced_refused _ _ _ _ _ _ c.in_ok-old.ensures c.in_err-replace_licence-in-Licence.ensures.refused))

pub returns-in_err-replace_holder-in-Holder : goal.returns-in_err-replace_holder-in-Holder
returns-in_err-replace_holder-in-Holder c =
    rw c.in-Holder.is (expected_after _ _ _ _ c.from_residual-in_err-replace_holder-in-Holder.ensures.1
    (replaced_refused _ _ _ _ _ _ c.in_ok-old.ensures (text_unfit
    (without_spaces c.args.new.now) _ c.in_err-replace_holder-in-Holder.ensures.refused)))

pub returns-in_err-replace_contributor-in-Contributor : goal.returns-in_err-replace_contributor-in-Contributor
returns-in_err-replace_contributor-in-Contributor c =
    rw c.in-Contributor.is (expected_after _ _ _ _ c.from_residual-in_err-replace_contributor-in-Contributor.ensures.1
    (replaced_refused _ _ _ _ _ _ c.in_ok-old.ensures (text_unfit
    (without_spaces c.args.new.now) _ c.in_err-replace_contributor-in-Contributor.ensures.refused)))

pub returns : goal.returns
returns c = elim c.match-self.branch [
  | in-Licence+in_ok-replace_licence-in-Licence w ↦
      let ok = w.in_ok-replace_licence-in-Licence.ensures.ok in
      rw w.in-Licence.is (replaced_now _ _ _ _ _ _ c.in_ok-old.ensures (licence_fit _ ok.0) (w.amendments-is ∙ ok.1))
  | in-Holder+in_ok-replace_holder-in-Holder w ↦
      let ok = w.in_ok-replace_holder-in-Holder.ensures.ok in
      rw w.in-Holder.is (replaced_now _ _ _ _ _ _ c.in_ok-old.ensures (text_fit (without_spaces c.args.new.now) ok.0)
      (w.amendments-is ∙ ok.1))
  | in-Contributor+in_ok-replace_contributor-in-Contributor w ↦
      let ok = w.in_ok-replace_contributor-in-Contributor.ensures.ok in
      rw w.in-Contributor.is (replaced_now _ _ _ _ _ _ c.in_ok-old.ensures
      (text_fit (without_spaces c.args.new.now) ok.0) (w.amendments-is ∙ ok.1))
]
