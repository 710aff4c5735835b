use Rattle.std.proofs.Common.{◌∙◌, sym}
use Rattle.reuse_arguments.proofs.LineFaultLemmas.{expected_after, mistake_same}
use Rattle.reuse_arguments.proofs.AmendListLemmas.{when_amending, when_not_amending}
use Rattle.reuse_arguments.proofs.words.amend_words.read_amendments.Goals as goal

pub returns-then-not-is_amending : goal.returns-then-not-is_amending
returns-then-not-is_amending c = when_not_amending _ (sym c.if-not-is_amending.ensures)

pub returns-in_err-amend : goal.returns-in_err-amend
returns-in_err-amend c =
    expected_after _ _ _ _ c.from_residual.ensures.1 (mistake_same _ _ _
    (when_amending _ _ (sym c.if-not-is_amending.ensures) c.new-amendments.ensures) c.in_err-amend.ensures)

pub returns : goal.returns
returns c = when_amending _ _ (sym c.if-not-is_amending.ensures) c.new-amendments.ensures ∙ c.in_ok-amend.ensures
