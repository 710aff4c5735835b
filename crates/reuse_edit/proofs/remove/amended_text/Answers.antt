use Rattle.std.proofs.Common.{sym, subst}
use Rattle.reuse_header.specs.Amendment.{amended_file, amendment_answer, IsExpectedAmendment}
use Rattle.reuse_edit.specs.Answered.{IsRefusalOf}
use Rattle.reuse_edit.specs.Removed.{amended_or_refused}
use Rattle.reuse_edit.proofs.Removing.{refused_text}
use Rattle.reuse_edit.proofs.remove.amended_text.Goals as goal

pub returns-in_ok-amend_refused_by-in-Err-clause-text : goal.returns-in_ok-amend_refused_by-in-Err-clause-text
returns-in_ok-amend_refused_by-in-Err-clause-text c expected fits answer =
    let path = c.args.path.now in
    let bytes = c.args.bytes.now in
    let given = subst (IsExpectedAmendment (amendment_answer bytes expected)) c.in-Err.is answer in
    subst (IsRefusalOf (amended_or_refused path (amended_file bytes expected)))
    (sym c.in_ok-amend_refused_by-in-Err.ensures)
    (refused_text path bytes expected c.in-Err.refusal given)
