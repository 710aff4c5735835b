use Rattle.std.proofs.Common.{sym, subst}
use Rattle.reuse_header.specs.Splices.{IsExpected}
use Rattle.reuse_words.specs.Removal.{edit_answer}
use Rattle.reuse_edit.specs.Answered.{IsRefusalOf}
use Rattle.reuse_edit.specs.Removed.{or_refused, text_left}
use Rattle.reuse_edit.proofs.Removing.{refused_left}
use Rattle.reuse_edit.proofs.remove.text_left.Goals as goal

pub returns-in_ok-refused_by-in-Err-clause-text : goal.returns-in_ok-refused_by-in-Err-clause-text
returns-in_ok-refused_by-in-Err-clause-text c expected fits answer =
    let path = c.args.path.now in
    let bytes = c.args.bytes.now in
    let given = subst (IsExpected (edit_answer bytes expected)) c.in-Err.is answer in
    subst (IsRefusalOf (or_refused path (text_left bytes expected)))
    (sym c.in_ok-refused_by-in-Err.ensures)
    (refused_left path bytes expected c.in-Err.refusal given)
