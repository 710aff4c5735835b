use Rattle.std.proofs.Common.{Ok, sym, subst, ap, ◌∙◌}
use Rattle.reuse_words.specs.Added.{IsExpectedTextEdit, text_answer}
use Rattle.reuse_edit.specs.Annotate.{edit_by}
use Rattle.reuse_edit.specs.Answered.{IsRefusalOf}
use Rattle.reuse_edit.proofs.EditLemmas.{refused_edit, change_made}
use Rattle.reuse_edit.proofs.edit.change_by.Goals as goal

pub returns-in_ok-try_clone-in-Ok-Some-clause-edit : goal.returns-in_ok-try_clone-in-Ok-Some-clause-edit
returns-in_ok-try_clone-in-Ok-Some-clause-edit c tree expected here short fits expected_is =
    let file = c.args.file.now in
    let answer = subst (IsExpectedTextEdit (text_answer file expected))
    (c.in-Ok-Some.is ∙ ap (λ o. Ok o) c.in-Ok-Some.field-0-is) expected_is in
    rw c.sealed_splice.ensures.change
    (change_made tree c.args.path.now c.args.at.now c.in_ok-try_clone-in-Ok-Some.field-0 file expected
    c.in-Ok-Some.splice here short fits answer c.in_ok-try_clone-in-Ok-Some.ensures)

pub returns-in_ok-text_refused_by-in-Err-clause-edit : goal.returns-in_ok-text_refused_by-in-Err-clause-edit
returns-in_ok-text_refused_by-in-Err-clause-edit c tree expected here short fits expected_is =
    subst (IsRefusalOf (edit_by c.args.path.now c.args.at.now c.args.file.now expected))
    (sym c.in_ok-text_refused_by-in-Err.ensures)
    (refused_edit c.args.path.now c.args.at.now c.args.file.now expected c.in-Err.refusal
    (subst (IsExpectedTextEdit (text_answer c.args.file.now expected)) c.in-Err.is expected_is))
