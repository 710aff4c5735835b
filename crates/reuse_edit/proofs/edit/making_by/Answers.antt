use Rattle.std.proofs.Common.{Ok, [], sym, subst, ap, ◌∙◌}
use Rattle.reuse_words.specs.Added.{IsExpectedTextEdit, text_answer}
use Rattle.reuse_edit.specs.Annotate.{edit_by}
use Rattle.reuse_edit.specs.Answered.{IsRefusalOf}
use Rattle.reuse_edit.proofs.EditLemmas.{refused_edit, making_made}
use Rattle.reuse_edit.proofs.edit.making_by.Goals as goal

pub returns-in_ok-try_clone-in-Ok-Some-clause-edit : goal.returns-in_ok-try_clone-in-Ok-Some-clause-edit
returns-in_ok-try_clone-in-Ok-Some-clause-edit c tree expected here fits expected_is =
    let answer =
    subst (IsExpectedTextEdit (text_answer [] expected))
    (c.in-Ok-Some.is ∙ ap (λ o. Ok o) c.in-Ok-Some.field-0-is) expected_is in
    rw c.sealed_make.ensures
    (making_made tree c.args.path.now c.args.at.now c.in_ok-try_clone-in-Ok-Some.field-0 expected c.in-Ok-Some.splice
    here fits answer c.in_ok-try_clone-in-Ok-Some.ensures)

pub returns-in_ok-text_refused_by-in-Err-clause-edit : goal.returns-in_ok-text_refused_by-in-Err-clause-edit
returns-in_ok-text_refused_by-in-Err-clause-edit c tree expected here fits expected_is =
    subst (IsRefusalOf (edit_by c.args.path.now c.args.at.now [] expected))
    (sym c.in_ok-text_refused_by-in-Err.ensures)
    (refused_edit c.args.path.now c.args.at.now [] expected c.in-Err.refusal
    (subst (IsExpectedTextEdit (text_answer [] expected)) c.in-Err.is expected_is))
