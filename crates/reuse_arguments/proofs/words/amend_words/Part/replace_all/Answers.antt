use Rattle.std.proofs.Common.{◌≡◌, ◌==◌, ◌∙◌, length, sym, true}
use Rattle.std.proofs.lemmas.Bool.{eq-eqb, eqb-true}
use Rattle.reuse_arguments.proofs.AmendListLemmas.{replaced_all, replaced_odd, replaced_on, replaced_stops}
use Rattle.reuse_arguments.proofs.LineFaultLemmas.{expected_after, mistake_same}
use Rattle.reuse_arguments.proofs.words.amend_words.Part.replace_all.Goals as goal

pub returns-in_err-replace : goal.returns-in_err-replace
returns-in_err-replace c =
    expected_after _ _ _ c.in_err-replace.field-0.0 c.from_residual.ensures.1
    (mistake_same _ _ _ c.loop-texts.invariant
    (replaced_stops _ c.loop-texts.texts.now _ _ _ c.in-len2-up.len_at_least c.in_err-replace.ensures))

pub loop-texts-preserved : goal.loop-texts-preserved
loop-texts-preserved c = c.loop-texts.invariant
    ∙ replaced_on _ c.loop-texts.texts.now _ _ _ c.in-len2-up.len_at_least c.in_ok-replace.ensures

pub returns-then-is_empty : goal.returns-then-is_empty
returns-then-is_empty c = c.loop-texts.invariant ∙ replaced_all _ c.loop-texts.texts.now _
    (eqb-true _ _ (sym c.if-is_empty.ensures))

pub returns-in_ok-unread : goal.returns-in_ok-unread
returns-in_ok-unread c =
    mistake_same _ _ _ c.loop-texts.invariant (rw c.in_ok-unread.ensures
    (replaced_odd _ c.loop-texts.texts.now _ c.in_default.len_below
    (λ is. let yes : (length c.loop-texts.texts.now == 0) ≡ true = eq-eqb _ _ is in cc (c.if-is_empty.ensures))))
