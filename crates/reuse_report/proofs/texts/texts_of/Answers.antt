use Rattle.std.proofs.Common.{◌∙◌, ap, arith, sym}
use Rattle.reuse_report.proofs.TextLemmas.{no_text_more, text_more}
use Rattle.reuse_report.proofs.texts.texts_of.Goals as goal
use Rattle.reuse_report.proofs.texts.texts_of.Goals.{in-Some+in_ok-text+in_ok-id+in_ok-push, in_default}

pub loop-id-preserved : goal.loop-id-preserved
loop-id-preserved g c = elim c.match-name_of.branch [
  | in-Some+in_ok-text+in_ok-id+in_ok-push w ↦
      text_more _ c.loop-id.id-index c.id-item.result _ _ _ _ (omega arith) c.id-item.is c.loop-id.invariant
      (sym w.in-Some.ensures) (w.in_ok-id.ensures ∙ w.as_slice.ensures)
      (ap (λ texts. texts.items) w.texts-is ∙ w.in_ok-push.ensures.items)
  | in_default w ↦
      no_text_more _ c.loop-id.id-index c.id-item.result _ _ (omega arith) c.id-item.is c.loop-id.invariant
      (sym w.in_default.ensures) (ap (λ texts. texts.items) w.texts-is)
]
