use Rattle.std.proofs.Common.{◌≡◌, ◌*◌, ◌+◌, ◌∙◌, ap, sym, subst, length, List, ℕ, false, ◌≤◌}
use Rattle.std.proofs.lemmas.Result.{IfOk-weaker}
use Rattle.serde_json.specs.View.{view}
use Rattle.serde_json.specs.Written.{compact_text, has_float}
use Rattle.reuse_tree.specs.Head.{head_text, listed, IsGoodHead}
use Rattle.reuse_tree.proofs.HeadTexts.{head_compact}
use Rattle.reuse_tree.proofs.HeadLaws.{head_no_float, head_good, head_length}
use Rattle.reuse_tree.proofs.journal.head_text.encode_head.Goals as goal

pub returns : goal.returns
returns c =
    let h = c.args.head.now in
    let whole : has_float (view c.in_ok-value.value) ≡ false = ap has_float c.in_ok-value.ensures ∙ head_no_float h in
    let same : compact_text (view c.in_ok-value.value) ≡ head_text h =
    ap compact_text c.in_ok-value.ensures ∙ head_compact h in
    let written = c.to_vec.ensures.text in record {
      text = IfOk-weaker c.to_vec.result _ _ (λ b is. is whole ∙ same) written;
      good = λ sound. IfOk-weaker c.to_vec.result _ _
          (λ b is. subst (λ (l : List ℕ). IsGoodHead l h) (sym (is whole ∙ same)) (head_good h sound)) written;
      bound = λ sound. IfOk-weaker c.to_vec.result _ _ (λ b is. subst (λ (l : List ℕ). length l ≤ 128 + 7 * length
          (listed h)) (sym (is whole ∙ same)) (head_length h sound)) written;
    }
