use Rattle.std.proofs.Common.{◌∙◌, ◌++◌, ℕ, List, Result, Ok, Err, OnOk, ap, append_assoc, codes}
use Rattle.reuse_ready.proofs.texts.push_pattern_line.Goals as goal

weaker : {A E P Q : Type 0} (result : Result A E) → OnOk result P → (P → Q) → OnOk result Q
weaker (Ok done) p f = f p
weaker (Err e) p f = tt

pub returns : goal.returns
returns c =
    let old = c.args.text.now in
    let front = codes "first-line = \"" in
    let pattern = c.args.pattern.now in
    let behind = codes "\"" in
    weaker c.push_slice-3.result c.push_slice-3.ensures.ok (λ e. e
    ∙ ap (λ (text : List ℕ). text ++ behind) (c.in_ok-push_slice-2.ensures.ok
    ∙ ap (λ (text : List ℕ). text ++ pattern) c.in_ok-push_slice.ensures.ok)
    ∙ append_assoc (old ++ front) pattern behind ∙ append_assoc old front (pattern ++ behind))
