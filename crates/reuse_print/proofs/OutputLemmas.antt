-- A text that is written part by part.
use Rattle.std.proofs.Common.{◌≡◌, ℕ, List, ◌++◌, take, drop, sym, ap, ◌∙◌, append_assoc, ◌-◌, length, arith}
use Rattle.std.proofs.lemmas.List.{take-append-drop, take_all, length-drop}
use Rattle.reuse_print.specs.Outputs.{Adds}

-- of the text this is left
abbrev pub Written : List ℕ → List ℕ → (text rest : List ℕ) → Type 0
Written old new text rest = (front : List ℕ) × (text ≡ front ++ rest) × Adds old new front

pub more_written : (old mid new text rest : List ℕ) (n : ℕ) → Written old mid text rest → Adds mid new (take n rest)
    → Written old new text (drop n rest)
more_written old mid new text rest n so more = (
  so.0 ++ take n rest,
  so.1 ∙ ap (λ l. so.0 ++ l) (sym (take-append-drop n rest)) ∙ sym (append_assoc so.0 (take n rest) (drop n rest)),
  more ∙ ap (λ l. l ++ take n rest) so.2 ∙ append_assoc old so.0 (take n rest),
)

-- all that is behind the part that was taken
pub whole_rest : (n : ℕ) (rest : List ℕ) → take (length rest - n) (drop n rest) ≡ drop n rest
whole_rest n rest = take_all (length rest - n) (drop n rest) (omega (arith, length-drop n rest))
