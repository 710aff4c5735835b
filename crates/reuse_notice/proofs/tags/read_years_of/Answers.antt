-- The three tests of `years_in`, as they are answered.
use Rattle.std.proofs.Common.{◌≡◌, ℕ, ◌+◌, Bool, true, false, cond, List, length, take, drop, get_or, None, refl, sym}
use Rattle.std.proofs.Common.{ap, ◌∙◌}
use Rattle.std.specs.Prelude.{◌&&◌, not, nat_lt}
use Rattle.std.proofs.lemmas.Bool.{le-ltb, lt-ltb}
use Rattle.std.proofs.lemmas.List.{take_rest}
use Rattle.reuse_notice.specs.Tags.{is_blank, all_blank, years_written, years_in}
use Rattle.reuse_notice.proofs.tags.read_years_of.Goals as goal
use Rattle.reuse_notice.proofs.tags.read_years_of.Goals.{
  else-len-value-via-then-len-value+then-is_blank_byte+else-not-is_all_blank,
}
use Rattle.reuse_notice.proofs.tags.read_years_of.Goals.{else-len-value-via-then-len-value+else-is_blank_byte}
use Rattle.reuse_notice.proofs.tags.read_years_of.Goals.{else-len-value-via-else-len-value}

in-tests : (n : ℕ) (value : List ℕ) (a b d : Bool) → nat_lt n (length value) ≡ a → is_blank (get_or value n 0) ≡ b
    → all_blank (drop (n + 1) value) ≡ d
    → years_in n value ≡ cond (a && b && not d) (years_written (take n value)) None
in-tests n value a b d e f g =
    ap (λ x. cond (x && is_blank (get_or value n 0) && not (all_blank (drop (n + 1) value)))
    (years_written (take n value)) None) e
    ∙ ap (λ x. cond (a && x && not (all_blank (drop (n + 1) value))) (years_written (take n value)) None) f
    ∙ ap (λ x. cond (a && b && not x) (years_written (take n value)) None) g

pub returns-then-not-is_all_blank-clause-found : goal.returns-then-not-is_all_blank-clause-found
returns-then-not-is_all_blank-clause-found c =
    c.parse_years.ensures ∙ sym (in-tests c.args.len c.args.value.now true true false (lt-ltb _ _ c.if-len-value.true)
    (sym c.is_blank_byte.ensures ∙ c.if-is_blank_byte.true)
    (ap all_blank (sym (take_rest c.args.value.now (c.args.len + 1))) ∙ sym c.is_all_blank.ensures
    ∙ c.if-not-is_all_blank.true))

pub returns-else-len-value-clause-found : goal.returns-else-len-value-clause-found
returns-else-len-value-clause-found c =
    let value = c.args.value.now in
    let rest = all_blank (drop (c.args.len + 1) value) in
    elim c.else-len-value.branch [
      | else-len-value-via-then-len-value+then-is_blank_byte+else-not-is_all_blank w ↦ sym (in-tests c.args.len value
          true true true (lt-ltb _ _ w.if-len-value.true) (sym w.is_blank_byte.ensures ∙ w.if-is_blank_byte.true)
          (ap all_blank (sym (take_rest value (c.args.len + 1))) ∙ sym w.is_all_blank.ensures
          ∙ w.if-not-is_all_blank.false))
      | else-len-value-via-then-len-value+else-is_blank_byte w ↦ sym (in-tests c.args.len value true false rest
          (lt-ltb _ _ w.if-len-value.true) (sym w.is_blank_byte.ensures ∙ w.if-is_blank_byte.false) refl)
      | else-len-value-via-else-len-value w ↦ sym (in-tests c.args.len value false
          (is_blank (get_or value c.args.len 0)) rest (le-ltb _ _ w.if-len-value.false) refl refl)
    ]
