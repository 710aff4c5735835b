-- The parts of a notice, one behind another.
use Rattle.std.proofs.Common.{◌≡◌, ℕ, List, [], ◌∷◌, ◌++◌, sym, ap, ◌∙◌, append_assoc}
use Rattle.std.specs.Prelude.{Vec, codes}
use Rattle.std.specs.declared.alloc.Global.{Global}
use Rattle.std.proofs.lemmas.Bool.{eq-eqb, ne_eqb}
use Rattle.reuse_notice.specs.declared.tags.Years.{Years}
use Rattle.reuse_notice.specs.Prefixes.{prefix_text}
use Rattle.reuse_notice.specs.Adding.{four_digits, years_text, notice_written}
use Rattle.reuse_notice.proofs.adding.write_notice.Goals as goal
use Rattle.reuse_notice.proofs.adding.write_notice.Goals.{in-Some+in_ok-push_year+in_ok-push-2}
use Rattle.reuse_notice.proofs.adding.write_notice.Goals.{then-years+in_ok-extend_from_slice+in_ok-push_year-2}
use Rattle.reuse_notice.proofs.adding.write_notice.Goals.{else-years, in_default}

one-year : (years : Years) → years.low ≡ years.high → four_digits years.low ≡ years_text years
one-year years same = rw (eq-eqb years.low years.high same)

two-years : (years : Years) (p a b q : List ℕ) → (years.low ≡ years.high → ⊥) → a ≡ p ++ four_digits years.low
    → b ≡ a ++ codes " - " → q ≡ b ++ four_digits years.high → q ≡ p ++ years_text years
two-years years p a b q apart e f g =
    let whole : four_digits years.low ++ codes " - " ++ four_digits years.high ≡ years_text years =
    rw (ne_eqb years.low years.high apart) in
    g ∙ ap (λ x. x ++ four_digits years.high) (f ∙ ap (λ x. x ++ codes " - ") e)
    ∙ append_assoc (p ++ four_digits years.low) (codes " - ") (four_digits years.high)
    ∙ append_assoc p (four_digits years.low) (codes " - " ++ four_digits years.high) ∙ ap (λ x. p ++ x) whole

dated : (prefix p q r years holder : List ℕ) → p ≡ prefix ++ 32 ∷ [] → q ≡ p ++ years → r ≡ q ++ 32 ∷ []
    → r ++ holder ≡ prefix ++ 32 ∷ years ++ 32 ∷ holder
dated prefix p q r years holder e f g =
    ap (λ x. x ++ holder) (g ∙ ap (λ x. x ++ 32 ∷ []) (f ∙ ap (λ x. x ++ years) e)) ∙ simp append_assoc

pub returns : goal.returns
returns c =
    let holder = c.args.holder.now in
    let prefix = prefix_text c.args.prefix in
    let begun : c.push.new.self.items ≡ prefix ++ 32 ∷ [] = c.in_ok-push.ensures.items
    ∙ ap (λ x. x ++ 32 ∷ []) (c.in_ok-bytes.ensures.items ∙ c.as_bytes.ensures.value ∙ c.text.ensures) in
    c.from_vec.ensures ∙ c.in_ok-extend_from_slice-2.ensures.items ∙ elim c.match-years.branch [
      | in-Some+in_ok-push_year+in_ok-push-2 w ↦
          (let years = w.in-Some.years in
          let written : w.if-years.bytes.items ≡ c.push.new.self.items ++ years_text years = elim w.if-years.branch [
            | then-years+in_ok-extend_from_slice+in_ok-push_year-2 w' ↦ ap (λ (v : Vec ℕ Global). v.items) w'.bytes-is
                ∙ two-years years _ _ _ _ w'.if-years.true w.in_ok-push_year.ensures
                w'.in_ok-extend_from_slice.ensures.items w'.in_ok-push_year-2.ensures
            | else-years w' ↦ ap (λ (v : Vec ℕ Global). v.items) w'.bytes-is ∙ w.in_ok-push_year.ensures
                ∙ ap (λ x. c.push.new.self.items ++ x) (one-year years w'.if-years.false)
          ] in
          ap (λ (v : Vec ℕ Global). v.items ++ holder) w.bytes-is
          ∙ dated prefix _ _ _ (years_text years) holder begun written w.in_ok-push-2.ensures.items
          ∙ ap (λ y. notice_written c.args.prefix y holder) (sym w.in-Some.is))
      | in_default w ↦ ap (λ (v : Vec ℕ Global). v.items ++ holder) w.bytes-is ∙ ap (λ x. x ++ holder) begun
          ∙ append_assoc prefix (32 ∷ []) holder
          ∙ ap (λ y. notice_written c.args.prefix y holder) (sym w.in_default.is)
    ]
