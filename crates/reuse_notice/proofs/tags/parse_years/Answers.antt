-- The three forms of `years_written`, as the tests find them.
use Rattle.std.proofs.Common.{◌≡◌, ℕ, Bool, true, false, cond, List, ◌-◌, length, take, drop, nat_eq, Option, Some}
use Rattle.std.proofs.Common.{None, sym, ap, ◌∙◌}
use Rattle.std.specs.Prelude.{◌&&◌, ◌==◌, codes}
use Rattle.std.specs.List.{starts_with}
use Rattle.std.proofs.lemmas.Bool.{eq-eqb, ne_eqb, le-leb, lt-leb}
use Rattle.std.proofs.lemmas.List.{take_rest}
use Rattle.reuse_notice.specs.Tags.{year_of, years_between, years_written}
use Rattle.reuse_notice.proofs.TestLemmas.{not_first}
use Rattle.reuse_notice.proofs.tags.parse_years.Goals as goal
use Rattle.reuse_notice.proofs.tags.parse_years.Goals.{Joined-text-eq4, Joined-else-text-eq9}
use Rattle.reuse_notice.proofs.tags.parse_years.Goals.{then-text-eq4+in_ok-parse_year+in_ok-parse_year-2}
use Rattle.reuse_notice.proofs.tags.parse_years.Goals.{
  else-text-eq4+then-text-eq9+then-starts_with+in_ok-parse_year-3+in_ok-parse_year-4,
}
use Rattle.reuse_notice.proofs.tags.parse_years.Goals.{
  else-text-eq4+else-text-eq9+then-text-eq11+then-starts_with-2+in_ok-parse_year-5+in_ok-parse_year-6,
}
use Rattle.reuse_notice.proofs.tags.parse_years.Goals.{else-text-eq9-via-then-text-eq9+else-starts_with}
use Rattle.reuse_notice.proofs.tags.parse_years.Goals.{else-text-eq9-via-else-text-eq9}
use Rattle.reuse_notice.proofs.tags.parse_years.Goals.{else-text-eq11-via-then-text-eq11+else-starts_with-2}
use Rattle.reuse_notice.proofs.tags.parse_years.Goals.{else-text-eq11-via-else-text-eq11}

abbrev is_span : List ℕ → ℕ → List ℕ → Bool
is_span text n dash = length text == n && starts_with nat_eq (drop 4 text) dash

is-span : (text : List ℕ) (n : ℕ) (dash : List ℕ) (b : Bool)
    → b ≡ starts_with nat_eq (take (length text - 4) (drop 4 text)) dash → length text ≡ n → is_span text n dash ≡ b
is-span text n dash b e is = ap (λ t. t && starts_with nat_eq (drop 4 text) dash) (eq-eqb (length text) n is)
    ∙ ap (λ t. starts_with nat_eq t dash) (sym (take_rest text 4)) ∙ sym e

module _ (text : List ℕ) where
  at-four : length text ≡ 4 → years_written text ≡ years_between (year_of text) (year_of text)
  at-four is = rw (eq-eqb (length text) 4 is)

  module _ (four : length text ≡ 4 → ⊥) where
    at-nine : is_span text 9 (codes "-") ≡ true
        → years_written text ≡ years_between (year_of (take 4 text)) (year_of (drop 5 text))
    at-nine is = rw (ne_eqb (length text) 4 four, is)

    at-eleven : is_span text 9 (codes "-") ≡ false → is_span text 11 (codes " - ") ≡ true
        → years_written text ≡ years_between (year_of (take 4 text)) (year_of (drop 7 text))
    at-eleven not is = rw (ne_eqb (length text) 4 four, not, is)

    at-none : is_span text 9 (codes "-") ≡ false → is_span text 11 (codes " - ") ≡ false → years_written text ≡ None
    at-none not not_too = rw (ne_eqb (length text) 4 four, not, not_too)

both : (a b : Option ℕ) (x y : ℕ) (p : ℕ × ℕ) → a ≡ Some x → b ≡ Some y → p ≡ (x, y)
    → years_between a b ≡ years_between (Some p.0) (Some p.1)
both a b x y p e f is = ap (λ o. years_between o b) e ∙ ap (years_between (Some x)) f
    ∙ ap (λ (q : ℕ × ℕ). years_between (Some q.0) (Some q.1)) (sym is)

not-nine : (c : Joined-else-text-eq9) → is_span c.args.text.now 9 (codes "-") ≡ false
not-nine c = elim c.else-text-eq9.branch [
  | else-text-eq9-via-then-text-eq9+else-starts_with w ↦
      is-span c.args.text.now 9 (codes "-") _ w.starts_with.ensures.value w.if-text-eq9.true ∙ w.if-starts_with.false
  | else-text-eq9-via-else-text-eq9 w ↦ not_first _ _ (ne_eqb (length c.args.text.now) 9 w.if-text-eq9.false)
]

found : (c : Joined-text-eq4)
    → years_written c.args.text.now ≡ years_between (Some c.if-text-eq4.low.0) (Some c.if-text-eq4.low.1)
found c = let text = c.args.text.now in elim c.if-text-eq4.branch [
  | then-text-eq4+in_ok-parse_year+in_ok-parse_year-2 w ↦ at-four text w.if-text-eq4.true
      ∙ both _ _ _ _ c.if-text-eq4.low (sym w.parse_year.ensures.year ∙ w.in_ok-parse_year.was)
      (sym w.parse_year-then-text-eq4.ensures.year ∙ w.in_ok-parse_year-2.was) w.low-is
  | else-text-eq4+then-text-eq9+then-starts_with+in_ok-parse_year-3+in_ok-parse_year-4 w ↦
      at-nine text w.if-text-eq4.false
      (is-span text 9 (codes "-") _ w.starts_with.ensures.value w.if-text-eq9.true ∙ w.if-starts_with.true)
      ∙ both _ _ _ _ c.if-text-eq4.low (sym w.parse_year-then-starts_with.ensures.year ∙ w.in_ok-parse_year-3.was)
      (ap year_of (sym (take_rest text 5)) ∙ sym w.parse_year-then-starts_with-2.ensures.year
      ∙ w.in_ok-parse_year-4.was) w.low-is
  | else-text-eq4+else-text-eq9+then-text-eq11+then-starts_with-2+in_ok-parse_year-5+in_ok-parse_year-6 w ↦
      at-eleven text w.if-text-eq4.false
      (elim w.else-text-eq9.branch [
        | else-text-eq9-via-then-text-eq9+else-starts_with w' ↦
            is-span text 9 (codes "-") _ w'.starts_with.ensures.value w'.if-text-eq9.true ∙ w'.if-starts_with.false
        | else-text-eq9-via-else-text-eq9 w' ↦ not_first _ _ (ne_eqb (length text) 9 w'.if-text-eq9.false)
      ])
      (is-span text 11 (codes " - ") _ w.starts_with-then-text-eq11.ensures.value w.if-text-eq11.true
      ∙ w.if-starts_with-2.true)
      ∙ both _ _ _ _ c.if-text-eq4.low (sym w.parse_year-then-starts_with-2-2.ensures.year ∙ w.in_ok-parse_year-5.was)
      (ap year_of (sym (take_rest text 7)) ∙ sym w.parse_year-then-starts_with-2-3.ensures.year
      ∙ w.in_ok-parse_year-6.was) w.low-is
]

pub returns-then-low-high : goal.returns-then-low-high
returns-then-low-high c = sym (found (goal.at.returns-then-low-high c).Joined-text-eq4
    ∙ ap (λ b. cond b (Some (record { low = c.if-text-eq4.low.0; high = c.if-text-eq4.low.1 })) None)
    (le-leb _ _ c.if-low-high.true))

pub returns-else-low-high : goal.returns-else-low-high
returns-else-low-high c = sym (found (goal.at.returns-else-low-high c).Joined-text-eq4
    ∙ ap (λ b. cond b (Some (record { low = c.if-text-eq4.low.0; high = c.if-text-eq4.low.1 })) None)
    (lt-leb _ _ c.if-low-high.false))

pub returns-else-text-eq11 : goal.returns-else-text-eq11
returns-else-text-eq11 c = let text = c.args.text.now in
    sym (at-none text c.if-text-eq4.false (not-nine (goal.at.returns-else-text-eq11 c).Joined-else-text-eq9)
    (elim c.else-text-eq11.branch [
      | else-text-eq11-via-then-text-eq11+else-starts_with-2 w ↦ is-span text 11
          (codes " - ") _ w.starts_with-then-text-eq11.ensures.value w.if-text-eq11.true ∙ w.if-starts_with-2.false
      | else-text-eq11-via-else-text-eq11 w ↦ not_first _ _ (ne_eqb (length text) 11 w.if-text-eq11.false)
    ]))

pub returns-in_err-parse_year-5 : goal.returns-in_err-parse_year-5
returns-in_err-parse_year-5 c = let text = c.args.text.now in
    c.from_residual-in_err-parse_year-5.ensures
    ∙ sym (at-eleven text c.if-text-eq4.false (not-nine (goal.at.returns-in_err-parse_year-5 c).Joined-else-text-eq9)
    (is-span text 11 (codes " - ") _ c.starts_with-then-text-eq11.ensures.value c.if-text-eq11.true
    ∙ c.if-starts_with-2.true)
    ∙ ap (λ o. years_between o (year_of (drop 7 text)))
    (sym c.parse_year-then-starts_with-2-2.ensures.year ∙ c.in_err-parse_year-5.was))

pub returns-in_err-parse_year-6 : goal.returns-in_err-parse_year-6
returns-in_err-parse_year-6 c = let text = c.args.text.now in
    c.from_residual-in_err-parse_year-6.ensures
    ∙ sym (at-eleven text c.if-text-eq4.false (not-nine (goal.at.returns-in_err-parse_year-6 c).Joined-else-text-eq9)
    (is-span text 11 (codes " - ") _ c.starts_with-then-text-eq11.ensures.value c.if-text-eq11.true
    ∙ c.if-starts_with-2.true)
    ∙ ap (λ o. years_between o (year_of (drop 7 text)))
    (sym c.parse_year-then-starts_with-2-2.ensures.year ∙ c.in_ok-parse_year-5.was)
    ∙ ap (years_between (Some c.in_ok-parse_year-5.field-0)) (ap year_of (sym (take_rest text 7))
    ∙ sym c.parse_year-then-starts_with-2-3.ensures.year ∙ c.in_err-parse_year-6.was))
