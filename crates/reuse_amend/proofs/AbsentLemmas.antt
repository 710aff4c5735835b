-- What stands in no part of a notice stands in no notice that is made of it: LF and NUL.
use Rattle.std.proofs.Common.{◌≡◌, ℕ, ◌+◌, ◌/◌, ◌%◌, ◌<◌, Bool, true, false, cond, List, ◌++◌}
use Rattle.std.proofs.Common.{Option, Some, None, refl, sym, ap, subst, ◌∙◌, arith, inl, inr}
use Rattle.std.specs.Prelude.{◌||◌, ◌==◌, codes}
use Rattle.std.specs.List.{list_any}
use Rattle.std.specs.Option.{option_map_or}
use Rattle.std.proofs.lemmas.Bool.{or_parts, false_from_ne_true, lt-ltb, eqb-true}
use Rattle.std.proofs.lemmas.List.Folds.{list_any-append}
use Rattle.reuse_notice.specs.declared.prefixes.Prefix.{Prefix}
use Rattle.reuse_notice.specs.Prefixes.{prefix_text}
use Rattle.reuse_notice.specs.Adding.{is_control, four_digits}
use Rattle.reuse_notice.proofs.NoneLemmas.{or_none, none_append, none_take, none_weaker}
use Rattle.reuse_notice.proofs.PlainLemmas.{printable-prefix}
use Rattle.reuse_notice.proofs.SoundLemmas.{is_nul, IsSound}
use Rattle.reuse_amend.specs.declared.amendments.Amendments.{Amendments}
use Rattle.reuse_amend.specs.YearSpans.{upto}
use Rattle.reuse_amend.specs.NoticeParts.{Parts, first_of, last_of, parts_text, parts_of}
use Rattle.reuse_amend.specs.Amending.{range_text, years_until, is_front, front_with, if_concerned, parts_amended}
use Rattle.reuse_amend.proofs.EndLemmas.{IsEnd, run_read}
use Rattle.reuse_amend.proofs.PartLemmas.{Anything, anything}
use Rattle.reuse_amend.proofs.JoinedLemmas.{parts_joined}
use Rattle.reuse_amend.proofs.WrittenLemmas.{until_reaches, parts_utf8, amended_utf8}
use Rattle.reuse_amend.specs.Settled.{HasFourDigits}

module _ (test : ℕ → Bool) (low : (b : ℕ) → test b ≡ true → b < 32) where
  -- no byte passes
  abbrev Absent : List ℕ → Type 0
  Absent bytes = list_any test bytes ≡ false

  parted : (xs ys : List ℕ) → Absent (xs ++ ys) → Absent xs × Absent ys
  parted xs ys e = or_parts (list_any test xs) (list_any test ys) (sym (list_any-append test xs ys) ∙ e)

  -- each part of a notice
  record AreAbsent (p : Parts) : Type 0 where
    front : Absent p.front
    years : Absent p.years
    between : Absent p.between
    holder : Absent p.holder
    trailing : Absent p.trailing

  in_parts : (p : Parts) → Absent (parts_text p) → AreAbsent p
  in_parts p e =
      let a = parted (p.front ++ first_of p ++ p.between ++ last_of p) p.trailing e in
      let b = parted (p.front ++ first_of p ++ p.between) (last_of p) a.0 in
      let c = parted (p.front ++ first_of p) p.between b.0 in
      let d = parted p.front (first_of p) c.0 in
      let both = by p.years_first d.1 b.1 in
      record { front = d.0; years = both.0; between = c.1; holder = both.1; trailing = a.1 }
    where
      by : (t : Bool) → Absent (cond t p.years p.holder) → Absent (cond t p.holder p.years)
          → Absent p.years × Absent p.holder
      by true x y = (x, y)
      by false x y = (y, x)

  in_text : (p : Parts) → AreAbsent p → Absent (parts_text p)
  in_text p h =
      none_append test (p.front ++ first_of p ++ p.between ++ last_of p) p.trailing
      (none_append test (p.front ++ first_of p ++ p.between) (last_of p)
      (none_append test (p.front ++ first_of p) p.between (none_append test p.front (first_of p) h.front
      (first p.years_first)) h.between)
      (last p.years_first)) h.trailing
    where
      first : (t : Bool) → Absent (cond t p.years p.holder)
      first true = h.years
      first false = h.holder

      last : (t : Bool) → Absent (cond t p.holder p.years)
      last true = h.holder
      last false = h.years

  -- ---- what is written

  high_byte : (n : ℕ) → test (32 + n) ≡ false
  high_byte n = false_from_ne_true (test (32 + n)) (λ t. let h = low (32 + n) t in absurd (omega (arith, h)))

  digit : (n : ℕ) → test (48 + n) ≡ false
  digit n = let same : 32 + (16 + n) ≡ 48 + n = omega arith in ap test (sym same) ∙ high_byte (16 + n)

  digits_absent : (n : ℕ) → Absent (four_digits n)
  digits_absent n =
      or_none _ _ (digit (n / 1000)) (or_none _ _ (digit (n / 100 % 10))
      (or_none _ _ (digit (n / 10 % 10)) (or_none _ _ (digit (n % 10)) refl)))

  range_absent : (from to : ℕ) → Absent (range_text from to)
  range_absent from to =
      none_append test (four_digits from ++ codes " - ") (four_digits to)
      (none_append test (four_digits from) (codes " - ") (digits_absent from)
      (or_none _ _ (high_byte 0) (or_none _ _ (high_byte 13) (or_none _ _ (high_byte 0) refl))))
      (digits_absent to)

  control : (b : ℕ) → test b ≡ true → is_control b ≡ true
  control b t = ap (λ (x : Bool). x || b == 127) (lt-ltb b 32 (low b t))

  prefix_absent : (prefix : Prefix) → Absent (prefix_text prefix ++ codes " ")
  prefix_absent prefix =
      none_append test (prefix_text prefix) (codes " ") (none_weaker is_control test control (prefix_text prefix)
      (printable-prefix prefix))
      (or_none _ _ (high_byte 0) refl)

  end_absent : (text end : List ℕ) → IsEnd Anything text end → Absent text → Absent end
  end_absent text end e h = (parted e.front end (sym (ap (list_any test) e.joined) ∙ h)).1

  until_absent : (year : ℕ) (years : List ℕ) → Absent years → Absent (years_until year years)
  until_absent year years h = elim (until_reaches year years (years_until year years) refl) [
    | inl same ↦ subst Absent same h
    | inr r ↦ (let run = r.run in
        let read = run_read Anything anything years run r.found in
        let rest = end_absent run.latest.start run.latest.rest read.span_is.cut
        (end_absent years run.latest.start read.start h) in
        subst Absent r.written (none_append test (upto years run.latest.start
        ++ range_text run.latest.low year) run.latest.rest
        (none_append test (upto years run.latest.start) (range_text run.latest.low year) (none_take test _ years h)
        (range_absent run.latest.low year)) rest))
  ]

  pub holder_absent : (text : List ℕ) (p : Parts) → parts_of text ≡ Some p → list_any test text ≡ false
      → list_any test p.holder ≡ false
  holder_absent text p read e = (in_parts p (ap (list_any test) (parts_joined text p read) ∙ e)).holder

  pub absent_amended : (a : Amendments) (text : List ℕ) (p : Parts) (holder : List ℕ) → parts_of text ≡ Some p
      → list_any test text ≡ false
      → (list_any test p.holder ≡ false → list_any test holder ≡ false)
      → list_any test (parts_text (parts_amended a p holder)) ≡ false
  absent_amended a text p holder read e kept =
      let old = in_parts p (ap (list_any test) (parts_joined text p read) ∙ e) in
      in_text (parts_amended a p holder) (record {
        front = front (if_concerned a holder a.prefix) old.front;
        years = years (if_concerned a holder a.until) old.years;
        between = old.between;
        holder = kept old.holder;
        trailing = old.trailing;
      })
    where
      front : (o : Option Prefix) → Absent p.front → Absent (option_map_or (front_with p) o p.front)
      front None h = h
      front (Some prefix) h = by (is_front prefix p)
        where
          by : (t : Bool) → Absent (cond t p.front (prefix_text prefix ++ codes " "))
          by true = h
          by false = prefix_absent prefix

      years : (o : Option ℕ) → Absent p.years → Absent (option_map_or (λ year. years_until year p.years) o p.years)
      years None h = h
      years (Some year) h = until_absent year p.years h

-- ---- UTF-8 without NUL

nul_low : (b : ℕ) → is_nul b ≡ true → b < 32
nul_low b e = let same : b ≡ 0 = eqb-true b 0 e in omega (arith, same)

pub sound_amended : (a : Amendments) (text : List ℕ) (p : Parts) (holder : List ℕ) → parts_of text ≡ Some p
    → HasFourDigits a.until → IsSound text
    → (IsSound p.holder → IsSound holder) → IsSound (parts_text (parts_amended a p holder))
sound_amended a text p holder read short s kept =
    let parts = parts_utf8 text p read s.utf8 in
    let new = kept (record { utf8 = parts.holder; clean = holder_absent is_nul nul_low text p read s.clean }) in
    record {
      utf8 = amended_utf8 a p holder short parts new.utf8;
      clean = absent_amended is_nul nul_low a text p holder read s.clean (λ old. new.clean);
    }
