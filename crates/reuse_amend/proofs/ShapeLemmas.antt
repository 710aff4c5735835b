-- What becomes of a licence has no blank bytes at its ends and no LF, where neither the licence nor NEW has.
use Rattle.std.proofs.Common.{◌≡◌, ℕ, ◌<◌, ◌≤◌, Bool, true, false, cond, List, [], ◌∷◌, ◌++◌, length, length-append}
use Rattle.std.proofs.Common.{None, Some, refl, sym, ap, subst, ◌∙◌, arith, inl, inr}
use Rattle.std.specs.Prelude.{not, nat_lt, IsUtf8, ◌&&◌, ◌||◌, ◌==◌, codes}
use Rattle.std.specs.List.{AllByRecursion, list_all, list_any}
use Rattle.std.specs.Str.{bytes_eq}
use Rattle.std.proofs.lemmas.Bool.{false≢true, eqb-true, cases_Bool as truth}
use Rattle.std.proofs.lemmas.Bool.Decides.{nat_tests}
use Rattle.std.proofs.lemmas.List.{append-nil}
use Rattle.reuse_amend.specs.declared.replacements.Replacement.{Replacement}
use Rattle.reuse_notice.specs.Tags.{is_blank, all_blank, drop_front, drop_end, trimmed}
use Rattle.reuse_notice.specs.Adding.{is_control, is_space}
use Rattle.reuse_notice.specs.Plain.{IsPlain}
use Rattle.reuse_amend.specs.Pieces.{pieces_of, is_identifier, has_operator}
use Rattle.reuse_notice.specs.ExpressionSteps.{fault_of}
use Rattle.reuse_amend.specs.Amending.{operand, is_behind_with, piece_replaced, pieces_replaced, licence_amended}
use Rattle.reuse_notice.proofs.BlankLemmas.{drop_end-twice}
use Rattle.reuse_notice.proofs.PlainLemmas.{drop_front-kept, or-parts, or-none}
use Rattle.reuse_notice.proofs.LicenceLemmas.{expression-printable, expression-ascii}
use Rattle.reuse_notice.proofs.NoneLemmas.{none_weaker}
use Rattle.reuse_notice.proofs.SoundLemmas.{is_nul, IsSound, is_low, sound_low}
use Rattle.reuse_amend.proofs.UnnamedLemmas.{together, pieces-join}
use Rattle.reuse_amend.proofs.CutLemmas.{WellCut, pieces_cut}
use Rattle.reuse_amend.proofs.WordLemmas.{Word}
use Rattle.reuse_amend.proofs.SettledLemmas.{IsWithin, Becomes, becomes, amended_parts, amended_none}

-- ---- blank bytes at the ends

-- whether the first byte passes a test, and the last one
abbrev first_passes : (ℕ → Bool) → List ℕ → Bool
first_passes test [] = false
first_passes test (b ∷ bytes) = test b

abbrev pub last_passes : (ℕ → Bool) → List ℕ → Bool
last_passes test [] = false
last_passes test (b ∷ []) = test b
last_passes test (b ∷ c ∷ bytes) = last_passes test (c ∷ bytes)

abbrev first_blank : List ℕ → Bool
first_blank bytes = first_passes is_blank bytes

abbrev pub last_blank : List ℕ → Bool
last_blank bytes = last_passes is_blank bytes

abbrev holds_feed : List ℕ → Bool
holds_feed bytes = list_any (λ (b : ℕ). b == 10) bytes

-- a text of some bytes, without blank ones at its ends, and without LF
record IsTrim (text : List ℕ) : Type 0 where
  some : 0 < length text
  first : first_blank text ≡ false
  last : last_blank text ≡ false

first_more : (x y : List ℕ) → 0 < length x → first_blank (x ++ y) ≡ first_blank x
first_more [] y some = absurd (omega arith)
first_more (b ∷ x) y some = refl

pub last_more : (x y : List ℕ) → 0 < length y → last_blank (x ++ y) ≡ last_blank y
last_more [] y some = refl
last_more (b ∷ []) [] some = absurd (omega arith)
last_more (b ∷ []) (c ∷ y) some = refl
last_more (b ∷ d ∷ x) y some = last_more (d ∷ x) y some

-- ---- an operand, and the pieces that are replaced

trim_operand : (text : List ℕ) → IsTrim text → IsTrim (operand text)
trim_operand text trim = by (has_operator text)
  where
    by : (t : Bool) → IsTrim (cond t (codes "(" ++ text ++ codes ")") text)
    by false = trim
    by true =
        let n = length-append text (codes ")") in
        record { some = omega arith; first = refl; last = last_more (codes "(" ++ text) (codes ")") (omega arith) }

piece_some : (r : Replacement) (behind : Bool) (piece : List ℕ) → IsTrim r.new → 0 < length piece
    → 0 < length (piece_replaced r behind piece)
piece_some r behind piece new some = by (bytes_eq piece r.old && (is_identifier r.new || not behind))
  where
    by : (t : Bool) → 0 < length (cond t (operand r.new) piece)
    by true = (trim_operand r.new new).some
    by false = some

first_kept : (r : Replacement) (behind : Bool) (piece : List ℕ) → IsTrim r.new → first_blank piece ≡ false
    → first_blank (piece_replaced r behind piece) ≡ false
first_kept r behind piece new first = by (bytes_eq piece r.old && (is_identifier r.new || not behind))
  where
    by : (t : Bool) → first_blank (cond t (operand r.new) piece) ≡ false
    by true = (trim_operand r.new new).first
    by false = first

last_kept : (r : Replacement) (behind : Bool) (piece : List ℕ) → IsTrim r.new → last_blank piece ≡ false
    → last_blank (piece_replaced r behind piece) ≡ false
last_kept r behind piece new last = by (bytes_eq piece r.old && (is_identifier r.new || not behind))
  where
    by : (t : Bool) → last_blank (cond t (operand r.new) piece) ≡ false
    by true = (trim_operand r.new new).last
    by false = last

-- the last byte of what is put together
last_replaced : (r : Replacement) (behind : Bool) (p : Word) (ps : List Word) → IsTrim r.new → WellCut (p ∷ ps)
    → last_blank (together (p ∷ ps)) ≡ false
    → (0 < length (pieces_replaced r behind (p ∷ ps))) × (last_blank (pieces_replaced r behind (p ∷ ps)) ≡ false)
unfolding pieces_replaced
last_replaced r behind p [] new cut last =
    let own : last_blank p.0 ≡ false = ap last_blank (sym (append-nil p.0)) ∙ last in
    let same : piece_replaced r behind p.0 ++ [] ≡ piece_replaced r behind p.0 =
    append-nil (piece_replaced r behind p.0) in (
      subst (λ t. 0 < length t) (sym same) (piece_some r behind p.0 new cut.0.some),
      ap last_blank same
          ∙ last_kept r behind p.0 new own,
    )
last_replaced r behind p (q ∷ ps) new cut last =
    let n = length-append q.0 (together ps) in
    let low = cut.2.0.some in
    let rest : last_blank (together (q ∷ ps)) ≡ false =
    sym (last_more p.0 (together (q ∷ ps)) (omega (arith, n, low))) ∙ last in
    let h = last_replaced r (is_behind_with behind p.1) q ps new cut.2 rest in
    let m = length-append (piece_replaced r behind p.0) (pieces_replaced r (is_behind_with behind p.1) (q ∷ ps)) in (
      omega (arith, m, h.0),
      last_more (piece_replaced r behind p.0)
          (pieces_replaced r (is_behind_with behind p.1) (q ∷ ps)) h.0 ∙ h.1,
    )

trim_pieces : (r : Replacement) (ps : List Word) → IsTrim r.new → WellCut ps → IsTrim (together ps)
    → IsTrim (pieces_replaced r false ps)
unfolding pieces_replaced
trim_pieces r [] new cut trim = trim
trim_pieces r (p ∷ ps) new cut trim =
    let ends = last_replaced r false p ps new cut trim.last in
    let own : first_blank p.0 ≡ false = sym (first_more p.0 (together ps) cut.0.some) ∙ trim.first in
    record {
      some = ends.0;
      first = first_more (piece_replaced r false p.0) (pieces_replaced r (is_behind_with false p.1) ps)
          (piece_some r false p.0 new cut.0.some)
          ∙ first_kept r false p.0 new own;
      last = ends.1;
    }

-- ---- values

-- what holds of NEW and of an expression that is replaced holds of what becomes of a licence
module _ (P : List ℕ → Type 0) where
  kept_one : (r : Replacement) (value result : List ℕ) → P r.new → P value → (IsWithin r value result → P result)
      → Becomes r value result → P result
  kept_one r value result new old within (inl same) = subst P same new
  kept_one r value result new old within (inr (inl w)) = within w
  kept_one r value result new old within (inr (inr u)) = subst P u.same old

  kept_all : (rs : List Replacement) → AllByRecursion (λ r. P r.new) rs
      → ((r : Replacement) (value result : List ℕ) → P r.new → P value → IsWithin r value result → P result)
      → (value result : List ℕ) → P value → licence_amended rs value ≡ Some result → P result
  kept_all [] new within value result old e = subst P (amended_none value result e) old
  kept_all (r ∷ rs) new within value result old e =
      let parts = amended_parts r rs value result e in
      kept_all rs new.1 within parts.0 result
      (kept_one r value parts.0 new.0 old (within r value parts.0 new.0 old) (becomes r value parts.0 parts.1)) parts.2

within_trim : (r : Replacement) (value result : List ℕ) → IsTrim r.new → IsTrim value → IsWithin r value result
    → IsTrim result
within_trim r value result new old w =
    subst IsTrim w.made
    (trim_pieces r (pieces_of value) new (pieces_cut value) (subst IsTrim (sym (pieces-join value)) old))

-- no byte of an expression is LF
no_feed : (bytes : List ℕ) → list_any is_control bytes ≡ false → holds_feed bytes ≡ false
no_feed [] e = refl
no_feed (b ∷ bytes) e =
    let parts = or-parts (is_control b) (list_any is_control bytes) e in
    or-none (b == 10) (holds_feed bytes) (other parts.0) (no_feed bytes parts.1)
  where
    other : is_control b ≡ false → (b == 10) ≡ false
    other plain = elim (truth (b == 10)) [
      | inl t ↦ absurd (false≢true (sym plain ∙ ap is_control (eqb-true b 10 t)))
      | inr f ↦ f
    ]

pub feedless_kept : (rs : List Replacement) → AllByRecursion (λ r. list_any (λ (b : ℕ). b == 10) r.new ≡ false) rs
    → (value result : List ℕ) → list_any (λ (b : ℕ). b == 10) value ≡ false
    → licence_amended rs value ≡ Some result → list_any (λ (b : ℕ). b == 10) result ≡ false
feedless_kept rs new value result old e =
    kept_all (λ t. holds_feed t ≡ false) rs new
    (λ r v t n o w. no_feed t (expression-printable t w.is)) value result old e

-- ---- the same, as a value is trimmed

not_nil : (x : ℕ) (xs : List ℕ) → [] ≡ x ∷ xs → ⊥
not_nil x xs e = cc e

-- where nothing is dropped at an end, the byte there doesn't pass
module _ (test : ℕ → Bool) where
  no_more : (xs : List ℕ) → length (drop_front test xs) ≤ length xs
  unfolding drop_front
  no_more [] = omega arith
  no_more (x ∷ xs) = let h = no_more xs in by (test x) h
    where
      by : (t : Bool) → length (drop_front test xs) ≤ length xs
          → length (cond t (drop_front test xs) (x ∷ xs)) ≤ length (x ∷ xs)
      by true h = omega (arith, h)
      by false h = omega arith

  pub first_of : (xs : List ℕ) → drop_front test xs ≡ xs → first_passes test xs ≡ false
  unfolding drop_front
  first_of [] e = refl
  first_of (x ∷ xs) e = by (test x) refl e
    where
      by : (t : Bool) → test x ≡ t → cond t (drop_front test xs) (x ∷ xs) ≡ x ∷ xs → test x ≡ false
      by true is e' = absurd (let n = ap length e' in let m = no_more xs in omega (arith, n, m))
      by false is e' = is

  pub last_of : (xs : List ℕ) → drop_end test xs ≡ xs → last_passes test xs ≡ false
  unfolding drop_end
  last_of [] e = refl
  last_of (x ∷ []) e = elim (truth (test x)) [
    | inl t ↦ absurd (not_nil x [] (sym (ap (λ b. cond (b && true) [] (x ∷ [])) t) ∙ e))
    | inr f ↦ f
  ]
  last_of (x ∷ y ∷ xs) e = elim (truth (list_all test (x ∷ y ∷ xs))) [
    | inl t ↦ absurd (not_nil x (y ∷ xs) (sym (ap (λ b. cond b [] (x ∷ drop_end test (y ∷ xs))) t) ∙ e))
    | inr f ↦ last_of (y ∷ xs) (rest (drop_end test (y ∷ xs))
        (sym (ap (λ b. cond b [] (x ∷ drop_end test (y ∷ xs))) f) ∙ e))
  ]
    where
      rest : (ys : List ℕ) → x ∷ ys ≡ x ∷ y ∷ xs → ys ≡ y ∷ xs
      rest ys same = cc same

of_first : (xs : List ℕ) → first_blank xs ≡ false → drop_front is_blank xs ≡ xs
unfolding drop_front
of_first [] e = refl
of_first (x ∷ xs) e = ap (λ t. cond t (drop_front is_blank xs) (x ∷ xs)) e

and_none : (a b : Bool) → b ≡ false → (a && b) ≡ false
and_none true b e = e
and_none false b e = refl

not_all : (x : ℕ) (xs : List ℕ) → last_blank (x ∷ xs) ≡ false → list_all is_blank (x ∷ xs) ≡ false
not_all x [] e = ap (λ t. t && true) e
not_all x (y ∷ xs) e = and_none (is_blank x) (list_all is_blank (y ∷ xs)) (not_all y xs e)

pub of_last : (xs : List ℕ) → last_blank xs ≡ false → drop_end is_blank xs ≡ xs
unfolding drop_end
of_last [] e = refl
of_last (x ∷ []) e = ap (λ t. cond t [] (x ∷ [])) (not_all x [] e)
of_last (x ∷ y ∷ xs) e =
    ap (λ t. cond t [] (x ∷ drop_end is_blank (y ∷ xs))) (not_all x (y ∷ xs) e) ∙ ap (λ ys. x ∷ ys) (of_last (y ∷ xs) e)

-- more than blank bytes, and none of them at the ends
pub record IsWhole (text : List ℕ) : Type 0 where
  pub some : all_blank text ≡ false
  pub trim : trimmed is_blank text ≡ text

whole_trim : (text : List ℕ) → IsWhole text → IsTrim text
whole_trim [] whole = absurd (false≢true (sym whole.some))
whole_trim (b ∷ bytes) whole = record {
  some = omega arith;
  first = first_of is_blank (b ∷ bytes)
      (ap (drop_front is_blank) (sym whole.trim) ∙ drop_front-kept is_blank (b ∷ bytes) ∙ whole.trim);
  last = last_of is_blank (b ∷ bytes) (ap (drop_end is_blank) (sym whole.trim)
      ∙ drop_end-twice is_blank (drop_front is_blank (b ∷ bytes)) ∙ whole.trim);
}

trim_whole : (text : List ℕ) → IsTrim text → IsWhole text
trim_whole [] trim = absurd (let some = trim.some in omega (arith, some))
trim_whole (b ∷ bytes) trim = record {
  some = not_all b bytes trim.last;
  trim = ap (drop_end is_blank) (of_first (b ∷ bytes) trim.first) ∙ of_last (b ∷ bytes) trim.last;
}

-- plain texts are so
full : (b : ℕ) → is_control b ≡ false → is_space b ≡ false → is_blank b ≡ false
full b e f = grind (arith, nat_tests)

full_last : (text : List ℕ) → list_any is_control text ≡ false → last_passes is_space text ≡ false
    → last_blank text ≡ false
full_last [] e f = refl
full_last (b ∷ []) e f = full b (or-parts (is_control b) false e).0 f
full_last (b ∷ c ∷ text) e f = full_last (c ∷ text) (or-parts (is_control b) (list_any is_control (c ∷ text)) e).1 f

pub plain_whole : (text : List ℕ) → IsPlain text → IsWhole text
plain_whole [] plain = absurd (plain.some refl)
plain_whole (b ∷ text) plain = trim_whole (b ∷ text) (record {
  some = omega arith;
  first = full b (or-parts (is_control b) (list_any is_control text) plain.printable).0
      (first_of is_space (b ∷ text) (ap (drop_front is_space) (sym plain.trimmed)
      ∙ drop_front-kept is_space (b ∷ text) ∙ plain.trimmed));
  last = full_last (b ∷ text) plain.printable
      (last_of is_space (b ∷ text) (ap (drop_end is_space) (sym plain.trimmed)
      ∙ drop_end-twice is_space (drop_front is_space (b ∷ text)) ∙ plain.trimmed));
})

each_trim : (rs : List Replacement) → AllByRecursion (λ r. IsWhole r.new) rs → AllByRecursion (λ r. IsTrim r.new) rs
each_trim [] h = tt
each_trim (r ∷ rs) h = (whole_trim r.new h.0, each_trim rs h.1)

pub whole_kept : (rs : List Replacement) → AllByRecursion (λ r. IsWhole r.new) rs → (value result : List ℕ)
    → IsWhole value → licence_amended rs value ≡ Some result → IsWhole result
whole_kept rs new value result old e =
    trim_whole result (kept_all IsTrim rs (each_trim rs new) within_trim value result (whole_trim value old) e)

-- ---- UTF-8 without NUL

all_ascii : (text : List ℕ) → list_any (λ (b : ℕ). not (nat_lt b 128)) text ≡ false → list_all is_low text ≡ true
all_ascii [] e = refl
all_ascii (b ∷ text) e =
    let parts = or-parts (not (nat_lt b 128)) (list_any (λ (c : ℕ). not (nat_lt c 128)) text) e in
    by (is_low b) parts.0 (all_ascii text parts.1)
  where
    by : (t : Bool) → not t ≡ false → list_all is_low text ≡ true → (t && list_all is_low text) ≡ true
    by true f rest = rest
    by false f rest = absurd (cc f)

no_nul : (text : List ℕ) → list_any is_control text ≡ false → list_any is_nul text ≡ false
no_nul text e = none_weaker is_control is_nul (λ b t. ap is_control (eqb-true b 0 t)) text e

pub plain_sound : (text : List ℕ) → IsPlain text → IsUtf8 text → IsSound text
plain_sound text plain utf8 = record { utf8 = utf8; clean = no_nul text plain.printable }

expression_sound : (text : List ℕ) → fault_of text ≡ None → IsSound text
expression_sound text fine =
    sound_low text (all_ascii text (expression-ascii text fine)) (no_nul text (expression-printable text fine))

pub sound_kept : (rs : List Replacement) → AllByRecursion (λ r. IsSound r.new) rs → (value result : List ℕ)
    → IsSound value → licence_amended rs value ≡ Some result → IsSound result
sound_kept rs new value result old e =
    kept_all IsSound rs new (λ r v t n o w. expression_sound t w.is) value result old e
