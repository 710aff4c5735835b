-- Parts of a text, cut beside ASCII bytes, are text.
use Rattle.std.proofs.Common.{◌≡◌, ℕ, zero, suc, ◌+◌, ◌<◌, Bool, true, false, List, [], ◌∷◌, ◌++◌, length}
use Rattle.std.proofs.Common.{length-append, drop, get_or, refl, sym, ap, subst, ◌∙◌, inl, inr, arith}
use Rattle.std.specs.Prelude.{◌==◌, ◌&&◌, nat_lt, nat_eq, slice_index}
use Rattle.std.specs.List.{list_all, list_any, starts_with}
use Rattle.std.specs.Str.{IsUtf8}
use Rattle.std.proofs.Math.Seq.{drop-append_seam, take-append_seam}
use Rattle.std.proofs.lemmas.Bool.{false≢true, eqb-true, and_parts, or_parts, cases_Bool as truth}
use Rattle.std.proofs.lemmas.Bool.Decides.{Decides-eqb, nat_tests}
use Rattle.std.proofs.lemmas.List.{get_or-append-add}
use Rattle.std.proofs.lemmas.List.Folds.{list_any-append}
use Rattle.std.proofs.lemmas.Slice.Eq.{starts_is}
use Rattle.std.proofs.lemmas.Str.{IsUtf8-nil, IsUtf8-append, IsUtf8-take, IsUtf8-drop, IsUtf8-from_ascii}
use Rattle.std.proofs.lemmas.Str.{IsCharBoundary-before_ascii, IsCharBoundary-after_ascii, IsCharBoundary-from_take}
use Rattle.std.proofs.lemmas.Str.{IsCharBoundary-at_seam}
use Rattle.reuse_notice.specs.Adding.{is_space, without_spaces}
use Rattle.reuse_notice.specs.Tags.{drop_front, drop_end, trimmed}
use Rattle.reuse_notice.proofs.NoneLemmas.{none_append, none_front, none_end}
use Rattle.reuse_notice.proofs.BlankLemmas.{dropped_end}

abbrev pub is_nul : ℕ → Bool
is_nul b = b == 0

-- UTF-8 without NUL
pub record IsSound (bytes : List ℕ) : Type 0 where
  pub utf8 : IsUtf8 bytes
  pub clean : list_any is_nul bytes ≡ false

-- ---- ASCII bytes

abbrev pub is_low : ℕ → Bool
is_low b = nat_lt b 128

pub low_is : (b : ℕ) → is_low b ≡ true → b < 128
low_is b e = grind (arith, nat_tests)

nil_at : (i : ℕ) → slice_index [] i < 128
nil_at zero = omega arith
nil_at (suc i) = omega arith

ascii_at : (bytes : List ℕ) → list_all is_low bytes ≡ true → (i : ℕ) → slice_index bytes i < 128
ascii_at [] e i = nil_at i
ascii_at (b ∷ bytes) e zero = low_is b (and_parts (is_low b) (list_all is_low bytes) e).0
ascii_at (b ∷ bytes) e (suc i) = ascii_at bytes (and_parts (is_low b) (list_all is_low bytes) e).1 i

pub low_utf8 : (bytes : List ℕ) → list_all is_low bytes ≡ true → IsUtf8 bytes
low_utf8 bytes e = IsUtf8-from_ascii bytes (ascii_at bytes e)

-- ---- cuts

pub utf8_behind : (front rest : List ℕ) → IsUtf8 (front ++ rest) → IsUtf8 front → IsUtf8 rest
utf8_behind front rest whole first =
    let size = length-append front rest in
    let cut = IsCharBoundary-from_take (front ++ rest) (length front) whole (omega (arith, size))
    (subst IsUtf8 (sym (take-append_seam front rest)) first) in
    subst IsUtf8 (drop-append_seam front rest) (IsUtf8-drop (front ++ rest) (length front) whole cut)

pub utf8_before : (front rest : List ℕ) → IsUtf8 (front ++ rest) → IsUtf8 rest → IsUtf8 front
utf8_before front rest whole last =
    subst IsUtf8 (take-append_seam front rest)
    (IsUtf8-take (front ++ rest) (length front) whole (IsCharBoundary-at_seam (front ++ rest) front rest refl last))

at_seam : (front rest : List ℕ) (b : ℕ) → get_or (front ++ b ∷ rest) (length front) 0 ≡ b
at_seam front rest b =
    ap (λ (n : ℕ). get_or (front ++ b ∷ rest) n 0) (whole (length front)) ∙ get_or-append-add front (b ∷ rest) 0 0
  where
    whole : (n : ℕ) → n ≡ n + 0
    whole n = omega arith

pub utf8_to_low : (front rest : List ℕ) (b : ℕ) → IsUtf8 (front ++ b ∷ rest) → b < 128 → IsUtf8 front
utf8_to_low front rest b whole low =
    let size = length-append front (b ∷ rest) in
    let here = at_seam front rest b in
    subst IsUtf8 (take-append_seam front (b ∷ rest)) (IsUtf8-take (front ++ b ∷ rest) (length front) whole
    (IsCharBoundary-before_ascii (front ++ b ∷ rest) (length front) (omega (arith, size)) (omega (arith, here, low))))

utf8_tail : (b : ℕ) (bytes : List ℕ) → IsUtf8 (b ∷ bytes) → b < 128 → IsUtf8 bytes
utf8_tail b bytes whole low =
    IsUtf8-drop (b ∷ bytes) 1 whole (IsCharBoundary-after_ascii (b ∷ bytes) 0 whole (omega arith) low)

pub none_parts : (front rest : List ℕ) → list_any is_nul (front ++ rest) ≡ false
    → (list_any is_nul front ≡ false) × (list_any is_nul rest ≡ false)
none_parts front rest e =
    or_parts (list_any is_nul front) (list_any is_nul rest) (sym (list_any-append is_nul front rest) ∙ e)

-- ---- sound texts

pub sound_nil : IsSound []
sound_nil = record { utf8 = IsUtf8-nil; clean = refl }

pub sound_low : (bytes : List ℕ) → list_all is_low bytes ≡ true → list_any is_nul bytes ≡ false → IsSound bytes
sound_low bytes low clean = record { utf8 = low_utf8 bytes low; clean = clean }

pub sound_append : (front rest : List ℕ) → IsSound front → IsSound rest → IsSound (front ++ rest)
sound_append front rest a b = record {
  utf8 = IsUtf8-append front rest a.utf8 b.utf8;
  clean = none_append is_nul front rest a.clean b.clean;
}

pub sound_behind : (front rest : List ℕ) → IsSound (front ++ rest) → IsUtf8 front → IsSound rest
sound_behind front rest whole first = record {
  utf8 = utf8_behind front rest whole.utf8 first;
  clean = (none_parts front rest whole.clean).1;
}

pub sound_before : (front rest : List ℕ) → IsSound (front ++ rest) → IsUtf8 rest → IsSound front
sound_before front rest whole last = record {
  utf8 = utf8_before front rest whole.utf8 last;
  clean = (none_parts front rest whole.clean).0;
}

pub sound_to_low : (front rest : List ℕ) (b : ℕ) → IsSound (front ++ b ∷ rest) → b < 128 → IsSound front
sound_to_low front rest b whole low = record {
  utf8 = utf8_to_low front rest b whole.utf8 low;
  clean = (none_parts front (b ∷ rest) whole.clean).0;
}

-- what follows a lead
pub sound_after : (text lead : List ℕ) → starts_with nat_eq text lead ≡ true → IsUtf8 lead → IsSound text
    → IsSound (drop (length lead) text)
sound_after text lead e first whole =
    let is : text ≡ lead ++ drop (length lead) text = (starts_is Decides-eqb text lead _ refl).0 e in
    sound_behind lead (drop (length lead) text) (subst IsSound is whole) first

module _ (test : ℕ → Bool) (low : (b : ℕ) → test b ≡ true → is_low b ≡ true) where
  utf8_front : (xs : List ℕ) → IsUtf8 xs → IsUtf8 (drop_front test xs)
  unfolding drop_front
  utf8_front [] u = u
  utf8_front (x ∷ xs) u = elim (truth (test x)) [
    | inl e ↦ rw e (utf8_front xs (utf8_tail x xs u (low_is x (low x e))))
    | inr e ↦ rw e u
  ]

  all_low : (xs : List ℕ) → list_all test xs ≡ true → list_all is_low xs ≡ true
  all_low [] e = refl
  all_low (x ∷ xs) e = let p = and_parts (test x) (list_all test xs) e in
      and_true (is_low x) (list_all is_low xs) (low x p.0) (all_low xs p.1)
    where
      and_true : (a b : Bool) → a ≡ true → b ≡ true → (a && b) ≡ true
      and_true true b e f = f
      and_true false b e f = absurd (false≢true e)

  utf8_end : (xs : List ℕ) → IsUtf8 xs → IsUtf8 (drop_end test xs)
  utf8_end xs u = let parts = dropped_end test xs in
      utf8_before (drop_end test xs) parts.0 (subst IsUtf8 parts.1 u) (low_utf8 parts.0 (all_low parts.0 parts.2))

  pub utf8_trimmed : (xs : List ℕ) → IsUtf8 xs → IsUtf8 (trimmed test xs)
  utf8_trimmed xs u = utf8_end (drop_front test xs) (utf8_front xs u)

  pub sound_front : (xs : List ℕ) → IsSound xs → IsSound (drop_front test xs)
  sound_front xs s = record { utf8 = utf8_front xs s.utf8; clean = none_front is_nul test xs s.clean }

  pub sound_end : (xs : List ℕ) → IsSound xs → IsSound (drop_end test xs)
  sound_end xs s = record { utf8 = utf8_end xs s.utf8; clean = none_end is_nul test xs s.clean }

  pub sound_trimmed : (xs : List ℕ) → IsSound xs → IsSound (trimmed test xs)
  sound_trimmed xs s = sound_end (drop_front test xs) (sound_front xs s)

-- ---- outer spaces

space_low : (b : ℕ) → is_space b ≡ true → is_low b ≡ true
space_low b e = ap is_low (eqb-true b 32 e)

pub utf8_without_spaces : (text : List ℕ) → IsUtf8 text → IsUtf8 (without_spaces text)
utf8_without_spaces = utf8_trimmed is_space space_low
