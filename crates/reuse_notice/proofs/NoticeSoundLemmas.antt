-- A notice that is written of a text is text.
use Rattle.std.proofs.Common.{◌≡◌, ℕ, ◌+◌, ◌/◌, ◌%◌, ◌<◌, ◌≤◌, Bool, true, false, List, [], ◌∷◌, ◌++◌, Option, None}
use Rattle.std.proofs.Common.{Some, refl, ap, arith}
use Rattle.std.specs.Prelude.{◌||◌, ◌&&◌, ◌==◌, if◌then◌else◌, codes, IsUtf8}
use lib.Utf8.{encode}
use Rattle.std.proofs.lemmas.Bool.{eqb-true, false_from_ne_true}
use Rattle.std.proofs.lemmas.Bool.Decides.{nat_tests}
use Rattle.std.proofs.lemmas.Str.{IsUtf8-append}
use Rattle.reuse_notice.specs.declared.prefixes.Prefix.{Prefix}
use Rattle.reuse_notice.specs.declared.prefixes.Prefix.TheVariants.{Spdx, SpdxC, SpdxSymbol, SpdxString, SpdxStringC}
use Rattle.reuse_notice.specs.declared.prefixes.Prefix.TheVariants.{SpdxStringSymbol, String, StringC, StringSymbol}
use Rattle.reuse_notice.specs.declared.prefixes.Prefix.TheVariants.{Symbol}
use Rattle.reuse_notice.specs.declared.tags.Years.{Years}
use Rattle.reuse_notice.specs.Prefixes.{prefix_text, copyright_sign}
use Rattle.reuse_notice.specs.Adding.{four_digits, years_text, notice_written}
use Rattle.reuse_notice.specs.Keeping.{HaveFourDigits}
use Rattle.reuse_notice.proofs.SoundLemmas.{is_nul, IsSound, is_low, sound_low, sound_append}

sign_sound : IsSound copyright_sign
unfolding encode
sign_sound = record { utf8 = (169 ∷ [], (refl, refl)); clean = refl }

pub prefix_sound : (prefix : Prefix) → IsSound (prefix_text prefix)
prefix_sound Spdx = sound_low (prefix_text Spdx) refl refl
prefix_sound SpdxC = sound_low (prefix_text SpdxC) refl refl
prefix_sound SpdxSymbol = sound_append (codes "SPDX-FileCopyrightText: ") copyright_sign
    (sound_low (codes "SPDX-FileCopyrightText: ") refl refl) sign_sound
prefix_sound SpdxString = sound_low (prefix_text SpdxString) refl refl
prefix_sound SpdxStringC = sound_low (prefix_text SpdxStringC) refl refl
prefix_sound SpdxStringSymbol = sound_append (codes "SPDX-FileCopyrightText: Copyright ") copyright_sign
    (sound_low (codes "SPDX-FileCopyrightText: Copyright ") refl refl) sign_sound
prefix_sound String = sound_low (prefix_text String) refl refl
prefix_sound StringC = sound_low (prefix_text StringC) refl refl
prefix_sound StringSymbol =
    sound_append (codes "Copyright ") copyright_sign (sound_low (codes "Copyright ") refl refl) sign_sound
prefix_sound Symbol = sign_sound

is_below : (b : ℕ) → b < 128 → is_low b ≡ true
is_below b h = grind (arith, nat_tests)

digit_sound : (n : ℕ) → n ≤ 9 → IsSound ((48 + n) ∷ [])
digit_sound n low = sound_low ((48 + n) ∷ []) (ap (λ (b : Bool). b && true) (is_below (48 + n) (omega arith)))
    (ap (λ (b : Bool). b || false)
    (false_from_ne_true (is_nul (48 + n)) (λ t. let e : 48 + n ≡ 0 = eqb-true (48 + n) 0 t in omega arith)))

pub digits_sound : (n : ℕ) → n ≤ 9999 → IsSound (four_digits n)
digits_sound n low =
    sound_append ((48 + n / 1000) ∷ []) ((48 + n / 100 % 10) ∷ (48 + n / 10 % 10) ∷ (48 + n % 10) ∷ [])
    (digit_sound (n / 1000) (omega arith))
    (sound_append ((48 + n / 100 % 10) ∷ []) ((48 + n / 10 % 10) ∷ (48 + n % 10) ∷ [])
    (digit_sound (n / 100 % 10) (omega arith))
    (sound_append ((48 + n / 10 % 10) ∷ []) ((48 + n % 10) ∷ []) (digit_sound (n / 10 % 10) (omega arith))
    (digit_sound (n % 10) (omega arith))))

years_sound : (years : Years) → years.low ≤ 9999 → years.high ≤ 9999 → IsSound (years_text years)
years_sound years low high = by (years.low == years.high)
  where
    by : (b : Bool)
        → IsSound (if b then four_digits years.low else four_digits years.low ++ codes " - " ++ four_digits years.high)
    by true = digits_sound years.low low
    by false = sound_append (four_digits years.low ++ codes " - ") (four_digits years.high) (sound_append
        (four_digits years.low) (codes " - ") (digits_sound years.low low) (sound_low (codes " - ") refl refl))
        (digits_sound years.high high)

behind_space : (bytes : List ℕ) → IsSound bytes → IsSound (32 ∷ bytes)
behind_space bytes s = sound_append (32 ∷ []) bytes (sound_low (32 ∷ []) refl refl) s

utf8_behind_space : (bytes : List ℕ) → IsUtf8 bytes → IsUtf8 (32 ∷ bytes)
utf8_behind_space bytes u = IsUtf8-append (32 ∷ []) bytes (sound_low (32 ∷ []) refl refl).utf8 u

pub written_sound : (prefix : Prefix) (years : Option Years) (holder : List ℕ) → HaveFourDigits years → IsSound holder
    → IsSound (notice_written prefix years holder)
written_sound prefix None holder short s =
    sound_append (prefix_text prefix) (32 ∷ holder) (prefix_sound prefix) (behind_space holder s)
written_sound prefix (Some years) holder short s =
    sound_append (prefix_text prefix ++ 32 ∷ years_text years) (32 ∷ holder)
    (sound_append (prefix_text prefix) (32 ∷ years_text years) (prefix_sound prefix)
    (behind_space (years_text years) (years_sound years short.0 short.1))) (behind_space holder s)

pub written_utf8 : (prefix : Prefix) (years : Option Years) (holder : List ℕ) → HaveFourDigits years → IsUtf8 holder
    → IsUtf8 (notice_written prefix years holder)
written_utf8 prefix None holder short u =
    IsUtf8-append (prefix_text prefix) (32 ∷ holder) (prefix_sound prefix).utf8 (utf8_behind_space holder u)
written_utf8 prefix (Some years) holder short u =
    IsUtf8-append (prefix_text prefix ++ 32 ∷ years_text years) (32 ∷ holder)
    (IsUtf8-append (prefix_text prefix) (32 ∷ years_text years) (prefix_sound prefix).utf8
    (behind_space (years_text years) (years_sound years short.0 short.1)).utf8) (utf8_behind_space holder u)
