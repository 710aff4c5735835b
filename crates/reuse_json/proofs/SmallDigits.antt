-- Bytes and the small hexadecimal digits that spell them.
use Rattle.std.proofs.Common.{◌≡◌, ℕ, ◌+◌, ◌*◌, ◌/◌, ◌%◌, ◌<◌, List, [], ◌∷◌, ◌++◌, length, take, set, get_or}
use Rattle.std.proofs.Common.{slice_index, sym, ap, ap₂, ◌∙◌, append_assoc, arith}
use Rattle.std.proofs.lemmas.List.{take_more, take_more_set}
use Rattle.hex.specs.Hex.{encode_with, encode_lower, lower_digits}
use Rattle.reuse_json.proofs.PlainTexts.{encode_with-append}

-- the digits of the byte of these two values
one_byte : (high low : ℕ) → high < 16 → low < 16 → encode_lower
    ((high % 16 * 16 + low % 16) ∷ []) ≡ slice_index lower_digits high ∷ slice_index lower_digits low ∷ []
unfolding encode_with
one_byte high low h l =
    let first : (high % 16 * 16 + low % 16) / 16 ≡ high = omega arith in
    let second : (high % 16 * 16 + low % 16) % 16 ≡ low = omega arith in
    ap₂ (λ (a b : ℕ). slice_index lower_digits a ∷ slice_index lower_digits b ∷ []) first second

two_more : (digits : List ℕ) (i : ℕ) → 2 * i + 1 < length digits
    → take (2 * (i + 1)) digits ≡ take (2 * i) digits ++ get_or digits (2 * i) 0 ∷ get_or digits (2 * i + 1) 0 ∷ []
two_more digits i within =
    let count : 2 * (i + 1) ≡ 2 * i + 1 + 1 = omega arith in
    ap (λ (n : ℕ). take n digits) count
    ∙ take_more digits (2 * i + 1) 0 within
    ∙ ap (λ (l : List ℕ). l ++ get_or digits (2 * i + 1) 0 ∷ []) (take_more digits (2 * i) 0 (omega arith))
    ∙ append_assoc (take (2 * i) digits) (get_or digits (2 * i) 0 ∷ []) (get_or digits (2 * i + 1) 0 ∷ [])

pub one_more_byte : (digits bytes : List ℕ) (i high low : ℕ) → length digits ≡ 2 * length bytes → i < length bytes
    → high < 16 → low < 16
    → slice_index lower_digits high ≡ get_or digits (2 * i) 0
    → slice_index lower_digits low ≡ get_or digits (2 * i + 1) 0
    → take (2 * i) digits ≡ encode_lower (take i bytes)
    → take (2 * (i + 1)) digits ≡ encode_lower (take (i + 1) (set bytes i (high % 16 * 16 + low % 16)))
one_more_byte digits bytes i high low size within h l first second so_far =
    let byte = high % 16 * 16 + low % 16 in
    two_more digits i (omega arith)
    ∙ ap₂ (λ (a b : List ℕ). a ++ b) so_far (sym (one_byte high low h l ∙ ap₂ (λ (a b : ℕ). a ∷ b ∷ []) first second))
    ∙ sym (encode_with-append lower_digits (take i bytes) (byte ∷ []))
    ∙ ap encode_lower (sym (take_more_set bytes i byte within))
