-- Texts that stand in JSON as they are, and small hexadecimal digits, which do.
use Rattle.std.proofs.Common.{◌≡◌, ℕ, suc, ◌/◌, ◌%◌, ◌<◌, List, [], ◌∷◌, ◌++◌, slice_index, true, refl, ap, arith}
use Rattle.std.specs.List.{AllPass}
use Rattle.std.proofs.lemmas.List.Elements.{All-nil, All-cons}
use Rattle.std.proofs.lemmas.List.Sums.{AllPass-from_list_all}
use Rattle.json.specs.Print.{escape}
use Rattle.json.specs.Run.{is_plain}
use Rattle.json.proofs.Printed.Plain.{escape_on_plain}
use Rattle.hex.specs.Hex.{encode_with, encode_lower, lower_digits, IsBytes}

-- bytes that need no escape stand as they are
pub escape_plain : (s : List ℕ) → AllPass is_plain s → escape s ≡ s
escape_plain s h = escape_on_plain true s (λ k _ below. h k 0 below)

plain_digit : AllPass is_plain lower_digits
plain_digit = AllPass-from_list_all is_plain lower_digits refl

pub plain_digits : (bytes : List ℕ) → IsBytes bytes → AllPass is_plain (encode_lower bytes)
unfolding encode_with
plain_digits [] h = All-nil _
plain_digits (b ∷ bytes) h =
    let byte : b < 256 = h 0 in
    let Plain : ℕ → Type 0 = λ x. is_plain x ≡ true in
    All-cons Plain (slice_index lower_digits (b / 16)) (slice_index lower_digits (b % 16) ∷ encode_lower bytes)
    (plain_digit (b / 16) 0 (omega arith))
    (All-cons Plain (slice_index lower_digits (b % 16)) (encode_lower bytes) (plain_digit (b % 16) 0 (omega arith))
    (plain_digits bytes (λ i. h (suc i))))

-- the digits of two lists of bytes in a row
pub encode_with-append : (table xs ys : List ℕ)
    → encode_with table (xs ++ ys) ≡ encode_with table xs ++ encode_with table ys
unfolding encode_with
encode_with-append table [] ys = refl
encode_with-append table (x ∷ xs) ys =
    ap (λ (l : List ℕ). slice_index table (x / 16) ∷ slice_index table (x % 16) ∷ l) (encode_with-append table xs ys)
