-- A text that is taken apart in the order in which it was written.
use Rattle.std.proofs.Common.{◌≡◌, ℕ, ◌+◌, ◌*◌, ◌/◌, ◌%◌, ◌^◌, ◌<◌, List, [], ◌∷◌, ◌++◌, length, take, slice_index}
use Rattle.std.proofs.Common.{codes, decimal, Some, ap, ap₂, sym, subst, ◌∙◌, append_assoc, arith}
use Rattle.std.proofs.lemmas.Fmt.{decimal_digit, decimal_step}
use Rattle.std.proofs.lemmas.List.{take_more}
use Rattle.json.specs.Print.{escape}
use Rattle.hex.specs.Hex.{encode_lower, IsBytes}
use Rattle.reuse_json.specs.EntryText.{digest_text, hex_text}
use Rattle.reuse_json.proofs.PlainTexts.{escape_plain, plain_digits}

-- what stands behind the front begins with a piece
pub step : (front text piece more : List ℕ) → text ≡ piece ++ more → front ++ text ≡ front ++ piece ++ more
step front text piece more next = ap (λ (l : List ℕ). front ++ l) next ∙ sym (append_assoc front piece more)

-- with four pieces
pub four_steps : (front a b c d t0 t1 t2 t3 t4 : List ℕ) → t0 ≡ a ++ t1 → t1 ≡ b ++ t2 → t2 ≡ c ++ t3 → t3 ≡ d ++ t4
    → front ++ t0 ≡ front ++ a ++ b ++ c ++ d ++ t4
four_steps front a b c d t0 t1 t2 t3 t4 first second third fourth =
    step front t0 a t1 first
    ∙ step (front ++ a) t1 b t2 second
    ∙ step (front ++ a ++ b) t2 c t3 third
    ∙ step (front ++ a ++ b ++ c) t3 d t4 fourth

-- ---- strings

-- what stands between two quotes
pub quotes_regroup : (content more : List ℕ) → 34 ∷ (content ++ 34 ∷ more) ≡ 34 ∷ (content ++ 34 ∷ []) ++ more
quotes_regroup content more = ap (λ (l : List ℕ). 34 ∷ l) (sym (append_assoc content (34 ∷ []) more))

pub string_taken : (whole content more : List ℕ) → whole ≡ 34 ∷ (content ++ 34 ∷ more) → escape content ≡ content
    → whole ≡ 34 ∷ (escape content ++ 34 ∷ []) ++ more
string_taken whole content more is plain =
    is ∙ quotes_regroup content more ∙ ap (λ (l : List ℕ). 34 ∷ (l ++ 34 ∷ []) ++ more) (sym plain)

-- ---- small hexadecimal digits

pub hex_taken : (whole digits bytes more : List ℕ) → whole ≡ 34 ∷ (digits ++ 34 ∷ more) → digits ≡ encode_lower bytes
    → IsBytes bytes → whole ≡ hex_text bytes ++ more
hex_taken whole digits bytes more is spelled h =
    string_taken whole (encode_lower bytes) more (is ∙ ap (λ (l : List ℕ). 34 ∷ (l ++ 34 ∷ more)) spelled)
    (escape_plain (encode_lower bytes) (plain_digits bytes h))

-- a member whose value is a digest
pub digest_taken : (whole opening behind digits digest comma more key : List ℕ) → whole ≡ opening ++ behind
    → behind ≡ 34 ∷ (digits ++ 34 ∷ comma) → digits ≡ encode_lower digest → IsBytes digest → comma ≡ codes "," ++ more
    → opening ≡ codes "\"" ++ key ++ codes "\":"
    → whole ≡ digest_text key (Some digest) ++ more
digest_taken whole opening behind digits digest comma more key front value spelled h last is =
    subst (λ (l : List ℕ). whole ≡ l ++ hex_text digest ++ codes "," ++ more) is
    (front ∙ step opening behind (hex_text digest) comma (hex_taken behind digits digest comma value spelled h)
    ∙ step (opening ++ hex_text digest) comma (codes ",") more last)

-- ---- numbers

pub first_digit : (text : List ℕ) (digit : ℕ) → 0 < length text → digit < 10 → slice_index text 0 ≡ 48 + digit
    → take 1 text ≡ decimal digit
first_digit text digit within small is =
    take_more text 0 0 within ∙ ap (λ (x : ℕ). x ∷ []) is ∙ sym (decimal_digit digit small)

pub next_digit : (text : List ℕ) (len number digit : ℕ) → len < length text → digit < 10
    → slice_index text len ≡ 48 + digit → 0 < number → number * 10 + digit < 2 ^ 64 → take len text ≡ decimal number
    → take (len + 1) text ≡ decimal (number * 10 + digit)
next_digit text len number digit within small is some fits so_far =
    let front : (number * 10 + digit) / 10 ≡ number = omega arith in
    let last : (number * 10 + digit) % 10 ≡ digit = omega arith in
    take_more text len 0 within
    ∙ ap₂ (λ (l : List ℕ) (x : ℕ). l ++ x ∷ []) so_far is
    ∙ ap₂ (λ (a b : ℕ). decimal a ++ (48 + b) ∷ []) (sym front) (sym last)
    ∙ sym (decimal_step (number * 10 + digit) (omega arith) fits)
