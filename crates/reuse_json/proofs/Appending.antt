-- Texts that grow at their end.
use Rattle.std.proofs.Common.{◌≡◌, ℕ, ◌+◌, List, [], ◌∷◌, ◌++◌, take, drop, codes, cond, sym, ap, ◌∙◌, append_assoc}
use Rattle.std.proofs.Common.{append-nil}
use Rattle.std.specs.Prelude.{Result, Ok, Err, OnOk}
use Rattle.std.specs.Result.{is_ok}
use Rattle.std.proofs.Math.Seq.{take-add}
use Rattle.json.specs.Token.{string}
use Rattle.json.specs.Print.{escape, quoted, print, print_from}
use Rattle.hex.specs.Hex.{encode_lower, lower_digits}
use Rattle.reuse_json.proofs.PlainTexts.{encode_with-append}

-- a piece more is put behind what was put there
pub more : (start front was now piece : List ℕ) → was ≡ start ++ front → now ≡ was ++ piece
    → now ≡ start ++ (front ++ piece)
more start front was now piece so_far is = is ∙ ap (λ (l : List ℕ). l ++ piece) so_far ∙ append_assoc start front piece

-- the last piece, where it is put there
pub at_last : {T E : Type 0} (r : Result T E) (was now piece whole : List ℕ) → now ≡ cond (is_ok r) (was ++ piece) was
    → was ++ piece ≡ whole → OnOk r (now ≡ whole)
at_last (Ok x) was now piece whole put is = put ∙ is
at_last (Err e) was now piece whole put is = tt

-- what stands behind the start
pub record Grown (start now behind : List ℕ) : Type 0 where
  pub is : now ≡ start ++ behind

pub first : {now : List ℕ} (start piece : List ℕ) → now ≡ start ++ piece → Grown start now piece
first start piece put = record { is = put }

-- a piece more
pub then : {start was now behind : List ℕ} (piece : List ℕ) → Grown start was behind → now ≡ was ++ piece
    → Grown start now (behind ++ piece)
then {start} {was} {now} {behind} piece so_far put = record { is = more start behind was now piece so_far.is put }

-- the last piece, where it is put there
pub last : {T E : Type 0} {start was now behind : List ℕ} (r : Result T E) (piece : List ℕ) → Grown start was behind
    → now ≡ cond (is_ok r) (was ++ piece) was → OnOk r (now ≡ start ++ (behind ++ piece))
last {T} {E} {start} {was} {now} {behind} r piece so_far put = at_last r was now piece (start ++ (behind ++ piece)) put
    (ap (λ (l : List ℕ). l ++ piece) so_far.is ∙ append_assoc start behind piece)

-- a piece more of a list of pieces, and what stands before it
pub joined : (start pieces was between now comma piece whole : List ℕ) → was ≡ start ++ pieces → between ≡ was ++ comma
    → now ≡ between ++ piece → whole ≡ pieces ++ (comma ++ piece) → now ≡ start ++ whole
joined start pieces was between now comma piece whole so_far first_put then_put is =
    more start (pieces ++ comma) between now piece (more start pieces was between comma so_far first_put) then_put
    ∙ ap (λ (l : List ℕ). start ++ l) (append_assoc pieces comma piece ∙ sym is)

between_quotes : (start content : List ℕ)
    → start ++ codes "\"" ++ content ++ codes "\"" ≡ start ++ (34 ∷ (content ++ 34 ∷ []))
between_quotes start content = simp append_assoc

-- a string of bytes that need no escape
pub quoted_plain : (start first second content : List ℕ) → escape content ≡ content → first ≡ start ++ codes "\""
    → second ≡ first ++ content → second ++ codes "\"" ≡ start ++ quoted content
quoted_plain start first second content plain opened filled =
    ap (λ (l : List ℕ). l ++ codes "\"") (filled ∙ ap (λ (l : List ℕ). l ++ content) opened)
    ∙ between_quotes start content
    ∙ ap (λ (l : List ℕ). start ++ (34 ∷ (l ++ 34 ∷ []))) (sym plain)

-- what a writer of tokens makes of one string
pub print_string : (s : List ℕ) → print (string s ∷ []) ≡ quoted s
unfolding print_from
print_string s = append-nil (quoted s)

-- a block of bytes more is put as digits
pub digits_more : (start bytes was now room block : List ℕ) (done count : ℕ)
    → was ≡ start ++ encode_lower (take done bytes) → now ≡ was ++ room → room ≡ encode_lower block
    → block ≡ take count (drop done bytes) → now ≡ start ++ encode_lower (take (done + count) bytes)
digits_more start bytes was now room block done count so_far put spelled is =
    more start (encode_lower (take done bytes)) was now room so_far put
    ∙ ap (λ (l : List ℕ). start ++ (encode_lower (take done bytes) ++ l)) (spelled ∙ ap encode_lower is)
    ∙ ap (λ (l : List ℕ). start ++ l)
    (sym (encode_with-append lower_digits (take done bytes) (take count (drop done bytes))))
    ∙ ap (λ (l : List ℕ). start ++ encode_lower l) (sym (take-add done count bytes))
