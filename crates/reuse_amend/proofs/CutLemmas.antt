-- Pieces that are put together and cut again.
use Rattle.std.proofs.Common.{◌≡◌, ◌≢◌, ℕ, zero, suc, ◌+◌, ◌-◌, ◌<◌, ◌≤◌, nat_eq, Bool, true, false, cond, List, []}
use Rattle.std.proofs.Common.{◌∷◌, ◌++◌, length, length-append, take, drop, refl, sym, ap, subst, ◌∙◌, arith, inl, inr}
use Rattle.std.specs.Prelude.{◌==◌, ◌&&◌, not, codes}
use Rattle.std.specs.List.{starts_with}
use Rattle.std.proofs.Math.Seq.{take-append_seam, drop-append_seam}
use Rattle.std.proofs.lemmas.Bool.{eqb-true, eqb-false, cases_Bool as truth}
use Rattle.std.proofs.lemmas.List.{take-append-le, take-append-drop, length-take-le, drop_all}
use Rattle.std.proofs.lemmas.List.Folds.{prefix_len-append}
use Rattle.std.proofs.lemmas.List.Sums.{prefix_len-le-length}
use Rattle.std.proofs.lemmas.Grind.{flat_map-append}
use Rattle.reuse_notice.specs.declared.expressions.Token.{Token}
use Rattle.reuse_notice.specs.declared.expressions.Token.TheVariants.{Open, Close, Identifier, Stray}
use Rattle.reuse_notice.specs.Expressions.{is_word_byte, word_len, has_plus, word_token, token_at, token_len}
use Rattle.reuse_amend.specs.Pieces.{pieces_from, pieces_of}
use Rattle.reuse_amend.proofs.PieceLemmas.{pieces-nil, pieces-first, token-some}
use Rattle.reuse_amend.proofs.UnnamedLemmas.{together, pieces_from-join, pieces-join}

-- ---- where a token ends

-- bytes that don't go on with a word
abbrev pub is_plain : List ℕ → Bool
is_plain [] = true
is_plain (b ∷ bytes) = not (is_word_byte b) && not (43 == b)

not_both : (a b : Bool) → (not a && not b) ≡ true → (a ≡ false) × (b ≡ false)
not_both false false e = (refl, refl)
not_both false true e = absurd (cc e)
not_both true b e = absurd (cc e)

plain_word : (y : List ℕ) → is_plain y ≡ true → word_len y ≡ 0
plain_word [] e = refl
plain_word (b ∷ y) e = ap (λ t. cond t (1 + word_len y) 0) (not_both (is_word_byte b) (43 == b) e).0

plain_plus : (y : List ℕ) → is_plain y ≡ true → starts_with nat_eq y (codes "+") ≡ false
plain_plus [] e = refl
plain_plus (b ∷ y) e = ap (λ t. t && true) (not_both (is_word_byte b) (43 == b) e).1

both_not : (a b : Bool) → a ≡ false → b ≡ false → (not a && not b) ≡ true
both_not a b e f = ap (λ t. not t && not b) e ∙ ap not f

plain_from : (y : List ℕ) → word_len y ≡ 0 → starts_with nat_eq y (codes "+") ≡ false → is_plain y ≡ true
plain_from [] e f = refl
plain_from (b ∷ y) e f = both_not (is_word_byte b) (43 == b) (by (is_word_byte b) e) (other (43 == b) f)
  where
    by : (t : Bool) → cond t (1 + word_len y) 0 ≡ 0 → t ≡ false
    by false e = refl
    by true e = absurd (omega (arith, e))

    other : (t : Bool) → (t && true) ≡ false → t ≡ false
    other false e = refl
    other true e = absurd (cc e)

-- if a text is a word, the bytes behind it don't go on with it
abbrev pub EndsBefore : List ℕ → List ℕ → Type 0
EndsBefore x y = word_len x ≡ length x → is_plain y ≡ true

word_same : (x y : List ℕ) → EndsBefore x y → word_len (x ++ y) ≡ word_len x
word_same x y h = prefix_len-append is_word_byte x y ∙ by (word_len x == length x) refl
  where
    by : (t : Bool) → (word_len x == length x) ≡ t → cond t (length x + word_len y) (word_len x) ≡ word_len x
    by true e = let is : word_len x ≡ length x = eqb-true (word_len x) (length x) e in let none = plain_word y (h is) in
        omega (arith, is, none)
    by false e = refl

behind : (x y : List ℕ) (n : ℕ) → n ≤ length x → (n ≡ length x → is_plain y ≡ true)
    → starts_with nat_eq (drop n (x ++ y)) (codes "+") ≡ starts_with nat_eq (drop n x) (codes "+")
behind [] y zero low h = plain_plus y (h refl)
behind [] y (suc n) low h = absurd (omega arith)
behind (b ∷ x) y zero low h = refl
behind (b ∷ x) y (suc n) low h = behind x y n (omega arith) (λ e. h (ap suc e))

plus_same : (x y : List ℕ) → EndsBefore x y → has_plus (x ++ y) ≡ has_plus x
plus_same x y h =
    ap (λ n. starts_with nat_eq (drop n (x ++ y)) (codes "+")) (word_same x y h)
    ∙ behind x y (word_len x) (prefix_len-le-length is_word_byte x) h

len_same : (x y : List ℕ) → EndsBefore x y → token_len (x ++ y) ≡ token_len x
len_same x y h =
    ap (λ (n : ℕ). cond (n == 0) 1 (cond (has_plus (x ++ y)) (n + 1) n)) (word_same x y h)
    ∙ ap (λ p. cond (word_len x == 0) 1 (cond p (word_len x + 1) (word_len x))) (plus_same x y h)

abbrev chosen : Bool → Bool → ℕ → Bool → List ℕ → Token
chosen opens closes n plus word =
    cond opens Open (cond closes Close (cond (n == 0) Stray (cond plus (Identifier true) (word_token word))))

token_same : (x y : List ℕ) → 0 < length x → EndsBefore x y → token_at (x ++ y) ≡ token_at x
token_same [] y some h = absurd (omega arith)
token_same (b ∷ x) y some h =
    let o : Bool = starts_with nat_eq (b ∷ x) (codes "(") in
    let c : Bool = starts_with nat_eq (b ∷ x) (codes ")") in
    ap (λ (n : ℕ). chosen o c n (has_plus (b ∷ x ++ y)) (take n (b ∷ x ++ y))) (word_same (b ∷ x) y h)
    ∙ ap (λ p. chosen o c (word_len (b ∷ x)) p (take (word_len (b ∷ x)) (b ∷ x ++ y))) (plus_same (b ∷ x) y h)
    ∙ ap (λ w. chosen o c (word_len (b ∷ x)) (has_plus (b ∷ x)) w)
    (take-append-le (word_len (b ∷ x)) (b ∷ x) y (prefix_len-le-length is_word_byte (b ∷ x)))

-- ---- pieces

-- bytes that are one token
pub record IsPiece (p : List ℕ × Token) : Type 0 where
  pub some : 0 < length p.0
  pub whole : token_len p.0 ≡ length p.0
  pub is : token_at p.0 ≡ p.1

pub front_piece : (p : List ℕ × Token) (rest : List ℕ) → IsPiece p → EndsBefore p.0 rest
    → pieces_of (p.0 ++ rest) ≡ p ∷ pieces_of rest
front_piece p rest piece ends =
    let size = length-append p.0 rest in
    let some = piece.some in
    pieces-first (p.0 ++ rest) (length p.0) (omega (arith, size, some)) some
    (sym (len_same p.0 rest ends ∙ piece.whole))
    ∙ ap (λ t. (t, token_at (p.0 ++ rest)) ∷ pieces_of (drop (length p.0) (p.0 ++ rest))) (take-append_seam p.0 rest)
    ∙ ap (λ t. (p.0, t) ∷ pieces_of (drop (length p.0) (p.0 ++ rest))) (token_same p.0 rest some ends ∙ piece.is)
    ∙ ap (λ t. p ∷ pieces_of t) (drop-append_seam p.0 rest)

-- pieces that are cut so again where they are put together
abbrev pub WellCut : List (List ℕ × Token) → Type 0
WellCut [] = Unit {0}
WellCut (p ∷ ps) = IsPiece p × EndsBefore p.0 (together ps) × WellCut ps

pub cut_again : (ps : List (List ℕ × Token)) → WellCut ps → pieces_of (together ps) ≡ ps
cut_again [] h = pieces-nil
cut_again (p ∷ ps) h = front_piece p (together ps) h.0 h.1 ∙ ap (λ qs. p ∷ qs) (cut_again ps h.2)

-- the first piece of a text
module _ (bytes : List ℕ) (some : 0 < length bytes) where
  fits : token_len bytes ≤ length bytes
  fits = by (word_len bytes == 0) (has_plus bytes) refl
    where
      by : (empty plus : Bool) → has_plus bytes ≡ plus
          → cond empty 1 (cond plus (word_len bytes + 1) (word_len bytes)) ≤ length bytes
      by true plus e = omega (arith, some)
      by false false e = prefix_len-le-length is_word_byte bytes
      by false true e = elim (truth (word_len bytes == length bytes)) [
        | inl is ↦ absurd (let f : true ≡ false = sym e
            ∙ ap (λ xs. starts_with nat_eq xs (codes "+")) (drop_all (word_len bytes) bytes
            (let same = eqb-true (word_len bytes) (length bytes) is in omega (arith, same))) in cc f)
        | inr other ↦ (let low = prefix_len-le-length is_word_byte bytes in let ne : word_len bytes
            ≢ length bytes = eqb-false (word_len bytes) (length bytes) other in omega (arith, low, ne))
      ]

  ends : EndsBefore (take (token_len bytes) bytes) (drop (token_len bytes) bytes)
  ends e =
      let x = take (token_len bytes) bytes in
      let y = drop (token_len bytes) bytes in
      let size : length x ≡ token_len bytes = length-take-le (token_len bytes) bytes fits in
      let whole : word_len bytes ≡ length x + word_len y =
      ap word_len (sym (take-append-drop (token_len bytes) bytes)) ∙ prefix_len-append is_word_byte x y
      ∙ ap (λ t. cond t (length x + word_len y) (word_len x)) (same_numbers (word_len x) (length x) e) in
      by (word_len bytes == 0) (has_plus bytes) refl refl size whole
    where
      same_numbers : (a b : ℕ) → a ≡ b → (a == b) ≡ true
      same_numbers a b e = grind arith

      by : (empty plus : Bool) → (word_len bytes == 0) ≡ empty → has_plus bytes ≡ plus
          → length (take (token_len bytes) bytes) ≡ cond empty 1 (cond plus (word_len bytes + 1) (word_len bytes))
          → word_len bytes ≡ length (take (token_len bytes) bytes) + word_len (drop (token_len bytes) bytes)
          → is_plain (drop (token_len bytes) bytes) ≡ true
      by true plus z e size whole =
          absurd (let none = eqb-true (word_len bytes) 0 z in omega (arith, size, whole, none))
      by false true z e size whole = absurd (omega (arith, size, whole))
      by false false z e size whole =
          let len : token_len bytes ≡ word_len bytes =
          ap (λ t. cond t 1 (cond (has_plus bytes) (word_len bytes + 1) (word_len bytes))) z
          ∙ ap (λ t. cond t (word_len bytes + 1) (word_len bytes)) e in
          plain_from (drop (token_len bytes) bytes) (omega (arith, size, whole))
          (ap (λ k. starts_with nat_eq (drop k bytes) (codes "+")) len ∙ e)

  pub first_piece : IsPiece (take (token_len bytes) bytes, token_at bytes)
  first_piece =
      let x = take (token_len bytes) bytes in
      let y = drop (token_len bytes) bytes in
      let size : length x ≡ token_len bytes = length-take-le (token_len bytes) bytes fits in
      let low : 0 < length x = (let s = token-some bytes in omega (arith, size, s)) in
      let joined = take-append-drop (token_len bytes) bytes in
      record {
        some = low;
        whole = sym (len_same x y ends) ∙ ap token_len joined ∙ sym size;
        is = sym (token_same x y low ends) ∙ ap token_at joined;
      }

  pub first_ends : EndsBefore (take (token_len bytes) bytes) (drop (token_len bytes) bytes)
  first_ends = ends

cut_from : (skip : ℕ) (bytes : List ℕ) → WellCut (pieces_from skip bytes)
unfolding pieces_from
cut_from skip [] = tt
cut_from (suc skip) (b ∷ bytes) = cut_from skip bytes
cut_from zero (b ∷ bytes) =
    let some : 0 < length (b ∷ bytes) = omega arith in (
      first_piece (b ∷ bytes) some,
      subst (EndsBefore (take (token_len (b ∷ bytes)) (b ∷ bytes))) (by (token_len (b ∷ bytes)) (token-some (b ∷ bytes))
          ∙ sym (pieces_from-join (token_len (b ∷ bytes) - 1) bytes)) (first_ends (b ∷ bytes) some),
      cut_from (token_len (b ∷ bytes) - 1) bytes,
    )
  where
    by : (k : ℕ) → 0 < k → drop k (b ∷ bytes) ≡ drop (k - 1) bytes
    by zero low = absurd (omega arith)
    by (suc k) low = let less : k ≡ suc k - 1 = omega arith in ap (λ m. drop m bytes) less

-- the pieces of a text are
pub pieces_cut : (text : List ℕ) → WellCut (pieces_of text)
pieces_cut text = cut_from 0 text

-- ---- pieces behind others

pub plain_first : (x y : List ℕ) → 0 < length x → is_plain (x ++ y) ≡ is_plain x
plain_first [] y some = absurd (omega arith)
plain_first (b ∷ x) y some = refl

-- the last piece is a word
abbrev pub EndsInWord : List (List ℕ × Token) → Type 0
EndsInWord [] = ⊥
EndsInWord (p ∷ []) = word_len p.0 ≡ length p.0
EndsInWord (p ∷ q ∷ ps) = EndsInWord (q ∷ ps)

pub together-append : (xs ys : List (List ℕ × Token)) → together (xs ++ ys) ≡ together xs ++ together ys
together-append xs ys = flat_map-append (λ (p : List ℕ × Token). p.0) xs ys

pub cut-append : (xs ys : List (List ℕ × Token)) → WellCut xs → WellCut ys
    → (EndsInWord xs → is_plain (together ys) ≡ true) → WellCut (xs ++ ys)
cut-append [] ys h k f = k
cut-append (p ∷ []) ys h k f = (h.0, f, k)
cut-append (p ∷ q ∷ xs) ys h k f = (
  h.0,
  λ e. plain_first q.0 (together (xs ++ ys)) h.2.0.some ∙ sym (plain_first q.0 (together xs) h.2.0.some) ∙ h.1 e,
  cut-append (q ∷ xs) ys h.2 k f,
)

-- the pieces of two texts, if no word goes on from one to the other
pub pieces-apart : (x y : List ℕ) → (EndsInWord (pieces_of x) → is_plain y ≡ true)
    → pieces_of (x ++ y) ≡ pieces_of x ++ pieces_of y
pieces-apart x y plain =
    ap pieces_of (sym (together-append (pieces_of x) (pieces_of y)
    ∙ ap (λ t. t ++ together (pieces_of y)) (pieces-join x) ∙ ap (λ t. x ++ t) (pieces-join y)))
    ∙ cut_again (pieces_of x ++ pieces_of y)
    (cut-append (pieces_of x) (pieces_of y) (pieces_cut x) (pieces_cut y) (λ e. ap is_plain (pieces-join y) ∙ plain e))

pub pieces-append : (x y : List ℕ) → is_plain y ≡ true → pieces_of (x ++ y) ≡ pieces_of x ++ pieces_of y
pieces-append x y plain = pieces-apart x y (λ e. plain)
