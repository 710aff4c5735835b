-- The words of an expression: its pieces without the spaces.
use Rattle.std.proofs.Common.{◌≡◌, ℕ, zero, suc, ◌+◌, ◌-◌, ◌<◌, Bool, true, false, cond, List, [], ◌∷◌, ◌++◌, length}
use Rattle.std.proofs.Common.{take, map, refl, sym, ap, subst, ◌∙◌, arith, inl, inr}
use Rattle.std.specs.Prelude.{◌==◌, ◌&&◌, not, nat_eq, filter, codes}
use Rattle.std.specs.List.{list_any, starts_with}
use Rattle.std.specs.Str.{bytes_eq}
use Rattle.std.proofs.lemmas.Bool.{eqb-true, and_parts, cases_Bool as truth}
use Rattle.std.proofs.lemmas.List.{append-nil, map-append}
use Rattle.std.proofs.lemmas.List.Elements.{filter-append}
use Rattle.std.proofs.lemmas.Slice.Eq.{bytes_eq-Decides}
use Rattle.reuse_notice.specs.declared.expressions.Token.{Token}
use Rattle.reuse_notice.specs.declared.expressions.Token.TheVariants.{Open, Close, Operator, With, Identifier, Stray}
use Rattle.reuse_notice.specs.Expressions.{token_at, token_len, word_len, has_plus, is_word_byte, word_token}
use Rattle.reuse_notice.specs.Expressions.{tokens_from, tokens_of, kinds_of}
use Rattle.reuse_amend.specs.Pieces.{pieces_from, pieces_of, is_name, is_operator, is_identifier}
use Rattle.reuse_amend.specs.Amending.{operand}
use Rattle.reuse_amend.specs.Meanings.{words_of}
use Rattle.reuse_amend.proofs.PieceLemmas.{pieces-nil, token-some}
use Rattle.reuse_amend.proofs.UnnamedLemmas.{other_text}
use Rattle.reuse_amend.proofs.CutLemmas.{is_plain, IsPiece, front_piece, pieces-append}

abbrev pub Word : Type 0
Word = List ℕ × Token

abbrev pub kinds : List Word → List Token
kinds ws = map (λ (w : Word). w.1) ws

pub kinds-append : (ws vs : List Word) → kinds (ws ++ vs) ≡ kinds ws ++ kinds vs
kinds-append ws vs = map-append (λ (w : Word). w.1) ws vs

-- ---- words

abbrev pub no_space : Word → Bool
no_space p = not (bytes_eq p.0 (codes " "))

abbrev pub without_blanks : List Word → List Word
without_blanks ps = filter no_space ps

-- the tokens of a text are its words
words_kinds : (skip at : ℕ) (bytes : List ℕ)
    → kinds_of (tokens_from skip at bytes) ≡ kinds (without_blanks (pieces_from skip bytes))
unfolding tokens_from pieces_from
words_kinds skip at [] = refl
words_kinds (suc skip) at (b ∷ bytes) = words_kinds skip (at + 1) bytes
words_kinds zero at (b ∷ bytes) = elim (truth (b == 32)) [
  | inl e ↦ (let same : b ≡ 32 = eqb-true b 32 e in subst (λ c. Same c) (sym same) (words_kinds 0 (at + 1) bytes))
  | inr e ↦
      ap (λ t. kinds_of (cond t (tokens_from 0 (at + 1) bytes)
      ((at, token_at (b ∷ bytes)) ∷ tokens_from (token_len (b ∷ bytes) - 1) (at + 1) bytes))) e
      ∙ ap (λ ts. token_at (b ∷ bytes) ∷ ts) (words_kinds (token_len (b ∷ bytes) - 1) (at + 1) bytes)
      ∙ ap (λ t. kinds (cond (not t) (first b ∷ rest b) (rest b)))
      (sym (by (token_len (b ∷ bytes)) (token-some (b ∷ bytes)) e))
]
  where
    first : ℕ → Word
    first c = (take (token_len (c ∷ bytes)) (c ∷ bytes), token_at (c ∷ bytes))

    rest : ℕ → List Word
    rest c = without_blanks (pieces_from (token_len (c ∷ bytes) - 1) bytes)

    Same : ℕ → Type 0
    Same c = kinds_of (tokens_from 0 at (c ∷ bytes)) ≡ kinds (without_blanks (pieces_from 0 (c ∷ bytes)))

    by : (n : ℕ) → 0 < n → (b == 32) ≡ false → bytes_eq (take n (b ∷ bytes)) (codes " ") ≡ false
    by zero low e = absurd (omega arith)
    by (suc n) low e = other_text (b ∷ take n bytes) (codes " ") (λ same. no b e (let f : b ≡ 32 = cc in f))
      where
        no : (c : ℕ) → (c == 32) ≡ false → c ≡ 32 → ⊥
        no c e is = grind (arith, e, is)

pub words_are_tokens : (text : List ℕ) → kinds_of (tokens_of text) ≡ kinds (words_of text)
words_are_tokens text = words_kinds 0 0 text

pub blank_plain : (p : Word) → bytes_eq p.0 (codes " ") ≡ true → IsPiece p → (p.0 ≡ codes " ") × (p.1 ≡ Stray)
blank_plain p e piece = let is : p.0 ≡ codes " " = (bytes_eq-Decides p.0 (codes " ")).0 e in
    (is, sym piece.is ∙ ap token_at is)

-- ---- identifiers

pub name_is : (t : Token) → is_name t ≡ true → (plus : Bool) × (t ≡ Identifier plus)
name_is (Identifier plus) e = (plus, refl)
name_is Open e = absurd (cc e)
name_is Close e = absurd (cc e)
name_is Operator e = absurd (cc e)
name_is With e = absurd (cc e)
name_is Stray e = absurd (cc e)

-- an identifier begins with a byte of a word
pub name_begins : (text : List ℕ) → is_name (token_at text) ≡ true → is_plain text ≡ false
name_begins [] e = absurd (cc e)
name_begins (b ∷ text) e = elim (truth (is_word_byte b)) [
  | inl t ↦ ap (λ c. not c && not (43 == b)) t
  | inr f ↦ absurd (no (starts_with nat_eq (b ∷ text) (codes "(")) (starts_with nat_eq (b ∷ text) (codes ")"))
      (sym (ap (λ c. chosen (starts_with nat_eq (b ∷ text) (codes "(")) (starts_with nat_eq (b ∷ text) (codes ")"))
      (cond c (1 + word_len text) 0)) f) ∙ e))
]
  where
    chosen : Bool → Bool → ℕ → Bool
    chosen o c n = is_name (cond o Open (cond c Close
        (cond (n == 0) Stray (cond (has_plus (b ∷ text)) (Identifier true) (word_token (take n (b ∷ text)))))))

    no : (o c : Bool) → chosen o c 0 ≡ true → ⊥
    no true c e = cc e
    no false true e = cc e
    no false false e = cc e

pub name_some : (text : List ℕ) → is_name (token_at text) ≡ true → 0 < length text
name_some [] e = absurd (cc e)
name_some (b ∷ text) e = omega arith

pub identifier_piece : (text : List ℕ) → is_identifier text ≡ true → IsPiece (text, token_at text)
identifier_piece text e =
    let p = and_parts (is_name (token_at text)) (token_len text == length text) e in
    record { some = name_some text p.0; whole = eqb-true (token_len text) (length text) p.1; is = refl }

pub identifier_pieces : (text : List ℕ) → is_identifier text ≡ true → pieces_of text ≡ (text, token_at text) ∷ []
identifier_pieces text e =
    ap pieces_of (sym (append-nil text)) ∙ front_piece (text, token_at text) [] (identifier_piece text e) (λ w. refl)
    ∙ ap (λ ps. (text, token_at text) ∷ ps) pieces-nil

pub identifier_words : (text : List ℕ) → is_identifier text ≡ true → words_of text ≡ (text, token_at text) ∷ []
identifier_words text e =
    ap without_blanks (identifier_pieces text e)
    ∙ ap (λ t. cond (not t) ((text, token_at text) ∷ []) [])
    (other_text text (codes " ") (λ is. let f : false ≡ true = sym (name_begins text
    (and_parts (is_name (token_at text)) (token_len text == length text) e).0) ∙ ap is_plain is in absurd (cc f)))

-- an identifier is written without parentheses
pub lone : (text : List ℕ) → is_identifier text ≡ true → operand text ≡ text
lone text e =
    let is = name_is (token_at text) (and_parts (is_name (token_at text)) (token_len text == length text) e).0 in
    ap (λ t. cond t (codes "(" ++ text ++ codes ")") text)
    (ap (λ ps. list_any (λ (p : Word). is_operator p.1) ps) (identifier_pieces text e ∙ ap (λ t. (text, t) ∷ []) is.1))

-- ---- parentheses

closing : pieces_of (codes ")") ≡ (codes ")", Close) ∷ []
unfolding pieces_from
closing = refl

pub grouped_pieces : (text : List ℕ)
    → pieces_of (codes "(" ++ text ++ codes ")") ≡ (codes "(", Open) ∷ pieces_of text ++ (codes ")", Close) ∷ []
grouped_pieces text =
    front_piece (codes "(", Open) (text ++ codes ")") (record { some = omega arith; whole = refl; is = refl })
    (λ e. absurd (cc e))
    ∙ ap (λ ps. (codes "(", Open) ∷ ps) (pieces-append text (codes ")") refl ∙ ap (λ ps. pieces_of text ++ ps) closing)

pub grouped : (text : List ℕ)
    → words_of (codes "(" ++ text ++ codes ")") ≡ (codes "(", Open) ∷ words_of text ++ (codes ")", Close) ∷ []
grouped text = ap without_blanks (grouped_pieces text)
    ∙ ap (λ ws. (codes "(", Open) ∷ ws) (filter-append no_space (pieces_of text) ((codes ")", Close) ∷ []))
