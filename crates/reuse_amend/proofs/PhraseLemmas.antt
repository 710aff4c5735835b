-- Each expression is a phrase of the grammar in which AND binds before OR.
use Rattle.std.proofs.Common.{◌≡◌, ℕ, nat_eq, Bool, true, false, cond, List, [], ◌∷◌, ◌++◌, length, take}
use Rattle.std.proofs.Common.{None, refl, sym, ap, subst, ◌∙◌, arith, append_assoc, inl, inr, ◌⊎◌}
use Rattle.std.specs.Prelude.{◌==◌, ◌&&◌, ◌||◌, codes}
use Rattle.std.specs.List.{AllByRecursion, list_any, starts_with}
use Rattle.std.specs.Str.{bytes_eq}
use Rattle.std.proofs.lemmas.Bool.{eqb-true, cases_Bool as truth}
use Rattle.std.proofs.lemmas.Slice.Eq.{bytes_eq-Decides}
use Rattle.reuse_notice.specs.declared.expressions.Token.{Token}
use Rattle.reuse_notice.specs.declared.expressions.Token.TheVariants.{Open, Close, Operator, With, Identifier, Stray}
use Rattle.reuse_notice.specs.Expressions.{Expression, licence as a_licence, licence_with, group as a_group, joined}
use Rattle.reuse_notice.specs.Expressions.{spelling, word_len, has_plus, word_token, token_at, token_len}
use Rattle.reuse_notice.specs.ExpressionSteps.{fault_of}
use Rattle.reuse_amend.specs.Pieces.{pieces_of, is_operator}
use Rattle.reuse_amend.specs.Meanings.{Meaning, Rank, Conjunction, Whole, Phrase, name, name_with, group}
use Rattle.reuse_amend.specs.Meanings.{operand, joined_by_and, conjunction, joined_by_or, written, meant, words_of}
use Rattle.reuse_amend.specs.Meanings.{Means}
use Rattle.reuse_notice.proofs.PlaceLemmas.{none_exactly}
use Rattle.reuse_amend.proofs.CutLemmas.{IsPiece, WellCut, pieces_cut}
use Rattle.reuse_amend.proofs.WordLemmas.{Word, kinds, no_space, without_blanks, words_are_tokens}
use Rattle.reuse_amend.proofs.FusedLemmas.{op_word}

-- ---- each expression is a phrase

-- a token's bytes are those that its kind asks for
abbrev IsFaithful : Word → Type 0
IsFaithful (text, Open) = text ≡ codes "("
IsFaithful (text, Close) = text ≡ codes ")"
IsFaithful (text, Operator) = (capitals : Bool)
    × ((text ≡ cond capitals (codes "AND") (codes "and")) ⊎ (text ≡ cond capitals (codes "OR") (codes "or")))
IsFaithful (text, With) = (capitals : Bool) × (text ≡ cond capitals (codes "WITH") (codes "with"))
IsFaithful (text, Identifier plus) = Unit {0}
IsFaithful (text, Stray) = Unit {0}

abbrev AreFaithful : List Word → Type 0
AreFaithful ws = AllByRecursion IsFaithful ws

abbrev WrittenAs : (rank : Rank) → List Word → Type 0
WrittenAs rank ws = (p : Phrase rank) × (written p ≡ ws)

-- phrases joined by AND
and_conjunctions : (left : Phrase Conjunction) (capitals : Bool) (right : Phrase Conjunction)
    → WrittenAs Conjunction (written left ++ (cond capitals (codes "AND") (codes "and"), Operator) ∷ written right)
and_conjunctions left capitals (operand inner) = (joined_by_and left capitals inner, refl)
and_conjunctions left capitals (joined_by_and first more second) =
    let k = and_conjunctions left capitals first in (
      joined_by_and k.0 more second,
      ap (λ ws. ws ++ (cond more (codes "AND") (codes "and"), Operator) ∷ written second) k.1
          ∙ append_assoc (written left) ((cond capitals (codes "AND") (codes "and"), Operator) ∷ written first)
          ((cond more (codes "AND") (codes "and"), Operator) ∷ written second),
    )

and_behind : (left : Phrase Whole) (capitals : Bool) (right : Phrase Conjunction)
    → WrittenAs Whole (written left ++ (cond capitals (codes "AND") (codes "and"), Operator) ∷ written right)
and_behind (conjunction inner) capitals right = let k = and_conjunctions inner capitals right in (conjunction k.0, k.1)
and_behind (joined_by_or first more second) capitals right =
    let k = and_conjunctions second capitals right in (
      joined_by_or first more k.0,
      ap (λ ws. written first ++ (cond more (codes "OR") (codes "or"), Operator) ∷ ws) k.1
          ∙ sym (append_assoc (written first) ((cond more (codes "OR") (codes "or"), Operator) ∷ written second)
          ((cond capitals (codes "AND") (codes "and"), Operator) ∷ written right)),
    )

-- two expressions joined by a word
joined_phrases : (text : List ℕ) → ((left : Phrase Whole) (right : Phrase Conjunction)
    → WrittenAs Whole (written left ++ (text, Operator) ∷ written right))
    → (left right : Phrase Whole) → WrittenAs Whole (written left ++ (text, Operator) ∷ written right)
joined_phrases text join left (conjunction inner) = join left inner
joined_phrases text join left (joined_by_or first more second) =
    let k = joined_phrases text join left first in (
      joined_by_or k.0 more second,
      ap (λ ws. ws ++ (cond more (codes "OR") (codes "or"), Operator) ∷ written second) k.1
          ∙ append_assoc (written left) ((text, Operator) ∷ written first)
          ((cond more (codes "OR") (codes "or"), Operator) ∷ written second),
    )

join_by : (text : List ℕ) → IsFaithful (text, Operator) → (left right : Phrase Whole)
    → WrittenAs Whole (written left ++ (text, Operator) ∷ written right)
join_by text (capitals, inl is) left right =
    subst (λ t. WrittenAs Whole (written left ++ (t, Operator) ∷ written right)) (sym is)
    (joined_phrases (cond capitals (codes "AND") (codes "and")) (λ l r. and_behind l capitals r) left right)
join_by text (capitals, inr is) left right =
    subst (λ t. WrittenAs Whole (written left ++ (t, Operator) ∷ written right)) (sym is)
    (joined_phrases (cond capitals (codes "OR") (codes "or")) (λ l r. (joined_by_or l capitals r, refl)) left right)

-- words whose tokens are two lists, one behind the other
record Parts (ws : List Word) (ts us : List Token) : Type 0 where
  front : List Word
  back : List Word
  whole : ws ≡ front ++ back
  front_kinds : kinds front ≡ ts
  back_kinds : kinds back ≡ us
  front_faithful : AreFaithful front
  back_faithful : AreFaithful back

split : (ws : List Word) (ts us : List Token) → kinds ws ≡ ts ++ us → AreFaithful ws → Parts ws ts us
split ws [] us e h = record {
  front = [];
  back = ws;
  whole = refl;
  front_kinds = refl;
  back_kinds = e;
  front_faithful = tt;
  back_faithful = h;
}
split [] (t ∷ ts) us e h = absurd (cc e)
split (w ∷ ws) (t ∷ ts) us e h =
    let first : w.1 ≡ t = cc e in
    let rest : kinds ws ≡ ts ++ us = cc e in
    let k = split ws ts us rest h.1 in
    record {
      front = w ∷ k.front;
      back = k.back;
      whole = ap (λ vs. w ∷ vs) k.whole;
      front_kinds = ap (λ u. u ∷ kinds k.front) first ∙ ap (λ vs. t ∷ vs) k.front_kinds;
      back_kinds = k.back_kinds;
      front_faithful = (h.0, k.front_faithful);
      back_faithful = k.back_faithful;
    }

-- one word, and those behind it
record Front (ws : List Word) (t : Token) (ts : List Token) : Type 0 where
  text : List ℕ
  rest : List Word
  whole : ws ≡ (text, t) ∷ rest
  rest_kinds : kinds rest ≡ ts
  faithful : IsFaithful (text, t)
  rest_faithful : AreFaithful rest

first : (ws : List Word) (t : Token) (ts : List Token) → kinds ws ≡ t ∷ ts → AreFaithful ws → Front ws t ts
first [] t ts e h = absurd (cc e)
first (w ∷ ws) t ts e h =
    let is : w.1 ≡ t = cc e in
    record {
      text = w.0;
      rest = ws;
      whole = ap (λ u. (w.0, u) ∷ ws) is;
      rest_kinds = (let k : kinds ws ≡ ts = cc e in k);
      faithful = subst (λ u. IsFaithful (w.0, u)) is h.0;
      rest_faithful = h.1;
    }

no_words : (ws : List Word) → kinds ws ≡ [] → ws ≡ []
no_words [] e = refl
no_words (w ∷ ws) e = absurd (cc e)

phrase_of : (e : Expression) (ws : List Word) → kinds ws ≡ spelling e → AreFaithful ws → WrittenAs Whole ws
phrase_of (a_licence plus) ws e h =
    let a = first ws (Identifier plus) [] e h in (
      conjunction (operand (name a.text plus)),
      ap (λ vs. (a.text, Identifier plus) ∷ vs) (sym (no_words a.rest a.rest_kinds)) ∙ sym a.whole,
    )
phrase_of (licence_with plus) ws e h =
    let a = first ws (Identifier plus) (With ∷ Identifier false ∷ []) e h in
    let b = first a.rest With (Identifier false ∷ []) a.rest_kinds a.rest_faithful in
    let c = first b.rest (Identifier false) [] b.rest_kinds b.rest_faithful in (
      conjunction (operand (name_with a.text plus b.faithful.0 c.text)),
      ap (λ t. (a.text, Identifier plus) ∷ (t, With) ∷ (c.text, Identifier false) ∷ []) (sym b.faithful.1)
          ∙ ap (λ vs. (a.text, Identifier plus) ∷ (b.text, With) ∷ vs)
          (ap (λ vs. (c.text, Identifier false) ∷ vs) (sym (no_words c.rest c.rest_kinds)) ∙ sym c.whole)
          ∙ ap (λ vs. (a.text, Identifier plus) ∷ vs) (sym b.whole) ∙ sym a.whole,
    )
phrase_of (a_group inner) ws e h =
    let a = first ws Open (spelling inner ++ Close ∷ []) e h in
    let s = split a.rest (spelling inner) (Close ∷ []) a.rest_kinds a.rest_faithful in
    let b = first s.back Close [] s.back_kinds s.back_faithful in
    let k = phrase_of inner s.front s.front_kinds s.front_faithful in (
      conjunction (operand (group k.0)),
      ap (λ vs. (codes "(", Open) ∷ vs ++ (codes ")", Close) ∷ []) k.1
          ∙ ap (λ t. (t, Open) ∷ s.front ++ (codes ")", Close) ∷ []) (sym a.faithful)
          ∙ ap (λ t. (a.text, Open) ∷ s.front ++ (t, Close) ∷ []) (sym b.faithful)
          ∙ ap (λ vs. (a.text, Open) ∷ s.front ++ vs)
          (ap (λ vs. (b.text, Close) ∷ vs) (sym (no_words b.rest b.rest_kinds)) ∙ sym b.whole)
          ∙ ap (λ vs. (a.text, Open) ∷ vs) (sym s.whole) ∙ sym a.whole,
    )
phrase_of (joined left right) ws e h =
    let s = split ws (spelling left) (Operator ∷ spelling right) e h in
    let b = first s.back Operator (spelling right) s.back_kinds s.back_faithful in
    let l = phrase_of left s.front s.front_kinds s.front_faithful in
    let r = phrase_of right b.rest b.rest_kinds b.rest_faithful in
    let k = join_by b.text b.faithful l.0 r.0 in (
      k.0,
      k.1 ∙ ap (λ vs. vs ++ (b.text, Operator) ∷ written r.0) l.1 ∙ ap (λ vs. s.front ++ (b.text, Operator) ∷ vs) r.1
          ∙ ap (λ vs. s.front ++ vs) (sym b.whole) ∙ sym s.whole,
    )

-- ---- the words of a text

abbrev chosen : Bool → Bool → Bool → Bool → Bool → Bool → Token
chosen opens closes none plus operates excepts =
    cond opens Open (cond closes Close
    (cond none Stray (cond plus (Identifier true) (cond operates Operator (cond excepts With (Identifier false))))))

no_open : (c z plus a w : Bool) → chosen false c z plus a w ≡ Open → ⊥
no_open true z plus a w e = cc e
no_open false true plus a w e = cc e
no_open false false true a w e = cc e
no_open false false false true w e = cc e
no_open false false false false true e = cc e
no_open false false false false false e = cc e

no_close : (o z plus a w : Bool) → chosen o false z plus a w ≡ Close → ⊥
no_close true z plus a w e = cc e
no_close false true plus a w e = cc e
no_close false false true a w e = cc e
no_close false false false true w e = cc e
no_close false false false false true e = cc e
no_close false false false false false e = cc e

one_byte : (b : ℕ) (x : List ℕ) → length (b ∷ x) ≡ 1 → b ∷ x ≡ b ∷ []
one_byte b [] e = refl
one_byte b (c ∷ x) e = absurd (omega (arith, e))

open_is : (x : List ℕ) → token_at x ≡ Open → token_len x ≡ length x → x ≡ codes "("
open_is [] e l = absurd (cc e)
open_is (b ∷ x) e l = elim (truth (40 == b)) [
  | inl t ↦ (let is : 40 ≡ b = eqb-true 40 b t in ap (λ n. n ∷ x) (sym is)
      ∙ one_byte 40 x (sym (ap (λ n. token_len (n ∷ x)) is ∙ l ∙ ap (λ n. length (n ∷ x)) (sym is))))
  | inr f ↦ absurd (no_open (starts_with nat_eq (b ∷ x) (codes ")")) (word_len (b ∷ x) == 0) (has_plus (b ∷ x))
      (list_any (bytes_eq (take (word_len (b ∷ x)) (b ∷ x))) (codes "AND" ∷ codes "OR" ∷ codes "and" ∷ codes "or" ∷ []))
      (list_any (bytes_eq (take (word_len (b ∷ x)) (b ∷ x))) (codes "WITH" ∷ codes "with" ∷ []))
      (sym (ap (λ t. cond (t && true) Open (cond (starts_with nat_eq (b ∷ x) (codes ")")) Close (cond (word_len (b ∷ x)
      == 0) Stray (cond (has_plus (b ∷ x)) (Identifier true) (word_token (take (word_len (b ∷ x)) (b ∷ x))))))) f) ∙ e))
]

close_is : (x : List ℕ) → token_at x ≡ Close → token_len x ≡ length x → x ≡ codes ")"
close_is [] e l = absurd (cc e)
close_is (b ∷ x) e l = elim (truth (41 == b)) [
  | inl t ↦ (let is : 41 ≡ b = eqb-true 41 b t in ap (λ n. n ∷ x) (sym is)
      ∙ one_byte 41 x (sym (ap (λ n. token_len (n ∷ x)) is ∙ l ∙ ap (λ n. length (n ∷ x)) (sym is))))
  | inr f ↦ absurd (no_close (starts_with nat_eq (b ∷ x) (codes "(")) (word_len (b ∷ x) == 0) (has_plus (b ∷ x))
      (list_any (bytes_eq (take (word_len (b ∷ x)) (b ∷ x))) (codes "AND" ∷ codes "OR" ∷ codes "and" ∷ codes "or" ∷ []))
      (list_any (bytes_eq (take (word_len (b ∷ x)) (b ∷ x))) (codes "WITH" ∷ codes "with" ∷ []))
      (sym (ap (λ t. cond (starts_with nat_eq (b ∷ x) (codes "(")) Open (cond (t && true) Close (cond (word_len (b ∷ x)
      == 0) Stray (cond (has_plus (b ∷ x)) (Identifier true) (word_token (take (word_len (b ∷ x)) (b ∷ x))))))) f) ∙ e))
]

abbrev name_word : Bool → Bool → Bool → Bool → Bool → Bool → Token
name_word a b c d e f =
    cond (a || (b || (c || (d || false)))) Operator (cond (e || (f || false)) With (Identifier false))

module _ (x : List ℕ) where
  is_word : (word : List ℕ) → bytes_eq x word ≡ true → x ≡ word
  is_word word e = (bytes_eq-Decides x word).0 e

  operator_is : word_token x ≡ Operator → IsFaithful (x, Operator)
  operator_is e =
      by (bytes_eq x (codes "AND")) (bytes_eq x (codes "OR")) (bytes_eq x (codes "and")) (bytes_eq x (codes "or"))
      (bytes_eq x (codes "WITH")) (bytes_eq x (codes "with")) refl refl refl refl e
    where
      by : (a b c d f g : Bool) → bytes_eq x (codes "AND") ≡ a → bytes_eq x (codes "OR") ≡ b → bytes_eq x
          (codes "and") ≡ c → bytes_eq x (codes "or") ≡ d → name_word a b c d f g ≡ Operator → IsFaithful (x, Operator)
      by true b c d f g ea eb ec ed e' = (true, inl (is_word (codes "AND") ea))
      by false true c d f g ea eb ec ed e' = (true, inr (is_word (codes "OR") eb))
      by false false true d f g ea eb ec ed e' = (false, inl (is_word (codes "and") ec))
      by false false false true f g ea eb ec ed e' = (false, inr (is_word (codes "or") ed))
      by false false false false true g ea eb ec ed e' = absurd (cc e')
      by false false false false false true ea eb ec ed e' = absurd (cc e')
      by false false false false false false ea eb ec ed e' = absurd (cc e')

  with_is : word_token x ≡ With → IsFaithful (x, With)
  with_is e = by (list_any (bytes_eq x) (codes "AND" ∷ codes "OR" ∷ codes "and" ∷ codes "or" ∷ []))
      (bytes_eq x (codes "WITH")) (bytes_eq x (codes "with")) refl refl e
    where
      by : (o f g : Bool) → bytes_eq x (codes "WITH") ≡ f → bytes_eq x (codes "with") ≡ g
          → cond o Operator (cond (f || (g || false)) With (Identifier false)) ≡ With → IsFaithful (x, With)
      by true f g ef eg e' = absurd (cc e')
      by false true g ef eg e' = (true, is_word (codes "WITH") ef)
      by false false true ef eg e' = (false, is_word (codes "with") eg)
      by false false false ef eg e' = absurd (cc e')

faithful : (p : Word) → IsPiece p → (t : Token) → p.1 ≡ t → IsFaithful (p.0, t)
faithful p piece Open e = open_is p.0 (piece.is ∙ e) piece.whole
faithful p piece Close e = close_is p.0 (piece.is ∙ e) piece.whole
faithful p piece Operator e = operator_is p.0 ((op_word p piece (ap is_operator e)).1 ∙ e)
faithful p piece With e = with_is p.0 ((op_word p piece (ap is_operator e)).1 ∙ e)
faithful p piece (Identifier plus) e = tt
faithful p piece Stray e = tt

words_faithful : (ps : List Word) → WellCut ps → AreFaithful (without_blanks ps)
words_faithful [] cut = tt
words_faithful (p ∷ ps) cut = by (words_faithful ps cut.2) (no_space p)
  where
    by : AreFaithful (without_blanks ps) → (t : Bool) → AreFaithful (cond t (p ∷ without_blanks ps) (without_blanks ps))
    by rest true = (faithful p cut.0 p.1 refl, rest)
    by rest false = rest

-- an expression has a meaning
pub some_meaning : (text : List ℕ) → fault_of text ≡ None → (m : Meaning) × Means text m
some_meaning text none =
    let e = (none_exactly text).0 none in
    let p = phrase_of e.0 (words_of text) (sym (e.1 ∙ words_are_tokens text))
    (words_faithful (pieces_of text) (pieces_cut text)) in
    (meant p.0, record { phrase = p.0; is_written = p.1; is_meant = refl })
