-- A licence expression has no control character.
use Rattle.std.proofs.Common.{◌≡◌, ℕ, zero, suc, ◌+◌, ◌-◌, ◌<◌, Bool, true, false, cond, List, [], ◌∷◌, length, take}
use Rattle.std.proofs.Common.{drop, Bor, Option, Some, None, refl, sym, ap, ◌∙◌, arith, inl, inr, nat_eq}
use Rattle.std.specs.Prelude.{All, not, nat_lt, ◌||◌, ◌&&◌, ◌==◌, codes}
use Rattle.std.specs.Option.{option_map, option_map_or, option_or}
use Rattle.std.specs.List.{list_any, starts_with}
use Rattle.std.proofs.lemmas.Bool.{eqb-true}
use Rattle.std.proofs.lemmas.Bool.Decides.{nat_tests}
use Rattle.std.proofs.lemmas.List.Elements.{All-nil, All-cons}
use Rattle.reuse_notice.specs.declared.expressions.Token.{Token}
use Rattle.reuse_notice.specs.declared.expressions.Token.TheVariants.{Open, Close, Identifier, Stray}
use Rattle.reuse_notice.specs.Texts.{texts_of}
use Rattle.reuse_notice.specs.Adding.{Refusal, bad_expression, bad_licence, is_control, without_spaces}
use Rattle.reuse_notice.specs.Expressions.{is_word_byte, word_len, has_plus, word_token, token_at, token_len}
use Rattle.reuse_notice.specs.Expressions.{tokens_from}
use Rattle.reuse_notice.specs.ExpressionSteps.{State, Operand, Licence, Exception, Closed, step_at, step_of, fault_from}
use Rattle.reuse_notice.specs.ExpressionSteps.{fault_of, start}
use Rattle.reuse_notice.specs.Plain.{IsPlain}
use Rattle.std.proofs.lemmas.Bool.{cases_Bool as truth}
use Rattle.reuse_notice.proofs.PlainLemmas.{trimmed-twice, or-none, or-parts}

no-stray : (s : State) → step_of s Stray ≡ None
no-stray s = by s.depth s.phase
  where
    by : (depth : ℕ) (phase : _) → step_at depth phase Stray ≡ None
    by zero Operand = refl
    by zero Licence = refl
    by zero Exception = refl
    by zero Closed = refl
    by (suc depth) Operand = refl
    by (suc depth) Licence = refl
    by (suc depth) Exception = refl
    by (suc depth) Closed = refl

printable-word : (b : ℕ) → is_word_byte b ≡ true → is_control b ≡ false
printable-word b e = grind (arith, nat_tests)

-- a test that no byte of a word passes, nor a space, a parenthesis or a +
module _ (bad : ℕ → Bool) (word : (b : ℕ) → is_word_byte b ≡ true → bad b ≡ false) (space : bad 32 ≡ false)
    (opening : bad 40 ≡ false) (closing : bad 41 ≡ false) (plus : bad 43 ≡ false) where
  -- the bytes of a word
  word-bytes : (bytes : List ℕ) → list_any bad (take (word_len bytes) bytes) ≡ false
  word-bytes [] = refl
  word-bytes (b ∷ bytes) = elim (truth (is_word_byte b)) [
    | inl e ↦ ap (λ t. list_any bad (take (cond t (1 + word_len bytes) 0) (b ∷ bytes))) e
        ∙ ap (λ k. list_any bad (take k (b ∷ bytes))) (next (word_len bytes))
        ∙ or-none _ _ (word b e) (word-bytes bytes)
    | inr e ↦ ap (λ t. list_any bad (take (cond t (1 + word_len bytes) 0) (b ∷ bytes))) e
  ]
    where
      next : (n : ℕ) → 1 + n ≡ suc n
      next n = omega arith

  is_byte : (b n : ℕ) → bad n ≡ false → (n == b) ≡ true → bad b ≡ false
  is_byte b n plain e = ap bad (sym (eqb-true n b e)) ∙ plain

  first-is : (b n : ℕ) (bytes : List ℕ) → starts_with nat_eq (b ∷ bytes) (n ∷ []) ≡ true → (n == b) ≡ true
  first-is b n bytes e = elim (truth (n == b)) [
    | inl t ↦ t
    | inr f ↦ (let g : false ≡ true = sym (ap (λ t. t && true) f) ∙ e in absurd (cc g))
  ]

  -- the bytes of a word and of the + behind it
  plus-bytes : (n : ℕ) (bytes : List ℕ) → list_any bad (take n bytes) ≡ false
      → starts_with nat_eq (drop n bytes) (codes "+") ≡ true → list_any bad (take (n + 1) bytes) ≡ false
  plus-bytes zero [] f e = refl
  plus-bytes zero (b ∷ bytes) f e = or-none _ _ (is_byte b 43 plus (first-is b 43 bytes e)) refl
  plus-bytes (suc n) [] f e = ap (λ k. list_any bad (take k [])) (let s : suc n + 1 ≡ suc (n + 1) = omega arith in s)
  plus-bytes (suc n) (b ∷ bytes) f e =
      let p = or-parts (bad b) (list_any bad (take n bytes)) f in
      ap (λ k. list_any bad (take k (b ∷ bytes))) (let s : suc n + 1 ≡ suc (n + 1) = omega arith in s)
      ∙ or-none _ _ p.0 (plus-bytes n bytes p.1 e)

  -- where no token begins
  abbrev chosen : Bool → Bool → Bool → List ℕ → Token
  chosen opens closes none bytes = cond opens Open (cond closes Close
      (cond none Stray (cond (has_plus bytes) (Identifier true) (word_token (take (word_len bytes) bytes)))))

  stray : (bytes : List ℕ) (s next : State) → step_of s (token_at bytes) ≡ Some next → (word_len bytes == 0) ≡ true
      → starts_with nat_eq bytes (codes "(") ≡ false → starts_with nat_eq bytes (codes ")") ≡ false → ⊥
  stray bytes s next steps z o c =
      let is : token_at bytes ≡ Stray =
      ap (λ t. chosen t (starts_with nat_eq bytes (codes ")")) (word_len bytes == 0) bytes) o
      ∙ ap (λ t. chosen false t (word_len bytes == 0) bytes) c ∙ ap (λ t. chosen false false t bytes) z in
      let e : None ≡ Some next = sym (no-stray s) ∙ ap (step_of s) (sym is) ∙ steps in cc

  -- the bytes of a token that can stand somewhere
  token-bytes : (b : ℕ) (bytes : List ℕ) (s next : State) → step_of s (token_at (b ∷ bytes)) ≡ Some next
      → list_any bad (take (token_len (b ∷ bytes)) (b ∷ bytes)) ≡ false
  token-bytes b bytes s next steps =
      let xs : List ℕ = b ∷ bytes in
      elim (truth (word_len xs == 0)) [
        | inl z ↦
            ap (λ t. list_any bad (take (cond t 1 (cond (has_plus xs) (word_len xs + 1) (word_len xs))) xs)) z
            ∙ or-none (bad b) false
            (elim (truth (starts_with nat_eq xs (codes "("))) [
              | inl o ↦ is_byte b 40 opening (first-is b 40 bytes o)
              | inr o ↦ elim (truth (starts_with nat_eq xs (codes ")"))) [
                | inl c ↦ is_byte b 41 closing (first-is b 41 bytes c)
                | inr c ↦ absurd (stray xs s next steps z o c)
              ]
            ]) refl
        | inr w ↦
            ap (λ t. list_any bad (take (cond t 1 (cond (has_plus xs) (word_len xs + 1) (word_len xs))) xs)) w
            ∙ elim (truth (has_plus xs)) [
              | inl p ↦ ap (λ t. list_any bad (take (cond t (word_len xs + 1) (word_len xs)) xs)) p
                  ∙ plus-bytes (word_len xs) xs (word-bytes xs) p
              | inr p ↦ ap (λ t. list_any bad (take (cond t (word_len xs + 1) (word_len xs)) xs)) p ∙ word-bytes xs
            ]
      ]

  -- a token has a byte
  token-some : (none plus : Bool) (n : ℕ) → (n == 0) ≡ none → 0 < cond none 1 (cond plus (n + 1) n)
  token-some true plus n e = omega arith
  token-some false true n e = omega arith
  token-some false false zero e = absurd (cc e)
  token-some false false (suc n) e = omega arith

  -- the bytes of a text whose tokens can all stand where they stand
  scanned : (bytes : List ℕ) (skip at : ℕ) (s : State) (end : ℕ) → list_any bad (take skip bytes) ≡ false
      → fault_from s (tokens_from skip at bytes) end ≡ None → list_any bad bytes ≡ false
  unfolding tokens_from fault_from
  scanned [] skip at s end plain fine = refl
  scanned (b ∷ bytes) (suc skip) at s end plain fine =
      let p = or-parts (bad b) (list_any bad (take skip bytes)) plain in
      or-none _ _ p.0 (scanned bytes skip (at + 1) s end p.1 fine)
  scanned (b ∷ bytes) zero at s end plain fine = elim (truth (b == 32)) [
    | inl e ↦ or-none _ _ (ap bad (eqb-true b 32 e) ∙ space) (scanned bytes 0 (at + 1) s end refl
        (sym (ap (λ t. fault_from s (cond t (tokens_from 0 (at + 1) bytes) others) end) e) ∙ fine))
    | inr e ↦ first (step_of s (token_at (b ∷ bytes))) refl
        (sym (ap (λ t. fault_from s (cond t (tokens_from 0 (at + 1) bytes) others) end) e) ∙ fine)
        (λ k next f g. scanned bytes k (at + 1) next end f g)
  ]
    where
      others : List (ℕ × Token)
      others = (at, token_at (b ∷ bytes)) ∷ tokens_from (token_len (b ∷ bytes) - 1) (at + 1) bytes

      first : (o : Option State) → step_of s (token_at (b ∷ bytes)) ≡ o
          → option_map_or (λ next. fault_from next (tokens_from (token_len (b ∷ bytes) - 1) (at + 1) bytes) end) o
          (Some at) ≡ None
          → ((k : ℕ) (next : State) → list_any bad (take k bytes) ≡ false
          → fault_from next (tokens_from k (at + 1) bytes) end ≡ None → list_any bad bytes ≡ false)
          → (bad b || list_any bad bytes) ≡ false
      first None steps fine more = absurd (cc fine)
      first (Some next) steps fine more =
          let some : 0 < token_len (b ∷ bytes) =
          token-some (word_len (b ∷ bytes) == 0) (has_plus (b ∷ bytes)) (word_len (b ∷ bytes)) refl in
          let e : token_len (b ∷ bytes) ≡ suc (token_len (b ∷ bytes) - 1) = omega arith in
          let p = or-parts (bad b) (list_any bad (take (token_len (b ∷ bytes) - 1) bytes))
          (ap (λ k. list_any bad (take k (b ∷ bytes))) (sym e) ∙ token-bytes b bytes s next steps) in
          or-none _ _ p.0 (more (token_len (b ∷ bytes) - 1) next p.1 fine)

no-licence : (text : List ℕ) → text ≡ [] → fault_of text ≡ None → ⊥
unfolding tokens_from fault_from
no-licence text e fine = let f : ◌≡◌ {A = Option ℕ} (Some 0) None = sym (ap fault_of e) ∙ fine in cc

-- no byte of an expression is a control character
pub expression-printable : (text : List ℕ) → fault_of text ≡ None → list_any is_control text ≡ false
expression-printable text fine =
    scanned is_control printable-word refl refl refl refl text 0 0 start (length text) refl fine

-- and each is ASCII
ascii-word : (b : ℕ) → is_word_byte b ≡ true → not (nat_lt b 128) ≡ false
ascii-word b e = grind (arith, nat_tests)

pub expression-ascii : (text : List ℕ) → fault_of text ≡ None → list_any (λ (b : ℕ). not (nat_lt b 128)) text ≡ false
expression-ascii text fine =
    scanned (λ b. not (nat_lt b 128)) ascii-word refl refl refl refl text 0 0 start (length text) refl fine

pub good-licence : (raw : List ℕ) → fault_of (without_spaces raw) ≡ None → IsPlain (without_spaces raw)
good-licence raw fine = record {
  some = λ e. no-licence (without_spaces raw) e fine;
  printable = expression-printable (without_spaces raw) fine;
  trimmed = trimmed-twice raw;
}

licence-parts : (text : List ℕ) (o : Option ℕ) (rest : Option Refusal)
    → option_or (option_map (bad_expression text) o) rest ≡ None → (o ≡ None) × (rest ≡ None)
licence-parts text None rest e = (refl, e)
licence-parts text (Some place) rest e = absurd (cc e)

pub good-licences : (raw : List (Bor (List ℕ))) → bad_licence (texts_of raw) ≡ None → All IsPlain (texts_of raw)
good-licences [] e = All-nil IsPlain
good-licences (t ∷ raw) e =
    let p = licence-parts (without_spaces t.now) (fault_of (without_spaces t.now)) (bad_licence (texts_of raw)) e in
    All-cons IsPlain (without_spaces t.now) (texts_of raw) (good-licence t.now p.0) (good-licences raw p.1)
