-- The pieces of an expression in which names are replaced: that is an expression again, and its operand is one.
use Rattle.std.proofs.Common.{◌≡◌, ℕ, ◌+◌, ◌<◌, nat_eq, Bool, true, false, cond, List, [], ◌∷◌}
use Rattle.std.proofs.Common.{◌++◌, length, take, refl, sym, ap, subst, ◌∙◌}
use Rattle.std.proofs.Common.{arith, append_assoc, inl, inr, ◌⊎◌}
use Rattle.std.specs.Prelude.{◌==◌, ◌&&◌, ◌||◌, not, codes}
use Rattle.std.specs.List.{list_any, starts_with}
use Rattle.std.specs.Str.{bytes_eq}
use Rattle.std.proofs.lemmas.Bool.{eqb-true, eqb-false, false≢true, or_parts, cases_Bool as truth}
use Rattle.std.proofs.lemmas.Slice.Eq.{bytes_eq-Decides}
use Rattle.reuse_notice.specs.declared.expressions.Token.{Token}
use Rattle.reuse_notice.specs.declared.expressions.Token.TheVariants.{Open, Close, Operator, With, Identifier, Stray}
use Rattle.reuse_amend.specs.declared.replacements.Replacement.{Replacement}
use Rattle.reuse_notice.specs.Expressions.{group, IsExpression}
use Rattle.reuse_notice.specs.Expressions.{IsExpressionText, word_len, has_plus, token_at}
use Rattle.reuse_amend.specs.Pieces.{pieces_of, is_name, is_operator, is_identifier, has_operator}
use Rattle.reuse_notice.specs.ExpressionSteps.{start}
use Rattle.reuse_amend.specs.Amending.{operand, is_behind_with, expression_replaced}
use Rattle.reuse_amend.specs.Meanings.{words_of}
use Rattle.reuse_notice.proofs.GrammarLemmas.{run_from_expression}
use Rattle.reuse_amend.proofs.UnnamedLemmas.{together, pieces-join}
use Rattle.reuse_amend.proofs.PieceLemmas.{pieces-nil}
use Rattle.reuse_amend.proofs.CutLemmas.{is_plain, WellCut, EndsInWord, front_piece}
use Rattle.reuse_amend.proofs.CutLemmas.{pieces_cut, plain_first, together-append, pieces-apart, pieces-append}
use Rattle.reuse_amend.proofs.WordLemmas.{Word, kinds, without_blanks, no_space, blank_plain, name_is, name_begins}
use Rattle.reuse_amend.proofs.WordLemmas.{grouped_pieces, grouped, kinds-append, words_are_tokens}
use Rattle.reuse_amend.proofs.PassLemmas.{Passes, passes_both, behind_name}
use Rattle.reuse_amend.proofs.ReplacedLemmas.{new_pieces, new_together, plain_kept, not_old}
use Rattle.reuse_amend.proofs.FusedLemmas.{Balanced, balanced, chosen, fused, names, names-append, op_word, ops}
use Rattle.reuse_amend.proofs.FusedLemmas.{ops-append, plain_no_old}

-- ---- the pieces of what is replaced

-- pieces that a text is cut into, or it has one identifier more for its operators
abbrev Comes : List Word → List ℕ → Type 0
Comes qs y = (pieces_of y ≡ qs) ⊎ (names qs + ops (pieces_of y) < names (pieces_of y) + ops qs)

ahead : (xs qs : List Word) (x y : List ℕ) → pieces_of (x ++ y) ≡ xs ++ pieces_of y → Comes qs y
    → Comes (xs ++ qs) (x ++ y)
ahead xs qs x y e (inl same) = inl (e ∙ ap (λ ps. xs ++ ps) same)
ahead xs qs x y e (inr more) =
    let a = names-append xs qs in
    let b = ops-append xs qs in
    let c = ap names e ∙ names-append xs (pieces_of y) in
    let d = ap ops e ∙ ops-append xs (pieces_of y) in
    inr (omega (arith, more, a, b, c, d))

-- whether pieces end in a word
ends_or_not : (ps : List Word) → EndsInWord ps ⊎ (EndsInWord ps → ⊥)
ends_or_not [] = inr (λ e. e)
ends_or_not (p ∷ []) = elim (truth (word_len p.0 == length p.0)) [
  | inl e ↦ inl (eqb-true (word_len p.0) (length p.0) e)
  | inr e ↦ inr (eqb-false (word_len p.0) (length p.0) e)
]
ends_or_not (p ∷ q ∷ ps) = ends_or_not (q ∷ ps)

ends_closed : (ps : List Word) → EndsInWord (ps ++ (codes ")", Close) ∷ []) → ⊥
ends_closed [] e = cc e
ends_closed (p ∷ []) e = cc e
ends_closed (p ∷ q ∷ ps) e = ends_closed (q ∷ ps) e

none_ops : (ps : List Word) → list_any (λ (p : Word). is_operator p.1) ps ≡ false → ops ps ≡ 0
unfolding ops
none_ops [] e = refl
none_ops (p ∷ ps) e =
    let parts = or_parts (is_operator p.1) (list_any (λ (q : Word). is_operator q.1) ps) e in
    ap (λ t. cond t 1 0 + ops ps) parts.0 ∙ ap (λ (n : ℕ). 0 + n) (none_ops ps parts.1)

-- an operand that ends in a word has no operator
operand_ops : (text : List ℕ) → EndsInWord (pieces_of (operand text)) → ops (pieces_of (operand text)) ≡ 0
operand_ops text = by (has_operator text) refl
  where
    by : (t : Bool) → has_operator text ≡ t → EndsInWord (pieces_of (cond t (codes "(" ++ text ++ codes ")") text))
        → ops (pieces_of (cond t (codes "(" ++ text ++ codes ")") text)) ≡ 0
    by true e ends =
        absurd (ends_closed ((codes "(", Open) ∷ pieces_of text) (subst EndsInWord (grouped_pieces text) ends))
    by false e ends = none_ops (pieces_of text) e

close_plain : (x : List ℕ) → token_at x ≡ Close → is_plain x ≡ true
close_plain [] e = refl
close_plain (b ∷ x) e = elim (truth (41 == b)) [
  | inl t ↦ ap (λ n. is_plain (n ∷ x)) (sym (eqb-true 41 b t))
  | inr f ↦ absurd (clash (starts_with nat_eq (b ∷ x) (codes "(")) (word_len (b ∷ x) == 0) (has_plus (b ∷ x))
      (list_any (bytes_eq (take (word_len (b ∷ x)) (b ∷ x))) (codes "AND" ∷ codes "OR" ∷ codes "and" ∷ codes "or" ∷ []))
      (list_any (bytes_eq (take (word_len (b ∷ x)) (b ∷ x))) (codes "WITH" ∷ codes "with" ∷ []))
      (sym (ap (λ t. chosen (starts_with nat_eq (b ∷ x) (codes "(")) (t && true) (word_len (b ∷ x) == 0)
      (has_plus (b ∷ x)) (take (word_len (b ∷ x)) (b ∷ x))) f) ∙ e))
]
  where
    clash : (o z plus a w : Bool) → cond o Open
        (cond z Stray (cond plus (Identifier true) (cond a Operator (cond w With (Identifier false))))) ≡ Close → ⊥
    clash true z plus a w e' = cc e'
    clash false true plus a w e' = cc e'
    clash false false true a w e' = cc e'
    clash false false false true w e' = cc e'
    clash false false false false true e' = cc e'
    clash false false false false false e' = cc e'

op_no_name : (t : Token) → is_operator t ≡ true → is_name t ≡ false
op_no_name Operator e = refl
op_no_name With e = refl
op_no_name Open e = refl
op_no_name Close e = refl
op_no_name Stray e = refl
op_no_name (Identifier plus) e = absurd (cc e)

-- an operator that is lost leaves more identifiers
surplus : (p : Word) (o qs whole_qs front ys : List Word) (text long : List ℕ) → is_operator p.1 ≡ true → ops o ≡ 0
    → names front ≡ names o → ops front ≡ 0 → whole_qs ≡ p ∷ qs
    → pieces_of text ≡ p ∷ ys → pieces_of long ≡ front ++ ys → Comes whole_qs text → Comes (o ++ whole_qs) long
unfolding names ops
surplus p o qs whole_qs front ys text long op none a b stays first whole come =
    let n = op_no_name p.1 op in
    let c = names-append o whole_qs in
    let d = ops-append o whole_qs in
    let e = ap names whole ∙ names-append front ys in
    let f = ap ops whole ∙ ops-append front ys in
    let g : names whole_qs ≡ 0 + names qs = ap names stays ∙ ap (λ t. cond t 1 0 + names qs) n in
    let h : ops whole_qs ≡ 1 + ops qs = ap ops stays ∙ ap (λ t. cond t 1 0 + ops qs) op in
    let k : names (pieces_of text) ≡ 0 + names ys = ap names first ∙ ap (λ t. cond t 1 0 + names ys) n in
    let l : ops (pieces_of text) ≡ 1 + ops ys = ap ops first ∙ ap (λ t. cond t 1 0 + ops ys) op in
    inr (by come a b c d e f g h k l none)
  where
    by : Comes whole_qs text → names front ≡ names o → ops front ≡ 0 → names (o ++ whole_qs) ≡ names o + names whole_qs
        → ops (o ++ whole_qs) ≡ ops o + ops whole_qs
        → names (pieces_of long) ≡ names front + names ys → ops (pieces_of long) ≡ ops front + ops ys
        → names whole_qs ≡ 0 + names qs → ops whole_qs ≡ 1 + ops qs
        → names (pieces_of text) ≡ 0 + names ys → ops (pieces_of text) ≡ 1 + ops ys → ops o ≡ 0
        → names (o ++ whole_qs) + ops (pieces_of long) < names (pieces_of long) + ops (o ++ whole_qs)
    by (inl same) a b c d e f g h k l none = let m = ap names same in let n = ap ops same in
        omega (arith, a, b, c, d, e, f, g, h, k, l, m, n, none)
    by (inr more) a b c d e f g h k l none = omega (arith, a, b, c, d, e, f, g, h, k, l, more, none)

module _ (r : Replacement) (named : is_name (token_at r.old) ≡ true) where
  abbrev rest_of : Bool → List Word → List ℕ
  rest_of behind ps = together (new_pieces r behind ps)

  -- the new text goes on into an operator behind it
  runs_on : (behind : Bool) (p : Word) (ps : List Word) → WellCut (p ∷ ps) → is_operator p.1 ≡ true
      → EndsInWord (pieces_of (operand r.new))
      → Comes (new_pieces r behind (p ∷ ps)) (rest_of behind (p ∷ ps))
      → Comes (pieces_of (operand r.new) ++ new_pieces r behind (p ∷ ps)) (operand r.new ++ rest_of behind (p ∷ ps))
  runs_on behind p ps cut op ends come =
      let word = op_word p cut.0 op in
      let stays : new_pieces r behind (p ∷ ps) ≡ p ∷ new_pieces r (is_behind_with behind p.1) ps =
      ap (λ t. cond (t && (is_identifier r.new || not behind)) (pieces_of (operand r.new)) (p ∷ []) ++ new_pieces r
      (is_behind_with behind p.1) ps)
      (not_old r p.0 named (ap is_name cut.0.is ∙ op_no_name p.1 op)) in
      let plain : is_plain (rest_of (is_behind_with behind p.1) ps) ≡ true =
      plain_kept r (is_behind_with behind p.1) ps named cut.2 (cut.1 word.0) in
      let text : rest_of behind (p ∷ ps) ≡ p.0 ++ rest_of (is_behind_with behind p.1) ps = ap together stays in
      let first : pieces_of (rest_of behind (p ∷ ps)) ≡ p ∷ pieces_of (rest_of (is_behind_with behind p.1) ps) =
      ap pieces_of text ∙ front_piece p (rest_of (is_behind_with behind p.1) ps) cut.0 (λ e. plain) in
      let f = fused (pieces_of (operand r.new)) p.0 (pieces_cut (operand r.new)) ends
      (operand_ops r.new ends) word.0 cut.0.some (ap is_operator word.1 ∙ op) in
      let whole : pieces_of (operand r.new ++ rest_of behind (p ∷ ps)) ≡ pieces_of
      (together (pieces_of (operand r.new)) ++ p.0) ++ pieces_of (rest_of (is_behind_with behind p.1) ps) =
      ap (λ t. pieces_of (operand r.new ++ t)) text
      ∙ ap pieces_of (sym (append_assoc (operand r.new) p.0 (rest_of (is_behind_with behind p.1) ps)))
      ∙ pieces-append (operand r.new ++ p.0) (rest_of (is_behind_with behind p.1) ps) plain
      ∙ ap (λ t. pieces_of (t ++ p.0) ++ pieces_of (rest_of (is_behind_with behind p.1) ps))
      (sym (pieces-join (operand r.new))) in
      surplus p (pieces_of (operand r.new)) (new_pieces r (is_behind_with behind p.1) ps) (new_pieces r behind (p ∷ ps))
      (pieces_of (together (pieces_of (operand r.new)) ++ p.0)) (pieces_of (rest_of (is_behind_with behind p.1) ps))
      (rest_of behind (p ∷ ps)) (operand r.new ++ rest_of behind (p ∷ ps)) op
      (operand_ops r.new ends) f.0 f.1 stays first whole come

  -- behind an identifier that is replaced, a word goes on only into an operator
  behind_word : (behind : Bool) (p : Word) (ps : List Word) → WellCut (p ∷ ps) → p.0 ≡ r.old → Passes
      (kinds (without_blanks (p ∷ ps))) → is_plain (rest_of behind ps) ≡ false → EndsInWord (pieces_of (operand r.new))
      → Comes (new_pieces r behind ps) (rest_of behind ps)
      → Comes (pieces_of (operand r.new) ++ new_pieces r behind ps) (operand r.new ++ rest_of behind ps)
  behind_word behind p [] cut old passes more ends come = absurd (false≢true (sym more))
  behind_word behind p (q ∷ ps) cut old passes more ends come = by (bytes_eq q.0 (codes " ")) refl
    where
      plain_clash : is_plain q.0 ≡ true → ⊥
      plain_clash e = false≢true
          (sym more ∙ plain_kept r behind (q ∷ ps) named cut.2 (plain_first q.0 (together ps) cut.2.0.some ∙ e))

      is : (plus : Bool) × (p.1 ≡ Identifier plus)
      is = name_is p.1 (ap is_name (sym cut.0.is ∙ ap token_at old) ∙ named)

      shown : bytes_eq p.0 (codes " ") ≡ false
      shown = plain_no_old p.0 (codes " ") (ap is_plain old ∙ name_begins r.old named) refl

      operator : is_operator q.1 ≡ true
          → Comes (pieces_of (operand r.new) ++ new_pieces r behind (q ∷ ps)) (operand r.new ++ rest_of behind (q ∷ ps))
      operator op = runs_on behind q ps cut.2 op ends come

      by : (t : Bool) → bytes_eq q.0 (codes " ") ≡ t
          → Comes (pieces_of (operand r.new) ++ new_pieces r behind (q ∷ ps)) (operand r.new ++ rest_of behind (q ∷ ps))
      by true e = absurd (plain_clash (ap is_plain (blank_plain q e cut.2.0).0))
      by false e =
          let both_stand : kinds (without_blanks (p ∷ q ∷ ps)) ≡ Identifier is.0 ∷ q.1 ∷ kinds (without_blanks ps) =
          ap (λ t. kinds (cond (not t) (p ∷ without_blanks (q ∷ ps)) (without_blanks (q ∷ ps)))) shown
          ∙ ap (λ t. p.1 ∷ kinds (cond (not t) (q ∷ without_blanks ps) (without_blanks ps))) e
          ∙ ap (λ t. t ∷ q.1 ∷ kinds (without_blanks ps)) is.1 in
          elim (behind_name is.0 q.1 (kinds (without_blanks ps)) (subst Passes both_stand passes)) [
            | inl with_is ↦ operator (ap is_operator with_is)
            | inr rest ↦ elim rest [
              | inl operator_is ↦ operator (ap is_operator operator_is)
              | inr close_is ↦ absurd (plain_clash (close_plain q.0 (cut.2.0.is ∙ close_is)))
            ]
          ]

  behind_old : (behind : Bool) (p : Word) (ps : List Word) → WellCut (p ∷ ps) → p.0 ≡ r.old
      → Passes (kinds (without_blanks (p ∷ ps)))
      → Comes (new_pieces r behind ps) (rest_of behind ps)
      → Comes (pieces_of (operand r.new) ++ new_pieces r behind ps) (operand r.new ++ rest_of behind ps)
  behind_old behind p ps cut old passes come =
      by (is_plain (rest_of behind ps)) refl (ends_or_not (pieces_of (operand r.new)))
    where
      seamed : (EndsInWord (pieces_of (operand r.new)) → is_plain (rest_of behind ps) ≡ true)
          → Comes (pieces_of (operand r.new) ++ new_pieces r behind ps) (operand r.new ++ rest_of behind ps)
      seamed f = ahead (pieces_of (operand r.new)) (new_pieces r behind ps) (operand r.new) (rest_of behind ps)
          (pieces-apart (operand r.new) (rest_of behind ps) f) come

      by : (t : Bool) → is_plain (rest_of behind ps) ≡ t
          → EndsInWord (pieces_of (operand r.new)) ⊎ (EndsInWord (pieces_of (operand r.new)) → ⊥)
          → Comes (pieces_of (operand r.new) ++ new_pieces r behind ps) (operand r.new ++ rest_of behind ps)
      by true e ends = seamed (λ k. e)
      by false e (inr no_word) = seamed (λ k. absurd (no_word k))
      by false e (inl ends) = behind_word behind p ps cut old passes e ends come

  passes_on : (p : Word) (ps : List Word) → Passes (kinds (without_blanks (p ∷ ps)))
      → Passes (kinds (without_blanks ps))
  passes_on p ps h = by (no_space p) h
    where
      by : (t : Bool) → Passes (kinds (cond t (p ∷ without_blanks ps) (without_blanks ps)))
          → Passes (kinds (without_blanks ps))
      by true h' = (passes_both (p.1 ∷ []) (kinds (without_blanks ps)) h').1
      by false h' = h'

  comes : (behind : Bool) (ps : List Word) → WellCut ps → Passes (kinds (without_blanks ps))
      → Comes (new_pieces r behind ps) (rest_of behind ps)
  comes behind [] cut passes = inl pieces-nil
  comes behind (p ∷ ps) cut passes = by (comes (is_behind_with behind p.1) ps cut.2 (passes_on p ps passes))
      (bytes_eq p.0 r.old) (is_identifier r.new || not behind) refl
    where
      kept : Comes (new_pieces r (is_behind_with behind p.1) ps) (rest_of (is_behind_with behind p.1) ps)
          → Comes (p ∷ new_pieces r (is_behind_with behind p.1) ps) (p.0 ++ rest_of (is_behind_with behind p.1) ps)
      kept come =
          ahead (p ∷ []) (new_pieces r (is_behind_with behind p.1) ps) p.0 (rest_of (is_behind_with behind p.1) ps)
          (front_piece p (rest_of (is_behind_with behind p.1) ps) cut.0
          (λ e. plain_kept r (is_behind_with behind p.1) ps named cut.2 (cut.1 e))) come

      by : Comes (new_pieces r (is_behind_with behind p.1) ps) (rest_of (is_behind_with behind p.1) ps)
          → (same may : Bool) → bytes_eq p.0 r.old ≡ same
          → Comes
          (cond (same && may) (pieces_of (operand r.new)) (p ∷ []) ++ new_pieces r (is_behind_with behind p.1) ps)
          (together
          (cond (same && may) (pieces_of (operand r.new)) (p ∷ []) ++ new_pieces r (is_behind_with behind p.1) ps))
      by come true true e =
          subst (Comes (pieces_of (operand r.new) ++ new_pieces r (is_behind_with behind p.1) ps))
          (ap (λ t. t ++ rest_of (is_behind_with behind p.1) ps) (sym (pieces-join (operand r.new)))
          ∙ sym (together-append (pieces_of (operand r.new)) (new_pieces r (is_behind_with behind p.1) ps)))
          (behind_old (is_behind_with behind p.1) p ps cut ((bytes_eq-Decides p.0 r.old).0 e) passes come)
      by come true false e = kept come
      by come false may e = kept come

  -- as many identifiers and operators come as go, but for the new ones
  changed : (behind : Bool) (ps : List Word) → WellCut ps → Balanced (pieces_of (operand r.new))
      → names (new_pieces r behind ps) + ops ps ≡ names ps + ops (new_pieces r behind ps)
  unfolding names ops
  changed behind [] cut even = refl
  changed behind (p ∷ ps) cut even = by (changed (is_behind_with behind p.1) ps cut.2 even) (bytes_eq p.0 r.old)
      (is_identifier r.new || not behind) refl
    where
      by : names (new_pieces r (is_behind_with behind p.1) ps) + ops ps ≡ names ps + ops
          (new_pieces r (is_behind_with behind p.1) ps) → (same may : Bool) → bytes_eq p.0 r.old ≡ same
          → names (cond (same && may) (pieces_of (operand r.new)) (p ∷ []) ++ new_pieces r
          (is_behind_with behind p.1) ps) + (cond (is_operator p.1) 1 0 + ops ps)
          ≡ (cond (is_name p.1) 1 0 + names ps) + ops
          (cond (same && may) (pieces_of (operand r.new)) (p ∷ []) ++ new_pieces r (is_behind_with behind p.1) ps)
      by h true true e =
          let is = name_is p.1 (ap is_name (sym cut.0.is ∙ ap token_at ((bytes_eq-Decides p.0 r.old).0 e)) ∙ named) in
          let a : ◌≡◌ {A = ℕ} (cond (is_name p.1) 1 0) 1 = ap (λ t. cond (is_name t) 1 0) is.1 in
          let b : ◌≡◌ {A = ℕ} (cond (is_operator p.1) 1 0) 0 = ap (λ t. cond (is_operator t) 1 0) is.1 in
          let c = names-append (pieces_of (operand r.new)) (new_pieces r (is_behind_with behind p.1) ps) in
          let d = ops-append (pieces_of (operand r.new)) (new_pieces r (is_behind_with behind p.1) ps) in
          let even_is : names (pieces_of (operand r.new)) ≡ ops (pieces_of (operand r.new)) + 1 = even in
          omega (arith, h, a, b, c, d, even_is)
      by h true false e = omega (arith, h)
      by h false may e = omega (arith, h)

-- ---- the operand of an expression is one

pub new_expression : (text : List ℕ) → IsExpressionText text → IsExpression (kinds (words_of (operand text)))
new_expression text e = by (has_operator text)
  where
    own : IsExpression (kinds (words_of text))
    own = subst IsExpression (words_are_tokens text) e

    by : (t : Bool) → IsExpression (kinds (words_of (cond t (codes "(" ++ text ++ codes ")") text)))
    by false = own
    by true = subst (λ ws. IsExpression (kinds ws)) (sym (grouped text)) (
      group own.0,
      ap (λ ts. Open ∷ ts ++ Close ∷ []) own.1
          ∙ ap (λ ts. Open ∷ ts) (sym (kinds-append (words_of text) ((codes ")", Close) ∷ []))),
    )

-- the text that is replaced is cut as its pieces were
pub replaced_pieces : (r : Replacement) (value : List ℕ) → is_name (token_at r.old) ≡ true → IsExpressionText r.new
    → IsExpressionText value → IsExpressionText (expression_replaced r value)
    → pieces_of (expression_replaced r value) ≡ new_pieces r false (pieces_of value)
replaced_pieces r value named new_is value_is result_is =
    by (comes r named false (pieces_of value) (pieces_cut value) passes)
  where
    passes : Passes (kinds (words_of value))
    passes =
        let h = run_from_expression (kinds (words_of value)) (subst IsExpression (words_are_tokens value) value_is) in
        (start, h.0, h.1)

    by : Comes (new_pieces r false (pieces_of value)) (together (new_pieces r false (pieces_of value)))
        → pieces_of (expression_replaced r value) ≡ new_pieces r false (pieces_of value)
    by (inl same) = ap pieces_of (sym (new_together r false (pieces_of value))) ∙ same
    by (inr more) =
        let text = expression_replaced r value in
        let a : names (pieces_of value) ≡ ops (pieces_of value) + 1 =
        balanced (pieces_of value) (pieces_cut value) (subst IsExpression (words_are_tokens value) value_is) in
        let b = balanced (pieces_of (operand r.new)) (pieces_cut (operand r.new)) (new_expression r.new new_is) in
        let c : names (pieces_of (expression_replaced r value)) ≡ ops (pieces_of (expression_replaced r value)) + 1 =
        balanced (pieces_of text) (pieces_cut text) (subst IsExpression (words_are_tokens text) result_is) in
        let d = changed r named false (pieces_of value) (pieces_cut value) b in
        let m : names (new_pieces r false (pieces_of value)) + ops (pieces_of text) < names (pieces_of text) + ops
        (new_pieces r false (pieces_of value)) =
        subst (λ t. names (new_pieces r false (pieces_of value)) + ops (pieces_of t) < names (pieces_of t) + ops
        (new_pieces r false (pieces_of value))) (new_together r false (pieces_of value)) more in
        absurd (omega (arith, a, c, d, m))
