-- What a replaced licence means.
use Rattle.std.proofs.Common.{◌≡◌, ℕ, Bool, true, false, cond, List, [], ◌∷◌, ◌++◌}
use Rattle.std.proofs.Common.{length, Option, Some, None, refl, sym, ap, subst, ◌∙◌}
use Rattle.std.proofs.Common.{append_assoc}
use Rattle.std.specs.Prelude.{◌==◌, ◌&&◌, ◌||◌, not, codes}
use Rattle.std.specs.Option.{is_none}
use Rattle.std.specs.List.{list_any}
use Rattle.std.specs.Str.{bytes_eq}
use Rattle.std.proofs.lemmas.Bool.{false≢true, and_parts, or_parts}
use Rattle.std.proofs.lemmas.List.{append-nil}
use Rattle.std.proofs.lemmas.Slice.Eq.{bytes_eq-Decides}
use Rattle.reuse_notice.specs.declared.expressions.Token.TheVariants.{Open, Close, Operator, With, Identifier}
use Rattle.reuse_amend.specs.declared.replacements.Replacement.{Replacement}
use Rattle.reuse_notice.specs.Expressions.{token_at, token_len}
use Rattle.reuse_notice.specs.Expressions.{IsExpression, IsExpressionText}
use Rattle.reuse_notice.specs.ExpressionSteps.{fault_of, start}
use Rattle.reuse_amend.specs.Pieces.{pieces_of, is_name, is_operator, is_identifier, has_operator}
use Rattle.reuse_amend.specs.Amending.{operand as as_operand, is_behind_with}
use Rattle.reuse_amend.specs.Amending.{expression_replaced, licence_replaced, if_expression}
use Rattle.reuse_amend.specs.Meanings.{Meaning, licence, excepted, both, either, Rank, Operand, Conjunction, Whole}
use Rattle.reuse_amend.specs.Meanings.{Phrase, name, name_with, group, operand, joined_by_and, conjunction}
use Rattle.reuse_amend.specs.Meanings.{joined_by_or, written, meant, words_of, Means, exception_replaced}
use Rattle.reuse_amend.specs.Meanings.{meaning_replaced}
use Rattle.reuse_notice.proofs.GrammarLemmas.{run_from_expression}
use Rattle.reuse_notice.proofs.PlainLemmas.{or-none}
use Rattle.reuse_notice.proofs.PlaceLemmas.{none_exactly}
use Rattle.reuse_amend.proofs.UnnamedLemmas.{own_text}
use Rattle.reuse_amend.proofs.CutLemmas.{pieces_cut}
use Rattle.reuse_amend.proofs.WordLemmas.{Word, kinds, kinds-append, no_space, without_blanks, words_are_tokens}
use Rattle.reuse_amend.proofs.WordLemmas.{name_is, identifier_words, lone, grouped}
use Rattle.reuse_amend.proofs.PassLemmas.{Passes, passes_both, close_with, with_twice, with_plus}
use Rattle.reuse_amend.proofs.ReplacedLemmas.{new_pieces, new_words, not_old, words_replaced}
use Rattle.reuse_amend.proofs.ReplacedPieceLemmas.{replaced_pieces}
use Rattle.reuse_amend.proofs.MeantLemmas.{one_meant, phrase_spelled}

-- what has a meaning is an expression
pub meant_expression : (text : List ℕ) (m : Meaning) → Means text m → IsExpressionText text
meant_expression text m h =
    subst IsExpression (sym (words_are_tokens text ∙ ap kinds (sym h.is_written))) (phrase_spelled h.phrase)

pub one_meaning : (text : List ℕ) (m other : Meaning) → Means text m → Means text other → m ≡ other
one_meaning text m other a b =
    sym a.is_meant ∙ one_meant a.phrase b.phrase (a.is_written ∙ sym b.is_written) ∙ b.is_meant

-- ---- the new text as an operand

has_op : List Word → Bool
has_op ws = list_any (λ (w : Word). is_operator w.1) ws

no_op : (ps : List Word) → has_op ps ≡ false → has_op (without_blanks ps) ≡ false
unfolding has_op
no_op [] e = refl
no_op (p ∷ ps) e =
    let parts = or_parts (is_operator p.1) (list_any (λ (w : Word). is_operator w.1) ps) e in
    by (no_op ps parts.1) parts.0 (no_space p)
  where
    by : list_any (λ (w : Word). is_operator w.1) (without_blanks ps) ≡ false → is_operator p.1 ≡ false → (t : Bool)
        → list_any (λ (w : Word). is_operator w.1) (cond t (p ∷ without_blanks ps) (without_blanks ps)) ≡ false
    by rest first true =
        or-none (is_operator p.1) (list_any (λ (w : Word). is_operator w.1) (without_blanks ps)) first rest
    by rest first false = rest

op_between : (ws vs : List Word) (text : List ℕ) → has_op (ws ++ (text, Operator) ∷ vs) ≡ true
unfolding has_op
op_between [] vs text = refl
op_between (w ∷ ws) vs text = ap (λ t. is_operator w.1 || t) (op_between ws vs text) ∙ by (is_operator w.1)
  where
    by : (t : Bool) → (t || true) ≡ true
    by true = refl
    by false = refl

abbrev Same : {rank : Rank} → Phrase rank → Type 0
Same p = (x : Phrase Operand) × (written x ≡ written p) × (meant x ≡ meant p)

narrow_and : (p : Phrase Conjunction) → has_op (written p) ≡ false → Same p
narrow_and (operand x) e = (x, refl, refl)
narrow_and (joined_by_and left capitals right) e =
    absurd (false≢true (sym e ∙ op_between (written left) (written right) (cond capitals (codes "AND") (codes "and"))))

narrow : (p : Phrase Whole) → has_op (written p) ≡ false → Same p
narrow (conjunction p) e = narrow_and p e
narrow (joined_by_or left capitals right) e =
    absurd (false≢true (sym e ∙ op_between (written left) (written right) (cond capitals (codes "OR") (codes "or"))))

new_operand : (r : Replacement) (n : Meaning) → Means r.new n
    → (x : Phrase Operand) × (written x ≡ words_of (as_operand r.new)) × (meant x ≡ n)
unfolding has_op
new_operand r n h = by (has_operator r.new) refl
  where
    by : (t : Bool) → has_operator r.new ≡ t
        → (x : Phrase Operand) × (written x ≡ words_of (cond t (codes "(" ++ r.new ++ codes ")") r.new)) × (meant x ≡ n)
    by true e = (
      group h.phrase,
      ap (λ ws. (codes "(", Open) ∷ ws ++ (codes ")", Close) ∷ []) h.is_written ∙ sym (grouped r.new),
      h.is_meant,
    )
    by false e =
        let x = narrow h.phrase (ap has_op h.is_written ∙ no_op (pieces_of r.new) e) in
        (x.0, x.1 ∙ h.is_written, x.2 ∙ h.is_meant)

-- ---- a phrase replaced

abbrev word_words : Replacement → Bool → Word → List Word
word_words r behind w =
    cond (bytes_eq w.0 r.old && (is_identifier r.new || not behind)) (words_of (as_operand r.new)) (w ∷ [])

abbrev phrase_words : {rank : Rank} → Replacement → Phrase rank → List Word
phrase_words r (name text plus) = word_words r false (text, Identifier plus)
phrase_words r (name_with text plus capitals exception) = word_words r false (text, Identifier plus)
    ++ (cond capitals (codes "WITH") (codes "with"), With) ∷ word_words r true (exception, Identifier false)
phrase_words r (group inner) = (codes "(", Open) ∷ phrase_words r inner ++ (codes ")", Close) ∷ []
phrase_words r (operand inner) = phrase_words r inner
phrase_words r (joined_by_and left capitals right) =
    phrase_words r left ++ (cond capitals (codes "AND") (codes "and"), Operator) ∷ phrase_words r right
phrase_words r (conjunction inner) = phrase_words r inner
phrase_words r (joined_by_or left capitals right) =
    phrase_words r left ++ (cond capitals (codes "OR") (codes "or"), Operator) ∷ phrase_words r right

and_no_name : (capitals : Bool) → is_name (token_at (cond capitals (codes "AND") (codes "and"))) ≡ false
and_no_name true = refl
and_no_name false = refl

or_no_name : (capitals : Bool) → is_name (token_at (cond capitals (codes "OR") (codes "or"))) ≡ false
or_no_name true = refl
or_no_name false = refl

with_no_name : (capitals : Bool) → is_name (token_at (cond capitals (codes "WITH") (codes "with"))) ≡ false
with_no_name true = refl
with_no_name false = refl

module _ (r : Replacement) (named : is_name (token_at r.old) ≡ true) where
  stays : (behind : Bool) (w : Word) (ws : List Word) → is_name (token_at w.0) ≡ false
      → new_words r behind (w ∷ ws) ≡ w ∷ new_words r (is_behind_with behind w.1) ws
  stays behind w ws e =
      ap (λ t. cond (t && (is_identifier r.new || not behind)) (words_of (as_operand r.new)) (w ∷ []) ++ new_words r
      (is_behind_with behind w.1) ws) (not_old r w.0 named e)

  -- phrases on both sides of an operator
  around : (text : List ℕ) (xs ys zs xs' ys' : List Word) → is_name (token_at text) ≡ false
      → ((ws : List Word) → new_words r false (xs ++ ws) ≡ xs' ++ new_words r false ws)
      → ((ws : List Word) → new_words r false (ys ++ ws) ≡ ys' ++ new_words r false ws)
      → new_words r false
      ((xs ++ (text, Operator) ∷ ys) ++ zs) ≡ (xs' ++ (text, Operator) ∷ ys') ++ new_words r false zs
  around text xs ys zs xs' ys' e f g =
      ap (new_words r false) (append_assoc xs ((text, Operator) ∷ ys) zs) ∙ f ((text, Operator) ∷ ys ++ zs)
      ∙ ap (λ ws. xs' ++ ws) (stays false (text, Operator) (ys ++ zs) e ∙ ap (λ ws. (text, Operator) ∷ ws) (g zs))
      ∙ sym (append_assoc xs' ((text, Operator) ∷ ys') (new_words r false zs))

  phrase_replaced : {rank : Rank} (p : Phrase rank) (ws : List Word)
      → new_words r false (written p ++ ws) ≡ phrase_words r p ++ new_words r false ws
  phrase_replaced (name text plus) ws = refl
  phrase_replaced (name_with text plus capitals exception) ws =
      let w : Word = (cond capitals (codes "WITH") (codes "with"), With) in
      ap (λ vs. word_words r false (text, Identifier plus) ++ vs)
      (stays false w ((exception, Identifier false) ∷ ws) (with_no_name capitals))
      ∙ sym (append_assoc (word_words r false (text, Identifier plus))
      (w ∷ word_words r true (exception, Identifier false)) (new_words r false ws))
  phrase_replaced (group inner) ws =
      stays false (codes "(", Open) ((written inner ++ (codes ")", Close) ∷ []) ++ ws) refl
      ∙ ap (λ vs. (codes "(", Open) ∷ vs)
      (ap (new_words r false) (append_assoc (written inner) ((codes ")", Close) ∷ []) ws)
      ∙ phrase_replaced inner ((codes ")", Close) ∷ ws)
      ∙ ap (λ vs. phrase_words r inner ++ vs) (stays false (codes ")", Close) ws refl)
      ∙ sym (append_assoc (phrase_words r inner) ((codes ")", Close) ∷ []) (new_words r false ws)))
  phrase_replaced (operand inner) ws = phrase_replaced inner ws
  phrase_replaced (conjunction inner) ws = phrase_replaced inner ws
  phrase_replaced (joined_by_and left capitals right) ws =
      around (cond capitals (codes "AND") (codes "and")) (written left) (written right) ws (phrase_words r left)
      (phrase_words r right) (and_no_name capitals) (λ vs. phrase_replaced left vs) (λ vs. phrase_replaced right vs)
  phrase_replaced (joined_by_or left capitals right) ws =
      around (cond capitals (codes "OR") (codes "or")) (written left) (written right) ws (phrase_words r left)
      (phrase_words r right) (or_no_name capitals) (λ vs. phrase_replaced left vs) (λ vs. phrase_replaced right vs)

-- a licence with an exception
excepts : (x : Phrase Operand) (exception : List ℕ) (capitals : Bool) → Passes
    (kinds (written x ++ (cond capitals (codes "WITH") (codes "with"), With) ∷ (exception, Identifier false) ∷ []))
    → (q : Phrase Operand) × (written q ≡ written x ++ (cond capitals (codes "WITH") (codes "with"), With)
    ∷ (exception, Identifier false) ∷ []) × (meant q ≡ excepted (meant x) exception)
excepts (name text plus) exception capitals h = (name_with text plus capitals exception, refl, refl)
excepts (name_with text plus first other) exception capitals h = absurd (with_twice (Identifier false ∷ [])
    (passes_both (Identifier plus ∷ []) (With ∷ Identifier false ∷ With ∷ Identifier false ∷ []) h).1)
excepts (group inner) exception capitals h =
    let ws : List Word = (cond capitals (codes "WITH") (codes "with"), With) ∷ (exception, Identifier false) ∷ [] in
    let e : kinds
    (written (group inner) ++ ws) ≡ (Open ∷ kinds (written inner)) ++ Close ∷ With ∷ Identifier false ∷ [] =
    ap (λ ts. Open ∷ ts) (ap kinds (append_assoc (written inner) ((codes ")", Close) ∷ []) ws)
    ∙ kinds-append (written inner) ((codes ")", Close) ∷ ws)) in
    absurd (close_with (Identifier false ∷ [])
    (passes_both (Open ∷ kinds (written inner)) (Close ∷ With ∷ Identifier false ∷ []) (subst Passes e h)).1)

module _ (r : Replacement) (n : Meaning) (means : Means r.new n) where
  abbrev Kept : {rank : Rank} → Phrase rank → Type 0
  Kept {rank} p = (q : Phrase rank) × (written q ≡ phrase_words r p) × (meant q ≡ meaning_replaced r n (meant p))

  kept_name : (text : List ℕ) (plus : Bool) → Kept (name text plus)
  kept_name text plus = by (bytes_eq text r.old) (is_identifier r.new)
    where
      by : (t i : Bool) → (q : Phrase Operand)
          × (written q ≡ cond (t && (i || true)) (words_of (as_operand r.new)) ((text, Identifier plus) ∷ []))
          × (meant q ≡ cond t n (licence text))
      by true true = new_operand r n means
      by true false = new_operand r n means
      by false i = (name text plus, refl, refl)

  kept_exception : (exception : List ℕ) → Passes (With ∷ kinds (word_words r true (exception, Identifier false)))
      → (exception_replaced r exception, Identifier false) ∷ [] ≡ word_words r true (exception, Identifier false)
  kept_exception exception h = by (bytes_eq exception r.old) (is_identifier r.new) refl h
    where
      by : (t i : Bool) → is_identifier r.new ≡ i → Passes
          (With ∷ kinds (cond (t && (i || false)) (words_of (as_operand r.new)) ((exception, Identifier false) ∷ [])))
          → ◌≡◌ {A = List Word} ((cond (t && i) r.new exception, Identifier false) ∷ [])
          (cond (t && (i || false)) (words_of (as_operand r.new)) ((exception, Identifier false) ∷ []))
      by true true e p =
          let alone : words_of (as_operand r.new) ≡ (r.new, token_at r.new) ∷ [] =
          ap words_of (lone r.new e) ∙ identifier_words r.new e in
          let is =
          name_is (token_at r.new) (and_parts (is_name (token_at r.new)) (token_len r.new == length r.new) e).0 in
          let none =
          with_plus is.0 [] (subst (λ ws. Passes (With ∷ kinds ws)) (alone ∙ ap (λ t. (r.new, t) ∷ []) is.1) p) in
          sym (alone ∙ ap (λ t. (r.new, t) ∷ []) (is.1 ∙ ap Identifier none))
      by true false e p = refl
      by false i e p = refl

  kept_with : (text : List ℕ) (plus capitals : Bool) (exception : List ℕ) → Passes
      (kinds (phrase_words r (name_with text plus capitals exception))) → Kept (name_with text plus capitals exception)
  kept_with text plus capitals exception h =
      let w : Word = (cond capitals (codes "WITH") (codes "with"), With) in
      let left = word_words r false (text, Identifier plus) in
      let right = word_words r true (exception, Identifier false) in
      let k = kept_name text plus in
      let behind = (passes_both (kinds left) (With ∷ kinds right) (subst Passes (kinds-append left (w ∷ right)) h)).1 in
      let e = kept_exception exception behind in
      let same : written k.0 ++ w ∷ (exception_replaced r exception, Identifier false) ∷ [] ≡ left ++ w ∷ right =
      ap (λ ws. ws ++ w ∷ (exception_replaced r exception, Identifier false) ∷ []) k.1 ∙ ap (λ ws. left ++ w ∷ ws) e in
      let q = excepts k.0 (exception_replaced r exception) capitals (subst (λ ws. Passes (kinds ws)) (sym same) h) in
      (q.0, q.1 ∙ same, q.2 ∙ ap (λ m. excepted m (exception_replaced r exception)) k.2)

  apart : (ws vs : List Word) (w : Word) → Passes (kinds (ws ++ w ∷ vs)) → Passes (kinds ws) × Passes (kinds vs)
  apart ws vs w h =
      let k = passes_both (kinds ws) (w.1 ∷ kinds vs) (subst Passes (kinds-append ws (w ∷ vs)) h) in
      (k.0, (passes_both (w.1 ∷ []) (kinds vs) k.1).1)

  -- a phrase with the identifier replaced is a phrase, whose meaning has the new one in the place of the old
  keeps : {rank : Rank} (p : Phrase rank) → Passes (kinds (phrase_words r p)) → Kept p
  keeps (name text plus) h = kept_name text plus
  keeps (name_with text plus capitals exception) h = kept_with text plus capitals exception h
  keeps (group inner) h =
      let k = keeps inner (apart (phrase_words r inner) [] (codes ")", Close)
      (passes_both (Open ∷ []) (kinds (phrase_words r inner ++ (codes ")", Close) ∷ [])) h).1).0 in
      (group k.0, ap (λ ws. (codes "(", Open) ∷ ws ++ (codes ")", Close) ∷ []) k.1, k.2)
  keeps (operand inner) h = let k = keeps inner h in (operand k.0, k.1, k.2)
  keeps (conjunction inner) h = let k = keeps inner h in (conjunction k.0, k.1, k.2)
  keeps (joined_by_and left capitals right) h =
      let w : Word = (cond capitals (codes "AND") (codes "and"), Operator) in
      let both_pass = apart (phrase_words r left) (phrase_words r right) w h in
      let a = keeps left both_pass.0 in
      let b = keeps right both_pass.1 in (
        joined_by_and a.0 capitals b.0,
        ap (λ ws. ws ++ w ∷ written b.0) a.1 ∙ ap (λ ws. phrase_words r left ++ w ∷ ws) b.1,
        ap (λ m. both m (meant b.0)) a.2 ∙ ap (both (meaning_replaced r n (meant left))) b.2,
      )
  keeps (joined_by_or left capitals right) h =
      let w : Word = (cond capitals (codes "OR") (codes "or"), Operator) in
      let both_pass = apart (phrase_words r left) (phrase_words r right) w h in
      let a = keeps left both_pass.0 in
      let b = keeps right both_pass.1 in (
        joined_by_or a.0 capitals b.0,
        ap (λ ws. ws ++ w ∷ written b.0) a.1 ∙ ap (λ ws. phrase_words r left ++ w ∷ ws) b.1,
        ap (λ m. either m (meant b.0)) a.2 ∙ ap (either (meaning_replaced r n (meant left))) b.2,
      )

-- ---- the law

identifier_means : (text : List ℕ) → is_identifier text ≡ true → Means text (licence text)
identifier_means text e =
    let is = name_is (token_at text) (and_parts (is_name (token_at text)) (token_len text == length text) e).0 in
    record {
      phrase = conjunction (operand (name text is.0));
      is_written = sym (identifier_words text e ∙ ap (λ t. (text, t) ∷ []) is.1);
      is_meant = refl;
    }

pub expression_is : (text result : List ℕ) → if_expression text ≡ Some result → (fault_of text ≡ None) × (text ≡ result)
expression_is text result e = by (fault_of text) refl e
  where
    by : (o : Option ℕ) → fault_of text ≡ o → cond (is_none o) (Some text) None ≡ Some result
        → (o ≡ None) × (text ≡ result)
    by None is e' = (refl, cc e')
    by (Some place) is e' = absurd (cc e')

pub meaning_kept : (r : Replacement) (value result : List ℕ) (m n : Meaning) → is_identifier r.old ≡ true
    → Means value m → Means r.new n
    → licence_replaced r value ≡ Some result → Means result (meaning_replaced r n m)
meaning_kept r value result m n old a b e = by (bytes_eq value r.old) refl e
  where
    good : is_none (fault_of value) ≡ true
    good = ap is_none ((none_exactly value).1 (meant_expression value m a))

    named : is_name (token_at r.old) ≡ true
    named = (and_parts (is_name (token_at r.old)) (token_len r.old == length r.old) old).0

    tokens : if_expression (expression_replaced r value) ≡ Some result → Means result (meaning_replaced r n m)
    tokens e' =
        let is = expression_is (expression_replaced r value) result e' in
        let cut : pieces_of result ≡ new_pieces r false (pieces_of value) =
        ap pieces_of (sym is.1) ∙ replaced_pieces r value named (meant_expression r.new n b)
        (meant_expression value m a) ((none_exactly (expression_replaced r value)).0 is.0) in
        let words : words_of result ≡ phrase_words r a.phrase =
        ap without_blanks cut ∙ words_replaced r false (pieces_of value) named (pieces_cut value)
        ∙ ap (new_words r false) (sym a.is_written ∙ sym (append-nil (written a.phrase)))
        ∙ phrase_replaced r named a.phrase [] ∙ append-nil (phrase_words r a.phrase) in
        let right : IsExpression (kinds (phrase_words r a.phrase)) = subst IsExpression
        (words_are_tokens result ∙ ap kinds words) ((none_exactly result).0 (ap fault_of (sym is.1) ∙ is.0)) in
        let run_to = run_from_expression (kinds (phrase_words r a.phrase)) right in
        let k = keeps r n b a.phrase (start, run_to.0, run_to.1) in
        record { phrase = k.0; is_written = k.1 ∙ sym words; is_meant = k.2 ∙ ap (meaning_replaced r n) a.is_meant }

    by : (t : Bool) → bytes_eq value r.old ≡ t → cond t (Some r.new)
        (cond (is_identifier r.old && is_none (fault_of value)) (if_expression (expression_replaced r value))
        (Some value)) ≡ Some result → Means result (meaning_replaced r n m)
    by true is e' =
        let same : value ≡ r.old = (bytes_eq-Decides value r.old).0 is in
        let m_is : m ≡ licence r.old =
        one_meaning r.old m (licence r.old) (subst (λ t. Means t m) same a) (identifier_means r.old old) in
        let new_is : r.new ≡ result = cc e' in
        subst (λ t. Means t (meaning_replaced r n m)) new_is (subst (Means r.new)
        (sym (ap (meaning_replaced r n) m_is ∙ ap (λ t. cond t n (licence r.old)) (own_text r.old))) b)
    by false is e' =
        tokens (sym (ap (λ t. cond (t && is_none (fault_of value)) (if_expression (expression_replaced r value))
        (Some value)) old ∙ ap (λ t. cond t (if_expression (expression_replaced r value)) (Some value)) good) ∙ e')
