-- A licence that was amended once stays when it is amended again.
use Rattle.std.proofs.Common.{◌≡◌, ◌≢◌, ℕ, Bool, true, false, cond, List, [], ◌∷◌, ◌++◌, length, Option, Some, None}
use Rattle.std.proofs.Common.{refl, sym, ap, subst, ◌∙◌, inl, inr, ◌⊎◌}
use Rattle.std.specs.Prelude.{◌&&◌, ◌||◌, ◌==◌, not, codes}
use Rattle.std.specs.Option.{is_none, option_and_then}
use Rattle.std.specs.List.{AllByRecursion}
use Rattle.std.specs.Str.{bytes_eq}
use Rattle.std.proofs.lemmas.Bool.{false≢true, and_parts}
use Rattle.std.proofs.lemmas.Slice.Eq.{bytes_eq-Decides}
use Rattle.reuse_notice.specs.declared.expressions.Token.{Token}
use Rattle.reuse_notice.specs.declared.expressions.Token.TheVariants.{Close, Operator}
use Rattle.reuse_amend.specs.declared.replacements.Replacement.{Replacement}
use Rattle.reuse_notice.specs.Expressions.{Expression, licence, licence_with, group, joined, spelling, IsExpression}
use Rattle.reuse_notice.specs.Expressions.{IsExpressionText, token_at, token_len}
use Rattle.reuse_notice.specs.ExpressionSteps.{fault_of}
use Rattle.reuse_amend.specs.Pieces.{pieces_of, is_name, is_identifier, has_operator}
use Rattle.reuse_amend.specs.Amending.{operand, is_behind_with, pieces_replaced, expression_replaced, if_expression}
use Rattle.reuse_amend.specs.Amending.{licence_replaced, licence_amended}
use Rattle.reuse_amend.specs.Meanings.{words_of}
use Rattle.reuse_amend.specs.Settled.{DoesNotBringIn, NoLicenceComesBack}
use Rattle.reuse_notice.proofs.PlaceLemmas.{none_exactly}
use Rattle.reuse_amend.proofs.UnnamedLemmas.{together, pieces-join, other_text, own_text}
use Rattle.reuse_amend.proofs.CutLemmas.{WellCut, pieces_cut}
use Rattle.reuse_amend.proofs.WordLemmas.{Word, kinds, without_blanks, blank_plain, name_is, identifier_pieces}
use Rattle.reuse_amend.proofs.WordLemmas.{grouped_pieces}
use Rattle.reuse_amend.proofs.ReplacedLemmas.{new_pieces}
use Rattle.reuse_amend.proofs.ReplacedPieceLemmas.{new_expression, replaced_pieces}
use Rattle.reuse_amend.proofs.MeaningLemmas.{expression_is}

-- ---- behind an expression comes no exception

-- whether an exception comes next, behind some pieces
abbrev after : Bool → List Word → Bool
after behind [] = behind
after behind (p ∷ ps) = after (is_behind_with behind p.1) ps

-- the same of tokens
abbrev after_tokens : Bool → List Token → Bool
after_tokens behind [] = behind
after_tokens behind (t ∷ ts) = after_tokens (is_behind_with behind t) ts

after_tokens-append : (behind : Bool) (ts us : List Token)
    → after_tokens behind (ts ++ us) ≡ after_tokens (after_tokens behind ts) us
after_tokens-append behind [] us = refl
after_tokens-append behind (t ∷ ts) us = after_tokens-append (is_behind_with behind t) ts us

-- spaces don't count
after_words : (behind : Bool) (ps : List Word) → WellCut ps
    → after behind ps ≡ after_tokens behind (kinds (without_blanks ps))
after_words behind [] cut = refl
after_words behind (p ∷ ps) cut = by (λ b. after_words b ps cut.2) (bytes_eq p.0 (codes " ")) refl
  where
    by : ((b : Bool) → after b ps ≡ after_tokens b (kinds (without_blanks ps))) → (s : Bool)
        → bytes_eq p.0 (codes " ") ≡ s
        → after (is_behind_with behind p.1) ps ≡ after_tokens behind
        (kinds (cond (not s) (p ∷ without_blanks ps) (without_blanks ps)))
    by again true e = ap (λ t. after (is_behind_with behind t) ps) (blank_plain p e cut.0).1 ∙ again behind
    by again false e = again (is_behind_with behind p.1)

after_spelling : (behind : Bool) (e : Expression) → after_tokens behind (spelling e) ≡ false
after_spelling behind (licence plus) = refl
after_spelling behind (licence_with plus) = refl
after_spelling behind (group inner) = after_tokens-append false (spelling inner) (Close ∷ [])
after_spelling behind (joined left right) =
    after_tokens-append behind (spelling left) (Operator ∷ spelling right) ∙ after_spelling false right

after_expression : (behind : Bool) (text : List ℕ) → IsExpression (kinds (words_of text))
    → after behind (pieces_of text) ≡ false
after_expression behind text e =
    after_words behind (pieces_of text) (pieces_cut text) ∙ ap (after_tokens behind) (sym e.1)
    ∙ after_spelling behind e.0

-- ---- pieces that a replacement leaves as they are

abbrev Leaves : Replacement → Bool → List Word → Type 0
Leaves s behind [] = Unit {0}
Leaves s behind (p ∷ ps) =
    ((bytes_eq p.0 s.old && (is_identifier s.new || not behind)) ≡ false) × Leaves s (is_behind_with behind p.1) ps

leaves_together : (s : Replacement) (behind : Bool) (ps : List Word) → Leaves s behind ps
    → pieces_replaced s behind ps ≡ together ps
unfolding pieces_replaced
leaves_together s behind [] h = refl
leaves_together s behind (p ∷ ps) h =
    ap (λ t. cond t (operand s.new) p.0 ++ pieces_replaced s (is_behind_with behind p.1) ps) h.0
    ∙ ap (λ t. p.0 ++ t) (leaves_together s (is_behind_with behind p.1) ps h.1)

leaves-append : (s : Replacement) (behind : Bool) (xs ys : List Word) → Leaves s behind xs
    → Leaves s (after behind xs) ys → Leaves s behind (xs ++ ys)
leaves-append s behind [] ys h k = k
leaves-append s behind (x ∷ xs) ys h k = (h.0, leaves-append s (is_behind_with behind x.1) xs ys h.1 k)

leaves_others : (s : Replacement) (behind : Bool) (ps : List Word) → AllByRecursion (λ (p : Word). p.0 ≢ s.old) ps
    → Leaves s behind ps
leaves_others s behind [] h = tt
leaves_others s behind (p ∷ ps) h = (
  ap (λ t. t && (is_identifier s.new || not behind)) (other_text p.0 s.old h.0),
  leaves_others s (is_behind_with behind p.1) ps h.1,
)

others-append : (old : List ℕ) (xs ys : List Word) → AllByRecursion (λ (p : Word). p.0 ≢ old) xs
    → AllByRecursion (λ (p : Word). p.0 ≢ old) ys → AllByRecursion (λ (p : Word). p.0 ≢ old) (xs ++ ys)
others-append old [] ys h k = k
others-append old (x ∷ xs) ys h k = (h.0, others-append old xs ys h.1 k)

-- parentheses are no identifier
others_operand : (old new : List ℕ) → is_name (token_at old) ≡ true
    → AllByRecursion (λ (p : Word). p.0 ≢ old) (pieces_of new)
    → AllByRecursion (λ (p : Word). p.0 ≢ old) (pieces_of (operand new))
others_operand old new named h = by (has_operator new)
  where
    other : (text : List ℕ) → is_name (token_at text) ≡ false → text ≢ old
    other text none e = false≢true (sym none ∙ ap (λ t. is_name (token_at t)) e ∙ named)

    by : (t : Bool) → AllByRecursion (λ (p : Word). p.0 ≢ old) (pieces_of (cond t (codes "(" ++ new ++ codes ")") new))
    by false = h
    by true =
        subst (AllByRecursion (λ (p : Word). p.0 ≢ old)) (sym (grouped_pieces new)) (
          other (codes "(") refl,
          others-append old (pieces_of new) ((codes ")", Close) ∷ []) h (other (codes ")") refl, tt),
        )

-- an identifier that is OLD doesn't stay
leaves_no_old : (s : Replacement) (value : List ℕ) → is_identifier s.old ≡ true → Leaves s false (pieces_of value)
    → value ≢ s.old
leaves_no_old s value old h e =
    let alone : pieces_of value ≡ (s.old, token_at s.old) ∷ [] = ap pieces_of e ∙ identifier_pieces s.old old in
    let same : (bytes_eq s.old s.old && (is_identifier s.new || true)) ≡ false = (subst (Leaves s false) alone h).0 in
    false≢true (sym same ∙ ap (λ t. t && (is_identifier s.new || true)) (own_text s.old) ∙ by (is_identifier s.new))
  where
    by : (t : Bool) → (t || true) ≡ true
    by true = refl
    by false = refl

-- ---- the pieces behind a replacement

module _ (r : Replacement) (named : is_name (token_at r.old) ≡ true) (new_is : IsExpressionText r.new) where
  abbrev new_operand : List Word
  new_operand = pieces_of (operand r.new)

  ends : (behind : Bool) → after behind new_operand ≡ false
  ends behind = after_expression behind (operand r.new) (new_expression r.new new_is)

  no_exception : (behind : Bool) (p : Word) → token_at p.0 ≡ p.1 → bytes_eq p.0 r.old ≡ true
      → is_behind_with behind p.1 ≡ after behind new_operand
  no_exception behind p is e =
      let old = name_is p.1 (ap is_name (sym is ∙ ap token_at ((bytes_eq-Decides p.0 r.old).0 e)) ∙ named) in
      ap (is_behind_with behind) old.1 ∙ sym (ends behind)

  -- what another leaves, it leaves then too
  leaves_still : (s : Replacement) (behind : Bool) (ps : List Word) → WellCut ps
      → AllByRecursion (λ (p : Word). p.0 ≢ s.old) new_operand → Leaves s behind ps
      → Leaves s behind (new_pieces r behind ps)
  leaves_still s behind [] cut others h = tt
  leaves_still s behind (p ∷ ps) cut others h =
      by (leaves_still s (is_behind_with behind p.1) ps cut.2 others h.1) (bytes_eq p.0 r.old)
      (is_identifier r.new || not behind) refl
    where
      by : Leaves s (is_behind_with behind p.1) (new_pieces r (is_behind_with behind p.1) ps) → (same may : Bool)
          → bytes_eq p.0 r.old ≡ same
          → Leaves s behind (cond (same && may) new_operand (p ∷ []) ++ new_pieces r (is_behind_with behind p.1) ps)
      by rest true true e =
          leaves-append s behind new_operand (new_pieces r (is_behind_with behind p.1) ps)
          (leaves_others s behind new_operand others)
          (subst (λ t. Leaves s t (new_pieces r (is_behind_with behind p.1) ps))
          (no_exception behind p cut.0.is e) rest)
      by rest true false e = (h.0, rest)
      by rest false may e = (h.0, rest)

  -- and itself it leaves what it made
  leaves_made : (behind : Bool) (ps : List Word) → WellCut ps → AllByRecursion (λ (p : Word). p.0 ≢ r.old) new_operand
      → Leaves r behind (new_pieces r behind ps)
  leaves_made behind [] cut others = tt
  leaves_made behind (p ∷ ps) cut others =
      by (leaves_made (is_behind_with behind p.1) ps cut.2 others) (bytes_eq p.0 r.old)
      (is_identifier r.new || not behind) refl refl
    where
      by : Leaves r (is_behind_with behind p.1) (new_pieces r (is_behind_with behind p.1) ps) → (same may : Bool)
          → bytes_eq p.0 r.old ≡ same → (is_identifier r.new || not behind) ≡ may
          → Leaves r behind (cond (same && may) new_operand (p ∷ []) ++ new_pieces r (is_behind_with behind p.1) ps)
      by rest true true e f =
          leaves-append r behind new_operand (new_pieces r (is_behind_with behind p.1) ps)
          (leaves_others r behind new_operand others)
          (subst (λ t. Leaves r t (new_pieces r (is_behind_with behind p.1) ps))
          (no_exception behind p cut.0.is e) rest)
      by rest true false e f = (ap (λ t. t && (is_identifier r.new || not behind)) e ∙ f, rest)
      by rest false may e f = (ap (λ t. t && (is_identifier r.new || not behind)) e, rest)

-- ---- a value that a replacement leaves as it is

abbrev Left : Replacement → List ℕ → Type 0
Left s value = (value ≢ s.old) × (is_identifier s.old ≡ true → fault_of value ≡ None → Leaves s false (pieces_of value))

left_stays : (s : Replacement) (value : List ℕ) → Left s value → licence_replaced s value ≡ Some value
left_stays s value h =
    ap (λ b. cond b (Some s.new)
    (cond (is_identifier s.old && is_none (fault_of value)) (if_expression (expression_replaced s value)) (Some value)))
    (other_text value s.old h.0)
    ∙ by (is_identifier s.old) refl (fault_of value) refl
  where
    by : (named : Bool) → is_identifier s.old ≡ named → (o : Option ℕ) → fault_of value ≡ o
        → cond (named && is_none o) (if_expression (expression_replaced s value)) (Some value) ≡ Some value
    by true e None f =
        ap if_expression (leaves_together s false (pieces_of value) (h.1 e f) ∙ pieces-join value)
        ∙ ap (λ o. cond (is_none o) (Some value) None) f
    by true e (Some place) f = refl
    by false e o f = refl

-- what a replacement makes: NEW of the whole, an expression of an expression, or nothing new
pub record IsWithin (r : Replacement) (value result : List ℕ) : Type 0 where
  pub old : is_identifier r.old ≡ true
  pub was : fault_of value ≡ None
  pub is : fault_of result ≡ None
  pub made : expression_replaced r value ≡ result

pub record IsUntouched (r : Replacement) (value result : List ℕ) : Type 0 where
  pub other : value ≢ r.old
  pub none : is_identifier r.old ≡ true → fault_of value ≡ None → ⊥
  pub same : value ≡ result

abbrev pub Becomes : Replacement → List ℕ → List ℕ → Type 0
Becomes r value result = (r.new ≡ result) ⊎ (IsWithin r value result ⊎ IsUntouched r value result)

pub becomes : (r : Replacement) (value result : List ℕ) → licence_replaced r value ≡ Some result
    → Becomes r value result
becomes r value result e = whole (bytes_eq value r.old) refl e
  where
    within : (named : Bool) → is_identifier r.old ≡ named → (o : Option ℕ) → fault_of value ≡ o → value ≢ r.old
        → cond (named && is_none o) (if_expression (expression_replaced r value)) (Some value) ≡ Some result
        → Becomes r value result
    within true old None was other e' =
        let h = expression_is (expression_replaced r value) result e' in
        inr (inl (record { old = old; was = was; is = ap fault_of (sym h.1) ∙ h.0; made = h.1 }))
    within true old (Some place) was other e' =
        inr (inr (record { other = other; none = λ _ good. (let f = sym was ∙ good in cc f); same = cc e' }))
    within false old o was other e' =
        inr (inr (record { other = other; none = λ named good. false≢true (sym old ∙ named); same = cc e' }))

    whole : (t : Bool) → bytes_eq value r.old ≡ t
        → cond t (Some r.new) (cond (is_identifier r.old && is_none (fault_of value))
        (if_expression (expression_replaced r value)) (Some value)) ≡ Some result
        → Becomes r value result
    whole true is e' = inl (cc e')
    whole false is e' =
        within (is_identifier r.old) refl (fault_of value) refl
        (λ same. false≢true (sym is ∙ ap (λ t. bytes_eq t r.old) same ∙ own_text r.old)) e'

name_of : (text : List ℕ) → is_identifier text ≡ true → is_name (token_at text) ≡ true
name_of text e = (and_parts (is_name (token_at text)) (token_len text == length text) e).0

module _ (r : Replacement) (value result : List ℕ) (good : fault_of r.new ≡ None) where
  new_is : IsExpressionText r.new
  new_is = (none_exactly r.new).0 good

  cut : IsWithin r value result → pieces_of result ≡ new_pieces r false (pieces_of value)
  cut w =
      ap pieces_of (sym w.made)
      ∙ replaced_pieces r value (name_of r.old w.old) new_is ((none_exactly value).0 w.was)
      ((none_exactly (expression_replaced r value)).0 (ap fault_of w.made ∙ w.is))

  -- NEW, which has no OLD
  left_new : (s : Replacement) → DoesNotBringIn s.old r → r.new ≡ result → Left s result
  left_new s none same = subst (Left s) same (none.whole, λ _ _. leaves_others s false (pieces_of r.new) none.tokens)

  -- what a replacement made it leaves as it is
  left_made : DoesNotBringIn r.old r → Becomes r value result → Left r result
  left_made none (inl same) = left_new r none same
  left_made none (inr (inl w)) =
      let h : Leaves r false (pieces_of result) =
      subst (Leaves r false) (sym (cut w))
      (leaves_made r (name_of r.old w.old) new_is false (pieces_of value) (pieces_cut value)
      (others_operand r.old r.new (name_of r.old w.old) none.tokens)) in
      (leaves_no_old r result w.old h, λ _ _. h)
  left_made none (inr (inr u)) = subst (Left r) u.same (u.other, λ old was. absurd (u.none old was))

  -- and so does one before it
  left_still : (s : Replacement) → DoesNotBringIn s.old r → Left s value → Becomes r value result → Left s result
  left_still s none left (inl same) = left_new s none same
  left_still s none left (inr (inl w)) =
      (λ e. leaves_no_old s result (old e) (leaves (old e)) e, λ named _. leaves named)
    where
      old : result ≡ s.old → is_identifier s.old ≡ true
      old e = none.within w.old (ap fault_of (sym e) ∙ w.is)

      leaves : is_identifier s.old ≡ true → Leaves s false (pieces_of result)
      leaves named =
          subst (Leaves s false) (sym (cut w))
          (leaves_still r (name_of r.old w.old) new_is s false (pieces_of value) (pieces_cut value)
          (others_operand s.old r.new (name_of s.old named) none.tokens) (left.1 named w.was))
  left_still s none left (inr (inr u)) = subst (Left s) u.same left

-- ---- one replacement after the other

pub amended_parts : (r : Replacement) (rs : List Replacement) (value result : List ℕ)
    → licence_amended (r ∷ rs) value ≡ Some result
    → (next : List ℕ) × (licence_replaced r value ≡ Some next) × (licence_amended rs next ≡ Some result)
unfolding licence_amended
amended_parts r rs value result e = by (licence_replaced r value) refl e
  where
    by : (o : Option (List ℕ)) → licence_replaced r value ≡ o → option_and_then (licence_amended rs) o ≡ Some result
        → (next : List ℕ) × (licence_replaced r value ≡ Some next) × (licence_amended rs next ≡ Some result)
    by None is e' = absurd (cc e')
    by (Some next) is e' = (next, is, e')

pub amended_none : (value result : List ℕ) → licence_amended [] value ≡ Some result → value ≡ result
unfolding licence_amended
amended_none value result e = cc e

left_by_later : (s : Replacement) (rs : List Replacement) (value result : List ℕ)
    → AllByRecursion (DoesNotBringIn s.old) rs → NoLicenceComesBack rs → Left s value
    → licence_amended rs value ≡ Some result → Left s result
left_by_later s [] value result none back left e = subst (Left s) (amended_none value result e) left
left_by_later s (r ∷ rs) value result none back left e =
    let parts = amended_parts r rs value result e in
    left_by_later s rs parts.0 result none.1 back.2
    (left_still r value parts.0 back.0 s none.0 left (becomes r value parts.0 parts.1)) parts.2

left_by_all : (rs : List Replacement) (value result : List ℕ) → NoLicenceComesBack rs
    → licence_amended rs value ≡ Some result → AllByRecursion (λ s. Left s result) rs
left_by_all [] value result back e = tt
left_by_all (r ∷ rs) value result back e =
    let parts = amended_parts r rs value result e in (
      left_by_later r rs parts.0 result back.1.1 back.2
          (left_made r value parts.0 back.0 back.1.0 (becomes r value parts.0 parts.1)) parts.2,
      left_by_all rs parts.0 result back.2 parts.2,
    )

all_stay : (rs : List Replacement) (value : List ℕ) → AllByRecursion (λ s. Left s value) rs
    → licence_amended rs value ≡ Some value
unfolding licence_amended
all_stay [] value h = refl
all_stay (r ∷ rs) value h = ap (option_and_then (licence_amended rs)) (left_stays r value h.0) ∙ all_stay rs value h.1

pub licence_again : (rs : List Replacement) (value result : List ℕ) → NoLicenceComesBack rs
    → licence_amended rs value ≡ Some result → licence_amended rs result ≡ Some result
licence_again rs value result back e = all_stay rs result (left_by_all rs value result back e)
