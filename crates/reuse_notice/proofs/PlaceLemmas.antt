-- The place of a fault is one, and it is the one that the check answers.
use Rattle.std.proofs.Common.{◌≡◌, ◌↔◌, ℕ, List, [], ◌∷◌, ◌++◌, length, Option, Some, None, refl, sym, ap, ◌∙◌, subst}
use Rattle.std.proofs.Common.{append_assoc, inl, inr, ◌⊎◌}
use Rattle.reuse_notice.specs.declared.expressions.Token.{Token}
use Rattle.reuse_notice.specs.Expressions.{BeginsExpression, IsExpressionText, IsExpression, kinds_of, tokens_of}
use Rattle.reuse_notice.specs.Expressions.{StopsAt, EndsSoon, FaultIsAt}
use Rattle.reuse_notice.specs.ExpressionSteps.{fault_of}
use Rattle.reuse_notice.proofs.VerdictLemmas.{map-append, whole_goes_on, FaultOf, answered}

-- of two elements of a list, the first stands before the second, or they are one, or the second before the first
abbrev IsBehind : {A : Type 0} → List A → A → List A → Type 0
IsBehind before x other = (more : List _) × (other ≡ before ++ x ∷ more)

in_order : {A : Type 0} (left : List A) (x : A) (behind_x : List A) (right : List A) (y : A) (behind_y : List A)
    → left ++ x ∷ behind_x ≡ right ++ y ∷ behind_y
    → IsBehind left x right ⊎ ((x ≡ y) ⊎ IsBehind right y left)
in_order [] x behind_x [] y behind_y e = inr (inl cc)
in_order [] x behind_x (z ∷ right) y behind_y e = let same : x ≡ z = cc in inl (right, ap (λ w. w ∷ right) (sym same))
in_order (z ∷ left) x behind_x [] y behind_y e = let same : z ≡ y = cc in inr (inr (left, ap (λ w. w ∷ left) same))
in_order (z ∷ left) x behind_x (w ∷ right) y behind_y e =
    let head : z ≡ w = cc in
    let tail : left ++ x ∷ behind_x ≡ right ++ y ∷ behind_y = cc in
    elim (in_order left x behind_x right y behind_y tail) [
      | inl b ↦ inl (b.0, ap (λ q. w ∷ q) b.1 ∙ ap (λ q. q ∷ left ++ x ∷ b.0) (sym head))
      | inr rest ↦
          elim rest [
            | inl same ↦ inr (inl same)
            | inr b ↦ inr (inr (b.0, ap (λ q. z ∷ q) b.1 ∙ ap (λ q. q ∷ right ++ y ∷ b.0) head))
          ]
    ]

-- no expression begins with tokens behind a stop
not_behind : (before : List (ℕ × Token)) (t : ℕ × Token) (other : List (ℕ × Token))
    → (BeginsExpression (kinds_of before ++ t.1 ∷ []) → ⊥) → IsBehind before t other
    → BeginsExpression (kinds_of other) → ⊥
not_behind before t other stops b begins =
    stops (kinds_of b.0 ++ begins.0, subst IsExpression joined begins.1)
  where
    joined : kinds_of other ++ begins.0 ≡ (kinds_of before ++ t.1 ∷ []) ++ (kinds_of b.0 ++ begins.0)
    joined =
        ap (λ ts. kinds_of ts ++ begins.0) b.1 ∙ ap (λ ts. ts ++ begins.0) (map-append before (t ∷ b.0))
        ∙ append_assoc (kinds_of before) (t.1 ∷ kinds_of b.0) begins.0
        ∙ sym (append_assoc (kinds_of before) (t.1 ∷ []) (kinds_of b.0 ++ begins.0))

stops_once : (tokens : List (ℕ × Token)) (place other : ℕ) → StopsAt tokens place → StopsAt tokens other → place ≡ other
stops_once tokens place other a b =
    elim (in_order a.before (place, a.token) a.after b.before (other, b.token) b.after (sym a.is ∙ b.is)) [
      | inl behind ↦ absurd (not_behind a.before (place, a.token) b.before a.stops behind b.begins)
      | inr rest ↦
          elim rest [
            | inl same ↦ ap (λ t. t.0) same
            | inr behind ↦ absurd (not_behind b.before (other, b.token) a.before b.stops behind a.begins)
          ]
    ]

-- tokens that stop don't end too soon
no_end : (tokens : List (ℕ × Token)) (place : ℕ) → StopsAt tokens place → EndsSoon tokens → ⊥
no_end tokens place s e = not_behind s.before (place, s.token) tokens s.stops (s.after, s.is) e.begins

faults_once : (tokens : List (ℕ × Token)) (end place other : ℕ) → FaultOf tokens end place
    → FaultOf tokens end other → place ≡ other
faults_once tokens end place other (inl a) (inl b) = stops_once tokens place other a b
faults_once tokens end place other (inl a) (inr b) = absurd (no_end tokens place a b.1)
faults_once tokens end place other (inr a) (inl b) = absurd (no_end tokens other b a.1)
faults_once tokens end place other (inr a) (inr b) = a.0 ∙ sym b.0

pub one_fault : (text : List ℕ) (place other : ℕ) → FaultIsAt text place → FaultIsAt text other → place ≡ other
one_fault text place other a b = faults_once (tokens_of text) (length text) place other a b

-- an expression has no fault
whole_text : (text : List ℕ) (place : ℕ) → FaultIsAt text place → IsExpressionText text → ⊥
whole_text text place (inl s) e =
    whole_goes_on s.before (place, s.token) s.after s.stops (subst (λ ts. IsExpression (kinds_of ts)) s.is e)
whole_text text place (inr s) e = s.1.lacks e

pub none_exactly : (text : List ℕ) → (fault_of text ≡ None) ↔ IsExpressionText text
none_exactly text = (λ e. answered text (length text) None (sym e), by_answer (fault_of text) refl)
  where
    by_answer : (o : Option ℕ) → fault_of text ≡ o → IsExpressionText text → o ≡ None
    by_answer None e is = refl
    by_answer (Some place) e is = absurd ((answered text (length text) (Some place) (sym e)).0 is)

pub place_exactly : (text : List ℕ) (place : ℕ) → (fault_of text ≡ Some place) ↔ FaultIsAt text place
place_exactly text place = (λ e. (answered text (length text) (Some place) (sym e)).1, by_answer (fault_of text) refl)
  where
    by_answer : (o : Option ℕ) → fault_of text ≡ o → FaultIsAt text place → o ≡ Some place
    by_answer None e fault = absurd (whole_text text place fault (answered text (length text) None (sym e)))
    by_answer (Some found) e fault =
        ap (λ n. Some n) (one_fault text found place (answered text (length text) (Some found) (sym e)).1 fault)
