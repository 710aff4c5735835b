-- Tokens that can stand side by side in an expression.
use Rattle.std.proofs.Common.{◌≡◌, ℕ, zero, suc, Bool, true, false, List, ◌∷◌, ◌++◌, Option, Some, None, refl, sym}
use Rattle.std.proofs.Common.{ap, ◌∙◌, inl, inr, ◌⊎◌}
use Rattle.reuse_notice.specs.declared.expressions.Token.{Token}
use Rattle.reuse_notice.specs.declared.expressions.Token.TheVariants.{Open, Close, Operator, With, Identifier, Stray}
use Rattle.reuse_notice.specs.ExpressionSteps.{State, state, step_of}
use Rattle.reuse_notice.specs.ExpressionSteps as steps
use Rattle.reuse_notice.proofs.GrammarLemmas.{run, run_next, run-append}

abbrev pub Passes : List Token → Type 0
Passes ts = (from : State) × (to : State) × (run from ts ≡ Some to)

pub passes_both : (xs ys : List Token) → Passes (xs ++ ys) → Passes xs × Passes ys
passes_both xs ys (from, to, e) = by (run from xs) refl (sym (run-append xs ys from) ∙ e)
  where
    by : (o : Option State) → run from xs ≡ o → run_next o (λ next. run next ys) ≡ Some to → Passes xs × Passes ys
    by None is e' = absurd (cc e')
    by (Some next) is e' = ((from, next, is), (next, to, e'))

-- no exception stands behind parentheses
pub close_with : (ts : List Token) → Passes (Close ∷ With ∷ ts) → ⊥
unfolding run
close_with ts (from, to, e) = by from.depth from.phase e
  where
    by : (depth : ℕ) (phase : steps.Phase)
        → run_next (step_of (state depth phase) Close) (λ n. run_next (step_of n With) (λ m. run m ts)) ≡ Some to → ⊥
    by zero steps.Operand e' = cc e'
    by zero steps.Licence e' = cc e'
    by zero steps.Exception e' = cc e'
    by zero steps.Closed e' = cc e'
    by (suc depth) steps.Operand e' = cc e'
    by (suc depth) steps.Licence e' = cc e'
    by (suc depth) steps.Exception e' = cc e'
    by (suc depth) steps.Closed e' = cc e'

-- nor behind another
pub with_twice : (ts : List Token) → Passes (With ∷ Identifier false ∷ With ∷ ts) → ⊥
unfolding run
with_twice ts (from, to, e) = by from.depth from.phase e
  where
    by : (depth : ℕ) (phase : steps.Phase) → run_next (step_of (state depth phase) With)
        (λ n. run_next (step_of n (Identifier false)) (λ m. run_next (step_of m With) (λ k. run k ts))) ≡ Some to → ⊥
    by zero steps.Operand e' = cc e'
    by zero steps.Licence e' = cc e'
    by zero steps.Exception e' = cc e'
    by zero steps.Closed e' = cc e'
    by (suc depth) steps.Operand e' = cc e'
    by (suc depth) steps.Licence e' = cc e'
    by (suc depth) steps.Exception e' = cc e'
    by (suc depth) steps.Closed e' = cc e'

-- and it has no +
pub with_plus : (plus : Bool) (ts : List Token) → Passes (With ∷ Identifier plus ∷ ts) → plus ≡ false
unfolding run
with_plus false ts h = refl
with_plus true ts (from, to, e) = absurd (by from.depth from.phase e)
  where
    by : (depth : ℕ) (phase : steps.Phase) → run_next (step_of (state depth phase) With)
        (λ n. run_next (step_of n (Identifier true)) (λ m. run m ts)) ≡ Some to → ⊥
    by zero steps.Operand e' = cc e'
    by zero steps.Licence e' = cc e'
    by zero steps.Exception e' = cc e'
    by zero steps.Closed e' = cc e'
    by (suc depth) steps.Operand e' = cc e'
    by (suc depth) steps.Licence e' = cc e'
    by (suc depth) steps.Exception e' = cc e'
    by (suc depth) steps.Closed e' = cc e'

none_behind : (plus : Bool) (t : Token) (ts : List Token) (depth : ℕ) (phase : steps.Phase) (to : State)
    → ((d : ℕ) → step_of (state d steps.Licence) t ≡ None) → ((d : ℕ) → step_of (state d steps.Closed) t ≡ None)
    → run_next (step_of (state depth phase) (Identifier plus))
    (λ n. run_next (step_of n t) (λ m. run m ts)) ≡ Some to → ⊥
none_behind plus t ts depth steps.Operand to f g e =
    let e' = sym (ap (λ o. run_next o (λ m. run m ts)) (f depth)) ∙ e in cc e'
none_behind false t ts depth steps.Exception to f g e =
    let e' = sym (ap (λ o. run_next o (λ m. run m ts)) (g depth)) ∙ e in cc e'
none_behind true t ts depth steps.Exception to f g e = cc e
none_behind plus t ts zero steps.Licence to f g e = cc e
none_behind plus t ts (suc depth) steps.Licence to f g e = cc e
none_behind plus t ts zero steps.Closed to f g e = cc e
none_behind plus t ts (suc depth) steps.Closed to f g e = cc e

-- behind a licence or an exception stands WITH, an operator or a parenthesis that closes
pub behind_name : (plus : Bool) (t : Token) (ts : List Token) → Passes (Identifier plus ∷ t ∷ ts)
    → (t ≡ With) ⊎ ((t ≡ Operator) ⊎ (t ≡ Close))
unfolding run
behind_name plus With ts h = inl refl
behind_name plus Operator ts h = inr (inl refl)
behind_name plus Close ts h = inr (inr refl)
behind_name plus Open ts (from, to, e) =
    absurd (none_behind plus Open ts from.depth from.phase to (λ d. refl) (λ d. refl) e)
behind_name plus (Identifier other) ts (from, to, e) =
    absurd (none_behind plus (Identifier other) ts from.depth from.phase to (λ d. refl) (λ d. refl) e)
behind_name plus Stray ts (from, to, e) =
    absurd (none_behind plus Stray ts from.depth from.phase to (λ d. refl) (λ d. refl) e)
