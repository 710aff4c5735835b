-- Items at the places of a list.
use Rattle.std.proofs.Common.{◌≡◌, ◌⊎◌, ◌<◌, ◌+◌, inl, inr, ℕ, zero, suc, Bool, true, false, nat_lt, List, [], ◌∷◌}
use Rattle.std.proofs.Common.{length, get_or, refl, sym, ◌∙◌, arith, true≢false}
use Rattle.std.proofs.lemmas.Bool.Decides.{Decides-ltb}

pub same_at : {X : Type 0} (xs : List X) (k : ℕ) (x y : X) → k < length xs → x ≡ get_or xs k x
    → y ≡ get_or xs k y → x ≡ y
same_at [] k x y short one other = absurd (omega (arith, short))
same_at (z ∷ zs) zero x y short one other = one ∙ sym other
same_at (z ∷ zs) (suc k) x y short one other = same_at zs k x y (omega (arith, short)) one other

pub front_or_last : (k n : ℕ) → k < n + 1 → (k < n) ⊎ (k ≡ n)
front_or_last k n short = by (nat_lt k n) refl
  where
    by : (b : Bool) → nat_lt k n ≡ b → (k < n) ⊎ (k ≡ n)
    by true is = inl ((Decides-ltb k n).0 is)
    by false is = inr (omega (arith, short, λ (less : k < n). true≢false (sym ((Decides-ltb k n).1 less) ∙ is)))
