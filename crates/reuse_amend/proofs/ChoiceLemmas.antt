-- What is known of an option that holds something.
use Rattle.std.proofs.Common.{◌≡◌, Bool, true, false, cond, Option, Some, None, refl, inl, inr, ◌⊎◌}
use Rattle.std.specs.Option.{option_map, option_and_then, option_or}

pub not_some : {X : Type 0} (x : X) → None ≡ Some x → ⊥
not_some x e = cc e

module _ {A B : Type 0} where
  -- what was there before it became something
  pub was_some : (f : A → B) (o : Option A) (y : B) → option_map f o ≡ Some y → (x : A) × (o ≡ Some x) × (f x ≡ y)
  was_some f None y e = absurd (not_some y e)
  was_some f (Some x) y e = (x, refl, cc e)

  pub then_some : (f : A → Option B) (o : Option A) (y : B) → option_and_then f o ≡ Some y
      → (x : A) × (o ≡ Some x) × (f x ≡ Some y)
  then_some f None y e = absurd (not_some y e)
  then_some f (Some x) y e = (x, refl, e)

-- one of two
pub either_some : {A : Type 0} (o p : Option A) (y : A) → option_or o p ≡ Some y → (o ≡ Some y) ⊎ (p ≡ Some y)
either_some None p y e = inr e
either_some (Some x) p y e = inl e

-- what is there only if a test passes
pub if_some : {A : Type 0} (t : Bool) (o : Option A) (y : A) → cond t o None ≡ Some y → (t ≡ true) × (o ≡ Some y)
if_some true o y e = (refl, e)
if_some false o y e = absurd (not_some y e)
