-- What each answer says of the two ends of a change: B, that the file is before it, and A, that it is after it.
use Rattle.std.proofs.Common.{◌≡◌, ◌↔◌, refl}
use Rattle.reuse_change.specs.declared.change.ChangeState.TheVariants.{Before, After, Neither}

before≢after : Before ≡ After → ⊥
before≢after is = cc

pub after≢before : After ≡ Before → ⊥
after≢before is = cc

after≢neither : After ≡ Neither → ⊥
after≢neither is = cc

pub neither≢before : Neither ≡ Before → ⊥
neither≢before is = cc

pub neither≢after : Neither ≡ After → ⊥
neither≢after is = cc

pub after_before : {B : Type 0} → ¬ B → (After ≡ Before) ↔ B
after_before not_before = (λ is. absurd (after≢before is), λ before. absurd (not_before before))

pub neither_before : {B : Type 0} → ¬ B → (Neither ≡ Before) ↔ B
neither_before not_before = (λ is. absurd (neither≢before is), λ before. absurd (not_before before))

module _ {A B : Type 0} where
  pub before_after : B → (Before ≡ After) ↔ (A × ¬ B)
  before_after before = (λ is. absurd (before≢after is), λ ends. absurd (ends.1 before))

  pub after_after : A → ¬ B → (After ≡ After) ↔ (A × ¬ B)
  after_after after not_before = (λ _. (after, not_before), λ _. refl)

  pub after_neither : A → (After ≡ Neither) ↔ (¬ A × ¬ B)
  after_neither after = (λ is. absurd (after≢neither is), λ ends. absurd (ends.0 after))

  pub neither_after : ¬ A → (Neither ≡ After) ↔ (A × ¬ B)
  neither_after not_after = (λ is. absurd (neither≢after is), λ ends. absurd (not_after ends.0))

  pub neither_neither : ¬ A → ¬ B → (Neither ≡ Neither) ↔ (¬ A × ¬ B)
  neither_neither not_after not_before = (λ _. (not_after, not_before), λ _. refl)
