-- Tests of bytes that a closure makes (this project's own).
use Rattle.std.specs.Prelude.{◌≡◌, ℕ, Bool}

-- a closure's answers at bytes are those of a test
abbrev pub IsTest : (ℕ → Bool → Type 0) → (ℕ → Bool) → Type 0
IsTest post test = (b : ℕ) (answer : Bool) → post b answer → answer ≡ test b
