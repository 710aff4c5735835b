-- What an output took.
use Rattle.std.specs.Prelude.{◌≡◌, ℕ, List, ◌++◌, Result, MatchResult, take}

-- the text, behind what it took before
abbrev pub Adds : List ℕ → List ℕ → List ℕ → Type 0
Adds old new text = new ≡ old ++ text

-- some front part of the text
abbrev pub AddsFront : List ℕ → List ℕ → List ℕ → Type 0
AddsFront old new text = (front : List ℕ) × (rest : List ℕ) × (text ≡ front ++ rest) × Adds old new front

-- one of these texts
abbrev pub AddsSome : List ℕ → List ℕ → (List ℕ → Type 0) → Type 0
AddsSome old new IsText = (text : List ℕ) × (IsText text × Adds old new text)

-- as many bytes of a text as it answers, from the front on, or none if it failed
abbrev pub Takes : {E : Type 0} → List ℕ → List ℕ → Result ℕ E → List ℕ → Type 0
Takes old new answer text = MatchResult answer (λ count. Adds old new (take count text)) (λ fault. new ≡ old)
