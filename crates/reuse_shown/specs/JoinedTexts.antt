-- Texts one behind another, and what a writer was given of them.
use Rattle.std.specs.Prelude.{◌≡◌, ℕ, List, [], ◌∷◌, ◌++◌, Option}
use Rattle.std.specs.Io.KnownBytes.{Appends}

-- a text of each, one after the other
abbrev pub AreJoined : {A : Type 0} → (A → List ℕ → Type 0) → List A → List ℕ → Type 0
AreJoined IsText [] text = text ≡ []
AreJoined IsText (one ∷ others) text =
    (line : List ℕ) × ((rest : List ℕ) × (IsText one line × (AreJoined IsText others rest × (text ≡ line ++ rest))))

-- the writer, if it reports its bytes, was given such a text
abbrev pub AppendsSome : Option (List ℕ) → Option (List ℕ) → (List ℕ → Type 0) → Type 0
AppendsSome old new IsText = (text : List ℕ) × (IsText text × Appends old new text)
