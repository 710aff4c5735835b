-- The name of a path in the folder that it lies in.
use Rattle.std.specs.Prelude.{◌≡◌, ◌≢◌, ◌⊎◌, ℕ, ◌<◌, List, [], ◌∷◌, ◌++◌, length, slice_index, ◌==◌}
use Rattle.std.specs.List.{slice_split}

-- what stands behind the last slash, or all where there is none
pub record IsNameOf (path name : List ℕ) : Type 0 where
  pub behind : (name ≡ path) ⊎ ((folder : List ℕ) × (path ≡ folder ++ 47 ∷ name))
  pub last : (i : ℕ) → i < length name → slice_index name i ≢ 47

-- the folder that a path lies in, which is empty for the root, and the name there
pub record IsSplit (path folder name : List ℕ) : Type 0 where
  pub parts : ((folder ≡ []) × (name ≡ path)) ⊎ (path ≡ folder ++ 47 ∷ name)
  pub last : (i : ℕ) → i < length name → slice_index name i ≢ 47

-- what stands between two slashes
abbrev pub between_slashes : List ℕ → List (List ℕ)
between_slashes path = slice_split (λ byte. byte == 47) path
