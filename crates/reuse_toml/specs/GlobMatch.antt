-- Which paths a glob matches (REUSE Specification 3.3, "REUSE.toml").
-- A path is the list of its characters.
use Rattle.std.specs.Prelude.{◌≡◌, ◌≢◌, ◌==◌, ◌&&◌, ℕ, Bool, false, List, [], ◌∷◌, ◌++◌, length, if◌then◌else◌}
use Rattle.std.specs.List.{list_any}
use Rattle.reuse_toml.specs.declared.glob.GlobPiece.{GlobPiece}
use Rattle.reuse_toml.specs.declared.glob.GlobPiece.TheVariants.{Literal, RunInPart, AnyRun}

-- no character of the run is `/`
abbrev pub HasNoSlash : List ℕ → Type 0
HasNoSlash [] = Unit {0}
HasNoSlash (c ∷ run) = (c ≢ 47) × HasNoSlash run

-- the pieces, one after the other, match the whole path
abbrev pub GlobMatches : List GlobPiece → List ℕ → Type 0
GlobMatches [] path = path ≡ []
GlobMatches (Literal c ∷ pieces) path = (rest : List ℕ) × (path ≡ c ∷ rest) × GlobMatches pieces rest
GlobMatches (RunInPart ∷ pieces) path =
    (run rest : List ℕ) × (path ≡ run ++ rest) × HasNoSlash run × GlobMatches pieces rest
GlobMatches (AnyRun ∷ pieces) path = (run rest : List ℕ) × (path ≡ run ++ rest) × GlobMatches pieces rest

-- what can stand behind a run at the front of a path: the path and each of its tails; behind a run without `/` only as
-- far as the
-- first `/`
abbrev pub tails : List ℕ → List (List ℕ)
tails [] = [] ∷ []
tails (c ∷ path) = (c ∷ path) ∷ tails path

abbrev pub tails_in_part : List ℕ → List (List ℕ)
tails_in_part [] = [] ∷ []
tails_in_part (c ∷ path) = (c ∷ path) ∷ (if c == 47 then [] else tails_in_part path)

-- whether the pieces match the whole path, as a test
abbrev pub matches_glob : List GlobPiece → List ℕ → Bool
matches_glob [] path = length path == 0
matches_glob (Literal c ∷ pieces) [] = false
matches_glob (Literal c ∷ pieces) (d ∷ path) = (c == d) && matches_glob pieces path
matches_glob (RunInPart ∷ pieces) path = list_any (matches_glob pieces) (tails_in_part path)
matches_glob (AnyRun ∷ pieces) path = list_any (matches_glob pieces) (tails path)
