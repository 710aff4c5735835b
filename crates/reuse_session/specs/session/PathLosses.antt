-- What a loss of power may leave at each path.
use Rattle.std.specs.Prelude.{◌≡◌, ◌⊎◌, ℕ, List, Option, None, Some}
use Rattle.std.specs.FinMap.{get}
use Rattle.reuse_change.specs.Files.{Files}
use Rattle.reuse_session.specs.session.Machine.{Snapshots}

-- it is the file of the state at the path; or, behind an interrupted call, that of the next state
abbrev pub IsFileOf : Snapshots → Option Snapshots → List ℕ → Option (List ℕ) → Type 0
IsFileOf state None path file = file ≡ get state.tree path
IsFileOf state (Some next) path file = (file ≡ get state.tree path) ⊎ (file ≡ get next.tree path)

-- so it is at each path of the tree
abbrev pub IsTreeOf : Snapshots → Option Snapshots → Files → Type 0
IsTreeOf state next tree = (path : List ℕ) → IsFileOf state next path (get tree path)
