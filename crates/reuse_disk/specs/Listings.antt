-- What a listing takes in.
use Rattle.std.specs.Prelude.{ℕ, Bool, true, false, not, ◌||◌, ◌&&◌, ◌==◌, List, [], ◌∷◌, ◌++◌, length}
use Rattle.reuse_system.specs.Ignored.{is_folder_ignored}

-- the root is always looked at; another folder if it is part of the tree and isn't pruned
abbrev pub is_looked_at : (is_pruned : Bool) → (folder : List ℕ) → Bool
is_looked_at is_pruned folder = length folder == 0 || (not (is_folder_ignored folder) && not is_pruned)

-- another folder is passed over if it is part of the tree and is pruned
abbrev pub is_passed_over : (is_pruned : Bool) → (folder : List ℕ) → Bool
is_passed_over is_pruned folder = not (length folder == 0) && not (is_folder_ignored folder) && is_pruned

-- these texts, and this one behind them if it is taken
abbrev pub with_if : (is_taken : Bool) → (texts : List (List ℕ)) → List ℕ → List (List ℕ)
with_if true texts text = texts ++ text ∷ []
with_if false texts text = texts
