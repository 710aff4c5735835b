-- Changes that are made one after the other.
use Rattle.std.specs.Prelude.{◌≡◌, List, [], ◌∷◌}
use Rattle.reuse_change.specs.Files.{Files}
use Rattle.reuse_change.specs.Change.{Leads}
use Rattle.reuse_change.specs.declared.change.Change.{Change}

-- each change leads on from the tree to which the changes before it lead
abbrev pub LeadsInTurn : List Change → Files → Files → Type 0
LeadsInTurn [] before after = after ≡ before
LeadsInTurn (change ∷ changes) before after =
    (between : Files) × Leads change before between × LeadsInTurn changes between after
