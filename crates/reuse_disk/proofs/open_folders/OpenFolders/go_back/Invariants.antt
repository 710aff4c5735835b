use Rattle.std.proofs.Common.{◌≡◌, length}
use Rattle.std.specs.List.{All}
use Rattle.reuse_system.specs.Folders.{Folders}
use Rattle.reuse_disk.proofs.OpenFoldersLemmas.{IsAt}
use Rattle.reuse_disk.proofs.open_folders.OpenFolders.go_back.Given as goal

-- each turn closes a folder, and those that are left are open still
abbrev pub invariant-loop-self : goal.invariant-loop-self
invariant-loop-self g l =
    (l.self.root ≡ l.initial.self.root) ×
    ((folders : Folders) → All (IsAt folders) l.initial.self.steps.items → All (IsAt folders) l.self.steps.items)

abbrev pub decreases-loop-self : goal.decreases-loop-self
decreases-loop-self g l = length l.self.steps.items
