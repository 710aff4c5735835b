use Rattle.std.proofs.Common.{◌≡◌, length}
use Rattle.std.specs.List.{All}
use Rattle.reuse_system.specs.Folders.{Folders}
use Rattle.reuse_disk.proofs.OpenFoldersLemmas.{IsAt, last_step}
use Rattle.reuse_disk.proofs.open_folders.OpenFolders.keep_last.Given as goal

-- each turn closes the first folder: the last stays, and those that are left are open still
abbrev pub invariant-loop-self : goal.invariant-loop-self
invariant-loop-self l =
    (l.self.root ≡ l.initial.self.root) ×
    (last_step l.self.steps.items ≡ last_step l.initial.self.steps.items) ×
    ((folders : Folders) → All (IsAt folders) l.initial.self.steps.items → All (IsAt folders) l.self.steps.items)

abbrev pub decreases-loop-self : goal.decreases-loop-self
decreases-loop-self l = length l.self.steps.items
