use Rattle.std.proofs.Common.{◌≡◌, false, is_some, take}
use Rattle.std.specs.List.{list_any}
use Rattle.reuse_lock.proofs.LockedFolders.error.Given as goal

abbrev pub invariant-loop-folder : goal.invariant-loop-folder
invariant-loop-folder l =
    list_any (λ folder. is_some folder.error) (take l.folder-index l.fn.self.folders.items) ≡ false
