use Rattle.std.proofs.Common.{◌≡◌}
use Rattle.reuse_folder.proofs.folder.RootFolder.list.Given as goal

abbrev pub invariant-loop-index : goal.invariant-loop-index
invariant-loop-index g l = l.self.unsynced ≡ l.fn.self.unsynced
