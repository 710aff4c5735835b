use Rattle.std.proofs.Common.{refl}
use Rattle.reuse_disk.proofs.LeftLemmas.{clears_none}
use Rattle.reuse_folder.proofs.folder.RootFolder.clear_left.Goals as goal

pub returns-then-is_over-clause-clears : goal.returns-then-is_over-clause-clears
returns-then-is_over-clause-clears g c = clears_none _ _ _ _ _ _ refl refl

pub returns-clause-clears : goal.returns-clause-clears
returns-clause-clears g c = c.clear.ensures.cleared c.args.self.now.opened
