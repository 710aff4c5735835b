use Rattle.std.proofs.Common.{rules}
use Rattle.reuse_folder.proofs.folder.RootFolder.list.Goals as goal

pub invariant_of-self-2 : goal.invariant_of-self-2
invariant_of-self-2 g c = record {
  opened = c.walk.ensures.enters.opened c.loop-index.self.opened;
  home = λ honest. tt;
}

pub invariant_of-self-in-Break-branch-3 : goal.invariant_of-self-in-Break-branch-3
invariant_of-self-in-Break-branch-3 g c = record {
  opened = c.walk.ensures.enters.opened c.loop-index.self.opened;
  home = λ honest. tt;
}
