use Rattle.std.proofs.Common.{sym, subst}
use Rattle.reuse_change.specs.Files.{AreFiles}
use Rattle.reuse_store.proofs.Contents.{one_removed}
use Rattle.reuse_store.proofs.GoodFiles.{remove_keeps}
use Rattle.reuse_store.proofs.file_map.FileMap.remove.Goals as goal

pub invariant_of-self : goal.invariant_of-self
invariant_of-self c = record {
  are_files = subst AreFiles (sym (one_removed c.args.self.now.contents.entries c.remove.new.self.entries
      c.args.path.now c.remove.ensures.updates.0)) (remove_keeps _ _ c.args.self.now.are_files);
}

pub returns : goal.returns
returns c =
    one_removed c.args.self.now.contents.entries c.remove.new.self.entries c.args.path.now c.remove.ensures.updates.0
