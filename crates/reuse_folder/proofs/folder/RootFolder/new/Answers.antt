use Rattle.reuse_folder.proofs.folder.RootFolder.new.Goals as goal

pub invariant_of-result : goal.invariant_of-result
invariant_of-result g c = record {
  opened = λ honest. c.new-open_folders.ensures.opened (g.S.System.folders c.args.system);
  home = λ honest. tt;
}
