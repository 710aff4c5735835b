use Rattle.reuse_folder.specs.Honesty.{files_of}
use Rattle.reuse_folder.proofs.PrunedFolders.{pruned_in}
use Rattle.reuse_folder.proofs.DiskStoreStore.list.Given as goal

-- the folders of the files that are pruned
abbrev pub ghost-note_listing : goal.ghost-note_listing
ghost-note_listing g a = pruned_in (files_of a.calls.now.start a.calls.now.calls) (g.P.Pruning.prunes a._pruning.now)
