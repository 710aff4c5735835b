-- The folders, the files and the effects that the contract is asked for. Of what names lead to no clause of the store
-- speaks: some start has to be picked, and this one claims nothing.
use Rattle.std.specs.Prelude.{[]}
use Rattle.reuse_folder.proofs.host_system.Given as goal

abbrev pub ghost-new : goal.ghost-new
ghost-new g a = record { folders = ((0, 0), ([], [])); files = []; effects = [] }
