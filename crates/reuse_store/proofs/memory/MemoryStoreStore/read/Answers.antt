use Rattle.std.proofs.Common.{ap, sym, ◌∙◌}
use Rattle.std.specs.FinMap.{get}
use Rattle.reuse_store.specs.FileMap.{files_in}
use Rattle.reuse_store.specs.Store.{reading_of}
use Rattle.reuse_store.proofs.Contents.{nothing_read}
use Rattle.reuse_store.proofs.memory.MemoryStoreStore.read.Goals as goal

pub returns-in-None-clause-reading : goal.returns-in-None-clause-reading
returns-in-None-clause-reading c honest =
    nothing_read c.args.path.now c.args.limit
    ∙ ap (λ files. reading_of (get (files_in files) c.args.path.now) c.args.limit) (sym c.in-None.is)
