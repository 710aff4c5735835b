use Rattle.std.proofs.Common.{ap, sym, filter, ◌∙◌}
use Rattle.reuse_store.specs.FileMap.{files_in}
use Rattle.reuse_change.specs.Listing.{is_wanted, listed_paths}
use Rattle.reuse_store.proofs.Contents.{no_paths}
use Rattle.reuse_store.proofs.memory.MemoryStoreStore.list.Goals as goal

pub returns-in-None-clause-paths : goal.returns-in-None-clause-paths
returns-in-None-clause-paths g c honest =
    let prunes = g.P.Pruning.prunes c.args.pruning.now in
    c.new.ensures.items ∙ ap (filter (is_wanted c.args.folders.now prunes)) (sym no_paths)
    ∙ ap (λ files. listed_paths (files_in files) c.args.folders.now prunes) (sym c.in-None.is)
