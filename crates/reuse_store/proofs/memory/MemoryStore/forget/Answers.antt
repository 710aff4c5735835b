use Rattle.std.proofs.Common.{◌≡◌, sym, subst}
use Rattle.std.specs.FinMap.{remove}
use Rattle.reuse_store.specs.FileMap.{files_in}
use Rattle.reuse_store.proofs.Contents.{nothing_removed}
use Rattle.reuse_store.proofs.memory.MemoryStore.forget.Goals as goal

pub returns-in_default-clause-files : goal.returns-in_default-clause-files
returns-in_default-clause-files c =
    let path = c.args.path.now in
    subst (λ files. files_in files ≡ remove (files_in files) path) (sym c.in_default.is) (nothing_removed path)
