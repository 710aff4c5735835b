use Rattle.reuse_store.specs.FileMap.{files_in}
use Rattle.reuse_store.proofs.Durable.{certain_alone}
use Rattle.reuse_store.proofs.memory.MemoryStoreStore.sync.Goals as goal

pub returns-clause-barrier : goal.returns-clause-barrier
returns-clause-barrier c = record {
  kept = λ honest answer. honest;
  ok = λ left is. (left, is, certain_alone c.args._changes.now (files_in c.args.self.now.files) left is);
}
