use Rattle.std.proofs.Common.{rules}
use Rattle.reuse_store.specs.FileMap.{files_in}
use Rattle.reuse_change.specs.Parts.{joined}
use Rattle.reuse_store.proofs.Durable.{left_by_put}
use Rattle.reuse_store.proofs.memory.MemoryStoreStore.put_parts.Goals as goal

pub returns-clause-puts : goal.returns-clause-puts
returns-clause-puts c = record {
  kept = search rules;
  ok = search rules;
  err = search rules;
  may = λ left is. left_by_put c.make-answer.result (files_in c.args.self.now.files) _ left c.args.path.now
      (joined c.args.parts) c.make-answer.ensures.ok c.make-answer.ensures.err is;
  device = search rules;
  written = search rules;
  mutations = search rules;
}
