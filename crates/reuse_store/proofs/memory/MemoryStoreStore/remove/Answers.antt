use Rattle.std.proofs.Common.{inr, rules, refl, ◌∙◌}
use Rattle.reuse_store.specs.FileMap.{files_in}
use Rattle.reuse_store.proofs.memory.MemoryStoreStore.remove.Goals as goal

pub returns-clause-removes : goal.returns-clause-removes
returns-clause-removes c = record {
  kept = search rules;
  ok = search rules;
  err = search rules;
  may = λ left is. inr (files_in c.args.self.now.files, refl, is ∙ c.forget.ensures.files);
  device = search rules;
  written = search rules;
  mutations = search rules;
}
