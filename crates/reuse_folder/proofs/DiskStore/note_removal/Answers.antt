use Rattle.std.proofs.Common.{subst, arith}
use Rattle.std.proofs.lemmas.Grind.{common_steps}
use Rattle.reuse_store.specs.declared.record.StoreCalls.{StoreCalls}
use Rattle.reuse_folder.specs.Honesty.{IsCrashState}
use Rattle.reuse_folder.proofs.DiskStore.note_removal.Goals as goal

pub returns-clause-removes : goal.returns-clause-removes
returns-clause-removes g c =
    let one_more = rw c.note_answer-answer.ensures.calls at c.note_remove.ensures in record {
      kept = grind (arith, common_steps);
      ok = grind (arith, common_steps);
      err = grind (arith, common_steps);
      may = λ left is. subst (λ (noted : StoreCalls). IsCrashState noted.start noted.initial_crash_states noted.calls left)
          one_more is;
      device = grind (arith, common_steps);
      written = grind (arith, common_steps);
      mutations = grind (arith, common_steps);
    }
