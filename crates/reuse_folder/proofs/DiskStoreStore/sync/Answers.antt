use Rattle.std.proofs.Common.{sym, subst, arith, OnOk}
use Rattle.std.proofs.lemmas.Grind.{common_steps}
use Rattle.reuse_change.specs.Files.{Files}
use Rattle.reuse_store.specs.Durable.{DurableAfterBarrier}
use Rattle.reuse_store.specs.declared.record.StoreCalls.{StoreCalls}
use Rattle.reuse_folder.specs.Honesty.{files_of, IsHonest, IsCrashState}
use Rattle.reuse_folder.proofs.LeftBySyncs.{no_more, certain}
use Rattle.reuse_folder.proofs.DiskStoreStore.sync.Goals as goal

pub returns-clause-barrier : goal.returns-clause-barrier
returns-clause-barrier g c =
    let was = c.args.self.now.calls in
    let changes = c.args.changes.now in record {
      kept = λ honest other. subst (λ (noted : StoreCalls). IsHonest noted.start noted.calls) (sym c.note_sync.ensures)
          (other, honest);
      ok = subst (λ (noted : StoreCalls). OnOk c.map_err-answer.result
          ((left : Files) → IsCrashState noted.start noted.initial_crash_states noted.calls left
          → (kept : Files) × IsCrashState was.start was.initial_crash_states was.calls kept
          × DurableAfterBarrier changes (files_of noted.start noted.calls) kept left))
          (sym c.note_sync.ensures)
          (certain was.start was.initial_crash_states was.calls changes c.map_err-answer.result);
    }

pub returns-clause-reads : goal.returns-clause-reads
returns-clause-reads g c =
    let was = c.args.self.now.calls in record {
      was_honest = grind (arith, common_steps);
      files = grind (arith, common_steps);
      may = λ left is.
          no_more was.start was.initial_crash_states was.calls c.args.changes.now c.map_err-answer.result left
          (subst (λ (noted : StoreCalls). IsCrashState noted.start noted.initial_crash_states noted.calls left)
          c.note_sync.ensures is);
      failures = grind (arith, common_steps);
      written = grind (arith, common_steps);
      mutations = grind (arith, common_steps);
    }
