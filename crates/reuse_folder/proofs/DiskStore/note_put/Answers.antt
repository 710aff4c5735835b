use Rattle.std.proofs.Common.{◌≡◌, sym, subst, arith}
use Rattle.std.specs.Result.{MatchResult}
use Rattle.std.proofs.lemmas.Grind.{common_steps}
use Rattle.reuse_store.specs.Calls.{took_effect}
use Rattle.reuse_change.specs.Files.{AreFiles, Clashes}
use Rattle.reuse_change.specs.Parts.{joined}
use Rattle.reuse_store.specs.declared.fault.StoreFault.TheVariants.{Clash}
use Rattle.reuse_store.specs.declared.record.StoreCalls.{StoreCalls}
use Rattle.reuse_folder.specs.Honesty.{files_of, IsHonest, IsCrashState}
use Rattle.reuse_folder.proofs.HonestFiles.{after_put}
use Rattle.reuse_folder.proofs.PutKept.{put_kept}
use Rattle.reuse_folder.proofs.DiskStore.note_put.Goals as goal

pub invariant_of-self : goal.invariant_of-self
invariant_of-self g c =
    let was = c.args.self.now.calls in
    let one_more = rw c.note_answer-answer.ensures.calls at c.note_put_parts.ensures in
    record {
      are_files = subst (λ (noted : StoreCalls). IsHonest noted.start noted.calls
          → AreFiles (files_of noted.start noted.calls)) (sym one_more)
          (λ honest. after_put c.files_stay_good.ensures.put (files_of was.start was.calls) c.args.path.now
          (joined c.args.parts) c.note_answer-answer.result (took_effect was.effects was.calls)
          (c.args.self.now.are_files honest.1) honest.0);
    }

pub returns-clause-puts : goal.returns-clause-puts
returns-clause-puts g c =
    let was = c.args.self.now.calls in
    let path = c.args.path.now in
    let files = files_of was.start was.calls in
    let one_more = rw c.note_answer-answer.ensures.calls at c.note_put_parts.ensures in
    record {
      kept = λ honest. subst (λ (noted : StoreCalls). MatchResult c.note_answer-answer.result
          (λ _. ¬ (Clashes files path) → IsHonest noted.start noted.calls)
          (λ fault. fault ≡ Clash → Clashes files path → IsHonest noted.start noted.calls))
          (sym one_more)
          (put_kept was.start was.calls path (joined c.args.parts) c.note_answer-answer.result
          (took_effect was.effects was.calls) honest c.text.ensures.path);
      ok = grind (arith, common_steps);
      err = grind (arith, common_steps);
      may = λ left is. subst (λ (noted : StoreCalls).
          IsCrashState noted.start noted.initial_crash_states noted.calls left) one_more is;
      device = grind (arith, common_steps);
      written = grind (arith, common_steps);
      mutations = grind (arith, common_steps);
    }
