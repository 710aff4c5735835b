use Rattle.std.proofs.Common.{◌∙◌, refl, subst, arith}
use Rattle.reuse_store.specs.Asked.{IsWrite}
use Rattle.reuse_store.proofs.WrittenInTurn.{one_more}
use Rattle.reuse_folder.proofs.NotedWrites.{noted}
use Rattle.reuse_folder.proofs.DiskStore.note_made.Goals as goal

pub loop-write-preserved : goal.loop-write-preserved
loop-write-preserved g c = (
  one_more (noted (λ store. store.calls)) c.args.writes.now c.loop-write.write-index c.loop-write-test.true
      c.write-item.result c.write-item.is c.args.self.now c.loop-write.self c.note_write.new.self
      c.loop-write.invariant.0
      (subst (λ r. IsWrite (noted (λ store. store.calls)) c.write-item.result.path.now c.write-item.result.file
      c.loop-write.self c.note_write.new.self r) (c.note_write.ensures.answers.ok refl) c.note_write.ensures.write),
  c.note_write.ensures.folder ∙ c.loop-write.invariant.1,
  grind (arith, c.note_write.ensures.mutations, c.loop-write.invariant.2),
)
