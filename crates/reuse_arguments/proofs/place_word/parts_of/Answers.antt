use Rattle.std.proofs.Common.{arith, ◌<◌, length}
use Rattle.reuse_arguments.proofs.PartLemmas.{named_more, unnamed_more}
use Rattle.reuse_arguments.proofs.place_word.parts_of.Goals as goal
use Rattle.reuse_arguments.proofs.place_word.parts_of.Goals.{then-is_named+in_ok-push, else-is_named}

pub loop-part-preserved : goal.loop-part-preserved
loop-part-preserved c =
    let inside : c.loop-part.part-index < length c.as_slice-part-items.result.now = omega arith in
    elim c.if-is_named.branch [
      | then-is_named+in_ok-push w ↦
          rw w.parts-is (named_more _ _ _ _ _ inside w.if-is_named.ensures c.loop-part.invariant
          w.in_ok-push.ensures.items)
      | else-is_named w ↦ rw w.parts-is (unnamed_more _ _ _ _ inside w.if-is_named.ensures c.loop-part.invariant)
    ]
