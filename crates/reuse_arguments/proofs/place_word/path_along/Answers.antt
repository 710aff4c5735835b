use Rattle.std.proofs.Common.{arith, ◌<◌, length}
use Rattle.reuse_arguments.proofs.PartLemmas.{AreJoined-more}
use Rattle.reuse_arguments.proofs.place_word.path_along.Goals as goal

pub loop-part-preserved : goal.loop-part-preserved
loop-part-preserved c =
    let inside : c.loop-part.part-index < length c.args.parts.now = omega arith in
    rw c.in_ok-push_part.ensures (AreJoined-more _ _ _ _ _ inside c.loop-part.invariant)
