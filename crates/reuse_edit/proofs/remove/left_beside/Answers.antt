use Rattle.reuse_edit.specs.Removed.{neighbour_removal_of}
use Rattle.reuse_edit.proofs.Removing.{beside_within}
use Rattle.reuse_edit.proofs.remove.left_beside.Goals as goal

pub neighbour_left-requires-clause-within : goal.neighbour_left-requires-clause-within
neighbour_left-requires-clause-within c =
    beside_within c.args.removal.now c.args.bytes.now c.taken_beside-made.result c.requires
    c.taken_beside-made.ensures

pub returns-clause-text : goal.returns-clause-text
returns-clause-text c =
    c.neighbour_left.ensures.text (neighbour_removal_of c.args.removal.now c.args.bytes.now)
    c.taken_beside-made.ensures
