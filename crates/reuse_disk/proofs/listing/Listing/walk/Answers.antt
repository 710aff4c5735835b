use Rattle.reuse_disk.proofs.ReadsOnlyLemmas.{enters_none, enters_then}
use Rattle.reuse_disk.proofs.listing.Listing.walk.Goals as goal

pub loop-init : goal.loop-init
loop-init g c = enters_none g.S.System _ _

pub returns-in_err-look_into-in-Some : goal.returns-in_err-look_into-in-Some
returns-in_err-look_into-in-Some g c =
    record { enters = enters_then g.S.System _ _ _ _ _ _ c.loop.invariant c.look_into.ensures.enters }

pub loop-preserved : goal.loop-preserved
loop-preserved g c = enters_then g.S.System _ _ _ _ _ _ c.loop.invariant c.look_into.ensures.enters
