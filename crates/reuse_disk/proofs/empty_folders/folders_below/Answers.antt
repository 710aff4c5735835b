use Rattle.reuse_disk.proofs.ReadsOnlyLemmas.{enters_none, enters_then}
use Rattle.reuse_disk.proofs.empty_folders.folders_below.Goals as goal

pub loop-index-init : goal.loop-index-init
loop-index-init g c = enters_none g.S.System _ _

pub returns-in_err-push_folders : goal.returns-in_err-push_folders
returns-in_err-push_folders g c =
    record { enters = enters_then g.S.System _ _ _ _ _ _ c.loop-index.invariant c.push_folders.ensures.enters }

pub loop-index-preserved : goal.loop-index-preserved
loop-index-preserved g c = enters_then g.S.System _ _ _ _ _ _ c.loop-index.invariant c.push_folders.ensures.enters
