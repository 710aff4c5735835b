use Rattle.std.proofs.Common.{◌≡◌, take}
use Rattle.reuse_plan.proofs.download.copied_ids.Given as goal

abbrev pub invariant-loop-id : goal.invariant-loop-id
invariant-loop-id l = l.copied.items ≡ take l.id-index l.ids
