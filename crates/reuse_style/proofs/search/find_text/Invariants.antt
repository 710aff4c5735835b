use Rattle.std.proofs.Common.{◌-◌, ◌≤◌}
use Rattle.memchr.specs.Find.{Nowhere, OccursAt}
use Rattle.reuse_style.proofs.search.find_text.Given as goal

abbrev pub invariant-loop-start : goal.invariant-loop-start
invariant-loop-start l = record { within : l.start ≤ l.end; before : Nowhere (OccursAt l.bytes l.text) 0 l.start }

abbrev pub decreases-loop-start : goal.decreases-loop-start
decreases-loop-start l = l.end - l.start
