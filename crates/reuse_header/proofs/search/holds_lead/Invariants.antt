use Rattle.std.proofs.Common.{◌-◌, ◌≤◌, length}
use Rattle.reuse_header.proofs.LeadPlaces.{NoLeadBefore}
use Rattle.reuse_header.proofs.search.holds_lead.Given as goal

abbrev pub invariant-loop-start : goal.invariant-loop-start
invariant-loop-start l = record { within : l.start ≤ length l.file; none : NoLeadBefore l.file l.start }

abbrev pub decreases-loop-start : goal.decreases-loop-start
decreases-loop-start l = length l.file - l.start
