use Rattle.std.proofs.Common.{◌≡◌}
use Rattle.reuse_report.proofs.access_refusal.access_refusal_among.Given as goal

abbrev pub invariant-loop-path_outcome : goal.invariant-loop-path_outcome
invariant-loop-path_outcome g l = l.folder.folder.unsynced ≡ l.fn.folder.folder.unsynced
