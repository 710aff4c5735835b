use Rattle.std.proofs.Common.{[], Some, take}
use Rattle.reuse_diff.specs.DiffText.{AreRecords}
use Rattle.reuse_shown.specs.JoinedTexts.{AppendsSome}
use Rattle.reuse_report.proofs.printed.records_of.Given as goal

-- the records of the changes so far
abbrev pub invariant-loop-change : goal.invariant-loop-change
invariant-loop-change l = AppendsSome (Some []) (Some l.text.items) (AreRecords (take l.change-index l.changes))
