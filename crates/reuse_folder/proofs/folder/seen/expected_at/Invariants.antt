use Rattle.std.proofs.Common.{take}
use Rattle.reuse_folder.specs.Seen.{IsSeenBefore}
use Rattle.reuse_folder.proofs.folder.seen.expected_at.Given as goal

-- what the reads so far report
abbrev pub invariant-loop-read : goal.invariant-loop-read
invariant-loop-read l = IsSeenBefore (take l.read-index l.reads) l.path l.expected
