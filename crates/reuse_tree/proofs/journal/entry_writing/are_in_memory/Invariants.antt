use Rattle.std.proofs.Common.{take}
use Rattle.std.specs.Prelude.{All}
use Rattle.reuse_json.specs.EntryText.{IsChangeInMemory}
use Rattle.reuse_tree.proofs.journal.entry_writing.are_in_memory.Given as goal

abbrev pub invariant-loop-change : goal.invariant-loop-change
invariant-loop-change l = All IsChangeInMemory (take l.change-index l.changes)
