use Rattle.std.proofs.Common.{subst, take_all}
use Rattle.std.specs.Prelude.{All}
use Rattle.std.proofs.lemmas.List.Elements.{All-more}
use Rattle.reuse_json.specs.EntryText.{IsChangeInMemory}
use Rattle.reuse_tree.proofs.journal.entry_writing.are_in_memory.Goals as goal

pub loop-change-preserved : goal.loop-change-preserved
loop-change-preserved c =
    All-more IsChangeInMemory c.args.changes.now c.loop-change.change-index c.change-item.result c.loop-change-test.true
    c.loop-change.invariant (subst IsChangeInMemory c.change-item.is c.is_change_in_memory.ensures)

pub returns : goal.returns
returns c = subst (All IsChangeInMemory)
    (take_all c.loop-change.change-index c.args.changes.now c.loop-change-test.false) c.loop-change.invariant
