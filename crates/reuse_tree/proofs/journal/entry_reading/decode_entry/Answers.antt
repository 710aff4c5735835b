use Rattle.reuse_tree.proofs.EntryParts.{one_entry}
use Rattle.reuse_tree.proofs.journal.entry_reading.decode_entry.Goals as goal

pub returns-in-Ok-clause-only : goal.returns-in-Ok-clause-only
returns-in-Ok-clause-only c = λ entry good. one_entry c.args.text.now c.in-Ok.entry entry c.in-Ok.ensures good
