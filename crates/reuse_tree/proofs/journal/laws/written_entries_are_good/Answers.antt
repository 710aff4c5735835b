use Rattle.reuse_tree.proofs.EntryParts.{one_entry}
use Rattle.reuse_tree.proofs.EntryLaws.{entry_good, entry_length}
use Rattle.reuse_tree.proofs.journal.laws.written_entries_are_good.Goals as goal

pub returns : goal.returns
returns c = record { good = entry_good; bound = λ e sound. entry_length e sound.held; one = one_entry }
