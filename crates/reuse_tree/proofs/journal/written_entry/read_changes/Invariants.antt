use Rattle.std.proofs.Common.{◌≡◌, ◌++◌, length}
use Rattle.std.specs.List.{All, flat_map}
use Rattle.reuse_json.specs.EntryText.{IsChangeInMemory}
use Rattle.reuse_tree.proofs.WrittenEntries.{with_comma}
use Rattle.reuse_tree.proofs.journal.written_entry.read_changes.Given as goal

-- what is read are the changes so far, each with its comma
abbrev pub invariant-changes : goal.invariant-changes
invariant-changes l = (l.fn.text ≡ flat_map with_comma l.changes.items ++ l.text) × All IsChangeInMemory l.changes.items

abbrev pub decreases-changes : goal.decreases-changes
decreases-changes l = length l.text
