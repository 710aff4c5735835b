use Rattle.std.proofs.Common.{◌≡◌, ◌++◌, take, map}
use Rattle.std.specs.List.{join_with_byte}
use Rattle.reuse_json.specs.EntryText.{change_text}
use Rattle.reuse_tree.proofs.journal.entry_writing.append_changes.Given as goal

-- the text so far is that of the changes so far
abbrev pub invariant-loop-i : goal.invariant-loop-i
invariant-loop-i l = l.text.items ≡ l.fn.text.items ++ join_with_byte 44 (map change_text (take l.i l.changes))
