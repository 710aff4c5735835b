use Rattle.std.proofs.Common.{◌≡◌, ◌++◌, take}
use Rattle.reuse_words.proofs.lists.push_all.Given as goal

abbrev pub invariant-loop-content : goal.invariant-loop-content
invariant-loop-content l = l.made.items ≡ l.initial.made.items ++ take l.content-index l.more
