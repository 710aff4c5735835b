use Rattle.std.proofs.Common.{◌≡◌, ◌++◌, take}
use Rattle.reuse_notice.proofs.text_lists.TextSet.union.Given as goal

abbrev pub invariant-loop-text : goal.invariant-loop-text
invariant-loop-text l = l.texts.items ≡ l.fn.self ++ take l.text-index l.more
