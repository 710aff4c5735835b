use Rattle.std.proofs.Common.{◌≡◌, take}
use Rattle.reuse_notice.proofs.text_lists.copy_all.Given as goal

abbrev pub invariant-loop-text : goal.invariant-loop-text
invariant-loop-text l = l.texts.items ≡ take l.text-index l.from
