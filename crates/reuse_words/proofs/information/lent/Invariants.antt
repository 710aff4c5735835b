use Rattle.std.proofs.Common.{◌≡◌, take, map}
use Rattle.reuse_words.proofs.information.lent.Given as goal

abbrev pub invariant-loop-content : goal.invariant-loop-content
invariant-loop-content l = map (λ content. content.now) l.list.items ≡ take l.content-index l.contents
