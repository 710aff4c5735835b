use Rattle.std.proofs.Common.{◌≡◌, map}
use Rattle.reuse_arguments.proofs.PartLemmas.{named_front}
use Rattle.reuse_arguments.proofs.place_word.parts_of.Given as goal

-- the parts so far are the named ones
abbrev pub invariant-loop-part : goal.invariant-loop-part
invariant-loop-part l = map (λ part. part.now) l.parts.items ≡ named_front l.part-index l.part-items
