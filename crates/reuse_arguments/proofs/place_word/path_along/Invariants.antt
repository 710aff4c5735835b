use Rattle.std.proofs.Common.{string_bytes, map, take}
use Rattle.reuse_arguments.proofs.PartLemmas.{AreJoined}
use Rattle.reuse_arguments.proofs.place_word.path_along.Given as goal

-- the path so far is that of the parts so far
abbrev pub invariant-loop-part : goal.invariant-loop-part
invariant-loop-part l = AreJoined l.is_empty (string_bytes l.path) (map (λ part. part.now) (take l.part-index l.parts))
