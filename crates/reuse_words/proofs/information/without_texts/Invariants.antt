use Rattle.std.proofs.Common.{◌≡◌, length, map}
use Rattle.reuse_words.specs.Information.{text_in, without_texts}
use Rattle.reuse_words.proofs.information.without_texts.Given as goal

abbrev pub invariant-loop-rest : goal.invariant-loop-rest
invariant-loop-rest l =
    without_texts l.punct (map (text_in l.gap) l.rest) l.made.items
    ≡ without_texts l.punct (map (text_in l.gap) l.texts) l.contents

abbrev pub decreases-loop-rest : goal.decreases-loop-rest
decreases-loop-rest l = length l.rest
