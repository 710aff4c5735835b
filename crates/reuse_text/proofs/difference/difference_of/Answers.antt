use Rattle.std.proofs.Common.{ap₂, ◌∙◌}
use Rattle.std.proofs.lemmas.List.{take_rest}
use Rattle.reuse_text.specs.Difference.{same_end}
use Rattle.reuse_text.proofs.DifferenceLemmas.{difference-made}
use Rattle.reuse_text.proofs.difference.difference_of.Goals as goal

pub returns-clause-made : goal.returns-clause-made
returns-clause-made c =
    rw (take_rest c.args.old.now c.same_front-at.result, take_rest c.args.new.now c.same_front-at.result)
    (difference-made c.args.old.now c.args.new.now c.same_front-at.result c.same_end-end.result
    c.same_front-at.ensures.is
    (c.same_end-end.ensures.is ∙ ap₂ same_end (take_rest c.args.old.now c.same_front-at.result)
    (take_rest c.args.new.now c.same_front-at.result)))
