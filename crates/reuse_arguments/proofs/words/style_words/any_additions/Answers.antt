use Rattle.std.proofs.Common.{refl}
use Rattle.reuse_arguments.specs.StyleWords.{any_additions, any_arguments}
use Rattle.reuse_arguments.specs.declared.line.LineFault.TheVariants as faults
use Rattle.reuse_arguments.proofs.CommandWordLemmas.{additions_now, additions_refused}
use Rattle.reuse_arguments.proofs.LineFaultLemmas.{expected_after}
use Rattle.reuse_arguments.proofs.words.style_words.any_additions.Goals as goal

pub returns-in_err-new : goal.returns-in_err-new
unfolding any_additions
returns-in_err-new c =
    let fault = faults.BadAdditions c.in_err-new.field-0.0 in
    expected_after _ _ _ fault c.from_residual.ensures.1
    (additions_refused _ any_arguments c.in_err-new.field-0.0 refl c.in_err-new.ensures.refused)

pub returns : goal.returns
unfolding any_additions
returns c =
    let added = c.in_ok-new.ensures.added in
    additions_now _ any_arguments _ refl added.0 added.1
