use Rattle.std.proofs.Common.{ap}
use Rattle.std.specs.Prelude.{option_map}
use Rattle.reuse_arguments.proofs.AmendWordLemmas.{holder_mistake, holder_now}
use Rattle.reuse_arguments.proofs.LineFaultLemmas.{expected_after}
use Rattle.reuse_arguments.specs.AmendSteps.{with_holder}
use Rattle.reuse_arguments.proofs.words.amend_words.set_holder.Goals as goal

pub returns-in_default : goal.returns-in_default
unfolding with_holder
returns-in_default c = ap (λ y. with_holder (option_map (λ t. t.now) y) c.args.amendments.now) c.in_default.is

pub returns-in_err-holder : goal.returns-in_err-holder
returns-in_err-holder c = expected_after _ _ _ _ c.from_residual.ensures.1
    (holder_mistake c.args.holder c.in-Some.holder _ _ c.in-Some.is c.in_err-holder.ensures)

pub returns : goal.returns
returns c = holder_now c.args.holder c.in-Some.holder c.in_ok-holder.holder _ _ c.in-Some.is c.in_ok-holder.ensures
    c.in_ok-set_holder.ensures.ok
