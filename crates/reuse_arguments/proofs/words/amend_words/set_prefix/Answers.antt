use Rattle.std.proofs.Common.{ap}
use Rattle.std.specs.Prelude.{option_map}
use Rattle.reuse_arguments.proofs.AmendWordLemmas.{prefix_mistake, prefix_now}
use Rattle.reuse_arguments.proofs.LineFaultLemmas.{expected_after}
use Rattle.reuse_arguments.specs.AmendSteps.{with_prefix}
use Rattle.reuse_arguments.proofs.words.amend_words.set_prefix.Goals as goal

pub returns-in_default : goal.returns-in_default
unfolding with_prefix
returns-in_default c = ap (λ y. with_prefix (option_map (λ t. t.now) y) c.args.amendments.now) c.in_default.is

pub returns-in_err-prefix_in : goal.returns-in_err-prefix_in
returns-in_err-prefix_in c = expected_after _ _ _ _ c.from_residual.ensures.1
    (prefix_mistake c.args.name c.in-Some.name _ _ c.in-Some.is c.in_err-prefix_in.ensures)

pub returns : goal.returns
returns c = prefix_now c.args.name c.in-Some.name _ _ _ c.in-Some.is c.in_ok-prefix_in.ensures c.set_prefix.ensures
