use Rattle.std.proofs.Common.{ap}
use Rattle.std.specs.Prelude.{option_map}
use Rattle.reuse_arguments.proofs.AmendWordLemmas.{until_now, until_refused}
use Rattle.reuse_arguments.proofs.LineFaultLemmas.{expected_after}
use Rattle.reuse_arguments.specs.AmendSteps.{with_until}
use Rattle.reuse_arguments.proofs.words.amend_words.set_until.Goals as goal

pub returns-in_err-set_until-in-Some : goal.returns-in_err-set_until-in-Some
returns-in_err-set_until-in-Some c = expected_after _ _ _ _ c.from_residual.ensures.1
    (until_refused c.args.year c.in-Some.year _ _ c.in-Some.is c.in_err-set_until-in-Some.ensures.refused)

pub returns-in_ok-set_until-in-Some : goal.returns-in_ok-set_until-in-Some
returns-in_ok-set_until-in-Some c = let ok = c.in_ok-set_until-in-Some.ensures.ok in
    until_now c.args.year c.in-Some.year _ _ c.in-Some.is ok.0 ok.1

pub returns-in-None : goal.returns-in-None
unfolding with_until
returns-in-None c = ap (λ y. with_until (option_map (λ t. t.now) y) c.args.amendments.now) c.in-None.is
