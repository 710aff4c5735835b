-- The parts are those that a split at each slash gives.
use Rattle.std.proofs.Common.{rules, tests, nat_eq}
use Rattle.std.proofs.lemmas.Iterator.Search.{all_from_yields_List}
use Rattle.std.proofs.lemmas.Iterator.Splits.{YieldsList-from_slice_split}
use Rattle.reuse_change.specs.Path.{is_part}
use Rattle.reuse_change.proofs.path.has_good_parts.Goals as goal

pub returns : goal.returns
returns c =
    all_from_yields_List is_part _ _ _ c.all.ensures.ran
    (YieldsList-from_slice_split _ (λ byte. nat_eq byte 47) c.args.text.now c.split.ensures.rest c.split.ensures.done
    c.split.ensures.closure (λ x b q k. search (rules, tests)))
    (λ x b q k. search (rules, tests))
