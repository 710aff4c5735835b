use Rattle.std.proofs.Common.{◌∙◌, ℕ, List, ap, map, take}
use Rattle.std.proofs.lemmas.List.{take_all}
use Rattle.std.proofs.lemmas.Result.{IfOk-weaker}
use Rattle.reuse_ready.specs.Tally.{name_of, rows_of, tally}
use Rattle.reuse_ready.proofs.CountedLemmas.{counted_none, counted_next, values_are}
use Rattle.reuse_ready.proofs.name_count.tally.Goals as goal

pub loop-path-init : goal.loop-path-init
loop-path-init c = counted_none _ c.new-rows.ensures.empty c.new-rows.ensures.ordered

pub loop-path-preserved : goal.loop-path-preserved
loop-path-preserved c =
    counted_next _ c.args.paths.now c.loop-path.path-index c.path-item.result _ c.loop-path-test.true
    (c.name_of.ensures ∙ ap name_of (c.as_bytes.ensures.bytes ∙ c.path-item.is))
    (c.in_ok-count_name.ensures (map name_of (take c.loop-path.path-index c.args.paths.now)) c.loop-path.invariant)

pub returns : goal.returns
unfolding tally
returns c = IfOk-weaker c.values_of.result _ _ (λ values are. are
    ∙ values_are c.loop-path.rows (map name_of (take c.loop-path.path-index c.args.paths.now)) c.loop-path.invariant
    ∙ ap (λ (ps : List (List ℕ)). rows_of (map name_of ps)) (take_all c.loop-path.path-index c.args.paths.now c.loop-path-test.false))
    c.values_of.ensures
