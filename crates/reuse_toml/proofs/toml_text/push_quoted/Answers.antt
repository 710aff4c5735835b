use Rattle.std.proofs.Common.{[], ◌∷◌, ◌++◌, flat_map, ap, ◌∙◌}
use Rattle.std.proofs.lemmas.List.{take_all}
use Rattle.reuse_toml.specs.TomlText.{escaped}
use Rattle.reuse_toml.proofs.Appending.{then, run_more}
use Rattle.reuse_toml.proofs.toml_text.push_quoted.Goals as goal

pub loop-b-preserved : goal.loop-b-preserved
loop-b-preserved c = run_more escaped (34 ∷ []) c.args.text.now c.loop-b.b-index 0 c.args.out.now.items
    c.loop-b.out.items _ c.loop-b-test.true c.loop-b.invariant c.in_ok-push_escaped.ensures

pub returns : goal.returns
returns c =
    then c.args.out.now.items c.loop-b.out.items _ (34 ∷ flat_map escaped c.args.text.now) (34 ∷ [])
    (c.loop-b.invariant ∙ ap (λ xs. c.args.out.now.items ++ 34 ∷ flat_map escaped xs)
    (take_all _ _ c.loop-b-test.false)) c.in_ok-push-2.ensures.items
