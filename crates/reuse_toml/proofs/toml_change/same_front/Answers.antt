use Rattle.std.proofs.Common.{◌∙◌, sym}
use Rattle.reuse_toml.proofs.TomlLemmas.{alike-next, alike-differs}
use Rattle.reuse_toml.proofs.toml_change.same_front.Goals as goal

pub returns-then-not-is_at-clause-count : goal.returns-then-not-is_at-clause-count
returns-then-not-is_at-clause-count c =
    alike-differs c.args.text.now c.args.other.now c.loop-i.i _ 0 c.loop-i-test.true
    (sym c.is_at.ensures ∙ c.if-not-is_at.true) c.loop-i.invariant.1

pub loop-i-preserved : goal.loop-i-preserved
loop-i-preserved c =
    alike-next c.args.text.now c.args.other.now c.loop-i.i _ 0 c.loop-i-test.true
    (sym c.is_at.ensures ∙ c.if-not-is_at.false) c.loop-i.invariant.1
