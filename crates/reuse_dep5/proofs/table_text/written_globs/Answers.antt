use Rattle.std.proofs.Common.{ℕ, map, ap, ◌∙◌}
use Rattle.std.specs.Prelude.{Vec}
use Rattle.std.specs.declared.alloc.Global.{Global}
use Rattle.std.proofs.lemmas.List.{take_all}
use Rattle.reuse_dep5.specs.PatternValue.{PatternValue}
use Rattle.reuse_dep5.specs.Translation.{translated}
use Rattle.reuse_toml.specs.GlobText.{glob_text}
use Rattle.reuse_dep5.proofs.WriteLemmas.{gathered_more}
use Rattle.reuse_dep5.proofs.table_text.written_globs.Goals as goal

pub loop-pattern-preserved : goal.loop-pattern-preserved
loop-pattern-preserved c =
    gathered_more glob_text (λ (p : PatternValue). translated p.pieces)
    (λ (t : Vec ℕ Global). t.items) c.args.patterns.now c.loop-pattern.pattern-index _ c.pattern-item.result
    c.loop-pattern.texts.items _ c.in_ok-text.text
    c.loop-pattern-test.true c.pattern-item.is c.loop-pattern.invariant c.in_ok-push.ensures.items
    (c.in_ok-text.ensures ∙ ap glob_text (c.deref-in-loop-pattern.ensures.value ∙ c.in_ok-pieces.ensures
    ∙ ap translated (c.deref.ensures.value ∙ ap (λ (p : PatternValue). p.pieces) c.pattern.view_is)))

pub returns : goal.returns
returns c = c.loop-pattern.invariant ∙ ap (λ xs. map glob_text (map (λ (p : PatternValue). translated p.pieces) xs))
    (take_all _ _ c.loop-pattern-test.false)
