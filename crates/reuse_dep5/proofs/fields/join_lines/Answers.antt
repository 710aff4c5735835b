use Rattle.std.proofs.Common.{[], ◌∷◌, ◌++◌, flat_map, sym, ap, ◌∙◌}
use Rattle.std.proofs.lemmas.List.{append-nil, drop_all}
use Rattle.reuse_dep5.specs.SourceText.{NumberedLine}
use Rattle.reuse_toml.proofs.Appending.{then}
use Rattle.reuse_dep5.proofs.WriteLemmas.{left_more}
use Rattle.reuse_dep5.proofs.fields.join_lines.Goals as goal

pub loop-line-preserved : goal.loop-line-preserved
loop-line-preserved c =
    left_more (λ (l : NumberedLine). 10 ∷ l.content) c.in-Some.more.now c.loop-line.line-index _ c.line-item.result
    c.loop-line.text.items _ _ c.loop-line-test.true c.line-item.is
    (then c.loop-line.text.items c.push.new.self.items _ (10 ∷ []) c.line-item.result.content c.in_ok-push.ensures.items
    (c.in_ok-extend_from_slice-2.ensures.items
    ∙ ap (λ (l : NumberedLine). c.push.new.self.items ++ l.content) c.line.view_is)) c.loop-line.invariant

pub returns : goal.returns
returns c =
    sym (append-nil c.loop-line.text.items)
    ∙ ap (λ xs. c.loop-line.text.items ++ flat_map (λ (l : NumberedLine). 10 ∷ l.content) xs)
    (sym (drop_all c.loop-line.line-index c.in-Some.more.now c.loop-line-test.false)) ∙ c.loop-line.invariant
