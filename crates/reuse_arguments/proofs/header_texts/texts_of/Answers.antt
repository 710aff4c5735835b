use Rattle.std.proofs.Common.{arith, ap, ◌∙◌}
use Rattle.std.specs.Prelude.{string_bytes}
use Rattle.reuse_arguments.proofs.HeaderTextLemmas.{front_more, front_stops, have_after}
use Rattle.reuse_arguments.proofs.header_texts.texts_of.Goals as goal

pub returns-in_err-text_in : goal.returns-in_err-text_in
returns-in_err-text_in g c =
    have_after (g.S.TextSource.gives c.args.source.now) _ _ _ c.from_residual.ensures.1
    (front_stops (g.S.TextSource.gives c.args.source.now) c.args.files.now c.loop-file.file-index _ _
    c.loop-file.texts.items c.in_err-text_in.field-0.0 (omega arith) c.loop-file.invariant (c.as_str.ensures.value ∙ ap string_bytes c.file-item.is)
    c.in_err-text_in.ensures)

pub loop-file-preserved : goal.loop-file-preserved
loop-file-preserved g c =
    front_more (g.S.TextSource.gives c.args.source.now) c.args.files.now c.loop-file.file-index _ _
    c.loop-file.texts.items _ _ (omega arith) c.loop-file.invariant (c.as_str.ensures.value ∙ ap string_bytes c.file-item.is) c.in_ok-text_in.ensures
    c.in_ok-push.ensures.items
