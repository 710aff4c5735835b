use Rattle.std.proofs.Common.{◌∙◌, ap}
use Rattle.reuse_dep5.specs.Dep5.{Dep5Value}
use Rattle.reuse_dep5.proofs.WriteLemmas.{dep5_written}
use Rattle.reuse_dep5.proofs.table_text.written_dep5.Goals as goal

pub returns : goal.returns
returns c =
    dep5_written c.args.dep5.now c.dep5.inside.header c.deref.result.now _ _ _ _
    (ap (λ (d : Dep5Value). d.header) c.dep5.view_is)
    (c.deref.ensures.value ∙ ap (λ (d : Dep5Value). d.files) c.dep5.view_is)
    c.new-out.ensures.items c.in_ok-extend_from_slice.ensures.items c.in_ok-push_header.ensures
    c.in_ok-push_annotations.ensures
