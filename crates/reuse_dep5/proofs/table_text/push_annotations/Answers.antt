use Rattle.reuse_dep5.specs.ReuseTable.{annotation_of, annotation_text}
use Rattle.reuse_dep5.proofs.WriteLemmas.{pushed_more}
use Rattle.reuse_dep5.proofs.table_text.push_annotations.Goals as goal

pub loop-paragraph-preserved : goal.loop-paragraph-preserved
loop-paragraph-preserved c =
    pushed_more annotation_text annotation_of c.args.files.now c.loop-paragraph.paragraph-index c.paragraph-item.result
    c.paragraph-item.result
    c.args.out.now.items c.loop-paragraph.out.items c.push_annotation.new.out.items
    c.loop-paragraph-test.true c.paragraph-item.is c.loop-paragraph.invariant c.in_ok-push_annotation.ensures
