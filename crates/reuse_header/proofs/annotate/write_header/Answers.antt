use Rattle.std.proofs.Common.{◌∙◌, sym, ap, subst, Option}
use Rattle.std.specs.Option.{option_map}
use Rattle.reuse_header.specs.declared.writer.Marks.{Marks}
use Rattle.reuse_header.specs.Found.{block_view}
use Rattle.reuse_header.specs.Marks.{LineMarks, marks_of}
use Rattle.reuse_header.specs.MarkViews.{marks_view}
use Rattle.reuse_header.specs.Annotation.{written_by}
use Rattle.reuse_header.specs.Splices.{answer_of, IsExpected}
use Rattle.reuse_header.proofs.AnnotationLemmas.{unmarked}
use Rattle.reuse_header.proofs.annotate.write_header.Goals as goal

pub returns-in-None : goal.returns-in-None
returns-in-None c =
    ap (answer_of c.args.file.now) (unmarked c.args.style.now c.args.file.now (option_map block_view c.args.old)
    c.args.info.now (marks_of c.args.style.now c.args.form)
    (sym c.marks_of.ensures ∙ ap (λ (marks : Option Marks). option_map marks_view marks) c.in-None.is))

pub returns-in-Some : goal.returns-in-Some
returns-in-Some c =
    subst (λ (m : Option LineMarks). IsExpected (answer_of c.args.file.now (written_by c.args.style.now c.args.file.now
    (option_map block_view c.args.old) c.args.info.now m)) c.write_block.result)
    (sym (sym c.marks_of.ensures ∙ ap (λ (marks : Option Marks). option_map marks_view marks) c.in-Some.is))
    c.write_block.ensures
