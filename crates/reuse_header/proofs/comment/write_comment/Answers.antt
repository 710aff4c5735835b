use Rattle.std.proofs.Common.{◌∙◌, sym, ap, subst, Option}
use Rattle.std.specs.Option.{option_map}
use Rattle.reuse_header.specs.declared.writer.Marks.{Marks}
use Rattle.reuse_header.specs.Found.{block_view}
use Rattle.reuse_header.specs.Marks.{LineMarks, marks_of}
use Rattle.reuse_header.specs.MarkViews.{marks_view}
use Rattle.reuse_header.specs.Comment.{comment_written}
use Rattle.reuse_header.specs.Splices.{answer_of, IsExpected}
use Rattle.reuse_header.proofs.CommentLemmas.{unmarked_comment}
use Rattle.reuse_header.proofs.comment.write_comment.Goals as goal

pub returns-in-None : goal.returns-in-None
returns-in-None c =
    ap (answer_of c.args.file.now) (unmarked_comment c.args.file.now (block_view c.args.block) c.args.contents.now
    (marks_of c.args.style.now c.args.block.form)
    (sym c.marks_of.ensures ∙ ap (λ (marks : Option Marks). option_map marks_view marks) c.in-None.is))

pub returns-in-Some : goal.returns-in-Some
returns-in-Some c =
    subst (λ (m : Option LineMarks). IsExpected (answer_of c.args.file.now
    (comment_written c.args.file.now (block_view c.args.block) c.args.contents.now m)) c.replace_block.result)
    (sym (sym c.marks_of.ensures ∙ ap (λ (marks : Option Marks). option_map marks_view marks) c.in-Some.is))
    c.replace_block.ensures
