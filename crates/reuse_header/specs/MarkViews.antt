-- The marks of a form, and a text that it writes, as the code holds them, for private clauses.
use Rattle.std.specs.Prelude.{ℕ, List}
use Rattle.std.specs.Option.{option_copied}
use Rattle.reuse_text.specs.declared.LineKind.{LineKind}
use Rattle.reuse_header.specs.declared.writer.Marks.{Marks}
use Rattle.reuse_header.specs.declared.writer.BlockText.{BlockText}
use Rattle.reuse_header.specs.declared.writer.BlockText.TheVariants.{Header, Comment}
use Rattle.reuse_header.specs.Marks.{LineMarks}
use Rattle.reuse_header.specs.Writing.{block_lines, block_text}
use Rattle.reuse_header.specs.Comment.{comment_lines, comment_text}

abbrev pub marks_view : Marks → LineMarks
marks_view m = record {
  lead = m.lead.now;
  mark = m.mark.now;
  first = option_copied m.first;
  last = option_copied m.last;
  closer = option_copied m.closer;
}

-- the lines of a text, and the text
abbrev pub text_lines : LineMarks → BlockText → List (List ℕ)
text_lines marks (Header info) = block_lines marks info.now
text_lines marks (Comment contents) = comment_lines marks contents.now

abbrev pub whole_text : LineMarks → LineKind → BlockText → List ℕ
whole_text marks kind (Header info) = block_text marks kind info.now
whole_text marks kind (Comment contents) = comment_text marks kind contents.now
