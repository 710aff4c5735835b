use Rattle.std.proofs.Common.{◌≡◌, ◌∙◌, ◌+◌, ◌-◌, length, sym, subst, refl, List, ℕ}
use Rattle.std.specs.Prelude.{Ok, Err}
use Rattle.reuse_text.specs.declared.LineKind.{LineKind}
use Rattle.reuse_text.specs.declared.TheConstants.{LONGEST_FILE}
use Rattle.reuse_header.specs.declared.annotation.HeaderRefusal.TheVariants.{TooLong}
use Rattle.reuse_header.specs.declared.writer.BlockText.{BlockText}
use Rattle.reuse_header.specs.declared.writer.BlockText.TheVariants.{Header, Comment}
use Rattle.reuse_header.specs.Marks.{LineMarks}
use Rattle.reuse_header.specs.MarkViews.{marks_view, text_lines, whole_text}
use Rattle.reuse_header.specs.Writing.{ended_by, block_text}
use Rattle.reuse_header.specs.Drafts.{Drafts, edit_at}
use Rattle.reuse_header.proofs.DraftLemmas.{Steps, too_long, drafted}
use Rattle.reuse_header.proofs.draft.make_draft.Goals.{In_ok-empty_line_if-3}
use Rattle.reuse_header.proofs.draft.make_draft.Goals as goal

-- what the writer went through
steps_of : (c : In_ok-empty_line_if-3)
    → Steps c.args.place c.args.kind (LONGEST_FILE - (length c.args.file.now - c.args.place.old_len))
    (text_lines (marks_view c.args.marks) c.args.text) c.new-writer.result c.empty_line_if.new.self
    c.empty_line_if-2.new.self c.text.new.self c.empty_line_if-3.new.self
steps_of c = record {
  format = c.new-writer.ensures.format;
  nothing = c.new-writer.ensures.text;
  first = c.in_ok-empty_line_if.ensures;
  second = c.in_ok-empty_line_if-2.ensures;
  block = c.in_ok-text.ensures;
  last = c.in_ok-empty_line_if-3.ensures;
}

-- the text has its lines
text_is : (marks : LineMarks) (kind : LineKind) (text : BlockText)
    → ended_by kind (text_lines marks text) ≡ whole_text marks kind text
unfolding block_text
text_is marks kind (Header info) = refl
text_is marks kind (Comment contents) = refl

pub returns-in-None : goal.returns-in-None
returns-in-None c =
    subst (λ (text : List ℕ). Drafts c.args.file.now (edit_at c.args.place c.args.kind text) (Err TooLong))
    (text_is (marks_view c.args.marks) c.args.kind c.args.text)
    (too_long _ _ _ _ (steps_of (goal.at.returns-in-None c).In_ok-empty_line_if-3) c.args.file.now c.requires.within
    c.requires.short refl (sym c.into_text.ensures ∙ c.in-None.is))

pub returns-in-Some : goal.returns-in-Some
returns-in-Some c =
    subst (λ (text : List ℕ). Drafts c.args.file.now (edit_at c.args.place c.args.kind text) (Ok (record {
      start = c.args.place.start;
      old_len = c.args.place.old_len;
      new = c.in-Some.new;
      text_start = c.args.place.start + c.len.result;
      text_end = c.args.place.start + c.len-2.result;
    })))
    (text_is (marks_view c.args.marks) c.args.kind c.args.text)
    (drafted _ _ _ _ (steps_of (goal.at.returns-in-Some c).In_ok-empty_line_if-3) c.args.file.now c.requires.within
    c.requires.short refl c.in-Some.new (sym c.into_text.ensures ∙ c.in-Some.is) c.len.ensures c.len-2.ensures)
