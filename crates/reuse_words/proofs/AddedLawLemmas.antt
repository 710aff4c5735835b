-- The edit that adds information and texts: what it writes, and which bytes stay.
use Rattle.std.proofs.Common.{◌≡◌, ℕ, ◌+◌, ◌≤◌, Bool, true, false, List, ◌++◌, length, take, drop, Option, None, Some}
use Rattle.std.proofs.Common.{refl, sym, ap, subst, ◌∙◌, cond}
use Rattle.std.specs.Prelude.{Result, Ok, Err, ◌⊎◌}
use Rattle.std.specs.List.{list_any}
use Rattle.std.specs.Option.{option_map}
use Rattle.reuse_text.specs.declared.TheConstants.{LONGEST_FILE}
use Rattle.reuse_text.specs.Text.{text_of, lines_of, file_lines, after_mark}
use Rattle.reuse_notice.specs.declared.infos.Info.{Info}
use Rattle.reuse_notice.specs.declared.adding.Additions.{Additions}
use Rattle.reuse_style.specs.declared.style.Style.{Style}
use Rattle.reuse_style.specs.declared.marks.Form.{Form}
use Rattle.reuse_style.specs.Styles.{punctuation_of}
use Rattle.reuse_header.specs.declared.annotation.How.{How}
use Rattle.reuse_header.specs.declared.annotation.HeaderRefusal.{HeaderRefusal}
use Rattle.reuse_header.specs.Marks.{LineMarks, marks_of}
use Rattle.reuse_header.specs.Header.{HeaderSpan, span_in, header_of}
use Rattle.reuse_header.specs.Writing.{new_info, block_text}
use Rattle.reuse_header.specs.Annotation.{Edit, edited, kind_of_file, written_by, chosen_form, replaced_block}
use Rattle.reuse_header.specs.Annotation.{old_contents}
use Rattle.reuse_header.specs.Body.{body_lines, place_in}
use Rattle.reuse_header.specs.Laws.{IsInsertion}
use Rattle.reuse_header.specs.Comment.{closes_comment}
use Rattle.reuse_header.proofs.LawLemmas.{text_of_edit}
use Rattle.reuse_header.proofs.FittingLemmas.{not_over, edit_within}
use Rattle.reuse_header.proofs.KeptLemmas.{edit_replaces, edit_inserts}
use Rattle.reuse_header.proofs.WrittenLemmas.{IsWritten, written_ok}
use Rattle.reuse_words.specs.declared.refusal.TextHeaderRefusal.{TextHeaderRefusal}
use Rattle.reuse_words.specs.declared.refusal.TextHeaderRefusal.TheVariants.{BadText, Header}
use Rattle.reuse_words.specs.Information.{info_with}
use Rattle.reuse_words.specs.Amended.{texts_in}
use Rattle.reuse_words.specs.Added.{header_edit, text_annotation_of}
use Rattle.reuse_words.specs.FileLaws.{AddsTexts}

pub refused : (refusal : TextHeaderRefusal) (edit : Edit) → Err refusal ≡ Ok edit → ⊥
refused refusal edit e = cc

pub header_ok : (made : Result Edit HeaderRefusal) (edit : Edit) → header_edit made ≡ Ok edit → made ≡ Ok edit
header_ok (Ok first) edit e = let same : first ≡ edit = cc in ap (λ (x : Edit). Ok x) same
header_ok (Err refusal) edit e = absurd (refused (Header refusal) edit e)

added_by_test : (made : Result Edit HeaderRefusal) (edit : Edit) (closes : Bool)
    → cond closes (Err BadText) (header_edit made) ≡ Ok edit → made ≡ Ok edit
added_by_test made edit true e = absurd (refused BadText edit e)
added_by_test made edit false e = header_ok made edit e

module _ (style : Style) (how : How) (additions : Additions) (texts : List (List (List ℕ))) (file : List ℕ)
    (edit : Edit)
    (law : text_of (lines_of (after_mark file)) ≡ after_mark file)
    (e : text_annotation_of style how additions texts file ≡ Ok edit) where
  found : Option HeaderSpan
  found = option_map (span_in file) (header_of style file)

  form : Form
  form = chosen_form style how.form (option_map (span_in file) (header_of style file))

  info : Info
  info = info_with (punctuation_of style)
      (texts_in (marks_of style (chosen_form style how.form (option_map (span_in file) (header_of style file)))) texts)
      (new_info (punctuation_of style)
      (old_contents (replaced_block how.replace (option_map (span_in file) (header_of style file))))
      how.merge additions)

  written : (m : LineMarks) × (marks_of style form ≡ Some m)
      × IsWritten style file (replaced_block how.replace found) info m edit
  unfolding found form info text_annotation_of
  written = written_ok style file (replaced_block how.replace found) info (marks_of style form) edit
      (added_by_test (written_by style file (replaced_block how.replace found) info (marks_of style form)) edit
      (list_any (closes_comment (marks_of style form)) (texts_in (marks_of style form) texts)) e)

  pub texts_added : AddsTexts style how additions texts file edit
  unfolding found form info
  texts_added = record {
    marks = written.0;
    text = record {
      marks_are = written.1;
      text_is = ap (λ (x : Edit). x.text) written.2.same
          ∙ text_of_edit style file (block_text written.0 (kind_of_file file) info) (replaced_block how.replace found);
    };
    fits = record {
      within = subst (λ (x : Edit). x.start + x.old_len ≤ length file) (sym written.2.same)
          (edit_within style file (block_text written.0 (kind_of_file file) info) found how.replace law refl);
      short = not_over LONGEST_FILE (length (edited file edit)) written.2.few;
    };
  }

  pub texts_fit : (edit.start + edit.old_len ≤ length file) × (length (edited file edit) ≤ LONGEST_FILE)
  texts_fit = (texts_added.fits.within, texts_added.fits.short)

  pub texts_replace : (span : HeaderSpan) → how.replace ≡ true
      → option_map (span_in file) (header_of style file) ≡ Some span
      → edited file edit ≡ take span.start file ++ edit.text ++ drop span.end file
  unfolding found
  texts_replace span replaced is = edit_replaces style file (block_text written.0 (kind_of_file file) info)
      how.replace edit span law replaced is written.2.same

  pub texts_insert : (how.replace ≡ false) ⊎ (header_of style file ≡ None)
      → IsInsertion file (place_in file (body_lines style (file_lines file))) edit
  unfolding found
  texts_insert either = edit_inserts style file (block_text written.0 (kind_of_file file) info) how.replace edit either
      written.2.same
