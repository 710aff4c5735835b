-- The edit that takes texts out of a neighbour: which bytes stay.
use Rattle.std.proofs.Common.{◌≡◌, ℕ, ◌+◌, ◌≤◌, Bool, true, false, List, [], ◌++◌, length, take, drop, None, Some, sym}
use Rattle.std.proofs.Common.{ap}
use Rattle.std.proofs.Common.{subst, ◌∙◌, cond, arith}
use Rattle.std.specs.Prelude.{Ok, Err, nat_lt}
use Rattle.reuse_text.specs.declared.TheConstants.{LONGEST_FILE}
use Rattle.reuse_text.specs.Text.{text_of, lines_of, mark_len_of}
use Rattle.reuse_notice.specs.declared.infos.Info.{Info}
use Rattle.reuse_notice.specs.Infos.{info_of}
use Rattle.reuse_header.specs.declared.annotation.HeaderRefusal.TheVariants.{NotText}
use Rattle.reuse_header.specs.Writing.{block_text, neighbour_marks}
use Rattle.reuse_header.specs.Annotation.{Edit, edited, replacement, kind_of_file, text_start, text_end}
use Rattle.reuse_header.specs.Neighbour.{is_text, replaced_contents, neighbour_end, neighbour_edit, neighbour_written}
use Rattle.reuse_header.specs.Neighbour.{neighbour_stands}
use Rattle.reuse_header.proofs.SpanLemmas.{neighbour_end-within}
use Rattle.reuse_header.proofs.KeptLemmas.{Replaces, replacement_replaces}
use Rattle.reuse_header.proofs.WrittenLemmas.{settled_ok}
use Rattle.reuse_words.specs.Information.{without_texts, with_free}
use Rattle.reuse_words.specs.Amended.{texts_in, free_to_write, written_if_some, neighbour_without_texts_of}
use Rattle.reuse_words.specs.FileLaws.{Fits}
use Rattle.reuse_words.proofs.FileLawLemmas.{no_edit, not_over, written_some}

module _ (file : List ℕ) (edit : Edit) where
  -- information is written in the place of the whole comment, which fits the file
  written_there : (info : Info) → neighbour_written true file info ≡ Ok edit
      → (edit ≡ replacement (mark_len_of file) (neighbour_end file)
      (block_text neighbour_marks (kind_of_file file) info)) × (length (edited file edit) ≤ LONGEST_FILE)
  unfolding neighbour_written neighbour_edit
  written_there info e =
      let first = replacement (mark_len_of file) (neighbour_end file)
      (block_text neighbour_marks (kind_of_file file) info) in
      let s = settled_ok (edited file first) first edit
      (neighbour_stands true (edited file first) (text_start first) (text_end first)) e in (
        s.same,
        not_over LONGEST_FILE (length (edited file edit))
            (ap (λ (x : Edit). nat_lt LONGEST_FILE (length (edited file x))) s.same ∙ s.few),
      )

  module _ (joined : (other : List ℕ) → text_of (lines_of other) ≡ other) (texts : List (List (List ℕ)))
      (e : neighbour_without_texts_of texts file ≡ Ok (Some edit)) where
    written : (info : Info) × (neighbour_written true file info ≡ Ok edit)
    unfolding neighbour_without_texts_of
    written = by_text (is_text file) e
      where
        old : Info
        old = info_of [] (replaced_contents true file)

        by_text : (text : Bool)
            → cond text (written_if_some (λ free. neighbour_written true file (with_free [] old free))
            (free_to_write old.free (without_texts [] (texts_in None texts) old.free))) (Err NotText) ≡ Ok (Some edit)
            → (info : Info) × (neighbour_written true file info ≡ Ok edit)
        by_text false h = absurd (no_edit NotText (Some edit) h)
        by_text true h =
            let made = written_some (λ free. neighbour_written true file (with_free [] old free))
            (free_to_write old.free (without_texts [] (texts_in None texts) old.free)) edit h in
            (with_free [] old made.0, made.2)

    pub neighbour_out_bytes : edited file edit
        ≡ take (mark_len_of file) file ++ edit.text ++ drop (neighbour_end file) file
    neighbour_out_bytes =
        subst (λ (x : Edit). Replaces file (mark_len_of file) (neighbour_end file) x)
        (sym (written_there written.0 written.1).0)
        (replacement_replaces file (block_text neighbour_marks (kind_of_file file) written.0) (mark_len_of file)
        (neighbour_end file) (neighbour_end-within joined file).0)

    pub neighbour_out_fits : Fits file edit
    neighbour_out_fits =
        let ends = neighbour_end-within joined file in
        record {
          within = subst (λ (x : Edit). x.start + x.old_len ≤ length file) (sym (written_there written.0 written.1).0)
              (omega (arith, ends.0, ends.1));
          short = (written_there written.0 written.1).1;
        }
