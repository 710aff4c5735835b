-- The edit that adds information and texts to a neighbour: what it writes, and which bytes stay.
use Rattle.std.proofs.Common.{◌≡◌, ℕ, ◌+◌, ◌≤◌, Bool, true, false, List, [], ◌++◌, length, take, drop, None, refl}
use Rattle.std.proofs.Common.{sym, ap, subst, ◌∙◌, cond}
use Rattle.std.specs.Prelude.{Ok, Err, nat_lt}
use Rattle.reuse_text.specs.declared.TheConstants.{LONGEST_FILE}
use Rattle.reuse_text.specs.Text.{text_of, lines_of, mark_len_of}
use Rattle.reuse_notice.specs.declared.infos.Info.{Info}
use Rattle.reuse_notice.specs.declared.adding.Additions.{Additions}
use Rattle.reuse_header.specs.declared.annotation.How.{How}
use Rattle.reuse_header.specs.declared.annotation.HeaderRefusal.TheVariants.{NotText}
use Rattle.reuse_header.specs.Writing.{new_info, block_text, neighbour_marks}
use Rattle.reuse_header.specs.Annotation.{Edit, edited, kind_of_file, text_start, text_end}
use Rattle.reuse_header.specs.Neighbour.{is_text, replaced_contents, neighbour_end, neighbour_edit, neighbour_written}
use Rattle.reuse_header.specs.Neighbour.{neighbour_stands}
use Rattle.reuse_header.specs.Laws.{IsInsertion}
use Rattle.reuse_header.proofs.SpanLemmas.{neighbour_end-within}
use Rattle.reuse_header.proofs.FittingLemmas.{not_over, neighbour_within}
use Rattle.reuse_header.proofs.KeptLemmas.{Replaces, block_replaces, front_inserts}
use Rattle.reuse_header.proofs.WrittenLemmas.{settled_ok}
use Rattle.reuse_words.specs.declared.refusal.TextHeaderRefusal.TheVariants.{Header}
use Rattle.reuse_words.specs.Information.{info_with}
use Rattle.reuse_words.specs.Amended.{texts_in}
use Rattle.reuse_words.specs.Added.{header_edit, neighbour_text_annotation_of}
use Rattle.reuse_words.proofs.AddedLawLemmas.{refused, header_ok}

-- information with texts, as a neighbour gets it
abbrev pub info_beside : How → Additions → List (List (List ℕ)) → List ℕ → Info
info_beside how additions texts file =
    info_with [] (texts_in None texts) (new_info [] (replaced_contents how.replace file) how.merge additions)

-- what an edit is, and how long the file that it makes
pub record IsBeside (replace : Bool) (file text : List ℕ) (edit : Edit) : Type 0 where
  pub same : edit ≡ neighbour_edit replace file text
  pub few : nat_lt LONGEST_FILE (length (edited file edit)) ≡ false

pub written_beside : (replace : Bool) (file : List ℕ) (info : Info) (edit : Edit)
    → neighbour_written replace file info ≡ Ok edit
    → IsBeside replace file (block_text neighbour_marks (kind_of_file file) info) edit
unfolding neighbour_written
written_beside replace file info edit e =
    let first = neighbour_edit replace file (block_text neighbour_marks (kind_of_file file) info) in
    let s = settled_ok (edited file first) first edit
    (neighbour_stands replace (edited file first) (text_start first) (text_end first)) e in
    record { same = s.same; few = ap (λ (x : Edit). nat_lt LONGEST_FILE (length (edited file x))) s.same ∙ s.few }

module _ (how : How) (additions : Additions) (texts : List (List (List ℕ))) (file : List ℕ) (edit : Edit)
    (e : neighbour_text_annotation_of how additions texts file ≡ Ok edit) where
  pub is_written : (is_text file ≡ true) × (neighbour_written how.replace file (info_beside how additions texts file)
      ≡ Ok edit)
  unfolding neighbour_text_annotation_of
  is_written = by_text (is_text file) refl e
    where
      by_text : (text : Bool) → is_text file ≡ text
          → cond text (header_edit (neighbour_written how.replace file (info_beside how additions texts file)))
          (Err (Header NotText)) ≡ Ok edit
          → (is_text file ≡ true)
          × (neighbour_written how.replace file (info_beside how additions texts file) ≡ Ok edit)
      by_text true is h =
          (is, header_ok (neighbour_written how.replace file (info_beside how additions texts file)) edit h)
      by_text false is h = absurd (refused (Header NotText) edit h)

  pub is_beside : IsBeside how.replace file
      (block_text neighbour_marks (kind_of_file file) (info_beside how additions texts file)) edit
  is_beside = written_beside how.replace file (info_beside how additions texts file) edit is_written.1

  pub beside_fits : ((other : List ℕ) → text_of (lines_of other) ≡ other)
      → (edit.start + edit.old_len ≤ length file) × (length (edited file edit) ≤ LONGEST_FILE)
  beside_fits joined = (
    subst (λ (x : Edit). x.start + x.old_len ≤ length file) (sym is_beside.same)
        (neighbour_within how.replace file
        (block_text neighbour_marks (kind_of_file file) (info_beside how additions texts file)) joined),
    not_over LONGEST_FILE (length (edited file edit)) is_beside.few,
  )

  pub beside_replaces : ((other : List ℕ) → text_of (lines_of other) ≡ other) → how.replace ≡ true
      → edited file edit ≡ take (mark_len_of file) file ++ edit.text ++ drop (neighbour_end file) file
  beside_replaces joined replaced =
      subst (λ (x : Edit). Replaces file (mark_len_of file) (neighbour_end file) x) (sym is_beside.same)
      (block_replaces how.replace file
      (block_text neighbour_marks (kind_of_file file) (info_beside how additions texts file)) replaced
      (neighbour_end-within joined file).0)

  pub beside_inserts : how.replace ≡ false → IsInsertion file (mark_len_of file) edit
  beside_inserts add =
      subst (IsInsertion file (mark_len_of file)) (sym is_beside.same)
      (front_inserts how.replace file
      (block_text neighbour_marks (kind_of_file file) (info_beside how additions texts file)) add)
