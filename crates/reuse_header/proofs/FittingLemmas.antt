-- The edit that annotating is, or amending, lies within its file, and makes none that is too long.
use Rattle.std.proofs.Common.{◌≡◌, ℕ, ◌+◌, ◌≤◌, Bool, true, false, List, [], length, Option, None, Some, refl, sym}
use Rattle.std.proofs.Common.{subst, arith}
use Rattle.std.specs.Prelude.{Result, Ok, nat_lt}
use Rattle.std.specs.Option.{option_map, option_map_or}
use Rattle.std.proofs.lemmas.Bool.Decides.{nat_tests}
use Rattle.reuse_text.specs.declared.TheConstants.{LONGEST_FILE}
use Rattle.reuse_text.specs.Text.{lines_of, after_mark, text_of}
use Rattle.reuse_notice.specs.declared.adding.Additions.{Additions}
use Rattle.reuse_amend.specs.declared.amendments.Amendments.{Amendments}
use Rattle.reuse_style.specs.declared.style.Style.{Style}
use Rattle.reuse_header.specs.declared.annotation.How.{How}
use Rattle.reuse_style.specs.Styles.{punctuation_of}
use Rattle.reuse_header.specs.Header.{HeaderSpan, span_in, header_of}
use Rattle.reuse_header.specs.Writing.{new_info, block_text, neighbour_marks}
use Rattle.reuse_header.specs.Annotation.{Edit, edited, replaced_block, old_contents, edit_of, kind_of_file}
use Rattle.reuse_header.specs.Annotation.{annotation_of}
use Rattle.reuse_header.specs.declared.amendment.AmendHeaderRefusal.{AmendHeaderRefusal}
use Rattle.reuse_header.specs.Amendment.{block_amendment, amendment_of, neighbour_amendment_of}
use Rattle.reuse_header.specs.Neighbour.{replaced_contents, neighbour_edit, neighbour_annotation_of}
use Rattle.reuse_header.proofs.CutLemmas.{span_cuts, block_within, body_within, mark_within}
use Rattle.reuse_header.proofs.SpanLemmas.{neighbour_end-within}
use Rattle.reuse_header.proofs.AmendmentLawLemmas.{amendment_ok, neighbour_amendment_ok}
use Rattle.reuse_header.proofs.LawLemmas.{annotated_ok, neighbour_ok}

pub not_over : (m n : ℕ) → nat_lt m n ≡ false → n ≤ m
not_over m n h = grind (arith, nat_tests)

-- the edit takes away bytes of the file
abbrev pub IsWithin : List ℕ → Edit → Type 0
IsWithin file edit = edit.start + edit.old_len ≤ length file

pub edit_within : (style : Style) (file text : List ℕ) (found : Option HeaderSpan) (replace : Bool)
    → text_of (lines_of (after_mark file)) ≡ after_mark file → option_map (span_in file) (header_of style file) ≡ found
    → IsWithin file (edit_of style file (replaced_block replace found) text)
unfolding edit_of
edit_within style file text None true law is = omega (arith, body_within style file law)
edit_within style file text None false law is = omega (arith, body_within style file law)
edit_within style file text (Some span) false law is = omega (arith, body_within style file law)
edit_within style file text (Some span) true law is =
    let h = block_within style file span (span_cuts style file span law is) in omega (arith, h.0, h.1)

pub neighbour_within : (replace : Bool) (file text : List ℕ) → ((other : List ℕ) → text_of (lines_of other) ≡ other)
    → IsWithin file (neighbour_edit replace file text)
unfolding neighbour_edit
neighbour_within true file text joined = let h = neighbour_end-within joined file in omega (arith, h.0, h.1)
neighbour_within false file text joined = omega (arith, mark_within file)

pub annotation_fits : (style : Style) (how : How) (additions : Additions) (file : List ℕ) (edit : Edit)
    → text_of (lines_of (after_mark file)) ≡ after_mark file → annotation_of style how additions file ≡ Ok edit
    → (edit.start + edit.old_len ≤ length file) × (length (edited file edit) ≤ LONGEST_FILE)
annotation_fits style how additions file edit law e =
    let found = option_map (span_in file) (header_of style file) in
    let w = annotated_ok style how additions file found edit refl e in
    let text = block_text w.0 (kind_of_file file)
    (new_info (punctuation_of style) (old_contents (replaced_block how.replace found)) how.merge additions) in (
      subst (IsWithin file) (sym w.2.same) (edit_within style file text found how.replace law refl),
      not_over LONGEST_FILE (length (edited file edit)) w.2.few,
    )

pub neighbour_fits : (how : How) (additions : Additions) (file : List ℕ) (edit : Edit)
    → ((other : List ℕ) → text_of (lines_of other) ≡ other) → neighbour_annotation_of how additions file ≡ Ok edit
    → (edit.start + edit.old_len ≤ length file) × (length (edited file edit) ≤ LONGEST_FILE)
neighbour_fits how additions file edit joined e =
    let w = neighbour_ok how additions file edit e in
    let text = block_text neighbour_marks (kind_of_file file)
    (new_info [] (replaced_contents how.replace file) how.merge additions) in (
      subst (IsWithin file) (sym w.same) (neighbour_within how.replace file text joined),
      not_over LONGEST_FILE (length (edited file edit)) w.few,
    )

-- ---- amending

abbrev nothing : Result (Option Edit) AmendHeaderRefusal
nothing = Ok None

abbrev something : Edit → Result (Option Edit) AmendHeaderRefusal
something edit = Ok (Some edit)

none_is_some : (edit : Edit) → nothing ≡ something edit → ⊥
none_is_some edit h = cc

pub amendment_fits : (style : Style) (a : Amendments) (file : List ℕ) (edit : Edit)
    → text_of (lines_of (after_mark file)) ≡ after_mark file → amendment_of style a file ≡ Ok (Some edit)
    → (edit.start + edit.old_len ≤ length file) × (length (edited file edit) ≤ LONGEST_FILE)
amendment_fits style a file edit law e = by (option_map (span_in file) (header_of style file)) refl e
  where
    by : (found : Option HeaderSpan) → option_map (span_in file) (header_of style file) ≡ found
        → option_map_or (block_amendment style a file) found (Ok None) ≡ Ok (Some edit)
        → (edit.start + edit.old_len ≤ length file) × (length (edited file edit) ≤ LONGEST_FILE)
    by None is h = absurd (none_is_some edit h)
    by (Some span) is h =
        let w = amendment_ok style a file edit span e is in
        let text = block_text w.marks (kind_of_file file) w.info in (
          subst (IsWithin file) (sym w.written.same) (edit_within style file text (Some span) true law is),
          not_over LONGEST_FILE (length (edited file edit)) w.written.few,
        )

pub neighbour_amendment_fits : (a : Amendments) (file : List ℕ) (edit : Edit)
    → ((other : List ℕ) → text_of (lines_of other) ≡ other) → neighbour_amendment_of a file ≡ Ok (Some edit)
    → (edit.start + edit.old_len ≤ length file) × (length (edited file edit) ≤ LONGEST_FILE)
neighbour_amendment_fits a file edit joined e =
    let w = neighbour_amendment_ok a file edit e in
    let text = block_text neighbour_marks (kind_of_file file) w.info in (
      subst (IsWithin file) (sym w.same) (neighbour_within true file text joined),
      not_over LONGEST_FILE (length (edited file edit)) w.few,
    )
