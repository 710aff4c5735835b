-- Annotating keeps every byte outside the header block.
use Rattle.std.proofs.Common.{◌≡◌, ℕ, ◌+◌, ◌-◌, ◌≤◌, Bool, true, false, List, [], ◌++◌, take, drop, Option, None, Some}
use Rattle.std.proofs.Common.{refl, sym, ap, subst, ◌∙◌, inl, inr, arith}
use Rattle.std.specs.Prelude.{Ok, ◌⊎◌, not}
use Rattle.std.specs.Option.{option_map}
use Rattle.std.proofs.lemmas.Bool.{false≢true}
use Rattle.std.proofs.lemmas.List.{append-nil}
use Rattle.reuse_text.specs.Text.{lines_of, file_lines, after_mark, mark_len_of, text_of}
use Rattle.reuse_notice.specs.declared.adding.Additions.{Additions}
use Rattle.reuse_style.specs.declared.style.Style.{Style}
use Rattle.reuse_header.specs.declared.annotation.How.{How}
use Rattle.reuse_header.specs.Body.{PlacedLines, body_lines, place_in}
use Rattle.reuse_header.specs.Header.{HeaderSpan, span_in, header_of}
use Rattle.reuse_header.specs.Writing.{new_info, block_text, neighbour_marks}
use Rattle.reuse_header.specs.Annotation.{Edit, edited, replacement, insertion, is_last_ended, has_lines, begins_full}
use Rattle.reuse_header.specs.Annotation.{prefix_lines, replaced_block, edit_of, kind_of_file}
use Rattle.reuse_header.specs.Annotation.{annotation_of}
use Rattle.reuse_header.specs.Neighbour.{neighbour_end, replaced_contents, neighbour_edit, neighbour_annotation_of}
use Rattle.reuse_header.specs.Laws.{IsInsertion}
use Rattle.reuse_header.proofs.CutLemmas.{span_cuts, block_within}
use Rattle.reuse_header.proofs.SpanLemmas.{neighbour_end-within}
use Rattle.reuse_header.proofs.LawLemmas.{annotated_ok, neighbour_ok}

-- the file with a text in the place of some bytes
abbrev pub Replaces : List ℕ → ℕ → ℕ → Edit → Type 0
Replaces file start end edit = edited file edit ≡ take start file ++ edit.text ++ drop end file

pub replacement_replaces : (file text : List ℕ) (start end : ℕ) → start ≤ end
    → Replaces file start end (replacement start end text)
replacement_replaces file text start end low =
    let reaches : start + (end - start) ≡ end = omega arith in
    ap (λ (k : ℕ). take start file ++ (text ++ []) ++ drop k file) reaches
    ∙ ap (λ (bytes : List ℕ). take start file ++ bytes ++ drop end file) (append-nil text)

-- a text that is put in takes no byte away
insertion_inserts : (file text : List ℕ) (prefix rest : PlacedLines) (start : ℕ)
    → IsInsertion file start (insertion prefix rest start (kind_of_file file) text)
insertion_inserts file text prefix rest start =
    let edit = insertion prefix rest start (kind_of_file file) text in
    let here : start + 0 ≡ start = omega arith in
    record {
      made = ap (λ (k : ℕ). take start file ++ (edit.front ++ (edit.text ++ edit.back)) ++ drop k file) here;
      takes_nothing = refl;
      front = (not (is_last_ended prefix), has_lines prefix, refl);
      back = (begins_full rest, refl);
    }

-- ---- files

pub span_replaces : (style : Style) (file text : List ℕ) (span : HeaderSpan) → span.start ≤ span.end
    → Replaces file span.start span.end (edit_of style file (Some span) text)
unfolding edit_of
span_replaces style file text span low = replacement_replaces file text span.start span.end low

prefix_inserts : (style : Style) (file text : List ℕ)
    → IsInsertion file (place_in file (body_lines style (file_lines file))) (edit_of style file None text)
unfolding edit_of
prefix_inserts style file text =
    let lines = file_lines file in
    let body = body_lines style lines in
    insertion_inserts file text (prefix_lines style lines) body (place_in file body)

none_replaced : (replace : Bool) (found : Option HeaderSpan) → (replace ≡ false) ⊎ (found ≡ None)
    → replaced_block replace found ≡ None
none_replaced false found either = refl
none_replaced true found (inl e) = absurd (false≢true (sym e))
none_replaced true found (inr e) = e

-- an edit in the place of the header block
pub edit_replaces : (style : Style) (file text : List ℕ) (replace : Bool) (edit : Edit) (span : HeaderSpan)
    → text_of (lines_of (after_mark file)) ≡ after_mark file → replace ≡ true
    → option_map (span_in file) (header_of style file) ≡ Some span
    → edit ≡ edit_of style file (replaced_block replace (option_map (span_in file) (header_of style file))) text
    → Replaces file span.start span.end edit
edit_replaces style file text replace edit span law replaced is same =
    let old = ap (replaced_block replace) is ∙ ap (λ (r : Bool). replaced_block r (Some span)) replaced in
    let within = block_within style file span (span_cuts style file span law is) in
    subst (Replaces file span.start span.end)
    (sym (same ∙ ap (λ (o : Option HeaderSpan). edit_of style file o text) old))
    (span_replaces style file text span within.0)

-- an edit of a file without such a block, or one that leaves it
pub edit_inserts : (style : Style) (file text : List ℕ) (replace : Bool) (edit : Edit)
    → (replace ≡ false) ⊎ (header_of style file ≡ None)
    → edit ≡ edit_of style file (replaced_block replace (option_map (span_in file) (header_of style file))) text
    → IsInsertion file (place_in file (body_lines style (file_lines file))) edit
edit_inserts style file text replace edit either same =
    let found = option_map (span_in file) (header_of style file) in
    let unfound : (replace ≡ false) ⊎ (found ≡ None) = elim either [
      | inl add ↦ inl add
      | inr none ↦ inr (ap (option_map (span_in file)) none)
    ] in
    subst (IsInsertion file (place_in file (body_lines style (file_lines file))))
    (sym (same ∙ ap (λ (o : Option HeaderSpan). edit_of style file o text) (none_replaced replace found unfound)))
    (prefix_inserts style file text)

pub replacing_keeps_others : (style : Style) (how : How) (additions : Additions) (file : List ℕ) (edit : Edit)
    (span : HeaderSpan) → text_of (lines_of (after_mark file)) ≡ after_mark file
    → how.replace ≡ true → annotation_of style how additions file ≡ Ok edit
    → option_map (span_in file) (header_of style file) ≡ Some span
    → edited file edit ≡ take span.start file ++ edit.text ++ drop span.end file
replacing_keeps_others style how additions file edit span law replaced e is =
    let w = annotated_ok style how additions file (option_map (span_in file) (header_of style file)) edit refl e in
    edit_replaces style file _ how.replace edit span law replaced is w.2.same

pub inserting_keeps_others : (style : Style) (how : How) (additions : Additions) (file : List ℕ) (edit : Edit)
    → (how.replace ≡ false) ⊎ (header_of style file ≡ None)
    → annotation_of style how additions file ≡ Ok edit
    → IsInsertion file (place_in file (body_lines style (file_lines file))) edit
inserting_keeps_others style how additions file edit either e =
    let w = annotated_ok style how additions file (option_map (span_in file) (header_of style file)) edit refl e in
    edit_inserts style file _ how.replace edit either w.2.same

-- ---- neighbour files

pub block_replaces : (replace : Bool) (file text : List ℕ) → replace ≡ true → mark_len_of file ≤ neighbour_end file
    → Replaces file (mark_len_of file) (neighbour_end file) (neighbour_edit replace file text)
unfolding neighbour_edit
block_replaces true file text e low = replacement_replaces file text (mark_len_of file) (neighbour_end file) low
block_replaces false file text e low = absurd (false≢true e)

pub front_inserts : (replace : Bool) (file text : List ℕ) → replace ≡ false
    → IsInsertion file (mark_len_of file) (neighbour_edit replace file text)
unfolding neighbour_edit
front_inserts true file text e = absurd (false≢true (sym e))
front_inserts false file text e = insertion_inserts file text [] (file_lines file) (mark_len_of file)

abbrev text_for : How → Additions → List ℕ → List ℕ
text_for how additions file = block_text neighbour_marks (kind_of_file file)
    (new_info [] (replaced_contents how.replace file) how.merge additions)

pub neighbour_replacing_keeps_others : (how : How) (additions : Additions) (file : List ℕ) (edit : Edit)
    → ((other : List ℕ) → text_of (lines_of other) ≡ other)
    → how.replace ≡ true → neighbour_annotation_of how additions file ≡ Ok edit
    → edited file edit ≡ take (mark_len_of file) file ++ edit.text ++ drop (neighbour_end file) file
neighbour_replacing_keeps_others how additions file edit joined yes_replace e =
    let w = neighbour_ok how additions file edit e in
    let there =
    block_replaces how.replace file (text_for how additions file) yes_replace (neighbour_end-within joined file).0 in
    subst (λ (x : Edit). Replaces file (mark_len_of file) (neighbour_end file) x) (sym w.same) there

pub neighbour_inserting_keeps_others : (how : How) (additions : Additions) (file : List ℕ) (edit : Edit)
    → how.replace ≡ false → neighbour_annotation_of how additions file ≡ Ok edit
    → IsInsertion file (mark_len_of file) edit
neighbour_inserting_keeps_others how additions file edit add e =
    let w = neighbour_ok how additions file edit e in
    subst (IsInsertion file (mark_len_of file)) (sym w.same)
    (front_inserts how.replace file (text_for how additions file) add)
