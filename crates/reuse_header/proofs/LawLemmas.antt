-- What annotating keeps of the old block.
use Rattle.std.proofs.Common.{◌≡◌, ℕ, ◌+◌, ◌≤◌, Bool, true, false, List, [], ◌++◌, length, Option, None, Some, refl}
use Rattle.std.proofs.Common.{sym, ap, subst, ◌∙◌, arith}
use Rattle.std.specs.Prelude.{Ok, Err, if◌then◌else◌, Contains, ◌↔◌, ◌⊎◌, nat_lt}
use Rattle.std.proofs.lemmas.Bool.{false≢true}
use Rattle.std.proofs.lemmas.List.Elements.{Contains-append_left}
use Rattle.std.specs.Option.{option_map}
use Rattle.reuse_text.specs.declared.TheConstants.{LONGEST_FILE}
use Rattle.reuse_text.specs.declared.LineKind.{LineKind}
use Rattle.reuse_text.specs.Text.{TextLine, AreLines, lines_of, file_lines, after_mark, mark_len_of, text_of, spliced}
use Rattle.reuse_notice.specs.declared.infos.Info.{Info}
use Rattle.reuse_notice.specs.declared.adding.Additions.{Additions}
use Rattle.reuse_notice.specs.Infos.{info_of}
use Rattle.reuse_notice.specs.Sets.{set_of, IsSorted}
use Rattle.reuse_notice.specs.Merging.{merged}
use Rattle.reuse_notice.specs.Keeping.{IsKeptBy}
use Rattle.reuse_style.specs.declared.style.Style.{Style}
use Rattle.reuse_style.specs.declared.marks.Form.{Form}
use Rattle.reuse_header.specs.declared.annotation.HeaderRefusal.TheVariants.{NotText}
use Rattle.reuse_header.specs.declared.annotation.How.{How}
use Rattle.reuse_style.specs.Styles.{punctuation_of}
use Rattle.reuse_header.specs.Marks.{LineMarks, marks_of}
use Rattle.reuse_header.specs.Body.{body_lines, place_in}
use Rattle.reuse_header.specs.Header.{HeaderSpan, span_in, header_of, neighbour_contents}
use Rattle.reuse_header.specs.Writing.{new_info, block_text, block_lines, ended_by, neighbour_marks}
use Rattle.reuse_header.specs.Annotation.{Edit, new_bytes, edited, text_start, text_end, chosen_form, replaced_block}
use Rattle.reuse_header.specs.Annotation.{old_contents, edit_of, kind_of_file, annotation_of}
use Rattle.reuse_header.specs.Neighbour.{is_text, neighbour_end, replaced_contents, neighbour_edit, neighbour_stands}
use Rattle.reuse_header.specs.Neighbour.{neighbour_written, neighbour_annotation_of}
use Rattle.reuse_header.specs.declared.blocks.BlockSize.{BlockSize}
use Rattle.reuse_header.specs.Blocks.{contents_of}
use Rattle.reuse_header.specs.Split.{bytes_of}
use Rattle.reuse_header.specs.Reading.{IsSayable}
use Rattle.reuse_header.specs.Laws.{part, Keeps, IsBlockText, ReadsAs, AreContents}
use Rattle.reuse_header.proofs.ContentsLemmas.{inner_content, the_reader, block_contents}
use Rattle.reuse_header.proofs.ReadingLemmas.{reads_back}
use Rattle.reuse_header.proofs.AgainLemmas.{stands_there, found_bytes, found_contents, form_again}
use Rattle.reuse_header.proofs.CutLemmas.{span_cuts, block_within, body_first, body_within, mark_within}
use Rattle.reuse_header.proofs.WrittenLemmas.{IsWritten, written_ok, kept_behind, error_is_ok, settled_ok}

-- the edit that annotating is, by what was found
pub annotated_ok : (style : Style) (how : How) (additions : Additions) (file : List ℕ) (found : Option HeaderSpan)
    (edit : Edit) → option_map (span_in file) (header_of style file) ≡ found
    → annotation_of style how additions file ≡ Ok edit
    → let old = replaced_block how.replace found in
    (m : LineMarks) × (marks_of style (chosen_form style how.form found) ≡ Some m)
    × IsWritten style file old (new_info (punctuation_of style) (old_contents old) how.merge additions) m edit
unfolding annotation_of
annotated_ok style how additions file found edit is e =
    let found' = option_map (span_in file) (header_of style file) in
    let old' = replaced_block how.replace found' in
    let w = written_ok style file old' (new_info (punctuation_of style) (old_contents old') how.merge additions)
    (marks_of style (chosen_form style how.form found')) edit e in
    subst (λ (f : Option HeaderSpan). (m : LineMarks) × (marks_of style (chosen_form style how.form f) ≡ Some m)
    × IsWritten style file (replaced_block how.replace f)
    (new_info (punctuation_of style) (old_contents (replaced_block how.replace f)) how.merge additions) m edit) is w

insertion_at : (style : Style) (file text : List ℕ) → (let edit = edit_of style file None text in
    (edit.old_len ≡ 0) × (edit.start ≡ place_in file (body_lines style (file_lines file))))
unfolding edit_of
insertion_at style file text = (refl, refl)

pub insertion_keeps : (style : Style) (how : How) (additions : Additions) (file : List ℕ) (edit : Edit)
    (span : HeaderSpan) → text_of (lines_of (after_mark file)) ≡ after_mark file
    → how.replace ≡ false → annotation_of style how additions file ≡ Ok edit
    → option_map (span_in file) (header_of style file) ≡ Some span
    → part (edited file edit) (span.start + length (new_bytes edit))
    (span.end + length (new_bytes edit)) ≡ part file span.start span.end
insertion_keeps style how additions file edit span law add e is =
    let w = annotated_ok style how additions file (Some span) edit is e in
    let none : replaced_block how.replace (Some span) ≡ None = rw add refl in
    let text = block_text w.0 (kind_of_file file)
    (new_info (punctuation_of style) (old_contents (replaced_block how.replace (Some span))) how.merge additions) in
    let same : edit ≡ edit_of style file None text =
    w.2.same ∙ ap (λ (old : Option HeaderSpan). edit_of style file old text) none in
    let there = insertion_at style file text in
    let zero : edit.old_len ≡ 0 = ap (λ (x : Edit). x.old_len) same ∙ there.0 in
    let place : edit.start ≡ place_in file (body_lines style (file_lines file)) =
    ap (λ (x : Edit). x.start) same ∙ there.1 in
    let first = body_first style file span law is in
    let within = block_within style file span (span_cuts style file span law is) in
    let kept = kept_behind file (new_bytes edit) edit.start span.start span.end (omega (arith, place, first))
    (omega (arith, place, first, within.0, within.1)) in
    ap (λ (k : ℕ). part (spliced file edit.start k (new_bytes edit)) (span.start + length (new_bytes edit))
    (span.end + length (new_bytes edit))) zero ∙ kept

-- ---- old information stays

in_union : ((texts : List (List ℕ)) (text : List ℕ) → (Contains (set_of texts) text) ↔ (Contains texts text))
    → (xs ys : List (List ℕ)) (text : List ℕ) → Contains xs text → Contains (set_of (xs ++ ys)) text
in_union same xs ys text h = (same (xs ++ ys) text).1 (Contains-append_left xs ys text h)

pub new_keeps : ((texts : List (List ℕ)) (text : List ℕ) → (Contains (set_of texts) text) ↔ (Contains texts text))
    → ((command notices : List (List ℕ)) (text : List ℕ) → Contains notices text
    → (Contains (merged command notices) text)
    ⊎ ((other : List ℕ) × (Contains (merged command notices) other) × IsKeptBy text other))
    → (punct : List ℕ) (contents : List (List ℕ)) (merge : Bool) (additions : Additions)
    → Keeps merge (info_of punct contents) (new_info punct contents merge additions)
unfolding new_info
new_keeps same keeping punct contents false additions = record {
  notices = λ text h. in_union same (info_of punct contents).notices additions.notices text h;
  contributors = λ text h. in_union same (info_of punct contents).contributors additions.contributors text h;
  licences = λ text h. in_union same (info_of punct contents).licences additions.licences text h;
  free = refl;
}
new_keeps same keeping punct contents true additions = record {
  notices = λ text h. keeping additions.notices (set_of ((info_of punct contents).notices ++ additions.notices)) text
      (in_union same (info_of punct contents).notices additions.notices text h);
  contributors = λ text h. in_union same (info_of punct contents).contributors additions.contributors text h;
  licences = λ text h. in_union same (info_of punct contents).licences additions.licences text h;
  free = refl;
}

pub text_of_edit : (style : Style) (file text : List ℕ) (old : Option HeaderSpan)
    → (edit_of style file old text).text ≡ text
unfolding edit_of
text_of_edit style file text None = refl
text_of_edit style file text (Some span) = refl

-- the block that is written, and what it says
pub written_block : (style : Style) (how : How) (additions : Additions) (file : List ℕ) (found : Option HeaderSpan)
    (edit : Edit) → option_map (span_in file) (header_of style file) ≡ found
    → annotation_of style how additions file ≡ Ok edit
    → (marks : LineMarks) × IsBlockText style (kind_of_file file)
    (new_info (punctuation_of style) (old_contents (replaced_block how.replace found)) how.merge additions)
    (chosen_form style how.form found) marks edit.text
written_block style how additions file found edit is e =
    let w = annotated_ok style how additions file found edit is e in
    let info =
    new_info (punctuation_of style) (old_contents (replaced_block how.replace found)) how.merge additions in (
      w.0,
      record {
        marks_are = w.1;
        text_is = ap (λ (x : Edit). x.text) w.2.same
            ∙ text_of_edit style file (block_text w.0 (kind_of_file file) info) (replaced_block how.replace found);
      },
    )

-- the block that is written says what the old one did
pub replacing_keeps : ((texts : List (List ℕ)) (text : List ℕ) → (Contains (set_of texts) text) ↔ (Contains texts text))
    → ((command notices : List (List ℕ)) (text : List ℕ) → Contains notices text
    → (Contains (merged command notices) text)
    ⊎ ((other : List ℕ) × (Contains (merged command notices) other) × IsKeptBy text other))
    → (style : Style) (how : How) (additions : Additions) (file : List ℕ) (edit : Edit) (span : HeaderSpan)
    → how.replace ≡ true → annotation_of style how additions file ≡ Ok edit
    → option_map (span_in file) (header_of style file) ≡ Some span
    → (info : Info) × (form : Form) × (marks : LineMarks)
    × (IsBlockText style (kind_of_file file) info form marks edit.text)
    × (Keeps how.merge (info_of (punctuation_of style) span.contents) info)
replacing_keeps same keeping style how additions file edit span yes_replace e is =
    let w = written_block style how additions file (Some span) edit is e in
    let old : old_contents (replaced_block how.replace (Some span)) ≡ span.contents = rw yes_replace refl in
    let info = new_info (punctuation_of style) span.contents how.merge additions in (
      info,
      chosen_form style how.form (Some span),
      w.0,
      subst (λ (contents : List (List ℕ)). IsBlockText style (kind_of_file file) (new_info (punctuation_of style)
          contents how.merge additions) (chosen_form style how.form (Some span)) w.0 edit.text) old w.1,
      new_keeps same keeping (punctuation_of style) span.contents how.merge additions,
    )

-- ---- neighbour files

pub record NeighbourWritten (how : How) (additions : Additions) (file : List ℕ) (edit : Edit) : Type 0 where
  pub same : edit ≡ neighbour_edit how.replace file (block_text neighbour_marks (kind_of_file file)
      (new_info [] (replaced_contents how.replace file) how.merge additions))
  pub few : nat_lt LONGEST_FILE (length (edited file edit)) ≡ false
  pub stands : neighbour_stands how.replace (edited file edit) (text_start edit) (text_end edit) ≡ true

pub neighbour_ok : (how : How) (additions : Additions) (file : List ℕ) (edit : Edit)
    → neighbour_annotation_of how additions file ≡ Ok edit → NeighbourWritten how additions file edit
unfolding neighbour_annotation_of neighbour_written
neighbour_ok how additions file edit e = by_text (is_text file) e
  where
    by_text : (text : Bool) → (if text then neighbour_written how.replace file
        (new_info [] (replaced_contents how.replace file) how.merge additions) else Err NotText) ≡ Ok edit
        → NeighbourWritten how additions file edit
    by_text false e = absurd (error_is_ok NotText edit e)
    by_text true e =
        let first = neighbour_edit how.replace file (block_text neighbour_marks (kind_of_file file)
        (new_info [] (replaced_contents how.replace file) how.merge additions)) in
        let s = settled_ok (edited file first) first edit
        (neighbour_stands how.replace (edited file first) (text_start first) (text_end first)) e in
        record {
          same = s.same;
          few = ap (λ (x : Edit). nat_lt LONGEST_FILE (length (edited file x))) s.same ∙ s.few;
          stands = ap
              (λ (x : Edit). neighbour_stands how.replace (edited file x) (text_start x) (text_end x)) s.same ∙ s.found;
        }

neighbour_insertion : (replace : Bool) (file text : List ℕ) → replace ≡ false
    → (let edit = neighbour_edit replace file text in (edit.old_len ≡ 0) × (edit.start ≡ mark_len_of file))
unfolding neighbour_edit
neighbour_insertion true file text e = absurd (false≢true (sym e))
neighbour_insertion false file text e = (refl, refl)

pub neighbour_text : (replace : Bool) (file text : List ℕ) → (neighbour_edit replace file text).text ≡ text
unfolding neighbour_edit
neighbour_text true file text = refl
neighbour_text false file text = refl

pub neighbour_insertion_keeps : (how : How) (additions : Additions) (file : List ℕ) (edit : Edit) → how.replace ≡ false
    → neighbour_annotation_of how additions file ≡ Ok edit
    → part (edited file edit) (mark_len_of file + length (new_bytes edit))
    (neighbour_end file + length (new_bytes edit)) ≡ part file (mark_len_of file) (neighbour_end file)
neighbour_insertion_keeps how additions file edit add e =
    let w = neighbour_ok how additions file edit e in
    let text = block_text neighbour_marks (kind_of_file file)
    (new_info [] (replaced_contents how.replace file) how.merge additions) in
    let there = neighbour_insertion how.replace file text add in
    let zero : edit.old_len ≡ 0 = ap (λ (x : Edit). x.old_len) w.same ∙ there.0 in
    let place : edit.start ≡ mark_len_of file = ap (λ (x : Edit). x.start) w.same ∙ there.1 in
    let within = mark_within file in
    let kept = kept_behind file (new_bytes edit) edit.start (mark_len_of file) (neighbour_end file)
    (omega (arith, place)) (omega (arith, place, within)) in
    ap (λ (k : ℕ). part (spliced file edit.start k (new_bytes edit)) (mark_len_of file + length (new_bytes edit))
    (neighbour_end file + length (new_bytes edit))) zero ∙ kept

pub neighbour_replacing_keeps : ((texts : List (List ℕ)) (text : List ℕ)
    → (Contains (set_of texts) text) ↔ (Contains texts text))
    → ((command notices : List (List ℕ)) (text : List ℕ) → Contains notices text
    → (Contains (merged command notices) text)
    ⊎ ((other : List ℕ) × (Contains (merged command notices) other) × IsKeptBy text other))
    → (how : How) (additions : Additions) (file : List ℕ) (edit : Edit) → how.replace ≡ true
    → neighbour_annotation_of how additions file ≡ Ok edit
    → (info : Info) × (edit.text ≡ block_text neighbour_marks (kind_of_file file) info)
    × (Keeps how.merge (info_of [] (neighbour_contents file)) info)
neighbour_replacing_keeps same keeping how additions file edit yes_replace e =
    let w = neighbour_ok how additions file edit e in
    let old : replaced_contents how.replace file ≡ neighbour_contents file = rw yes_replace refl in
    let info = new_info [] (neighbour_contents file) how.merge additions in (
      info,
      ap (λ (x : Edit). x.text) w.same ∙ neighbour_text how.replace file _ ∙ ap (λ (contents : List (List ℕ)).
          block_text neighbour_marks (kind_of_file file) (new_info [] contents how.merge additions)) old,
      new_keeps same keeping [] (neighbour_contents file) how.merge additions,
    )

-- ---- the written block is found again, and says what was written

span_within : (style : Style) (file : List ℕ) (span : HeaderSpan)
    → text_of (lines_of (after_mark file)) ≡ after_mark file
    → option_map (span_in file) (header_of style file) ≡ Some span → span.start ≤ length file
span_within style file span law is = let h = block_within style file span (span_cuts style file span law is) in
    omega (arith, h.0, h.1)

start_of : (style : Style) (file text : List ℕ) (span : HeaderSpan)
    → (edit_of style file (Some span) text).start ≡ span.start
unfolding edit_of
start_of style file text span = refl

pub start_within : (style : Style) (file text : List ℕ) (found : Option HeaderSpan) (replace : Bool)
    → text_of (lines_of (after_mark file)) ≡ after_mark file → option_map (span_in file) (header_of style file) ≡ found
    → (edit_of style file (replaced_block replace found) text).start ≤ length file
start_within style file text None true law is = let e = (insertion_at style file text).1 in
    omega (arith, e, body_within style file law)
start_within style file text None false law is = let e = (insertion_at style file text).1 in
    omega (arith, e, body_within style file law)
start_within style file text (Some span) true law is = let e = start_of style file text span in
    omega (arith, e, span_within style file span law is)
start_within style file text (Some span) false law is = let e = (insertion_at style file text).1 in
    omega (arith, e, body_within style file law)

pub text_lines : (marks : LineMarks) (kind : LineKind) (info : Info)
    → block_text marks kind info ≡ ended_by kind (block_lines marks info)
unfolding block_text
text_lines marks kind info = refl

abbrev a_size : Form → ℕ → BlockSize
a_size form count = record { form = form; count = count }

-- the block of an edit that was written is found again, and says what was written
pub read_written : ((text : List ℕ) → text_of (lines_of text) ≡ text) → ((text : List ℕ) → AreLines (lines_of text))
    → ((text : List ℕ) (lines : List TextLine) → AreLines lines → text_of lines ≡ text → lines ≡ lines_of text)
    → ((texts other : List (List ℕ)) → IsSorted other
    → ((text : List ℕ) → (Contains other text) ↔ (Contains texts text)) → other ≡ set_of texts)
    → (style : Style) (file : List ℕ) (old : Option HeaderSpan) (said : Info) (m : LineMarks) (edit : Edit)
    (info : Info) (form : Form) (marks : LineMarks)
    → IsWritten style file old said m edit
    → (edit_of style file old (block_text m (kind_of_file file) said)).start ≤ length file
    → IsBlockText style (kind_of_file file) info form marks edit.text → IsSayable (punctuation_of style) info
    → AreContents (kind_of_file file) (block_lines marks info)
    → (span : HeaderSpan) × ReadsAs style (edited file edit) (text_start edit) (text_end edit) form info span
read_written joined well only sets style file old said m edit info form marks w fits written sayable lines =
    let made = edited file edit in
    let there = stands_there style made (text_start edit) (text_end edit) w.stands in
    let span = there.0 in
    let cut = span_cuts style made span (joined (after_mark made)) there.1 in
    let before = cut.0 in
    let h = cut.1 in
    let at = cut.3 in
    let low = ap (λ (x : Edit). x.start) w.same in
    let bytes = found_bytes style file edit span before h cut.2 (omega (arith, low, fits)) there.2 there.3 at in
    let text : bytes_of h.block ≡ ended_by (kind_of_file file) (block_lines marks info) =
    bytes ∙ written.text_is ∙ text_lines marks (kind_of_file file) info in
    let c = found_contents well only style made span before h cut.2 (kind_of_file file)
    (block_lines marks info) at text lines in
    let same = form_again style form marks info c.0
    (record { form = h.form; count = length (block_lines marks info) }) written.marks_are c.1 refl in (
      span,
      record {
        found = there.1;
        starts = there.2;
        ends = there.3;
        same_form = at.form ∙ same;
        says =
            ap (info_of (punctuation_of style)) (c.2 ∙ ap (λ (f : Form). contents_of style
            (a_size f (length (block_lines marks info))) (block_lines marks info ++ c.0)) same)
            ∙ ap (info_of (punctuation_of style)) (block_contents style form marks info c.0 written.marks_are)
            ∙ reads_back sets (punctuation_of style) (inner_content style form) marks info
            (the_reader style form marks written.marks_are) sayable;
      },
    )

pub read_again : ((text : List ℕ) → text_of (lines_of text) ≡ text) → ((text : List ℕ) → AreLines (lines_of text))
    → ((text : List ℕ) (lines : List TextLine) → AreLines lines → text_of lines ≡ text → lines ≡ lines_of text)
    → ((texts other : List (List ℕ)) → IsSorted other
    → ((text : List ℕ) → (Contains other text) ↔ (Contains texts text)) → other ≡ set_of texts)
    → (style : Style) (how : How) (additions : Additions) (file : List ℕ) (edit : Edit) (info : Info) (form : Form)
    (marks : LineMarks)
    → annotation_of style how additions file ≡ Ok edit → IsBlockText style (kind_of_file file) info form marks edit.text
    → IsSayable (punctuation_of style) info → AreContents (kind_of_file file) (block_lines marks info)
    → (span : HeaderSpan) × ReadsAs style (edited file edit) (text_start edit) (text_end edit) form info span
read_again joined well only sets style how additions file edit info form marks e written sayable lines =
    let found = option_map (span_in file) (header_of style file) in
    let w = annotated_ok style how additions file found edit refl e in
    let said = new_info (punctuation_of style) (old_contents (replaced_block how.replace found)) how.merge additions in
    read_written joined well only sets style file (replaced_block how.replace found) said w.0 edit info form marks w.2
    (start_within style file (block_text w.0 (kind_of_file file) said) found how.replace
    (joined (after_mark file)) refl) written sayable lines
