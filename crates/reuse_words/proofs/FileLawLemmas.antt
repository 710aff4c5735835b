-- The edits of a removal, and of texts that are taken out and added: which bytes stay, and what is written.
use Rattle.std.proofs.Common.{◌≡◌, ℕ, ◌+◌, ◌≤◌, Bool, true, false, List, [], ◌∷◌, ◌++◌, length, take, drop, Option}
use Rattle.std.proofs.Common.{None, Some, refl, sym, ap, subst, ◌∙◌, cond, nat_eq, append_assoc, arith}
use Rattle.std.proofs.Common.{length-append, length-take, length-drop}
use Rattle.std.specs.Prelude.{Result, Ok, Err, nat_lt}
use Rattle.std.specs.List.{list_any, starts_with}
use Rattle.std.specs.Option.{option_map, option_map_or}
use Rattle.std.proofs.lemmas.Bool.Decides.{nat_tests, Decides-eqb}
use Rattle.std.proofs.lemmas.Slice.Eq.{starts_is}
use Rattle.reuse_text.specs.declared.TheConstants.{LONGEST_FILE}
use Rattle.reuse_text.specs.Text.{text_of, lines_of, after_mark, mark_len_of}
use Rattle.reuse_notice.specs.declared.infos.Info.{Info}
use Rattle.reuse_notice.specs.declared.adding.Additions.{Additions}
use Rattle.reuse_notice.specs.Contents.{is_nil, free_of}
use Rattle.reuse_notice.specs.Infos.{info_of, same_texts, says_nothing}
use Rattle.reuse_style.specs.declared.style.Style.{Style}
use Rattle.reuse_style.specs.Styles.{punctuation_of}
use Rattle.reuse_header.specs.declared.annotation.How.{How}
use Rattle.reuse_header.specs.declared.annotation.HeaderRefusal.{HeaderRefusal}
use Rattle.reuse_header.specs.declared.annotation.HeaderRefusal.TheVariants.{NotText, NoSuchForm, HoldsCloser, TooLong}
use Rattle.reuse_header.specs.Tagged.{has_tag}
use Rattle.reuse_header.specs.Marks.{LineMarks, marks_of}
use Rattle.reuse_header.specs.Header.{HeaderSpan, span_in, header_of}
use Rattle.reuse_header.specs.Writing.{block_text, neighbour_marks}
use Rattle.reuse_header.specs.Annotation.{Edit, edited, replacement, kind_of_file, edit_of, written_by, annotation_of}
use Rattle.reuse_header.specs.Annotation.{chosen_form, replaced_block, old_contents}
use Rattle.reuse_header.specs.Writing.{new_info}
use Rattle.reuse_words.specs.declared.refusal.TextHeaderRefusal.TheVariants.{Header}
use Rattle.reuse_header.specs.Neighbour.{is_text, replaced_contents, neighbour_end, neighbour_written}
use Rattle.reuse_header.specs.Neighbour.{neighbour_annotation_of}
use Rattle.reuse_header.specs.Comment.{comment_text, closes_form, fitting, comment_written}
use Rattle.reuse_header.specs.Comment.{neighbour_comment_written}
use Rattle.reuse_header.specs.Laws.{IsBlockText}
use Rattle.reuse_header.proofs.CutLemmas.{span_cuts, block_within}
use Rattle.reuse_header.proofs.SpanLemmas.{neighbour_end-within}
use Rattle.reuse_header.proofs.LawLemmas.{text_of_edit}
use Rattle.reuse_header.proofs.KeptLemmas.{Replaces, replacement_replaces, span_replaces}
use Rattle.reuse_header.proofs.WrittenLemmas.{IsWritten, written_ok}
use Rattle.reuse_words.specs.Information.{without_texts, with_free, info_without}
use Rattle.reuse_words.specs.Removal.{some_edit, empty_line_len, gap_behind, block_taken, block_untagged, untagged_of}
use Rattle.reuse_words.specs.Removal.{neighbour_untagged_of}
use Rattle.reuse_words.specs.Amended.{texts_in, free_to_write, written_if_some, block_without, without_texts_of}
use Rattle.reuse_words.specs.Added.{header_edit, text_annotation_of, neighbour_text_annotation_of}
use Rattle.reuse_words.specs.FileLaws.{Fits, IsUntaggedComment}
use Rattle.reuse_words.proofs.FreeLemmas.{free_untagged, new_same}

-- ---- edits that are made

pub no_edit : (refusal : HeaderRefusal) (edit : Option Edit) → Err refusal ≡ Ok edit → ⊥
no_edit refusal edit e = cc

none_edit : (made : Result (Option Edit) HeaderRefusal) (edit : Edit) → made ≡ Ok None → made ≡ Ok (Some edit) → ⊥
none_edit made edit none some = cc

some_ok : (made : Result Edit HeaderRefusal) (edit : Edit) → some_edit made ≡ Ok (Some edit) → made ≡ Ok edit
some_ok (Ok first) edit e = let same : first ≡ edit = cc in ap (λ (x : Edit). Ok x) same
some_ok (Err refusal) edit e = absurd (no_edit refusal (Some edit) e)

refused : (refusal : HeaderRefusal) (edit : Edit) → Err refusal ≡ Ok edit → ⊥
refused refusal edit e = cc

pub not_over : (m n : ℕ) → nat_lt m n ≡ false → n ≤ m
not_over m n h = grind (arith, nat_tests)

fitting_by : (file : List ℕ) (first edit : Edit) (long : Bool) → nat_lt LONGEST_FILE (length (edited file first)) ≡ long
    → cond long (Err TooLong) (Ok first) ≡ Ok edit
    → (edit ≡ first) × (length (edited file edit) ≤ LONGEST_FILE)
fitting_by file first edit true is e = absurd (refused TooLong edit e)
fitting_by file first edit false is e =
    let same : edit ≡ first = cc in (
      same,
      subst (λ (x : Edit). length (edited file x) ≤ LONGEST_FILE) (sym same)
          (not_over LONGEST_FILE (length (edited file first)) is),
    )

fitting_ok : (file : List ℕ) (first edit : Edit) → fitting file first ≡ Ok edit
    → (edit ≡ first) × (length (edited file edit) ≤ LONGEST_FILE)
fitting_ok file first edit e = fitting_by file first edit (nat_lt LONGEST_FILE (length (edited file first))) refl e

-- ---- a comment in the place of a header

pub record IsComment (file : List ℕ) (span : HeaderSpan) (contents : List (List ℕ)) (marks : LineMarks)
    (edit : Edit) : Type 0 where
  pub same : edit ≡ replacement span.start span.end (comment_text marks (kind_of_file file) contents)
  pub short : length (edited file edit) ≤ LONGEST_FILE

comment_by : (file : List ℕ) (span : HeaderSpan) (contents : List (List ℕ)) (marks : LineMarks) (edit : Edit)
    (closes : Bool)
    → cond closes (Err HoldsCloser)
    (fitting file (replacement span.start span.end (comment_text marks (kind_of_file file) contents))) ≡ Ok edit
    → IsComment file span contents marks edit
comment_by file span contents marks edit true e = absurd (refused HoldsCloser edit e)
comment_by file span contents marks edit false e =
    let fits = fitting_ok file
    (replacement span.start span.end (comment_text marks (kind_of_file file) contents)) edit e in
    record { same = fits.0; short = fits.1 }

comment_ok : (file : List ℕ) (span : HeaderSpan) (contents : List (List ℕ)) (marks : Option LineMarks) (edit : Edit)
    → comment_written file span contents marks ≡ Ok edit
    → (m : LineMarks) × (marks ≡ Some m) × IsComment file span contents m edit
unfolding comment_written
comment_ok file span contents None edit e = absurd (refused NoSuchForm edit e)
comment_ok file span contents (Some m) edit e =
    (m, refl, comment_by file span contents m edit (closes_form m contents) e)

-- ---- the tags of a block are taken out

in_block : {X : Type 0} (style : Style) (file : List ℕ) (span : HeaderSpan) (f : HeaderSpan → X) (none : X)
    → option_map (span_in file) (header_of style file) ≡ Some span
    → option_map_or f (option_map (span_in file) (header_of style file)) none ≡ f span
in_block style file span f none is = ap (λ (o : Option HeaderSpan). option_map_or f o none) is

gone : (style : Style) (file : List ℕ) (span : HeaderSpan) (edit : Edit)
    → is_nil (free_of (punctuation_of style) span.contents) ≡ true
    → block_untagged style file span ≡ Ok (Some edit) → edit ≡ block_taken file span
unfolding block_untagged
gone style file span edit nil e =
    let made : Ok (Some (block_taken file span)) ≡ Ok (Some edit) =
    ap (λ (t : Bool). cond t (Ok (Some (block_taken file span))) (some_edit (comment_written file span
    (free_of (punctuation_of style) span.contents) (marks_of style span.form)))) (sym nil) ∙ e in
    let same : block_taken file span ≡ edit = cc in sym same

left : (style : Style) (file : List ℕ) (span : HeaderSpan) (edit : Edit)
    → is_nil (free_of (punctuation_of style) span.contents) ≡ false
    → block_untagged style file span ≡ Ok (Some edit)
    → comment_written file span (free_of (punctuation_of style) span.contents) (marks_of style span.form) ≡ Ok edit
unfolding block_untagged
left style file span edit some e =
    some_ok (comment_written file span (free_of (punctuation_of style) span.contents) (marks_of style span.form)) edit
    (ap (λ (t : Bool). cond t (Ok (Some (block_taken file span))) (some_edit (comment_written file span
    (free_of (punctuation_of style) span.contents) (marks_of style span.form)))) (sym some) ∙ e)

-- an empty line is within bytes
prefix_short : (bytes needle : List ℕ) (t : Bool) → starts_with nat_eq bytes needle ≡ t → t ≡ true
    → length needle ≤ length bytes
prefix_short bytes needle t is e =
    let split = (starts_is Decides-eqb bytes needle t (sym is)).0 e in
    omega (arith, ap length split, length-append needle (drop (length needle) bytes))

line_by : (bytes : List ℕ) (feed return : Bool) → starts_with nat_eq bytes (10 ∷ []) ≡ feed
    → starts_with nat_eq bytes (13 ∷ 10 ∷ []) ≡ return → cond feed 1 (cond return 2 0) ≤ length bytes
line_by bytes true return is other = prefix_short bytes (10 ∷ []) true is refl
line_by bytes false true is other = prefix_short bytes (13 ∷ 10 ∷ []) true other refl
line_by bytes false false is other = omega arith

line_within : (bytes : List ℕ) → empty_line_len bytes ≤ length bytes
line_within bytes =
    line_by bytes (starts_with nat_eq bytes (10 ∷ [])) (starts_with nat_eq bytes (13 ∷ 10 ∷ [])) refl refl

gap_by : (n size : ℕ) (t : Bool) → n ≤ size → cond t 0 n ≤ size
gap_by n size true low = omega arith
gap_by n size false low = low

gap_within : (rest : List ℕ) → gap_behind rest ≤ length rest
gap_within rest = gap_by (empty_line_len rest) (length rest) _ (line_within rest)

-- the file without a block
taken_bytes : (file : List ℕ) (start end : ℕ) → start ≤ end
    → edited file (replacement start end []) ≡ take start file ++ drop end file
taken_bytes file start end low =
    replacement_replaces file [] start end low ∙ append_assoc (take start file) [] (drop end file)

taken_short : (file : List ℕ) (start end : ℕ) → start ≤ end → end ≤ length file
    → length (edited file (replacement start end [])) ≤ length file
taken_short file start end low high =
    omega (
      arith,
      ap length (taken_bytes file start end low),
      length-append (take start file) (drop end file),
      length-take start file,
      length-drop end file,
    )

-- the edit of a block is within the file
span_within : (style : Style) (file text : List ℕ) (span : HeaderSpan) → span.start ≤ span.end → span.end ≤ length file
    → (edit_of style file (Some span) text).start + (edit_of style file (Some span) text).old_len ≤ length file
unfolding edit_of
span_within style file text span low high = omega arith

module _ (style : Style) (file : List ℕ) (span : HeaderSpan) (edit : Edit)
    (law : text_of (lines_of (after_mark file)) ≡ after_mark file)
    (found : option_map (span_in file) (header_of style file) ≡ Some span) where
  within : (span.start ≤ span.end) × (span.end ≤ length file)
  within = block_within style file span (span_cuts style file span law found)

  module _ (e : untagged_of style file ≡ Ok (Some edit)) where
    block_edit : block_untagged style file span ≡ Ok (Some edit)
    block_edit = sym (in_block style file span (block_untagged style file) (Ok None) found) ∙ e

    reach : span.end + gap_behind (drop span.end file) ≤ length file
    reach = omega (arith, within.1, gap_within (drop span.end file), length-drop span.end file)

    pub header_gone : is_nil (free_of (punctuation_of style) span.contents) ≡ true
        → edited file edit ≡ take span.start file ++ drop (span.end + gap_behind (drop span.end file)) file
    header_gone nil =
        ap (edited file) (gone style file span edit nil block_edit)
        ∙ taken_bytes file span.start (span.end + gap_behind (drop span.end file)) (omega (arith, within.0))

    pub header_left : is_nil (free_of (punctuation_of style) span.contents) ≡ false
        → (edited file edit ≡ take span.start file ++ edit.text ++ drop span.end file)
        × IsUntaggedComment style file span edit.text
    header_left some =
        let made = comment_ok file span (free_of (punctuation_of style) span.contents) (marks_of style span.form) edit
        (left style file span edit some block_edit) in (
          subst (λ (x : Edit). Replaces file span.start span.end x) (sym made.2.same)
              (replacement_replaces file (comment_text made.0 (kind_of_file file)
              (free_of (punctuation_of style) span.contents)) span.start span.end within.0),
          record {
            marks = made.0;
            marks_are = made.1;
            text_is = ap (λ (x : Edit). x.text) made.2.same;
            no_tag = free_untagged (punctuation_of style) span.contents;
          },
        )

    fits_by : (test : Bool) → is_nil (free_of (punctuation_of style) span.contents) ≡ test
        → length file ≤ LONGEST_FILE → Fits file edit
    fits_by true is short =
        let end = span.end + gap_behind (drop span.end file) in
        subst (Fits file) (sym (gone style file span edit is block_edit)) (record {
          within = omega (arith, within.0, reach);
          short = omega (arith, short, taken_short file span.start end (omega (arith, within.0)) reach);
        })
    fits_by false is short =
        let made = comment_ok file span (free_of (punctuation_of style) span.contents) (marks_of style span.form) edit
        (left style file span edit is block_edit) in
        record {
          within = subst (λ (x : Edit). x.start + x.old_len ≤ length file) (sym made.2.same)
              (omega (arith, within.0, within.1));
          short = made.2.short;
        }

    pub removal_fits : length file ≤ LONGEST_FILE → Fits file edit
    removal_fits short = fits_by (is_nil (free_of (punctuation_of style) span.contents)) refl short

-- ---- the tags of a neighbour are taken out

neighbour_by : (file : List ℕ) (free : List (List ℕ)) (edit : Edit) (text nothing : Bool)
    → cond text (cond nothing (Ok None) (some_edit (neighbour_comment_written file free))) (Err NotText)
    ≡ Ok (Some edit)
    → neighbour_comment_written file free ≡ Ok edit
neighbour_by file free edit false nothing e = absurd (no_edit NotText (Some edit) e)
neighbour_by file free edit true true e = absurd (none_edit (Ok None) edit refl e)
neighbour_by file free edit true false e = some_ok (neighbour_comment_written file free) edit e

neighbour_left : (file : List ℕ) (edit : Edit) → neighbour_untagged_of file ≡ Ok (Some edit)
    → neighbour_comment_written file (free_of [] (replaced_contents true file)) ≡ Ok edit
unfolding neighbour_untagged_of
neighbour_left file edit e =
    neighbour_by file (free_of [] (replaced_contents true file)) edit (is_text file)
    (says_nothing (info_of [] (replaced_contents true file))) e

neighbour_made : (file : List ℕ) (edit : Edit) → neighbour_untagged_of file ≡ Ok (Some edit)
    → (edit ≡ replacement (mark_len_of file) (neighbour_end file)
    (comment_text neighbour_marks (kind_of_file file) (free_of [] (replaced_contents true file))))
    × (length (edited file edit) ≤ LONGEST_FILE)
unfolding neighbour_comment_written
neighbour_made file edit e =
    fitting_ok file (replacement (mark_len_of file) (neighbour_end file)
    (comment_text neighbour_marks (kind_of_file file) (free_of [] (replaced_contents true file)))) edit
    (neighbour_left file edit e)

pub neighbour_bytes : (file : List ℕ) (edit : Edit) → ((other : List ℕ) → text_of (lines_of other) ≡ other)
    → neighbour_untagged_of file ≡ Ok (Some edit)
    → edited file edit ≡ take (mark_len_of file) file ++ edit.text ++ drop (neighbour_end file) file
neighbour_bytes file edit joined e =
    subst (λ (x : Edit). Replaces file (mark_len_of file) (neighbour_end file) x) (sym (neighbour_made file edit e).0)
    (replacement_replaces file
    (comment_text neighbour_marks (kind_of_file file) (free_of [] (replaced_contents true file)))
    (mark_len_of file) (neighbour_end file) (neighbour_end-within joined file).0)

pub neighbour_fits : (file : List ℕ) (edit : Edit) → ((other : List ℕ) → text_of (lines_of other) ≡ other)
    → neighbour_untagged_of file ≡ Ok (Some edit) → Fits file edit
neighbour_fits file edit joined e =
    let ends = neighbour_end-within joined file in
    record {
      within = subst (λ (x : Edit). x.start + x.old_len ≤ length file) (sym (neighbour_made file edit e).0)
          (omega (arith, ends.0, ends.1));
      short = (neighbour_made file edit e).1;
    }

pub neighbour_says : (file : List ℕ) (edit : Edit) → neighbour_untagged_of file ≡ Ok (Some edit)
    → (edit.text ≡ comment_text neighbour_marks (kind_of_file file) (free_of [] (replaced_contents true file)))
    × (list_any (has_tag []) (free_of [] (replaced_contents true file)) ≡ false)
neighbour_says file edit e =
    (ap (λ (x : Edit). x.text) (neighbour_made file edit e).0, free_untagged [] (replaced_contents true file))

-- ---- texts are taken out of a block

free_is : (old new free : List (List ℕ)) → free_to_write old new ≡ Some free → free ≡ new
free_is old new free e = by_test (same_texts new old) e
  where
    by_test : (t : Bool) → cond t None (Some new) ≡ Some free → free ≡ new
    by_test true e = absurd (let none : ⊥ = cc in none)
    by_test false e = let same : new ≡ free = cc in sym same

pub written_some : (write : List (List ℕ) → Result Edit HeaderRefusal) (o : Option (List (List ℕ))) (edit : Edit)
    → written_if_some write o ≡ Ok (Some edit) → (free : List (List ℕ)) × (o ≡ Some free) × (write free ≡ Ok edit)
written_some write None edit e = absurd (none_edit (Ok None) edit refl e)
written_some write (Some free) edit e = (free, refl, some_ok (write free) edit e)

without_ok : (style : Style) (texts : List (List (List ℕ))) (file : List ℕ) (span : HeaderSpan) (edit : Edit)
    → block_without style texts file span ≡ Ok (Some edit)
    → written_by style file (Some span) (info_without (punctuation_of style)
    (texts_in (marks_of style span.form) texts) (info_of (punctuation_of style) span.contents))
    (marks_of style span.form) ≡ Ok edit
unfolding block_without
without_ok style texts file span edit e =
    let punct = punctuation_of style in
    let marks = marks_of style span.form in
    let info = info_of punct span.contents in
    let write = λ (free : List (List ℕ)). written_by style file (Some span) (with_free punct info free) marks in
    let new = without_texts punct (texts_in marks texts) info.free in
    let made = written_some write (free_to_write info.free new) edit e in
    subst (λ (free : List (List ℕ)). write free ≡ Ok edit) (free_is info.free new made.0 made.1) made.2

module _ (style : Style) (texts : List (List (List ℕ))) (file : List ℕ) (span : HeaderSpan) (edit : Edit)
    (law : text_of (lines_of (after_mark file)) ≡ after_mark file)
    (found : option_map (span_in file) (header_of style file) ≡ Some span)
    (e : without_texts_of style texts file ≡ Ok (Some edit)) where
  new_of : Info
  new_of = info_without (punctuation_of style) (texts_in (marks_of style span.form) texts)
      (info_of (punctuation_of style) span.contents)

  written_out : (m : LineMarks) × (marks_of style span.form ≡ Some m) × IsWritten style file (Some span) new_of m edit
  unfolding new_of
  written_out = written_ok style file (Some span) new_of (marks_of style span.form) edit
      (without_ok style texts file span edit
      (sym (in_block style file span (block_without style texts file) (Ok None) found) ∙ e))

  out_within : (span.start ≤ span.end) × (span.end ≤ length file)
  out_within = block_within style file span (span_cuts style file span law found)

  pub texts_out_bytes : edited file edit ≡ take span.start file ++ edit.text ++ drop span.end file
  texts_out_bytes =
      subst (λ (x : Edit). Replaces file span.start span.end x) (sym written_out.2.same)
      (span_replaces style file (block_text written_out.0 (kind_of_file file) new_of) span out_within.0)

  pub texts_out_fit : Fits file edit
  texts_out_fit = record {
    within = subst (λ (x : Edit). x.start + x.old_len ≤ length file) (sym written_out.2.same)
        (span_within style file (block_text written_out.0 (kind_of_file file) new_of) span out_within.0 out_within.1);
    short = not_over LONGEST_FILE (length (edited file edit)) written_out.2.few;
  }

  pub texts_out_text : (marks : LineMarks) × IsBlockText style (kind_of_file file)
      (info_without (punctuation_of style) (texts_in (marks_of style span.form) texts)
      (info_of (punctuation_of style) span.contents)) span.form marks edit.text
  unfolding new_of
  texts_out_text = (
    written_out.0,
    record {
      marks_are = written_out.1;
      text_is = ap (λ (x : Edit). x.text) written_out.2.same
          ∙ text_of_edit style file (block_text written_out.0 (kind_of_file file) new_of) (Some span);
    },
  )

-- ---- no texts are added

pub no_texts : (style : Style) (how : How) (additions : Additions) (file : List ℕ)
    → text_annotation_of style how additions [] file ≡ header_edit (annotation_of style how additions file)
unfolding text_annotation_of annotation_of
no_texts style how additions file =
    let found = option_map (span_in file) (header_of style file) in
    let old = replaced_block how.replace found in
    ap (λ (i : Info). header_edit (written_by style file old i (marks_of style (chosen_form style how.form found))))
    (new_same (punctuation_of style) (old_contents old) how.merge additions)

header_if : (text : Bool) (made : Result Edit HeaderRefusal)
    → cond text (header_edit made) (Err (Header NotText)) ≡ header_edit (cond text made (Err NotText))
header_if true made = refl
header_if false made = refl

pub no_neighbour_texts : (how : How) (additions : Additions) (file : List ℕ)
    → neighbour_text_annotation_of how additions [] file ≡ header_edit (neighbour_annotation_of how additions file)
unfolding neighbour_text_annotation_of neighbour_annotation_of
no_neighbour_texts how additions file =
    ap (λ (i : Info). cond (is_text file) (header_edit (neighbour_written how.replace file i)) (Err (Header NotText)))
    (new_same [] (replaced_contents how.replace file) how.merge additions)
    ∙ header_if (is_text file) (neighbour_written how.replace file
    (new_info [] (replaced_contents how.replace file) how.merge additions))
