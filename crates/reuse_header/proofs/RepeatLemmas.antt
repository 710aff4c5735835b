-- The same call on the file that annotating made.
use Rattle.std.proofs.Common.{◌≡◌, ℕ, ◌+◌, ◌-◌, Bool, true, false, List, [], ◌∷◌, ◌++◌, length, length-append}
use Rattle.std.proofs.Common.{length-take, append_assoc, take, drop, Option, None, Some, refl, sym, ap, subst, ◌∙◌}
use Rattle.std.proofs.Common.{arith}
use Rattle.std.specs.Prelude.{Result, Ok, Err, if◌then◌else◌, not, nat_lt}
use Rattle.std.specs.Option.{option_map}
use Rattle.std.proofs.lemmas.Slice.Eq.{bytes_eq-Decides}
use Rattle.std.proofs.lemmas.List.{append-nil}
use Rattle.std.proofs.Math.Seq.{drop-append_seam, take-append_seam}
use Rattle.reuse_text.specs.declared.TheConstants.{LONGEST_FILE}
use Rattle.reuse_text.specs.declared.LineKind.{LineKind}
use Rattle.reuse_text.specs.Text.{file_lines, after_mark, spliced}
use Rattle.reuse_notice.specs.declared.infos.Info.{Info}
use Rattle.reuse_notice.specs.declared.adding.Additions.{Additions}
use Rattle.reuse_notice.specs.Infos.{info_of, union_of, merged_of}
use Rattle.reuse_notice.specs.Adding.{Arguments, additions_of}
use Rattle.reuse_notice.specs.Plain.{ArePlain}
use Rattle.reuse_style.specs.declared.style.Style.{Style}
use Rattle.reuse_style.specs.declared.marks.Form.{Form}
use Rattle.reuse_header.specs.declared.annotation.How.{How}
use Rattle.reuse_header.specs.declared.annotation.Splice.{Splice}
use Rattle.reuse_header.specs.declared.annotation.HeaderRefusal.{HeaderRefusal}
use Rattle.reuse_header.specs.declared.annotation.HeaderRefusal.TheVariants.{HoldsCloser, TooLong, Unsettled}
use Rattle.reuse_style.specs.Styles.{punctuation_of}
use Rattle.reuse_header.specs.Marks.{LineMarks, marks_of}
use Rattle.reuse_header.specs.Header.{HeaderSpan, span_in, header_of}
use Rattle.reuse_header.specs.Writing.{new_info, block_text, block_lines, ended_by, holds_closer}
use Rattle.reuse_header.specs.Annotation.{Edit, edited, text_start, text_end, has_lines, is_last_ended, prefix_lines}
use Rattle.reuse_header.specs.Annotation.{chosen_form, replaced_block, old_contents, settled, edit_of, kind_of_file}
use Rattle.reuse_header.specs.Annotation.{stands_at, written_by, annotation_of, made_by}
use Rattle.reuse_header.specs.Splices.{splice_at, answer_of}
use Rattle.reuse_header.specs.Laws.{IsBlockText, AreContents, EndsPlainly, info_written}
use Rattle.reuse_header.proofs.WrittenLemmas.{error_is_ok}
use Rattle.reuse_header.proofs.LawLemmas.{annotated_ok, read_again, text_lines, start_within}
use Rattle.reuse_header.proofs.AgainLemmas.{parts_again}
use Rattle.reuse_header.specs.LowerLaws.{Known, Laws}
use Rattle.reuse_header.proofs.LinesLemmas.{written_sayable}
use Rattle.reuse_header.proofs.FeedLemmas.{Feedless}
use Rattle.reuse_header.proofs.KindLemmas.{Begins, kind_kept, span_plain, body_plain, insertion_begins}
use Rattle.reuse_header.proofs.KindLemmas.{replacement_begins}
use Rattle.reuse_text.specs.Text.{ends_in_return}

-- ---- the parts of a second call

pub same_info : Laws → (punct : List ℕ) (contents later : List (List ℕ)) (merge : Bool) (additions : Additions)
    → info_of punct later ≡ new_info punct contents merge additions
    → new_info punct later merge additions ≡ new_info punct contents merge additions
unfolding new_info
same_info laws punct contents later false additions e =
    ap (λ (i : Info). union_of i additions) e ∙ laws.united (info_of punct contents) additions
same_info laws punct contents later true additions e =
    ap (λ (i : Info). merged_of (union_of i additions) additions) e ∙ laws.merged (info_of punct contents) additions

same_form : (style : Style) (asked : Option Form) (found : Option HeaderSpan) (span : HeaderSpan)
    → span.form ≡ chosen_form style asked found → chosen_form style asked (Some span) ≡ chosen_form style asked found
same_form style (Some form) found span e = refl
same_form style None found span e = e

-- a text in its own place
put_back : (a t d : List ℕ) → spliced (a ++ (t ++ d)) (length a) (length t) ([] ++ (t ++ [])) ≡ a ++ (t ++ d)
put_back a t d =
    let front = take-append_seam a (t ++ d) in
    let back = ap (λ (k : ℕ). drop k (a ++ (t ++ d))) (sym (length-append a t))
    ∙ ap (drop (length (a ++ t))) (sym (append_assoc a t d)) ∙ drop-append_seam (a ++ t) d in
    ap (λ (xs : List ℕ). (xs ++ (t ++ [])) ++ drop (length a + length t) (a ++ (t ++ d))) front
    ∙ ap (λ (xs : List ℕ). (a ++ (t ++ [])) ++ xs) back
    ∙ ap (λ (xs : List ℕ). (a ++ xs) ++ d) (append-nil t)
    ∙ append_assoc a t d

pub text_stays : (made a t d : List ℕ) (start len : ℕ) → made ≡ a ++ (t ++ d) → start ≡ length a → len ≡ length t
    → spliced made start len ([] ++ (t ++ [])) ≡ made
text_stays made a t d start len is at wide =
    ap (λ (x : List ℕ). spliced x start len ([] ++ (t ++ []))) is
    ∙ ap (λ (k : ℕ). spliced (a ++ (t ++ d)) k len ([] ++ (t ++ []))) at
    ∙ ap (λ (k : ℕ). spliced (a ++ (t ++ d)) (length a) k ([] ++ (t ++ []))) wide
    ∙ put_back a t d ∙ sym is

pub no_splice : (made : List ℕ) (start len : ℕ) (new : List ℕ) → spliced made start len new ≡ made
    → splice_at made start len new ≡ None
no_splice made start len new e =
    ap (λ (b : Bool). if b then None else Some (record { at = start; old = take len (drop start made); new = new }))
    ((bytes_eq-Decides (spliced made start len new) made).1 e)

pub settled_yes : (made : List ℕ) (edit : Edit) (stands : Bool) → nat_lt LONGEST_FILE (length made) ≡ false
    → stands ≡ true → settled made edit stands ≡ Ok edit
settled_yes made edit stands few found =
    ap (λ (b : Bool). if b then Err TooLong else (if stands then Ok edit else Err Unsettled)) few
    ∙ ap (λ (b : Bool). if b then Ok edit else Err Unsettled) found

-- ---- the kind of what was made

begins_plain : Style → List ℕ → Edit → Type 0
begins_plain style file edit = Begins (kind_of_file file) edit.front
    × (Feedless (take edit.start file) → ends_in_return (take edit.start file) ≡ false)

edit_plain : Laws → (style : Style) (file text : List ℕ) (found : Option HeaderSpan)
    → option_map (span_in file) (header_of style file) ≡ found → EndsPlainly style file
    → begins_plain style file (edit_of style file (replaced_block true found) text)
unfolding edit_of begins_plain
edit_plain laws style file text (Some span) is plain = (
  replacement_begins (kind_of_file file),
  span_plain style file span (laws.joined (after_mark file)) (laws.well (after_mark file)) is,
)
edit_plain laws style file text None is plain = (
  insertion_begins (kind_of_file file) (not (is_last_ended (prefix_lines style (file_lines file))))
      (has_lines (prefix_lines style (file_lines file))),
  body_plain style file (laws.joined (after_mark file)) (laws.well (after_mark file)) plain,
)

text_of_edit : (style : Style) (file text : List ℕ) (old : Option HeaderSpan)
    → (edit_of style file old text).text ≡ text
unfolding edit_of
text_of_edit style file text None = refl
text_of_edit style file text (Some span) = refl

-- the text of the block in the kind of the file that was made
pub same_text : (file : List ℕ) (edit : Edit) (marks : LineMarks) (info : Info)
    → edit.text ≡ block_text marks (kind_of_file file) info → AreContents (kind_of_file file) (block_lines marks info)
    → Begins (kind_of_file file) edit.front
    → (Feedless (take edit.start file) → ends_in_return (take edit.start file) ≡ false)
    → block_text marks (kind_of_file (edited file edit)) info ≡ block_text marks (kind_of_file file) info
same_text file edit marks info is good begins plain = by (block_lines marks info) refl
  where
    by : (lines : List (List ℕ)) → block_lines marks info ≡ lines
        → block_text marks (kind_of_file (edited file edit)) info ≡ block_text marks (kind_of_file file) info
    by [] e =
        text_lines marks (kind_of_file (edited file edit)) info ∙ ap (ended_by (kind_of_file (edited file edit))) e
        ∙ sym (text_lines marks (kind_of_file file) info ∙ ap (ended_by (kind_of_file file)) e)
    by (c ∷ lines) e =
        ap (λ (k : LineKind). block_text marks k info)
        (kind_kept file edit c lines (is ∙ text_lines marks (kind_of_file file) info
        ∙ ap (ended_by (kind_of_file file)) e) (subst (AreContents (kind_of_file file)) e good) begins plain)

-- ---- a second call

-- the block where it stands, written again
written_again : (style : Style) (made : List ℕ) (span : HeaderSpan) (info : Info) (marks : LineMarks)
    → holds_closer marks info ≡ false
    → (let edit = edit_of style made (Some span) (block_text marks (kind_of_file made) info) in
    (edited made edit ≡ made) → nat_lt LONGEST_FILE (length made) ≡ false → stands_at style made (text_start edit)
    (text_end edit) ≡ true → written_by style made (Some span) info (Some marks) ≡ Ok edit)
unfolding written_by
written_again style made span info marks clear same few stands =
    let edit = edit_of style made (Some span) (block_text marks (kind_of_file made) info) in
    ap (λ (b : Bool). if b then Err HoldsCloser
    else settled (edited made edit) edit (stands_at style (edited made edit) (text_start edit) (text_end edit))) clear
    ∙ ap (λ (m : List ℕ). settled m edit (stands_at style m (text_start edit) (text_end edit))) same
    ∙ settled_yes made edit (stands_at style made (text_start edit) (text_end edit)) few stands

called_again : (style : Style) (how : How) (additions : Additions) (made : List ℕ) (span : HeaderSpan) (info : Info)
    (form : Form) (marks : LineMarks) (expected : Result Edit HeaderRefusal) → how.replace ≡ true
    → option_map (span_in made) (header_of style made) ≡ Some span
    → new_info (punctuation_of style) span.contents how.merge additions ≡ info
    → chosen_form style how.form (Some span) ≡ form → marks_of style form ≡ Some marks
    → written_by style made (Some span) info (Some marks) ≡ expected → annotation_of style how additions made ≡ expected
unfolding annotation_of
called_again style how additions made span info form marks expected replace found says same is e =
    let punct = punctuation_of style in
    ap (λ (f : Option HeaderSpan). written_by style made (replaced_block how.replace f) (new_info punct (old_contents
    (replaced_block how.replace f)) how.merge additions) (marks_of style (chosen_form style how.form f))) found
    ∙ ap (λ (r : Bool). written_by style made (replaced_block r (Some span))
    (new_info punct (old_contents (replaced_block r (Some span))) how.merge additions)
    (marks_of style (chosen_form style how.form (Some span)))) replace
    ∙ ap
    (λ (i : Info). written_by style made (Some span) i (marks_of style (chosen_form style how.form (Some span)))) says
    ∙ ap (λ (f : Form). written_by style made (Some span) info (marks_of style f)) same
    ∙ ap (written_by style made (Some span) info) is
    ∙ e

quiet_edit : (style : Style) (made text : List ℕ) (span : HeaderSpan)
    → spliced made span.start (span.end - span.start) ([] ++ (text ++ [])) ≡ made
    → (let edit = edit_of style made (Some span) text in (edited made edit ≡ made) × (answer_of made
    (Ok edit) ≡ Ok None) × (text_start edit ≡ span.start) × (text_end edit ≡ span.start + length text))
unfolding edit_of
quiet_edit style made text span e = (
  e,
  ap (λ (s : Option Splice). Ok s) (no_splice made span.start (span.end - span.start) ([] ++ (text ++ [])) e),
  (omega arith),
  (omega arith),
)

pub edit_again : Known → Laws → (style : Style) (how : How) (arguments : Arguments) (file : List ℕ) (edit : Edit)
    → how.replace ≡ true → ArePlain (additions_of arguments) → EndsPlainly style file
    → annotation_of style how (additions_of arguments) file ≡ Ok edit
    → answer_of (edited file edit) (annotation_of style how (additions_of arguments) (edited file edit)) ≡ Ok None
unfolding begins_plain
edit_again known laws style how arguments file edit replace plain ends e =
    let additions = additions_of arguments in
    let found = option_map (span_in file) (header_of style file) in
    let old = replaced_block how.replace found in
    let info = info_written style how additions file in
    let form = chosen_form style how.form found in
    let made = edited file edit in
    let w = annotated_ok style how additions file found edit refl e in
    let marks = w.0 in
    let kind = kind_of_file file in
    let written = written_sayable known laws.well style how arguments file kind form marks plain w.1 in
    let text_is : edit.text ≡ block_text marks kind info =
    ap (λ (x : Edit). x.text) w.2.same ∙ text_of_edit style file (block_text marks kind info) old in
    let block : IsBlockText style kind info form marks edit.text = record { marks_are = w.1; text_is = text_is } in
    let read = read_again laws.joined laws.well laws.only laws.sets style how additions file edit info form marks e
    block written.0 written.1 in
    let span = read.0 in
    let begins = subst (begins_plain style file) (sym w.2.same)
    (subst
    (λ (r : Bool). begins_plain style file (edit_of style file (replaced_block r found) (block_text marks kind info)))
    (sym replace) (edit_plain laws style file (block_text marks kind info) found refl ends)) in
    let same = same_text file edit marks info text_is written.1 begins.0 begins.1 in
    let text = block_text marks (kind_of_file made) info in
    let whole : text ≡ edit.text = same ∙ sym text_is in
    let long = ap length whole in
    let low = ap (λ (x : Edit). x.start) w.2.same in
    let fits =
    start_within style file (block_text marks kind info) found how.replace (laws.joined (after_mark file)) refl in
    let n : length (take edit.start file) ≡ edit.start = simp length-take (omega (arith, low, fits)) in
    let a = take edit.start file ++ edit.front in
    let size = length-append (take edit.start file) edit.front in
    let d = edit.back ++ drop (edit.start + edit.old_len) file in
    let parts : made ≡ a ++ (text ++ d) =
    parts_again (take edit.start file) edit.front edit.text edit.back (drop (edit.start + edit.old_len) file)
    ∙ ap (λ (t : List ℕ). a ++ (t ++ d)) (sym whole) in
    let starts = read.1.starts in
    let stops = read.1.ends in
    let stays = text_stays made a text d span.start (span.end - span.start) parts (omega (arith, starts, n, size))
    (omega (arith, starts, stops, long)) in
    let quiet = quiet_edit style made text span stays in
    let at_start : text_start (edit_of style made (Some span) text) ≡ text_start edit = quiet.2 ∙ starts in
    let size_of_text : span.start + length text ≡ text_end edit = omega (arith, starts, long) in
    let at_end : text_end (edit_of style made (Some span) text) ≡ text_end edit = quiet.3 ∙ size_of_text in
    let there : stands_at style made (text_start (edit_of style made (Some span) text))
    (text_end (edit_of style made (Some span) text)) ≡ true =
    ap (λ (k : ℕ). stands_at style made k (text_end (edit_of style made (Some span) text))) at_start
    ∙ ap (λ (k : ℕ). stands_at style made (text_start edit) k) at_end ∙ w.2.stands in
    let again = called_again style how additions made span info form marks
    (Ok (edit_of style made (Some span) text)) replace read.1.found
    (same_info laws (punctuation_of style) (old_contents old) span.contents how.merge additions read.1.says)
    (same_form style how.form found span read.1.same_form) w.1
    (written_again style made span info marks w.2.clear quiet.0 w.2.few there) in
    ap (answer_of made) again ∙ quiet.1

pub file_again : Known → Laws → (style : Style) (how : How) (arguments : Arguments) (file made : List ℕ)
    → how.replace ≡ true → ArePlain (additions_of arguments) → EndsPlainly style file
    → made_by file (annotation_of style how (additions_of arguments) file) ≡ Ok made
    → answer_of made (annotation_of style how (additions_of arguments) made) ≡ Ok None
file_again known laws style how arguments file made replace plain ends e =
    by (annotation_of style how (additions_of arguments) file) refl e
  where
    by : (answer : Result Edit HeaderRefusal) → annotation_of style how (additions_of arguments) file ≡ answer
        → made_by file answer ≡ Ok made
        → answer_of made (annotation_of style how (additions_of arguments) made) ≡ Ok None
    by (Err refusal) is e = absurd (error_is_ok refusal made e)
    by (Ok edit) is e =
        let same : edited file edit ≡ made = cc e in
        subst (λ (m : List ℕ). answer_of m (annotation_of style how (additions_of arguments) m) ≡ Ok None) same
        (edit_again known laws style how arguments file edit replace plain ends is)
