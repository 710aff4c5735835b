-- What an amendment writes, where it answers an edit.
use Rattle.std.proofs.Common.{◌≡◌, ℕ, Bool, true, false, List, [], length, nat_lt, Option, None, Some, refl, sym, ap}
use Rattle.std.proofs.Common.{subst, ◌∙◌}
use Rattle.std.specs.Prelude.{Result, Ok, Err, if◌then◌else◌, ◌↔◌, Contains}
use Rattle.std.specs.Option.{option_map, option_map_or}
use Rattle.reuse_text.specs.declared.TheConstants.{LONGEST_FILE}
use Rattle.reuse_text.specs.Text.{TextLine, AreLines, lines_of, after_mark, mark_len_of, text_of}
use Rattle.reuse_notice.specs.declared.infos.Info.{Info}
use Rattle.reuse_amend.specs.declared.amendments.Amendments.{Amendments}
use Rattle.reuse_notice.specs.Infos.{info_of, says_the_same, says_nothing}
use Rattle.reuse_notice.specs.Sets.{set_of, IsSorted}
use Rattle.reuse_amend.specs.Amending.{amended, notices_amended, contributors_amended, licences_amended}
use Rattle.reuse_style.specs.declared.style.Style.{Style}
use Rattle.reuse_style.specs.declared.marks.Form.{Form}
use Rattle.reuse_header.specs.declared.annotation.HeaderRefusal.{HeaderRefusal}
use Rattle.reuse_header.specs.declared.annotation.HeaderRefusal.TheVariants.{NotText}
use Rattle.reuse_header.specs.declared.amendment.AmendHeaderRefusal.{AmendHeaderRefusal}
use Rattle.reuse_header.specs.declared.amendment.AmendHeaderRefusal.TheVariants.{BadExpression, NothingLeft, Header}
use Rattle.reuse_style.specs.Styles.{punctuation_of}
use Rattle.reuse_header.specs.Marks.{LineMarks, marks_of}
use Rattle.reuse_header.specs.Header.{HeaderSpan, span_in, header_of, neighbour_contents}
use Rattle.reuse_header.specs.Reading.{IsSayable}
use Rattle.reuse_header.specs.Writing.{block_text, block_lines, neighbour_marks}
use Rattle.reuse_header.specs.Annotation.{Edit, edited, text_start, text_end, kind_of_file, written_by}
use Rattle.reuse_header.specs.Neighbour.{is_text, neighbour_end, neighbour_edit, neighbour_stands, neighbour_written}
use Rattle.reuse_header.specs.Neighbour.{replaced_contents}
use Rattle.reuse_header.specs.Laws.{IsBlockText, ReadsAs, AreContents}
use Rattle.reuse_header.specs.Amendment.{information_to_write, amended_information, as_amendment, written_if}
use Rattle.reuse_header.specs.Amendment.{block_amendment, amendment_of, neighbour_amendment_of}
use Rattle.reuse_header.specs.AmendmentLaws.{IsAmended, AmendsBlock, AmendsNeighbour}
use Rattle.reuse_header.proofs.CutLemmas.{span_cuts, block_within}
use Rattle.reuse_header.proofs.SpanLemmas.{neighbour_end-within}
use Rattle.reuse_header.proofs.WrittenLemmas.{IsWritten, written_ok, settled_ok}
use Rattle.reuse_header.proofs.LawLemmas.{text_of_edit, neighbour_text, start_within, read_written}
use Rattle.reuse_header.proofs.KeptLemmas.{Replaces, span_replaces, block_replaces}

no_refusal : {X : Type 0} (e : AmendHeaderRefusal) (x : X) → Err e ≡ Ok x → ⊥
no_refusal e x h = cc

not_none : {X : Type 0} (r : Result (Option X) AmendHeaderRefusal) (x : X) → r ≡ Ok None → r ≡ Ok (Some x) → ⊥
not_none r x none some = let same = sym none ∙ some in cc

-- ---- the information

free_stays : (a : Amendments) (old new : Info) → amended a old ≡ Some new → new.free ≡ old.free
free_stays a old new e = by (licences_amended a old.licences) e
  where
    by : (o : Option (List (List ℕ))) → option_map (λ licences. record {
      notices = notices_amended a old.notices;
      contributors = contributors_amended a old.contributors;
      licences = licences;
      free = old.free;
    }) o ≡ Some new
        → new.free ≡ old.free
    by None e' = absurd (cc e')
    by (Some licences) e' =
        let same : record {
          notices = notices_amended a old.notices;
          contributors = contributors_amended a old.contributors;
          licences = licences;
          free = old.free;
        } ≡ new = cc e' in
        ap (λ (i : Info). i.free) (sym same)

amended_ok : (a : Amendments) (old info : Info) → amended_information a old ≡ Ok (Some info) → IsAmended a old info
amended_ok a old info e = by (amended a old) refl e
  where
    written : (new : Info) → amended a old ≡ Some new → new ≡ info → says_the_same old new ≡ false
        → says_nothing new ≡ false → IsAmended a old info
    written new is same changes left =
        let P : Info → Type 0 =
        λ i. (amended a old ≡ Some i) × (says_the_same old i ≡ false) × (says_nothing i ≡ false) in
        let parts : P info = subst P same (is, changes, left) in
        record { made = parts.0; changes = parts.1; left = parts.2; free = free_stays a old info parts.0 }

    by_parts : (new : Info) → amended a old ≡ Some new → (same nothing : Bool) → says_the_same old new ≡ same
        → says_nothing new ≡ nothing
        → (if same then Ok None else if nothing then Err NothingLeft else Ok (Some new)) ≡ Ok (Some info)
        → IsAmended a old info
    by_parts new is true nothing s n e' = absurd (not_none (Ok None) info refl e')
    by_parts new is false true s n e' = absurd (no_refusal NothingLeft (Some info) e')
    by_parts new is false false s n e' = let same : new ≡ info = cc e' in written new is same s n

    by : (o : Option Info) → amended a old ≡ o
        → option_map_or (information_to_write old) o (Err BadExpression) ≡ Ok (Some info) → IsAmended a old info
    by None is e' = absurd (no_refusal BadExpression (Some info) e')
    by (Some new) is e' = by_parts new is (says_the_same old new) (says_nothing new) refl refl e'

-- what was to be written, and the edit that writes it
write_ok : (write : Info → Result Edit HeaderRefusal) (expected : Result (Option Info) AmendHeaderRefusal) (edit : Edit)
    → written_if write expected ≡ Ok (Some edit)
    → (info : Info) × (expected ≡ Ok (Some info)) × (write info ≡ Ok edit)
write_ok write (Err refusal) edit e = absurd (no_refusal refusal (Some edit) e)
write_ok write (Ok None) edit e = absurd (not_none (Ok None) edit refl e)
write_ok write (Ok (Some info)) edit e = (info, refl, by (write info) refl e)
  where
    by : (made : Result Edit HeaderRefusal) → write info ≡ made → as_amendment made ≡ Ok (Some edit)
        → write info ≡ Ok edit
    by (Err refusal) is e' = absurd (no_refusal (Header refusal) (Some edit) e')
    by (Ok made) is e' = let same : made ≡ edit = cc e' in is ∙ ap (λ (x : Edit). Ok x) same

-- ---- files

pub record BlockAmended (style : Style) (a : Amendments) (file : List ℕ) (span : HeaderSpan)
    (edit : Edit) : Type 0 where
  pub info : Info
  pub marks : LineMarks
  pub is : IsAmended a (info_of (punctuation_of style) span.contents) info
  pub marks_are : marks_of style span.form ≡ Some marks
  pub written : IsWritten style file (Some span) info marks edit

block_ok : (style : Style) (a : Amendments) (file : List ℕ) (span : HeaderSpan) (edit : Edit)
    → block_amendment style a file span ≡ Ok (Some edit) → BlockAmended style a file span edit
unfolding block_amendment
block_ok style a file span edit e =
    let old = info_of (punctuation_of style) span.contents in
    let w = write_ok (λ info. written_by style file (Some span) info (marks_of style span.form))
    (amended_information a old) edit e in
    let by = written_ok style file (Some span) w.0 (marks_of style span.form) edit w.2 in
    record { info = w.0; marks = by.0; is = amended_ok a old w.0 w.1; marks_are = by.1; written = by.2 }

pub amendment_ok : (style : Style) (a : Amendments) (file : List ℕ) (edit : Edit) (span : HeaderSpan)
    → amendment_of style a file ≡ Ok (Some edit) → option_map (span_in file) (header_of style file) ≡ Some span
    → BlockAmended style a file span edit
amendment_ok style a file edit span e is = block_ok style a file span edit
    (ap (λ (o : Option HeaderSpan). option_map_or (block_amendment style a file) o (Ok None)) (sym is) ∙ e)

pub amends_block : (style : Style) (a : Amendments) (file : List ℕ) (edit : Edit) (span : HeaderSpan)
    → amendment_of style a file ≡ Ok (Some edit) → option_map (span_in file) (header_of style file) ≡ Some span
    → AmendsBlock style a file span edit
amends_block style a file edit span e is =
    let w = amendment_ok style a file edit span e is in
    record {
      info = w.info;
      marks = w.marks;
      is = w.is;
      text = record {
        marks_are = w.marks_are;
        text_is = ap (λ (x : Edit). x.text) w.written.same
            ∙ text_of_edit style file (block_text w.marks (kind_of_file file) w.info) (Some span);
      };
    }

pub amending_replaces : (style : Style) (a : Amendments) (file : List ℕ) (edit : Edit) (span : HeaderSpan)
    → text_of (lines_of (after_mark file)) ≡ after_mark file
    → amendment_of style a file ≡ Ok (Some edit) → option_map (span_in file) (header_of style file) ≡ Some span
    → Replaces file span.start span.end edit
amending_replaces style a file edit span law e is =
    let w = amendment_ok style a file edit span e is in
    let within = block_within style file span (span_cuts style file span law is) in
    subst (λ (x : Edit). Replaces file span.start span.end x) (sym w.written.same)
    (span_replaces style file (block_text w.marks (kind_of_file file) w.info) span within.0)

pub amended_read : ((text : List ℕ) → text_of (lines_of text) ≡ text) → ((text : List ℕ) → AreLines (lines_of text))
    → ((text : List ℕ) (lines : List TextLine) → AreLines lines → text_of lines ≡ text → lines ≡ lines_of text)
    → ((texts other : List (List ℕ)) → IsSorted other
    → ((text : List ℕ) → (Contains other text) ↔ (Contains texts text)) → other ≡ set_of texts)
    → (style : Style) (a : Amendments) (file : List ℕ) (edit : Edit) (span : HeaderSpan) (info : Info) (form : Form)
    (marks : LineMarks)
    → amendment_of style a file ≡ Ok (Some edit) → option_map (span_in file) (header_of style file) ≡ Some span
    → IsBlockText style (kind_of_file file) info form marks edit.text → IsSayable (punctuation_of style) info
    → AreContents (kind_of_file file) (block_lines marks info)
    → (written : HeaderSpan) × ReadsAs style (edited file edit) (text_start edit) (text_end edit) form info written
amended_read joined well only sets style a file edit span info form marks e is text sayable lines =
    let w = amendment_ok style a file edit span e is in
    read_written joined well only sets style file (Some span) w.info w.marks edit info form marks w.written
    (start_within style file (block_text w.marks (kind_of_file file) w.info) (Some span) true
    (joined (after_mark file)) is) text sayable lines

pub none_stays : (style : Style) (a : Amendments) (file : List ℕ)
    → option_map (span_in file) (header_of style file) ≡ None → amendment_of style a file ≡ Ok None
none_stays style a file is = ap (λ (o : Option HeaderSpan). option_map_or (block_amendment style a file) o (Ok None)) is

block_stays : (style : Style) (a : Amendments) (file : List ℕ) (span : HeaderSpan) (new : Info)
    → amended a (info_of (punctuation_of style) span.contents) ≡ Some new
    → says_the_same (info_of (punctuation_of style) span.contents) new ≡ true
    → block_amendment style a file span ≡ Ok None
unfolding block_amendment
block_stays style a file span new made same =
    let old = info_of (punctuation_of style) span.contents in
    let write = λ (info : Info). written_by style file (Some span) info (marks_of style span.form) in
    ap (λ (o : Option Info). written_if write (option_map_or (information_to_write old) o (Err BadExpression))) made
    ∙ ap (λ (b : Bool). written_if write
    (if b then Ok None else if says_nothing new then Err NothingLeft else Ok (Some new))) same

pub same_stays : (style : Style) (a : Amendments) (file : List ℕ) (span : HeaderSpan) (new : Info)
    → option_map (span_in file) (header_of style file) ≡ Some span
    → amended a (info_of (punctuation_of style) span.contents) ≡ Some new
    → says_the_same (info_of (punctuation_of style) span.contents) new ≡ true → amendment_of style a file ≡ Ok None
same_stays style a file span new is made same =
    ap (λ (o : Option HeaderSpan). option_map_or (block_amendment style a file) o (Ok None)) is
    ∙ block_stays style a file span new made same

-- what is not to be written is not
pub quiet_information : (a : Amendments) (old new : Info) (write : Info → Result Edit HeaderRefusal)
    → amended a old ≡ Some new → says_the_same old new ≡ true → written_if write (amended_information a old) ≡ Ok None
quiet_information a old new write made same =
    ap (λ (o : Option Info). written_if write (option_map_or (information_to_write old) o (Err BadExpression))) made
    ∙ ap (λ (b : Bool). written_if write
    (if b then Ok None else if says_nothing new then Err NothingLeft else Ok (Some new))) same

-- ---- neighbour files

pub record NeighbourAmended (a : Amendments) (file : List ℕ) (edit : Edit) : Type 0 where
  pub info : Info
  pub is : IsAmended a (info_of [] (neighbour_contents file)) info
  pub same : edit ≡ neighbour_edit true file (block_text neighbour_marks (kind_of_file file) info)
  pub few : nat_lt LONGEST_FILE (length (edited file edit)) ≡ false
  pub stands : neighbour_stands true (edited file edit) (text_start edit) (text_end edit) ≡ true

neighbour_edit_ok : (file : List ℕ) (info : Info) (edit : Edit) → neighbour_written true file info ≡ Ok edit
    → (edit ≡ neighbour_edit true file (block_text neighbour_marks (kind_of_file file) info))
    × (nat_lt LONGEST_FILE (length (edited file edit)) ≡ false)
    × (neighbour_stands true (edited file edit) (text_start edit) (text_end edit) ≡ true)
unfolding neighbour_written
neighbour_edit_ok file info edit e =
    let first = neighbour_edit true file (block_text neighbour_marks (kind_of_file file) info) in
    let s = settled_ok (edited file first) first edit
    (neighbour_stands true (edited file first) (text_start first) (text_end first)) e in (
      s.same,
      ap (λ (x : Edit). nat_lt LONGEST_FILE (length (edited file x))) s.same ∙ s.few,
      ap (λ (x : Edit). neighbour_stands true (edited file x) (text_start x) (text_end x)) s.same ∙ s.found,
    )

pub neighbour_amendment_ok : (a : Amendments) (file : List ℕ) (edit : Edit)
    → neighbour_amendment_of a file ≡ Ok (Some edit) → NeighbourAmended a file edit
unfolding neighbour_amendment_of
neighbour_amendment_ok a file edit e = by (is_text file) e
  where
    by : (text : Bool) → (if text then written_if (neighbour_written true file)
        (amended_information a (info_of [] (replaced_contents true file))) else Err (Header NotText)) ≡ Ok (Some edit)
        → NeighbourAmended a file edit
    by false e' = absurd (no_refusal (Header NotText) (Some edit) e')
    by true e' =
        let w =
        write_ok (neighbour_written true file) (amended_information a (info_of [] (neighbour_contents file))) edit e' in
        let is = neighbour_edit_ok file w.0 edit w.2 in
        record {
          info = w.0;
          is = amended_ok a (info_of [] (neighbour_contents file)) w.0 w.1;
          same = is.0;
          few = is.1;
          stands = is.2;
        }

pub amends_neighbour : (a : Amendments) (file : List ℕ) (edit : Edit) → neighbour_amendment_of a file ≡ Ok (Some edit)
    → AmendsNeighbour a file edit
amends_neighbour a file edit e =
    let w = neighbour_amendment_ok a file edit e in
    record {
      info = w.info;
      is = w.is;
      text = ap (λ (x : Edit). x.text) w.same
          ∙ neighbour_text true file (block_text neighbour_marks (kind_of_file file) w.info);
    }

pub amending_replaces_neighbour : (a : Amendments) (file : List ℕ) (edit : Edit)
    → ((other : List ℕ) → text_of (lines_of other) ≡ other) → neighbour_amendment_of a file ≡ Ok (Some edit)
    → Replaces file (mark_len_of file) (neighbour_end file) edit
amending_replaces_neighbour a file edit joined e =
    let w = neighbour_amendment_ok a file edit e in
    subst (λ (x : Edit). Replaces file (mark_len_of file) (neighbour_end file) x) (sym w.same)
    (block_replaces true file (block_text neighbour_marks (kind_of_file file) w.info) refl
    (neighbour_end-within joined file).0)

pub neighbour_stays : (a : Amendments) (file : List ℕ) (new : Info) → is_text file ≡ true
    → amended a (info_of [] (neighbour_contents file)) ≡ Some new
    → says_the_same (info_of [] (neighbour_contents file)) new ≡ true → neighbour_amendment_of a file ≡ Ok None
unfolding neighbour_amendment_of
neighbour_stays a file new text made same =
    ap (λ (b : Bool). if b then written_if (neighbour_written true file)
    (amended_information a (info_of [] (neighbour_contents file))) else Err (Header NotText)) text
    ∙ quiet_information a (info_of [] (neighbour_contents file)) new (neighbour_written true file) made same
