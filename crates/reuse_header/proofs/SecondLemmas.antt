-- A file that was amended is left as it is by the same amendments.
use Rattle.std.proofs.Common.{◌≡◌, ℕ, ◌+◌, true, List, [], ◌++◌, length, drop, map, Option, None, Some, refl, sym, ap}
use Rattle.std.proofs.Common.{subst, ◌∙◌, arith}
use Rattle.std.specs.Prelude.{Result, Ok, Err}
use Rattle.std.specs.Option.{option_map}
use Rattle.reuse_notice.specs.declared.infos.Info.{Info}
use Rattle.reuse_amend.specs.declared.amendments.Amendments.{Amendments}
use Rattle.reuse_notice.specs.Infos.{info_of, says_the_same}
use Rattle.reuse_amend.specs.Amending.{amended}
use Rattle.reuse_amend.specs.Settled.{BringNothingBack, WritePlainTexts, HasFourDigits}
use Rattle.reuse_amend.proofs.UnnamedLemmas.{is_same}
use Rattle.reuse_style.specs.declared.style.Style.{Style}
use Rattle.reuse_header.specs.declared.amendment.AmendHeaderRefusal.{AmendHeaderRefusal}
use Rattle.reuse_style.specs.Styles.{punctuation_of}
use Rattle.reuse_header.specs.Header.{Header, HeaderSpan, span_in, header_of, neighbour_contents}
use Rattle.reuse_header.specs.Blocks.{without_returns}
use Rattle.reuse_header.specs.Writing.{block_text, block_lines, neighbour_marks, ended_by}
use Rattle.reuse_header.specs.Annotation.{Edit, edited, text_start, text_end, kind_of_file}
use Rattle.reuse_header.specs.Neighbour.{is_text}
use Rattle.reuse_header.specs.Laws.{IsBlockText, information_in}
use Rattle.reuse_header.specs.LowerLaws.{Known, Laws}
use Rattle.reuse_header.specs.Amendment.{amendment_of, neighbour_amendment_of, amended_file}
use Rattle.reuse_header.specs.AmendmentLaws.{NoticesReadAsAmended}
use Rattle.reuse_header.proofs.LawLemmas.{text_of_edit, text_lines}
use Rattle.reuse_header.proofs.OpenLemmas.{is_replacement, standing, text_behind, open_made, read_back}
use Rattle.reuse_header.proofs.AmendmentLawLemmas.{amendment_ok, amended_read, none_stays, same_stays}
use Rattle.reuse_header.proofs.AmendmentLawLemmas.{neighbour_amendment_ok, neighbour_stays}
use Rattle.reuse_header.proofs.AmendedLemmas.{amended_reads, amended_neighbour_reads}

-- what the law on information says
abbrev pub Second : Type 0
Second =
    (a : Amendments)
    (info new : Info) → BringNothingBack a → HasFourDigits a.until → NoticesReadAsAmended a info
    → amended a info ≡ Some new → amended a new ≡ Some new

pub both : (r : Result (Option Edit) AmendHeaderRefusal) (edit : Edit) → r ≡ Ok None → r ≡ Ok (Some edit) → ⊥
both r edit none some = let same = sym none ∙ some in cc

-- what is amended says the same when it is amended again
quiet : (a : Amendments) (read info : Info) → read ≡ info → amended a info ≡ Some info
    → (amended a read ≡ Some info) × (says_the_same read info ≡ true)
quiet a read info says again =
    (ap (amended a) says ∙ again, ap (λ (i : Info). says_the_same i info) says ∙ is_same info info (refl, refl, refl))

-- a call on what an edit made
pub of_edit : (Q : List ℕ → Type 0) (file made : List ℕ) (r : Result (Option Edit) AmendHeaderRefusal)
    → amended_file file r ≡ Ok made → (r ≡ Ok None → Q file)
    → ((edit : Edit) → r ≡ Ok (Some edit) → Q (edited file edit)) → Q made
of_edit Q file made (Err refusal) e none some = absurd (let f : ⊥ = cc e in f)
of_edit Q file made (Ok None) e none some = let same : file ≡ made = cc e in subst Q same (none refl)
of_edit Q file made (Ok (Some edit)) e none some =
    let same : edited file edit ≡ made = cc e in subst Q same (some edit refl)

-- ---- files

said : (style : Style) (file : List ℕ) (span : HeaderSpan)
    → option_map (span_in file) (header_of style file) ≡ Some span
    → information_in style file ≡ Some (info_of (punctuation_of style) span.contents)
said style file span e = by (header_of style file) refl e
  where
    by : (o : Option Header) → header_of style file ≡ o → option_map (span_in file) o ≡ Some span
        → information_in style file ≡ Some (info_of (punctuation_of style) span.contents)
    by None is e' = absurd (let f : ⊥ = cc e' in f)
    by (Some h) is e' =
        let same : span_in file h ≡ span = cc e' in
        ap (option_map (λ (header : Header). info_of (punctuation_of style) header.contents)) is
        ∙ ap (λ (s : HeaderSpan). Some (info_of (punctuation_of style) s.contents)) same

block_again : Second → Known → Laws → (style : Style) (a : Amendments) (file : List ℕ) (edit : Edit) (span : HeaderSpan)
    → BringNothingBack a → HasFourDigits a.until → WritePlainTexts a
    → NoticesReadAsAmended a (info_of (punctuation_of style) span.contents)
    → option_map (span_in file) (header_of style file) ≡ Some span → amendment_of style a file ≡ Ok (Some edit)
    → amendment_of style a (edited file edit) ≡ Ok None
block_again second known laws style a file edit span back short plain reads found e =
    let old = info_of (punctuation_of style) span.contents in
    let w = amendment_ok style a file edit span e found in
    let kind = kind_of_file file in
    let block : IsBlockText style kind w.info span.form w.marks edit.text = record {
      marks_are = w.marks_are;
      text_is = ap (λ (x : Edit). x.text) w.written.same
          ∙ text_of_edit style file (block_text w.marks kind w.info) (Some span);
    } in
    let s =
    amended_reads known laws.well style a file span w.info kind span.form w.marks plain found w.is.made w.marks_are in
    let read =
    amended_read laws.joined laws.well laws.only laws.sets style a file edit span w.info span.form w.marks e found
    block s.0 s.1 in
    let q =
    quiet a (info_of (punctuation_of style) read.0.contents) w.info read.1.says
    (second a old w.info back short reads w.is.made) in
    same_stays style a (edited file edit) read.0 w.info read.1.found q.0 q.1

edit_again : Second → Known → Laws → (style : Style) (a : Amendments) (file : List ℕ) (edit : Edit) → BringNothingBack a
    → HasFourDigits a.until
    → WritePlainTexts a
    → ((info : Info) → information_in style file ≡ Some info → NoticesReadAsAmended a info)
    → amendment_of style a file ≡ Ok (Some edit) → amendment_of style a (edited file edit) ≡ Ok None
edit_again second known laws style a file edit back short plain reads e =
    by (option_map (span_in file) (header_of style file)) refl
  where
    by : (o : Option HeaderSpan) → option_map (span_in file) (header_of style file) ≡ o
        → amendment_of style a (edited file edit) ≡ Ok None
    by None found = absurd (both (amendment_of style a file) edit (none_stays style a file found) e)
    by (Some span) found =
        block_again second known laws style a file edit span back short plain
        (reads (info_of (punctuation_of style) span.contents) (said style file span found)) found e

pub file_again : Second → Known → Laws → (style : Style) (a : Amendments) (file made : List ℕ) → BringNothingBack a
    → HasFourDigits a.until
    → WritePlainTexts a
    → ((info : Info) → information_in style file ≡ Some info → NoticesReadAsAmended a info)
    → amended_file file (amendment_of style a file) ≡ Ok made → amendment_of style a made ≡ Ok None
file_again second known laws style a file made back short plain reads e =
    of_edit (λ m. amendment_of style a m ≡ Ok None) file made (amendment_of style a file) e (λ none. none)
    (λ edit is. edit_again second known laws style a file edit back short plain reads is)

-- ---- neighbour files

neighbour_edit_again : Second → Known → Laws → (a : Amendments) (file : List ℕ) (edit : Edit) → BringNothingBack a
    → HasFourDigits a.until
    → WritePlainTexts a
    → NoticesReadAsAmended a (info_of [] (neighbour_contents file)) → is_text (edited file edit) ≡ true
    → neighbour_amendment_of a file ≡ Ok (Some edit) → neighbour_amendment_of a (edited file edit) ≡ Ok None
neighbour_edit_again second known laws a file edit back short plain reads text e =
    let w = neighbour_amendment_ok a file edit e in
    let made = edited file edit in
    let kind = kind_of_file file in
    let lines = block_lines neighbour_marks w.info in
    let behind = edit.back ++ drop (edit.start + edit.old_len) file in
    let s = amended_neighbour_reads known laws.well a file w.info kind plain w.is.made in
    let same = w.same ∙ is_replacement true file (block_text neighbour_marks kind w.info) refl in
    let text_is : edit.text ≡ ended_by kind lines =
    ap (λ (x : Edit). x.text) same ∙ text_lines neighbour_marks kind w.info in
    let there = standing true made (text_start edit) (text_end edit) refl w.stands in
    let after =
    text_behind file made edit refl (ap (λ (x : Edit). x.start) same) (ap (λ (x : Edit). x.front) same) there.0
    ∙ ap (λ (t : List ℕ). t ++ behind) text_is in
    let wide = ap length text_is in
    let says : info_of [] (neighbour_contents made) ≡ w.info =
    ap (λ (cs : List (List ℕ)). info_of [] (map without_returns cs))
    (open_made laws made behind kind lines after s.1 (omega (arith, there.0, there.1, wide)))
    ∙ read_back laws w.info s.0 in
    let q =
    quiet a (info_of [] (neighbour_contents made)) w.info says
    (second a (info_of [] (neighbour_contents file)) w.info back short reads w.is.made) in
    neighbour_stays a made w.info text q.0 q.1

pub neighbour_again : Second → Known → Laws → (a : Amendments) (file made : List ℕ) → BringNothingBack a
    → HasFourDigits a.until
    → WritePlainTexts a
    → NoticesReadAsAmended a (info_of [] (neighbour_contents file)) → is_text made ≡ true
    → amended_file file (neighbour_amendment_of a file) ≡ Ok made → neighbour_amendment_of a made ≡ Ok None
neighbour_again second known laws a file made back short plain reads text e =
    of_edit (λ m. is_text m ≡ true → neighbour_amendment_of a m ≡ Ok None) file made (neighbour_amendment_of a file) e
    (λ none _. none)
    (λ edit is good. neighbour_edit_again second known laws a file edit back short plain reads good is) text
