-- What is read of the file that annotating made.
use Rattle.std.proofs.Common.{◌≡◌, ℕ, true, false, List, [], length, take, Option, None, Some, refl, ap, subst, ◌∙◌}
use Rattle.std.specs.Prelude.{Result, Ok, Err}
use Rattle.std.specs.Option.{option_map}
use Rattle.reuse_notice.specs.declared.infos.Info.{Info}
use Rattle.reuse_notice.specs.Infos.{info_of}
use Rattle.reuse_notice.specs.Adding.{Arguments, additions_of}
use Rattle.reuse_notice.specs.Plain.{ArePlain}
use Rattle.reuse_style.specs.declared.style.Style.{Style}
use Rattle.reuse_header.specs.declared.annotation.How.{How}
use Rattle.reuse_header.specs.declared.annotation.HeaderRefusal.{HeaderRefusal}
use Rattle.reuse_style.specs.Styles.{punctuation_of}
use Rattle.reuse_header.specs.Header.{Header, HeaderSpan, span_in, header_of, neighbour_contents}
use Rattle.reuse_header.specs.Writing.{block_lines, neighbour_marks}
use Rattle.reuse_header.specs.Annotation.{Edit, edited, kind_of_file, chosen_form, annotation_of, made_by}
use Rattle.reuse_header.specs.Neighbour.{neighbour_annotation_of}
use Rattle.reuse_header.specs.Laws.{info_written, neighbour_info_written, information_in}
use Rattle.reuse_header.proofs.LawLemmas.{written_block, read_again}
use Rattle.reuse_header.proofs.LinesLemmas.{written_sayable}
use Rattle.reuse_header.specs.LowerLaws.{Known, Laws}
use Rattle.reuse_header.proofs.OpenLemmas.{neighbour_opened, neighbour_begun}
use Rattle.reuse_header.proofs.WrittenLemmas.{error_is_ok}

-- what a header says is what its span says
says_of : (style : Style) (file : List ℕ) (found : Option Header) (span : HeaderSpan) (info : Info)
    → option_map (span_in file) found ≡ Some span → info_of (punctuation_of style) span.contents ≡ info
    → option_map (λ (header : Header). info_of (punctuation_of style) header.contents) found ≡ Some info
says_of style file None span info e says = cc
says_of style file (Some header) span info e says =
    let same : span_in file header ≡ span = cc in
    ap (λ (i : Info). Some i) (ap (λ (s : HeaderSpan). info_of (punctuation_of style) s.contents) same ∙ says)

edit_read : Known → Laws → (style : Style) (how : How) (arguments : Arguments) (file : List ℕ) (edit : Edit)
    → ArePlain (additions_of arguments)
    → annotation_of style how (additions_of arguments) file ≡ Ok edit
    → information_in style (edited file edit) ≡ Some (info_written style how (additions_of arguments) file)
edit_read known laws style how arguments file edit plain e =
    let additions = additions_of arguments in
    let found = option_map (span_in file) (header_of style file) in
    let info = info_written style how additions file in
    let form = chosen_form style how.form found in
    let block = written_block style how additions file found edit refl e in
    let sayable =
    written_sayable known laws.well style how arguments file (kind_of_file file) form block.0 plain block.1.marks_are in
    let read = read_again laws.joined laws.well laws.only laws.sets style how additions file edit info form block.0 e
    block.1 sayable.0 sayable.1 in
    says_of style (edited file edit) (header_of style (edited file edit)) read.0 info read.1.found read.1.says

-- what holds of the file that an edit makes
of_edit : (file made : List ℕ) (P : List ℕ → Type 0) (answer : Result Edit HeaderRefusal)
    → ((edit : Edit) → answer ≡ Ok edit → P (edited file edit)) → made_by file answer ≡ Ok made → P made
of_edit file made P (Err refusal) each e = absurd (error_is_ok refusal made e)
of_edit file made P (Ok edit) each e = let same : edited file edit ≡ made = cc in subst P same (each edit refl)

pub file_read : Known → Laws → (style : Style) (how : How) (arguments : Arguments) (file made : List ℕ)
    → ArePlain (additions_of arguments)
    → made_by file (annotation_of style how (additions_of arguments) file) ≡ Ok made
    → information_in style made ≡ Some (info_written style how (additions_of arguments) file)
file_read known laws style how arguments file made plain =
    of_edit file made (λ (m : List ℕ). information_in style m ≡ Some
    (info_written style how (additions_of arguments) file)) (annotation_of style how (additions_of arguments) file)
    (λ edit e. edit_read known laws style how arguments file edit plain e)

pub neighbour_read : Known → Laws → (how : How) (arguments : Arguments) (file made : List ℕ) → how.replace ≡ true
    → ArePlain (additions_of arguments)
    → made_by file (neighbour_annotation_of how (additions_of arguments) file) ≡ Ok made
    → info_of [] (neighbour_contents made) ≡ neighbour_info_written how (additions_of arguments) file
neighbour_read known laws how arguments file made replace plain =
    of_edit file made (λ (m : List ℕ). info_of [] (neighbour_contents m) ≡ neighbour_info_written how
    (additions_of arguments) file) (neighbour_annotation_of how (additions_of arguments) file)
    (λ edit e. neighbour_opened known laws how arguments file edit plain e replace)

pub neighbour_first_read : Known → Laws → (how : How) (arguments : Arguments) (file made : List ℕ) → how.replace ≡ false
    → ArePlain (additions_of arguments)
    → made_by file (neighbour_annotation_of how (additions_of arguments) file) ≡ Ok made
    → (let info = neighbour_info_written how (additions_of arguments) file in
    info_of [] (take (length (block_lines neighbour_marks info)) (neighbour_contents made)) ≡ info)
neighbour_first_read known laws how arguments file made add plain =
    let info = neighbour_info_written how (additions_of arguments) file in
    of_edit file made
    (λ (m : List ℕ). info_of [] (take (length (block_lines neighbour_marks info)) (neighbour_contents m)) ≡ info)
    (neighbour_annotation_of how (additions_of arguments) file)
    (λ edit e. neighbour_begun known laws how arguments file edit plain e add)
