-- What adding information and texts makes of a file: the edit, or the first refusal (docs/RULES.md, "Words of a
-- header").
use Rattle.std.specs.Prelude.{◌≡◌, ℕ, List, [], Option, None, Result, Ok, Err, if◌then◌else◌}
use Rattle.std.specs.List.{list_any}
use Rattle.std.specs.Option.{option_map}
use Rattle.reuse_notice.specs.declared.adding.Additions.{Additions}
use Rattle.reuse_style.specs.declared.style.Style.{Style}
use Rattle.reuse_style.specs.Styles.{punctuation_of}
use Rattle.reuse_header.specs.declared.annotation.How.{How}
use Rattle.reuse_header.specs.declared.annotation.Splice.{Splice}
use Rattle.reuse_header.specs.declared.annotation.HeaderRefusal.{HeaderRefusal}
use Rattle.reuse_header.specs.declared.annotation.HeaderRefusal.TheVariants.{NotText, Memory}
use Rattle.reuse_header.specs.Marks.{marks_of}
use Rattle.reuse_header.specs.Header.{span_in, header_of}
use Rattle.reuse_header.specs.Writing.{new_info}
use Rattle.reuse_header.specs.Annotation.{Edit, chosen_form, replaced_block, old_contents, written_by}
use Rattle.reuse_header.specs.Neighbour.{is_text, replaced_contents, neighbour_written}
use Rattle.reuse_header.specs.Splices.{splice_of}
use Rattle.reuse_header.specs.Comment.{closes_comment}
use Rattle.reuse_words.specs.declared.refusal.TextHeaderRefusal.{TextHeaderRefusal}
use Rattle.reuse_words.specs.declared.refusal.TextHeaderRefusal.TheVariants.{BadText, Header}
use Rattle.reuse_words.specs.Information.{info_with}
use Rattle.reuse_words.specs.Amended.{texts_in}

-- the edit that a write makes
abbrev pub header_edit : Result Edit HeaderRefusal → Result Edit TextHeaderRefusal
header_edit (Ok edit) = Ok edit
header_edit (Err refusal) = Err (Header refusal)

-- the edit that adds information and texts to a file, or the first refusal: that a line of a text would end the comment
-- comes before all but that the style lacks the form
unfoldable pub text_annotation_of : Style → How → Additions → List (List (List ℕ)) → List ℕ
    → Result Edit TextHeaderRefusal
text_annotation_of style how additions texts file =
    let found = option_map (span_in file) (header_of style file) in
    let old = replaced_block how.replace found in
    let punct = punctuation_of style in
    let marks = marks_of style (chosen_form style how.form found) in
    let info = new_info punct (old_contents old) how.merge additions in
    if list_any (closes_comment marks) (texts_in marks texts) then Err BadText
    else header_edit (written_by style file old (info_with punct (texts_in marks texts) info) marks)

-- the edit that adds information and texts to a neighbour file, or the first refusal
unfoldable pub neighbour_text_annotation_of : How → Additions → List (List (List ℕ)) → List ℕ
    → Result Edit TextHeaderRefusal
neighbour_text_annotation_of how additions texts file =
    let info = new_info [] (replaced_contents how.replace file) how.merge additions in
    if is_text file
    then header_edit (neighbour_written how.replace file (info_with [] (texts_in None texts) info))
    else Err (Header NotText)

-- what a call answers
abbrev pub text_answer : List ℕ → Result Edit TextHeaderRefusal → Result (Option Splice) TextHeaderRefusal
text_answer file (Ok edit) = Ok (splice_of file edit)
text_answer file (Err refusal) = Err refusal

-- the answer that is expected, or an allocation failure, which may take the place of each
abbrev pub IsExpectedTextEdit : Result (Option Splice) TextHeaderRefusal → Result (Option Splice) TextHeaderRefusal
    → Type 0
IsExpectedTextEdit expected (Ok splice) = expected ≡ Ok splice
IsExpectedTextEdit expected (Err (Header (Memory e))) = Unit {0}
IsExpectedTextEdit expected (Err refusal) = expected ≡ Err refusal
