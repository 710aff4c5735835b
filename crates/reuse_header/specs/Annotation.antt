-- What annotating makes of a file: the edit that puts the new header block in, or the first refusal (the reuse tool's
-- manual page of `annotate`; form, place and refusals: docs/RULES.md, "What annotate writes").
use Rattle.std.specs.Prelude.{ℕ, ◌+◌, ◌-◌, Bool, true, false, not, ◌&&◌, ◌==◌, nat_lt, List, [], ◌∷◌, ◌++◌}
use Rattle.std.specs.Prelude.{length, take}
use Rattle.std.specs.Prelude.{Option, None, Some, Result, Ok, Err, is_some, unwrap_or, if◌then◌else◌}
use Rattle.std.specs.Option.{option_map, option_map_or, option_or}
use Rattle.reuse_text.specs.declared.TheConstants.{LONGEST_FILE}
use Rattle.reuse_text.specs.declared.LineKind.{LineKind}
use Rattle.reuse_text.specs.Text.{ending_bytes, kind_of, lines_of, after_mark, file_lines, spliced, is_empty}
use Rattle.reuse_notice.specs.declared.infos.Info.{Info}
use Rattle.reuse_notice.specs.declared.adding.Additions.{Additions}
use Rattle.reuse_style.specs.declared.style.Style.{Style}
use Rattle.reuse_style.specs.declared.marks.Form.{Form}
use Rattle.reuse_style.specs.declared.marks.Form.TheVariants.{Single, Multi}
use Rattle.reuse_header.specs.declared.annotation.How.{How}
use Rattle.reuse_header.specs.declared.annotation.HeaderRefusal.{HeaderRefusal}
use Rattle.reuse_header.specs.declared.annotation.HeaderRefusal.TheVariants.{NoSuchForm, HoldsCloser, TooLong}
use Rattle.reuse_header.specs.declared.annotation.HeaderRefusal.TheVariants.{Unsettled}
use Rattle.reuse_style.specs.Styles.{line_comment_of, punctuation_of, first_lines_of, front_matter_of}
use Rattle.reuse_header.specs.Marks.{LineMarks, marks_of}
use Rattle.reuse_header.specs.Body.{PlacedLines, is_shebang, is_declaration, without_first, first_lines_count}
use Rattle.reuse_header.specs.Body.{front_matter_count, after_declaration, after_first_lines, body_lines, place_in}
use Rattle.reuse_header.specs.Header.{HeaderSpan, span_in, header_of}
use Rattle.reuse_header.specs.Writing.{new_info, block_text, holds_closer}

-- ---- an edit

-- bytes that take the place of `old_len` bytes from `start` on: the text of a block, and the endings that
-- set it off in front and behind
pub record Edit : Type 0 where
  pub start : ℕ
  pub old_len : ℕ
  pub front : List ℕ
  pub text : List ℕ
  pub back : List ℕ

abbrev pub new_bytes : Edit → List ℕ
new_bytes edit = edit.front ++ (edit.text ++ edit.back)

-- the file that an edit makes
abbrev pub edited : List ℕ → Edit → List ℕ
edited file edit = spliced file edit.start edit.old_len (new_bytes edit)

-- where the block's text begins and ends in that file
abbrev pub text_start : Edit → ℕ
text_start edit = edit.start + length edit.front

abbrev pub text_end : Edit → ℕ
text_end edit = text_start edit + length edit.text

-- the text in the place of some bytes
abbrev pub replacement : ℕ → ℕ → List ℕ → Edit
replacement start end text = record { start = start; old_len = end - start; front = []; text = text; back = [] }

-- whether there are lines
abbrev pub has_lines : PlacedLines → Bool
has_lines [] = false
has_lines (line ∷ lines) = true

-- whether the last of some lines is ended
abbrev pub is_last_ended : PlacedLines → Bool
is_last_ended [] = true
is_last_ended (line ∷ []) = is_some line.1.ending
is_last_ended (line ∷ next ∷ lines) = is_last_ended (next ∷ lines)

-- whether there are lines, the first of them with a content
abbrev pub begins_full : PlacedLines → Bool
begins_full [] = false
begins_full (line ∷ lines) = not (is_empty line.1.content)

-- one ending of the kind, if it is wanted
abbrev pub ending_if : Bool → LineKind → List ℕ
ending_if wanted kind = if wanted then ending_bytes (Some kind) else []

-- an insertion behind prefix lines: an ending if the last of them lacks one, an empty line if there are
-- any, the text, and an empty line if the rest begins with a line that is not empty
abbrev pub insertion : PlacedLines → PlacedLines → ℕ → LineKind → List ℕ → Edit
insertion prefix rest start kind text = record {
  start = start;
  old_len = 0;
  front = ending_if (not (is_last_ended prefix)) kind ++ ending_if (has_lines prefix) kind;
  text = text;
  back = ending_if (begins_full rest) kind;
}

-- ---- the place of the block in a file

-- the first of some lines, where it passes a test
abbrev pub first_if : (List ℕ → Bool) → PlacedLines → PlacedLines
first_if test [] = []
first_if test (line ∷ lines) = if test line.1.content then line ∷ [] else []

-- the first of some lines that are a style's first lines, and those that are its front matter
abbrev pub first_lines_in : Style → PlacedLines → PlacedLines
first_lines_in style lines = take (first_lines_count (first_lines_of style) lines) lines

abbrev pub front_matter_in : Style → PlacedLines → PlacedLines
front_matter_in style lines = take (front_matter_count (front_matter_of style) lines) lines

-- the lines of a file that stay in front of a block: an interpreter line, a declaration, first lines and front matter
unfoldable pub prefix_lines : Style → PlacedLines → PlacedLines
prefix_lines style lines =
    first_if is_shebang lines ++ (first_if (is_declaration style) (without_first is_shebang lines)
    ++ (first_lines_in style (after_declaration style lines) ++ front_matter_in style (after_first_lines style lines)))

-- the kind of a file
abbrev pub kind_of_file : List ℕ → LineKind
kind_of_file file = kind_of (lines_of (after_mark file))

-- the edit that puts a block's text into a file: in the place of the old block, if that is replaced
unfoldable pub edit_of : Style → List ℕ → Option HeaderSpan → List ℕ → Edit
edit_of style file (Some span) text = replacement span.start span.end text
edit_of style file None text =
    let lines = file_lines file in
    let body = body_lines style lines in
    insertion (prefix_lines style lines) body (place_in file body) (kind_of_file file) text

-- ---- the new file

-- the form that is asked for, else the old block's, else single-line where the style has it, else multi-line
abbrev pub chosen_form : Style → Option Form → Option HeaderSpan → Form
chosen_form style asked old =
    unwrap_or (option_or asked (option_map (λ span. span.form) old))
    (if is_some (line_comment_of style) then Single else Multi)

-- the old block, if it is to be replaced, and its contents
abbrev pub replaced_block : Bool → Option HeaderSpan → Option HeaderSpan
replaced_block replace found = if replace then found else None

abbrev pub old_contents : Option HeaderSpan → List (List ℕ)
old_contents old = option_map_or (λ span. span.contents) old []

-- an edit, unless the file that it makes is too long, or the block is not found again in it
abbrev pub settled : List ℕ → Edit → Bool → Result Edit HeaderRefusal
settled made edit is_found =
    if nat_lt LONGEST_FILE (length made) then Err TooLong else (if is_found then Ok edit else Err Unsettled)

-- whether the header block of a file stands from one place to another
abbrev pub stands_at : Style → List ℕ → ℕ → ℕ → Bool
stands_at style file start end =
    option_map_or (λ span. span.start == start && span.end == end)
    (option_map (span_in file) (header_of style file)) false

-- the edit that writes a block by the marks of its form, or the first refusal
unfoldable pub written_by : Style → List ℕ → Option HeaderSpan → Info → Option LineMarks → Result Edit HeaderRefusal
written_by style file old info None = Err NoSuchForm
written_by style file old info (Some marks) =
    let edit = edit_of style file old (block_text marks (kind_of_file file) info) in
    let made = edited file edit in
    if holds_closer marks info then Err HoldsCloser
    else settled made edit (stands_at style made (text_start edit) (text_end edit))

-- the edit that annotating a file is, or the first refusal
unfoldable pub annotation_of : Style → How → Additions → List ℕ → Result Edit HeaderRefusal
annotation_of style how additions file =
    let found = option_map (span_in file) (header_of style file) in
    let old = replaced_block how.replace found in
    let info = new_info (punctuation_of style) (old_contents old) how.merge additions in
    written_by style file old info (marks_of style (chosen_form style how.form found))

-- the file that an edit makes, or the refusal
abbrev pub made_by : List ℕ → Result Edit HeaderRefusal → Result (List ℕ) HeaderRefusal
made_by file (Ok edit) = Ok (edited file edit)
made_by file (Err refusal) = Err refusal

-- what annotating makes of a file: the new file, or the first refusal
abbrev pub annotated : Style → How → Additions → List ℕ → Result (List ℕ) HeaderRefusal
annotated style how additions file = made_by file (annotation_of style how additions file)
