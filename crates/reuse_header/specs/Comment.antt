-- A comment of contents in the place of a header block (docs/RULES.md, "Words of a header").
use Rattle.std.specs.Prelude.{ℕ, Bool, false, nat_lt, List, ◌++◌, length, map, Option, None, Some, Result, Ok, Err}
use Rattle.std.specs.Prelude.{if◌then◌else◌}
use Rattle.std.specs.List.{list_any}
use Rattle.std.specs.Option.{option_map_or, option_to_list}
use Rattle.reuse_text.specs.declared.TheConstants.{LONGEST_FILE}
use Rattle.reuse_text.specs.declared.LineKind.{LineKind}
use Rattle.reuse_text.specs.Text.{mark_len_of}
use Rattle.reuse_style.specs.Search.{holds}
use Rattle.reuse_header.specs.declared.annotation.HeaderRefusal.{HeaderRefusal}
use Rattle.reuse_header.specs.declared.annotation.HeaderRefusal.TheVariants.{NoSuchForm, HoldsCloser, TooLong}
use Rattle.reuse_header.specs.Marks.{LineMarks}
use Rattle.reuse_header.specs.Header.{HeaderSpan}
use Rattle.reuse_header.specs.Writing.{ended_by, neighbour_marks}
use Rattle.reuse_header.specs.Annotation.{Edit, edited, replacement, kind_of_file}
use Rattle.reuse_header.specs.Neighbour.{neighbour_end}

-- the lines of contents, as a form writes them, and those of a comment of them
abbrev pub content_lines : LineMarks → List (List ℕ) → List (List ℕ)
content_lines marks contents = map (λ content. marks.mark ++ content) contents

abbrev pub comment_lines : LineMarks → List (List ℕ) → List (List ℕ)
comment_lines marks contents =
    option_to_list marks.first ++ content_lines marks contents ++ option_to_list marks.last

abbrev pub comment_text : LineMarks → LineKind → List (List ℕ) → List ℕ
comment_text marks kind contents = ended_by kind (comment_lines marks contents)

-- whether the line of a content would end a comment of the form
abbrev pub closes_form : LineMarks → List (List ℕ) → Bool
closes_form marks contents =
    option_map_or (λ closer. list_any (holds closer) (content_lines marks contents)) marks.closer false

abbrev pub closes_comment : Option LineMarks → List (List ℕ) → Bool
closes_comment marks contents = option_map_or (λ m. closes_form m contents) marks false

-- an edit, unless the file that it makes is too long
abbrev pub fitting : List ℕ → Edit → Result Edit HeaderRefusal
fitting file edit = if nat_lt LONGEST_FILE (length (edited file edit)) then Err TooLong else Ok edit

-- the edit that puts a comment of contents in the place of a block, by the marks of its form, or the first refusal
unfoldable pub comment_written : List ℕ → HeaderSpan → List (List ℕ) → Option LineMarks → Result Edit HeaderRefusal
comment_written file span contents None = Err NoSuchForm
comment_written file span contents (Some marks) =
    if closes_form marks contents then Err HoldsCloser
    else fitting file (replacement span.start span.end (comment_text marks (kind_of_file file) contents))

-- the edit that puts contents in the place of a neighbour's block, or the refusal of a file that is too long
unfoldable pub neighbour_comment_written : List ℕ → List (List ℕ) → Result Edit HeaderRefusal
neighbour_comment_written file contents =
    fitting file
    (replacement (mark_len_of file) (neighbour_end file) (comment_text neighbour_marks (kind_of_file file) contents))
