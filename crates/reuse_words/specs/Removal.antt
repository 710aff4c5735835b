-- What removing a header makes of a file: the edit, none where nothing changes, or the first refusal (docs/RULES.md,
-- "Words of a header").
use Rattle.std.specs.Prelude.{◌≡◌, ℕ, ◌+◌, Bool, true, ◌&&◌, ◌||◌, ◌==◌, nat_eq, nat_lt, List, [], ◌∷◌, length, drop}
use Rattle.std.specs.Prelude.{Option, None, Some, Result, Ok, Err, if◌then◌else◌}
use Rattle.std.specs.List.{starts_with}
use Rattle.std.specs.Option.{option_map, option_map_or}
use Rattle.reuse_text.specs.Text.{is_empty, mark_len_of}
use Rattle.reuse_notice.specs.Contents.{is_nil, free_of}
use Rattle.reuse_notice.specs.Infos.{info_of, says_nothing}
use Rattle.reuse_style.specs.declared.style.Style.{Style}
use Rattle.reuse_style.specs.Styles.{punctuation_of}
use Rattle.reuse_header.specs.declared.annotation.Splice.{Splice}
use Rattle.reuse_header.specs.declared.annotation.HeaderRefusal.{HeaderRefusal}
use Rattle.reuse_header.specs.declared.annotation.HeaderRefusal.TheVariants.{NotText, Memory}
use Rattle.reuse_header.specs.Marks.{marks_of}
use Rattle.reuse_header.specs.Header.{HeaderSpan, span_in, header_of}
use Rattle.reuse_header.specs.Annotation.{Edit, replacement}
use Rattle.reuse_header.specs.Neighbour.{is_text, replaced_contents}
use Rattle.reuse_header.specs.Splices.{splice_of}
use Rattle.reuse_header.specs.Comment.{comment_written, neighbour_comment_written}
use Rattle.reuse_words.specs.declared.removal.NeighbourChange.{NeighbourChange}
use Rattle.reuse_words.specs.declared.removal.NeighbourChange.TheVariants.{Unchanged, Changed, Emptied}

-- ---- what a call answers

-- an edit that is made
abbrev pub some_edit : Result Edit HeaderRefusal → Result (Option Edit) HeaderRefusal
some_edit (Ok edit) = Ok (Some edit)
some_edit (Err refusal) = Err refusal

-- the answer of an edit, none where there is none, or where it makes the file itself
abbrev pub edit_answer : List ℕ → Result (Option Edit) HeaderRefusal → Result (Option Splice) HeaderRefusal
edit_answer file (Ok None) = Ok None
edit_answer file (Ok (Some edit)) = Ok (splice_of file edit)
edit_answer file (Err refusal) = Err refusal

-- ---- a header without its tags

-- how many bytes an empty line has that bytes begin with
abbrev pub empty_line_len : List ℕ → ℕ
empty_line_len bytes =
    if starts_with nat_eq bytes (10 ∷ []) then 1 else if starts_with nat_eq bytes (13 ∷ 10 ∷ []) then 2 else 0

-- how many bytes go behind a block that goes: an empty line, where a line that isn't empty follows it
abbrev pub gap_behind : List ℕ → ℕ
gap_behind rest =
    let n = empty_line_len rest in
    if is_empty (drop n rest) || nat_lt 0 (empty_line_len (drop n rest)) then 0 else n

-- the edit that takes a block out of a file
abbrev pub block_taken : List ℕ → HeaderSpan → Edit
block_taken file span = replacement span.start (span.end + gap_behind (drop span.end file)) []

-- the edit that takes the tags out of a header block: a comment of its free contents stays, or nothing, where there
-- are none
unfoldable pub block_untagged : Style → List ℕ → HeaderSpan → Result (Option Edit) HeaderRefusal
block_untagged style file span =
    let free = free_of (punctuation_of style) span.contents in
    if is_nil free then Ok (Some (block_taken file span))
    else some_edit (comment_written file span free (marks_of style span.form))

-- the edit that takes the header out of a file, none where it has no header block
abbrev pub untagged_of : Style → List ℕ → Result (Option Edit) HeaderRefusal
untagged_of style file =
    option_map_or (block_untagged style file) (option_map (span_in file) (header_of style file)) (Ok None)

-- the edit that takes the tags out of a neighbour file, none where it has none
unfoldable pub neighbour_untagged_of : List ℕ → Result (Option Edit) HeaderRefusal
neighbour_untagged_of file =
    let info = info_of [] (replaced_contents true file) in
    if is_text file then
    (if says_nothing info then Ok None else some_edit (neighbour_comment_written file info.free))
    else Err NotText

-- ---- a neighbour that is left empty

-- whether a change takes all bytes of a file away but its byte order mark
abbrev pub leaves_nothing : List ℕ → Splice → Bool
leaves_nothing file splice =
    is_empty splice.new && splice.at == mark_len_of file && splice.at + length splice.old == length file

-- what becomes of a neighbour by a change, if there is one
abbrev pub neighbour_change_of : List ℕ → Option Splice → NeighbourChange
neighbour_change_of file None = Unchanged
neighbour_change_of file (Some splice) = if leaves_nothing file splice then Emptied else Changed splice

abbrev pub neighbour_answer : List ℕ → Result (Option Edit) HeaderRefusal → Result NeighbourChange HeaderRefusal
neighbour_answer file (Ok None) = Ok Unchanged
neighbour_answer file (Ok (Some edit)) = Ok (neighbour_change_of file (splice_of file edit))
neighbour_answer file (Err refusal) = Err refusal

-- the change that is expected, or an allocation failure, which may take the place of each
abbrev pub IsExpectedChange : Result NeighbourChange HeaderRefusal → Result NeighbourChange HeaderRefusal → Type 0
IsExpectedChange expected (Err (Memory e)) = Unit {0}
IsExpectedChange expected (Ok change) = expected ≡ Ok change
IsExpectedChange expected (Err refusal) = expected ≡ Err refusal
