-- What annotating makes of a neighbour file, the one that has another's licensing information (REUSE Specification
-- 3.3, `.license` files; their blocks: docs/RULES.md, "The header block of a file"). All that stands between its
-- mark and its first barrier line is its block, without marks of a comment.
use Rattle.std.specs.Prelude.{ℕ, Bool, not, ◌&&◌, ◌==◌, nat_le, List, [], ◌∷◌, Result, Err, if◌then◌else◌}
use Rattle.std.specs.List.{list_any}
use Rattle.std.specs.Str.{is_utf8}
use Rattle.reuse_text.specs.Text.{mark_len_of, file_lines}
use Rattle.reuse_notice.specs.declared.infos.Info.{Info}
use Rattle.reuse_notice.specs.declared.adding.Additions.{Additions}
use Rattle.reuse_header.specs.declared.annotation.How.{How}
use Rattle.reuse_header.specs.declared.annotation.HeaderRefusal.{HeaderRefusal}
use Rattle.reuse_header.specs.declared.annotation.HeaderRefusal.TheVariants.{NotText}
use Rattle.reuse_header.specs.Body.{PlacedLines, place_in, is_barrier}
use Rattle.reuse_header.specs.Header.{neighbour_contents}
use Rattle.reuse_header.specs.Writing.{new_info, neighbour_marks, block_text}
use Rattle.reuse_header.specs.Annotation.{Edit, edited, text_start, text_end, replacement, insertion, kind_of_file}
use Rattle.reuse_header.specs.Annotation.{settled, made_by}

-- UTF-8 without a NUL byte
abbrev pub is_text : List ℕ → Bool
is_text file = is_utf8 file && not (list_any (λ b. b == 0) file)

-- the lines from the first barrier on
abbrev pub closed_lines : PlacedLines → PlacedLines
closed_lines [] = []
closed_lines (line ∷ lines) = if is_barrier line.1.content then line ∷ lines else closed_lines lines

-- the place at which a neighbour file's block ends: its first barrier line, or its end
abbrev pub neighbour_end : List ℕ → ℕ
neighbour_end file = place_in file (closed_lines (file_lines file))

-- the contents of the block, if it is replaced
abbrev pub replaced_contents : Bool → List ℕ → List (List ℕ)
replaced_contents replace file = if replace then neighbour_contents file else []

-- the edit that puts a text into a neighbour file: in the place of the block, or in front of it
unfoldable pub neighbour_edit : Bool → List ℕ → List ℕ → Edit
neighbour_edit replace file text =
    if replace then replacement (mark_len_of file) (neighbour_end file) text
    else insertion [] (file_lines file) (mark_len_of file) (kind_of_file file) text

-- whether the block of a neighbour file is what stands from one place to another, or, for an insertion,
-- begins with it
abbrev pub neighbour_stands : Bool → List ℕ → ℕ → ℕ → Bool
neighbour_stands replace file start end =
    mark_len_of file == start && (if replace then neighbour_end file == end else nat_le end (neighbour_end file))

-- the edit that writes the block of a neighbour file, or the first refusal
unfoldable pub neighbour_written : Bool → List ℕ → Info → Result Edit HeaderRefusal
neighbour_written replace file info =
    let edit = neighbour_edit replace file (block_text neighbour_marks (kind_of_file file) info) in
    let made = edited file edit in
    settled made edit (neighbour_stands replace made (text_start edit) (text_end edit))

-- the edit that annotating a neighbour file is, or the first refusal
unfoldable pub neighbour_annotation_of : How → Additions → List ℕ → Result Edit HeaderRefusal
neighbour_annotation_of how additions file =
    if is_text file
    then neighbour_written how.replace file (new_info [] (replaced_contents how.replace file) how.merge additions)
    else Err NotText

-- what annotating makes of a neighbour file: the new file, or the first refusal
abbrev pub neighbour_annotated : How → Additions → List ℕ → Result (List ℕ) HeaderRefusal
neighbour_annotated how additions file = made_by file (neighbour_annotation_of how additions file)
