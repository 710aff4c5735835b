-- The split of a file's lines into those before its header block, the block's, and those after it (REUSE Specification
-- 3.3, "Comment headers"; which block it is: docs/RULES.md, "The header block of a file").
use Rattle.std.specs.Prelude.{◌≡◌, ℕ, zero, suc, ◌+◌, ◌<◌, ◌≤◌, Bool, true, false, List, [], ◌∷◌, ◌++◌, length, drop}
use Rattle.std.specs.Prelude.{flat_map, Option, None, Some}
use Rattle.std.specs.List.{list_any}
use Rattle.reuse_text.specs.Text.{line_bytes, file_lines}
use Rattle.reuse_header.specs.Tagged.{has_tag}
use Rattle.reuse_header.specs.declared.blocks.BlockSize.{BlockSize}
use Rattle.reuse_style.specs.declared.style.Style.{Style}
use Rattle.reuse_style.specs.Styles.{punctuation_of}
use Rattle.reuse_header.specs.Body.{PlacedLines, body_lines, open_contents}
use Rattle.reuse_header.specs.Blocks.{block_at, contents_of}
use Rattle.reuse_header.specs.Header.{Header, HeaderSpan, lines_inside}

-- the comment blocks of open lines: at each line the block whose form begins there, unless the line is one
-- of another block's lines after its first
pub record AreCommentBlocks (style : Style) (open_lines : List (List ℕ)) (begins : ℕ → Option BlockSize) : Type 0 where
  pub free : (line : ℕ) → ((earlier : ℕ) (block : BlockSize) → earlier < line → begins earlier ≡ Some block
      → earlier + block.count ≤ line)
      → begins line ≡ block_at style (drop line open_lines)
  pub inside : (line earlier : ℕ) (block : BlockSize) → earlier < line → begins earlier ≡ Some block
      → line < earlier + block.count → begins line ≡ None

-- the comment block that begins at a line, if one does, where the first `inside` lines are later lines of
-- another
unfoldable pub begins_in : Style → ℕ → List (List ℕ) → ℕ → Option BlockSize
begins_in style inside [] line = None
begins_in style (suc inside) (content ∷ contents) zero = None
begins_in style (suc inside) (content ∷ contents) (suc line) = begins_in style inside contents line
begins_in style zero (content ∷ contents) zero = block_at style (content ∷ contents)
begins_in style zero (content ∷ contents) (suc line) =
    begins_in style (lines_inside (block_at style (content ∷ contents))) contents line

-- the comment block that begins at each of some open lines: the one answer to `AreCommentBlocks`
abbrev pub comment_blocks : Style → List (List ℕ) → ℕ → Option BlockSize
comment_blocks style open_lines = begins_in style 0 open_lines

-- whether a content has a tag
abbrev pub is_tagged : Style → List (List ℕ) → Bool
is_tagged style contents = list_any (has_tag (punctuation_of style)) contents

-- a header block's form, and how many lines it has
abbrev pub size_of : Header → BlockSize
size_of header = record { form = header.form; count = length header.block }

-- lines are those before a header block, its own, and those after it: it is one of the comment blocks of
-- the open lines, a content of it has a tag, and no comment block with a tag begins at a lesser line
pub record IsSplitBy (style : Style) (begins : ℕ → Option BlockSize) (open_lines : List (List ℕ))
    (lines before : PlacedLines) (header : Header) : Type 0 where
  pub joined : lines ≡ before ++ (header.block ++ header.after)
  pub begins_there : begins (length before) ≡ Some (size_of header)
  pub contents : header.contents ≡ contents_of style (size_of header) (drop (length before) open_lines)
  pub tagged : is_tagged style header.contents ≡ true
  pub least : (line : ℕ) (block : BlockSize) → line < length before → begins line ≡ Some block
      → is_tagged style (contents_of style block (drop line open_lines)) ≡ false

-- the header split of lines, of which those before the first barrier are open
abbrev pub IsSplit : Style → PlacedLines → PlacedLines → Header → Type 0
IsSplit style lines before header =
    IsSplitBy style (comment_blocks style (open_contents lines)) (open_contents lines) lines before header

-- the bytes of lines
abbrev pub bytes_of : PlacedLines → List ℕ
bytes_of lines = flat_map (λ line. line_bytes line.1) lines

-- a header block of a file, with its span: the lines behind the prefix lines split there, and the file's
-- bytes are those up to the block, the block's, and those of the lines after it
pub record IsHeaderAt (style : Style) (file : List ℕ) (span : HeaderSpan) (before : PlacedLines) (header : Header)
    (front : List ℕ) : Type 0 where
  pub split : IsSplit style (body_lines style (file_lines file)) before header
  pub form : span.form ≡ header.form
  pub contents : span.contents ≡ header.contents
  pub bytes : file ≡ front ++ (bytes_of header.block ++ bytes_of header.after)
  pub start : span.start ≡ length front
  pub end : span.end ≡ length front + length (bytes_of header.block)

abbrev pub IsHeaderBlock : Style → List ℕ → HeaderSpan → Type 0
IsHeaderBlock style file span =
    (before : PlacedLines) × (header : Header) × (front : List ℕ) × IsHeaderAt style file span before header front

-- the lines of a file have no header split
abbrev pub HasNoHeader : Style → List ℕ → Type 0
HasNoHeader style file =
    (before : PlacedLines) (header : Header) → IsSplit style (body_lines style (file_lines file)) before header → ⊥
