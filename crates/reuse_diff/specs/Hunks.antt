-- The hunk of a unified diff: the lines that two files have in common, that go, and that come.
use Rattle.std.specs.Prelude.{◌≡◌, ◌≢◌, ◌<◌, ◌≤◌, ◌++◌, ◌+◌, ◌==◌, nat_eq, if◌then◌else◌, codes, ℕ, Bool, true, false}
use Rattle.std.specs.Prelude.{List, [], ◌∷◌, length, drop, map, reverse, All}
use Rattle.std.specs.Borrow.{Bor}
use Rattle.std.specs.List.{prefix_len, suffix_len, common_prefix_len, flat_map, ends_with}
use Rattle.std.specs.Str.{bytes_eq}
use Rattle.std.specs.Fmt.{decimal}
use Rattle.reuse_diff.specs.declared.hunk.Sign.{Sign}
use Rattle.reuse_diff.specs.declared.hunk.Sign.TheVariants.{Kept, Removed, Added}
use Rattle.reuse_diff.specs.declared.hunk.Piece.{Piece}
use Rattle.reuse_diff.specs.declared.hunk.Hunk.{Hunk}
use Rattle.reuse_diff.specs.TextLines.{AreLinesOf, line_feed}

-- whether a line of this sign stands in both files
abbrev pub stays : Sign → Bool
stays Kept = true
stays Removed = false
stays Added = false

abbrev pub is_kept : Piece → Bool
is_kept piece = stays piece.sign

-- the line is kept
abbrev pub IsKept : Piece → Type 0
IsKept piece = is_kept piece ≡ true

-- the line, where it stands in the file before
abbrev pub old_line : Sign → List ℕ → List (List ℕ)
old_line Kept line = line ∷ []
old_line Removed line = line ∷ []
old_line Added line = []

-- the line, where it stands in the file after
abbrev pub new_line : Sign → List ℕ → List (List ℕ)
new_line Kept line = line ∷ []
new_line Removed line = []
new_line Added line = line ∷ []

-- the lines that are kept or go
abbrev pub old_lines : List Piece → List (List ℕ)
old_lines pieces = flat_map (λ piece. old_line piece.sign piece.line.now) pieces

-- the lines that are kept or come
abbrev pub new_lines : List Piece → List (List ℕ)
new_lines pieces = flat_map (λ piece. new_line piece.sign piece.line.now) pieces

-- lines of which the same becomes
abbrev pub pieces_with : Sign → List (Bor (List ℕ)) → List Piece
pieces_with sign lines = map (λ line. record { sign = sign; line = line }) lines

-- how many lines both begin with
abbrev pub same_front : (old new : List (List ℕ)) → ℕ
same_front old new = common_prefix_len bytes_eq old new

-- how many lines both end with
abbrev pub same_end : (old new : List (List ℕ)) → ℕ
same_end old new = same_front (reverse old) (reverse new)

-- so many lines are all that both begin with, and so many, of those behind them, all that both end with
pub record AreCommon (old new : List (List ℕ)) (first last : ℕ) : Type 0 where
  pub front : first ≡ same_front old new
  pub end : last ≡ same_end (drop first old) (drop first new)

-- all lines that both begin with and end with are kept
abbrev pub KeepsEnds : List Piece → Type 0
KeepsEnds pieces =
    AreCommon (old_lines pieces) (new_lines pieces) (prefix_len is_kept pieces)
    (suffix_len is_kept (drop (prefix_len is_kept pieces) pieces))

-- three lines are shown on this side, or all that are there
pub record IsContext (shown : ℕ) (left : List (List ℕ)) : Type 0 where
  pub most : shown ≤ 3
  pub whole : left ≢ [] → shown ≡ 3

-- Both files are the same lines above the hunk, its own lines, and the same lines below. It begins and ends with three
-- lines that are kept. With those above and below, these are all that both files begin and end with.
pub record IsHunk (before after : List ℕ) (hunk : Hunk) : Type 0 where
  pub above : List (List ℕ)
  pub below : List (List ℕ)
  pub old : AreLinesOf before (above ++ old_lines hunk.pieces.items ++ below)
  pub new : AreLinesOf after (above ++ new_lines hunk.pieces.items ++ below)
  pub number : hunk.lines_above ≡ length above
  pub first : IsContext (prefix_len is_kept hunk.pieces.items) above
  pub last : IsContext (suffix_len is_kept hunk.pieces.items) below
  pub common : AreCommon (above ++ old_lines hunk.pieces.items ++ below) (above ++ new_lines hunk.pieces.items ++ below)
      (length above + prefix_len is_kept hunk.pieces.items) (suffix_len is_kept hunk.pieces.items + length below)

-- The hunk has these pieces but some that are kept, above it and below.
pub record IsHunkOf (pieces : List Piece) (hunk : Hunk) : Type 0 where
  pub above : List Piece
  pub below : List Piece
  pub whole : above ++ hunk.pieces.items ++ below ≡ pieces
  pub kept_above : All IsKept above
  pub kept_below : All IsKept below
  pub number : hunk.lines_above ≡ length above
  pub first : IsContext (prefix_len is_kept hunk.pieces.items) (old_lines above)
  pub last : IsContext (suffix_len is_kept hunk.pieces.items) (old_lines below)
  pub start : length above + prefix_len is_kept hunk.pieces.items ≡ prefix_len is_kept pieces
  pub end : suffix_len is_kept hunk.pieces.items + length below ≡ suffix_len is_kept pieces
  pub some : prefix_len is_kept pieces < length pieces

-- ---- the text of a hunk

-- the byte that stands before a line
abbrev pub sign_byte : Sign → ℕ
sign_byte Kept = 32
sign_byte Removed = 45
sign_byte Added = 43

-- what stands behind a line that isn't ended
abbrev pub end_note : List ℕ → List ℕ
end_note line = if ends_with nat_eq line (line_feed ∷ []) then [] else codes "\n\\ No newline at end of file\n"

-- a line behind its sign
abbrev pub piece_text : Piece → List ℕ
piece_text piece = sign_byte piece.sign ∷ piece.line.now ++ end_note piece.line.now

-- the number of the first of so many lines, behind so many others; of none, that of the line above
abbrev pub first_line : ℕ → ℕ → ℕ
first_line above count = if count == 0 then above else above + 1

-- which lines of a file are shown
abbrev pub range_text : ℕ → List (List ℕ) → List ℕ
range_text above lines = decimal (first_line above (length lines)) ++ codes "," ++ decimal (length lines)

abbrev pub hunk_text : Hunk → List ℕ
hunk_text hunk =
    codes "@@ -" ++ range_text hunk.lines_above (old_lines hunk.pieces.items) ++ codes " +" ++ range_text
    hunk.lines_above (new_lines hunk.pieces.items) ++ codes " @@\n"
    ++ flat_map piece_text hunk.pieces.items
