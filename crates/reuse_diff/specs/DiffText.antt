-- The text of the diff of a file, as git writes and reads it.
use Rattle.std.specs.Prelude.{◌≡◌, ◌≢◌, ℕ, ◌+◌, ◌/◌, ◌%◌, Bool, true, false, not, ◌&&◌, ◌||◌, ◌==◌, nat_le, List, []}
use Rattle.std.specs.Prelude.{◌∷◌, ◌++◌, Option, None, Some, is_none, if◌then◌else◌, codes, MatchBool, unwrap_or}
use Rattle.std.specs.Fmt.{decimal}
use Rattle.std.specs.List.{flat_map, list_any}
use Rattle.std.specs.Str.{bytes_eq}
use Rattle.reuse_change.specs.Change.{path_of}
use Rattle.reuse_change.specs.declared.change.Change.{Change}
use Rattle.reuse_change.specs.declared.change.Change.TheVariants.{Make, Drop, Splice}
use Rattle.reuse_diff.specs.declared.hunk.Hunk.{Hunk}
use Rattle.reuse_diff.specs.declared.hunk.Piece.{Piece}
use Rattle.reuse_diff.specs.Hunks.{IsHunk, KeepsEnds, hunk_text, old_lines, new_lines, piece_text}
use Rattle.reuse_shown.specs.JoinedTexts.{AreJoined}
use Rattle.reuse_diff.specs.TextLines.{AreLinesOf}

-- ---- what a change records

-- the file that it takes away, or of a range the bytes that give way
abbrev pub part_before : Change → Option (List ℕ)
part_before (Make path new digest) = None
part_before (Drop path old digest) = Some old
part_before (Splice path at old new rest seal) = Some old

-- the file that it makes, or of a range the bytes in their place
abbrev pub part_after : Change → Option (List ℕ)
part_after (Make path new digest) = Some new
part_after (Drop path old digest) = None
part_after (Splice path at old new rest seal) = Some new

-- ---- names

-- the letter that stands for a byte behind a backslash, if one does
abbrev pub escape_letter : ℕ → Option ℕ
escape_letter byte =
    if byte == 34 then Some 34 else if byte == 92 then Some 92 else if byte == 7 then Some 97 else if byte == 8
    then Some 98 else if byte == 9 then Some 116
    else if byte == 10 then Some 110 else if byte == 11 then Some 118 else if byte == 12 then Some 102
    else if byte == 13 then Some 114 else None

-- from a space to a tilde
abbrev pub is_printable : ℕ → Bool
is_printable byte = nat_le 32 byte && nat_le byte 126

-- three digits of base eight behind a backslash
abbrev pub octal_text : ℕ → List ℕ
octal_text byte = 92 ∷ (48 + byte / 64) ∷ (48 + byte / 8 % 8) ∷ (48 + byte % 8) ∷ []

-- a byte that has no letter
abbrev pub plain_text : ℕ → List ℕ
plain_text byte = if is_printable byte then byte ∷ [] else octal_text byte

-- a byte of a name in quotes
abbrev pub quoted_text : ℕ → List ℕ
quoted_text byte = behind (escape_letter byte)
  where
    behind : Option ℕ → List ℕ
    behind None = plain_text byte
    behind (Some letter) = 92 ∷ letter ∷ []

-- a name with this byte stands in quotes
abbrev pub is_quoted : ℕ → Bool
is_quoted byte = not (is_printable byte) || byte == 34 || byte == 92

-- a path behind `a/` or `b/`
abbrev pub name_text : List ℕ → List ℕ → List ℕ
name_text side path =
    if list_any is_quoted path then codes "\"" ++ side ++ flat_map quoted_text path ++ codes "\"" else side ++ path

-- ---- the diff of a file

-- the mode of a file that is made or removed
abbrev pub mode_text : Option (List ℕ) → Option (List ℕ) → List ℕ
mode_text before after =
    (if is_none before then codes "new file mode 100644\n" else []) ++ (if is_none after
    then codes "deleted file mode 100644\n" else [])

abbrev pub both_text : List ℕ → List ℕ
both_text path = name_text (codes "a/") path ++ codes " " ++ name_text (codes "b/") path

abbrev pub title_text : List ℕ → List ℕ
title_text path = codes "diff --git " ++ both_text path ++ codes "\n"

abbrev pub head_text : List ℕ → Option (List ℕ) → Option (List ℕ) → List ℕ
head_text path before after = title_text path ++ mode_text before after

-- the name of one side; behind one with a space a tab shows where it ends
abbrev pub side_text : List ℕ → List ℕ → Option (List ℕ) → List ℕ
side_text side path None = codes "/dev/null"
side_text side path (Some file) = name_text side path

abbrev pub end_text : List ℕ → Option (List ℕ) → List ℕ
end_text path None = codes "\n"
end_text path (Some file) =
    if list_any (λ byte. byte == 32) path && not (list_any is_quoted path) then codes "\t\n" else codes "\n"

abbrev pub names_text : List ℕ → Option (List ℕ) → Option (List ℕ) → List ℕ
names_text path before after =
    codes "--- " ++ side_text (codes "a/") path before ++ end_text path before ++ codes "+++ " ++ side_text
    (codes "b/") path after ++ end_text path after

abbrev pub old_binary_text : List ℕ → Option (List ℕ) → List ℕ
old_binary_text path before = codes "Binary files " ++ side_text (codes "a/") path before

abbrev pub new_binary_text : List ℕ → Option (List ℕ) → List ℕ
new_binary_text path after = codes " and " ++ side_text (codes "b/") path after ++ codes " differ\n"

abbrev pub binary_text : List ℕ → Option (List ℕ) → Option (List ℕ) → List ℕ
binary_text path before after = old_binary_text path before ++ new_binary_text path after

-- it holds a NUL
abbrev pub is_binary : List ℕ → Bool
is_binary file = list_any (λ byte. byte == 0) file

-- whether two files are equal, or both absent
abbrev pub same_side : Option (List ℕ) → Option (List ℕ) → Bool
same_side None None = true
same_side (Some before) (Some after) = bytes_eq before after
same_side None (Some after) = false
same_side (Some before) None = false

-- what stands behind the head where both sides are texts: their names and the hunk between them, or nothing where their
-- bytes are the same
pub record IsTextBody (names before after text : List ℕ) : Type 0 where
  pub same : before ≡ after → text ≡ []
  pub hunk : before ≢ after → (hunk : Hunk) × IsHunk before after hunk × (text ≡ names ++ hunk_text hunk)

-- one of the two is shown as a binary
abbrev pub is_either_binary : List ℕ → List ℕ → Bool
is_either_binary before after = is_binary before || is_binary after

-- what stands behind the head: that it is a binary, or what becomes of its text
abbrev pub IsBody : List ℕ → Option (List ℕ) → Option (List ℕ) → List ℕ → Type 0
IsBody path before after text =
    MatchBool (is_either_binary (unwrap_or before []) (unwrap_or after []))
    (text ≡ binary_text path before after)
    (IsTextBody (names_text path before after) (unwrap_or before []) (unwrap_or after []) text)

-- The diff of the file that a path holds before and after: nothing where that is the same, and else its head and what
-- stands behind.
abbrev pub IsDiff : List ℕ → Option (List ℕ) → Option (List ℕ) → List ℕ → Type 0
IsDiff path before after text =
    MatchBool (same_side before after) (text ≡ [])
    ((body : List ℕ) × IsBody path before after body × (text ≡ head_text path before after ++ body))

-- ---- what a step has recorded

-- where a range stands in its file
abbrev pub range_title : ℕ → List ℕ
range_title at = codes "@@ byte " ++ decimal at ++ codes " @@\n"

-- names, where the range stands, and lines that are kept, removed or added: those that are kept or removed are the
-- bytes that gave way, and those that are kept or added the bytes in their place; all lines that both begin and end
-- with are kept
abbrev pub IsRangeLines : List ℕ → ℕ → (old new text : List ℕ) → Type 0
IsRangeLines names at old new text =
    (pieces : List Piece) × AreLinesOf old (old_lines pieces) × AreLinesOf new (new_lines pieces) × KeepsEnds pieces
    × (text ≡ names ++ range_title at ++ flat_map piece_text pieces)

-- what stands behind the head of a range: that it is a binary, or its lines
abbrev pub IsRangeBody : List ℕ → Option (List ℕ) → Option (List ℕ) → ℕ → List ℕ → Type 0
IsRangeBody path before after at text =
    MatchBool (is_either_binary (unwrap_or before []) (unwrap_or after []))
    (text ≡ binary_text path before after)
    (IsRangeLines (names_text path before after) at (unwrap_or before []) (unwrap_or after []) text)

abbrev pub IsRange : List ℕ → Option (List ℕ) → Option (List ℕ) → ℕ → List ℕ → Type 0
IsRange path before after at text =
    (body : List ℕ) × IsRangeBody path before after at body × (text ≡ head_text path before after ++ body)

-- What a change has recorded: of a range the bytes that gave way and those in their place, and else the diff of the
-- file that is made or removed.
abbrev pub IsRecord : Change → List ℕ → Type 0
IsRecord (Splice path at old new rest seal) text = IsRange path (Some old) (Some new) at text
IsRecord change text = IsDiff (path_of change) (part_before change) (part_after change) text

-- what a step has recorded of each of its changes, one behind the other
abbrev pub AreRecords : List Change → List ℕ → Type 0
AreRecords changes text = AreJoined IsRecord changes text
