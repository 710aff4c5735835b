-- What amend makes of a tree, in other words: each file that is gone through, or its neighbour where that is there,
-- becomes what the rules say of these bytes alone, a table what they say of its values, and all else stays.
use Rattle.std.specs.Prelude.{◌≡◌, ◌≢◌, ◌⊎◌, ℕ, ◌<◌, ◌≤◌, true, false, List, [], ◌∷◌, ◌++◌, ◌+◌, length, take, drop}
use Rattle.std.specs.Prelude.{Option, Some, None, is_some, Ok, not, ◌&&◌, if◌then◌else◌}
use Rattle.std.specs.List.{Contains, list_any}
use Rattle.std.specs.Str.{bytes_eq}
use Rattle.std.specs.Option.{option_map}
use Rattle.std.specs.FinMap.{get}
use Rattle.reuse_text.specs.declared.TheConstants.{LONGEST_FILE}
use Rattle.reuse_text.specs.Text.{TextLine, file_lines, line_bytes, mark_len_of}
use Rattle.reuse_amend.specs.declared.amendments.Amendments.{Amendments}
use Rattle.reuse_notice.specs.Contents.{is_nil, free_of}
use Rattle.reuse_notice.specs.Infos.{info_of, says_nothing}
use Rattle.reuse_toml.specs.TomlAmending.{toml_amendment_of}
use Rattle.reuse_toml.specs.TomlLaws.{IsAmendedText, DiffersInStrings}
use Rattle.reuse_style.specs.Kinds.{OwnKinds}
use Rattle.reuse_style.specs.declared.style.Style.{Style}
use Rattle.reuse_style.specs.declared.style.Kind.TheVariants as kind
use Rattle.reuse_style.specs.Styles.{punctuation_of}
use Rattle.reuse_header.specs.Amendment.{amended_file, amendment_of, neighbour_amendment_of}
use Rattle.reuse_header.specs.Annotation.{kind_of_file}
use Rattle.reuse_header.specs.Comment.{comment_text}
use Rattle.reuse_header.specs.Header.{HeaderSpan, header_of, span_in}
use Rattle.reuse_header.specs.Neighbour.{is_text, neighbour_end, replaced_contents}
use Rattle.reuse_header.specs.Tagged.{has_tag}
use Rattle.reuse_header.specs.Writing.{neighbour_marks}
use Rattle.reuse_tags.specs.Everywhere.{amended_everywhere, kept_bytes}
use Rattle.reuse_tags.specs.Placed.{IsChangedInValues}
use Rattle.reuse_change.specs.Files.{Files}
use Rattle.reuse_words.specs.FileLaws.{IsUntaggedComment}
use Rattle.reuse_words.specs.Removal.{gap_behind}
use Rattle.reuse_edit.specs.Amend.{amended_table}
use Rattle.reuse_edit.specs.Removed.{removal_of, text_left, neighbour_removal_of, neighbour_left}
use Rattle.reuse_edit.specs.Annotate.{neighbour_of}
use Rattle.reuse_plan.specs.Annotated.{IsSameAround, IsStyleOf, HasKind, Pair, pair_at}
use Rattle.reuse_command.specs.Command.{values_of}
use Rattle.reuse_command.specs.Covered.{is_covered}
use Rattle.reuse_edit.specs.Tables.{is_table}
use Rattle.reuse_plan.specs.TreeStyles.{styles_in}
use Rattle.reuse_plan.specs.Selected.{amended_paths}
use Rattle.reuse_command.specs.declared.command.FileAmendment.{FileAmendment}
use Rattle.reuse_command.specs.declared.command.FileAmendment.TheVariants.{InHeader, Everywhere, Remove}
use Rattle.reuse_command.specs.declared.command.HeaderRemoval.{HeaderRemoval}
use Rattle.reuse_command.specs.declared.command.HeaderRemoval.TheVariants.{Texts, Header}
use Rattle.reuse_command.specs.declared.command.Place.{Place}
use Rattle.reuse_command.specs.declared.command.Scope.{Scope}

-- ---- each tag of a text

-- a line becomes these bytes: it stays, or is changed in the values of its tags alone, with its ending
abbrev pub BecomesLine : TextLine → List ℕ → Type 0
BecomesLine line made =
    (made ≡ line_bytes line)
    ⊎ ((kept : Option (List ℕ)) × IsChangedInValues line.content kept × (made ≡ kept_bytes line.ending kept))

-- lines become these bytes, one after the other
unfoldable pub BecomeLines : List (ℕ × TextLine) → List ℕ → Type 0
BecomeLines [] made = made ≡ []
BecomeLines (line ∷ lines) made =
    (first : List ℕ) × (rest : List ℕ) × (made ≡ first ++ rest) × BecomesLine line.1 first × BecomeLines lines rest

-- each byte of a text outside of the values of its tags stays
abbrev pub KeepsOutsideValues : List ℕ → List ℕ → Type 0
KeepsOutsideValues old new =
    (rest : List ℕ) × (new ≡ take (mark_len_of old) old ++ rest) × BecomeLines (file_lines old) rest

-- it is text, and the rules make this of each of its tags
pub record IsTextAmended (values : Amendments) (bytes made : List ℕ) : Type 0 where
  pub text : is_text bytes ≡ true
  pub by_rules : amended_everywhere values bytes ≡ Some made
  pub keeps : KeepsOutsideValues bytes made

-- ---- one file

-- there is a header block, and each byte outside it stays
abbrev pub KeepsOutsideBlock : Style → List ℕ → List ℕ → Type 0
KeepsOutsideBlock style old new =
    (block : HeaderSpan) × (option_map (span_in old) (header_of style old) ≡ Some block)
    × IsSameAround block.start block.end old new

-- the rules make this of what a neighbour says; it is as it was, or each byte outside its block stays
pub record IsNeighbourWritten (values : Amendments) (beside made : List ℕ) : Type 0 where
  pub by_rules : amended_file beside (neighbour_amendment_of values beside) ≡ Ok made
  pub keeps : (made ≡ beside) ⊎ IsSameAround (mark_len_of beside) (neighbour_end beside) beside made

-- of a neighbour that becomes this text: none where nothing but its byte order mark would stay of more
abbrev pub left_unless_emptied : List ℕ → List ℕ → Option (List ℕ)
left_unless_emptied beside made =
    if bytes_eq made (take (mark_len_of beside) beside) && not (bytes_eq made beside) then None else Some made

-- a text is a comment of what a neighbour says without a tag, and none of that has one
pub record IsUntaggedBeside (beside text : List ℕ) : Type 0 where
  pub text_is : text ≡ comment_text neighbour_marks (kind_of_file beside) (free_of [] (replaced_contents true beside))
  pub no_tag : list_any (has_tag []) (free_of [] (replaced_contents true beside)) ≡ false

-- What is left of a neighbour. It is as it was, or each byte outside its block stays. Where its tags are removed, it is
-- as it was if it has none, and else a comment without a tag takes the place of its block.
abbrev pub KeepsOfNeighbour : HeaderRemoval → List ℕ → Option (List ℕ) → Type 0
KeepsOfNeighbour (Texts texts) beside left =
    (left ≡ Some beside)
    ⊎ ((made : List ℕ) × IsSameAround (mark_len_of beside) (neighbour_end beside) beside made
    × (left ≡ left_unless_emptied beside made))
KeepsOfNeighbour Header beside left =
    ((says_nothing (info_of [] (replaced_contents true beside)) ≡ true) × (left ≡ Some beside))
    ⊎ ((text : List ℕ) × IsUntaggedBeside beside text × (left ≡ left_unless_emptied beside
    (take (mark_len_of beside) beside ++ text ++ drop (neighbour_end beside) beside)))

-- the rules make one text of what a neighbour says by the values, and leave this of that text
pub record IsLeftOfNeighbour (values : Amendments) (removal : HeaderRemoval) (beside : List ℕ)
    (left : Option (List ℕ)) : Type 0 where
  pub amended : List ℕ
  pub by_values : IsNeighbourWritten values beside amended
  pub by_rules : neighbour_left amended (neighbour_removal_of removal amended) ≡ Ok left
  pub keeps : KeepsOfNeighbour removal amended left

-- the rules leave this of a neighbour, which is removed only where something is taken out
abbrev pub BecomesNeighbour : FileAmendment → List ℕ → Option (List ℕ) → Type 0
BecomesNeighbour (InHeader values) beside (Some made) = IsNeighbourWritten values beside made
BecomesNeighbour (InHeader values) beside None = ⊥
BecomesNeighbour (Everywhere values) beside (Some made) = IsTextAmended values beside made
BecomesNeighbour (Everywhere values) beside None = ⊥
BecomesNeighbour (Remove values removal) beside left = IsLeftOfNeighbour values removal beside left

-- the neighbour is there, and holds what the rules leave of its own bytes, and the file stays
pub record IsNeighbourAmended (amendment : FileAmendment) (old new : Pair) : Type 0 where
  pub beside : List ℕ
  pub there : old.neighbour ≡ Some beside
  pub left : Option (List ℕ)
  pub becomes : BecomesNeighbour amendment beside left
  pub holds : new ≡ record { file = old.file; neighbour = left }

-- The file is text and has a style, and the rules make this of its bytes. It is as it was, or has a header block and
-- each byte outside it stays.
pub record IsBlockAmended (values : Amendments) (scope : Scope) (own : OwnKinds) (path bytes made : List ℕ)
    : Type 0 where
  pub text : is_text bytes ≡ true
  pub style : Style
  pub of_style : IsStyleOf scope own path bytes style
  pub by_rules : amended_file bytes (amendment_of style values bytes) ≡ Ok made
  pub keeps : (made ≡ bytes) ⊎ KeepsOutsideBlock style bytes made

-- The tags of a header block are removed. Where there is more in it, a comment of that without a tag takes its place;
-- else it goes, and an empty line behind it may go, too.
abbrev pub IsUntagged : Style → List ℕ → HeaderSpan → List ℕ → Type 0
IsUntagged style old block new =
    ((is_nil (free_of (punctuation_of style) block.contents) ≡ false)
    × ((text : List ℕ) × IsUntaggedComment style old block text
    × (new ≡ take block.start old ++ text ++ drop block.end old)))
    ⊎ ((is_nil (free_of (punctuation_of style) block.contents) ≡ true)
    × (new ≡ take block.start old ++ drop (block.end + gap_behind (drop block.end old)) old))

-- what taking something out of a header keeps: all, or each byte outside its block; a header is removed exactly where
-- there is a block
abbrev pub KeepsOutsideRemoved : HeaderRemoval → Style → List ℕ → List ℕ → Type 0
KeepsOutsideRemoved (Texts texts) style old new = (new ≡ old) ⊎ KeepsOutsideBlock style old new
KeepsOutsideRemoved Header style old new =
    ((option_map (span_in old) (header_of style old) ≡ None) × (new ≡ old))
    ⊎ ((block : HeaderSpan) × (option_map (span_in old) (header_of style old) ≡ Some block)
    × IsUntagged style old block new)

-- the rules make one text of a file's bytes by the values, and leave this of that text
pub record IsLeftOfBlock (values : Amendments) (removal : HeaderRemoval) (scope : Scope) (own : OwnKinds)
    (path bytes made : List ℕ) : Type 0 where
  pub amended : List ℕ
  pub by_values : IsBlockAmended values scope own path bytes amended
  pub by_rules : text_left amended (removal_of removal by_values.style amended) ≡ Ok made
  pub keeps : KeepsOutsideRemoved removal by_values.style amended made

-- the rules make this of a file itself; one each of whose tags is amended isn't too long
abbrev pub BecomesFile : FileAmendment → Scope → OwnKinds → List ℕ → List ℕ → List ℕ → Type 0
BecomesFile (InHeader values) scope own path bytes made = IsBlockAmended values scope own path bytes made
BecomesFile (Remove values removal) scope own path bytes made =
    IsLeftOfBlock values removal scope own path bytes made
BecomesFile (Everywhere values) scope own path bytes made =
    (length bytes ≤ LONGEST_FILE) × IsTextAmended values bytes made

-- the file has no neighbour, and holds what the rules make of its own bytes, and no neighbour is made
pub record IsFileAmended (amendment : FileAmendment) (scope : Scope) (own : OwnKinds) (path bytes : List ℕ)
    (old new : Pair) : Type 0 where
  pub alone : old.neighbour ≡ None
  pub made : List ℕ
  pub becomes : BecomesFile amendment scope own path bytes made
  pub holds : new ≡ record { file = Some made; neighbour = None }

-- the file has no style
abbrev pub HasNoStyle : Scope → OwnKinds → List ℕ → List ℕ → Type 0
HasNoStyle scope own path bytes =
    HasKind scope own path bytes kind.Uncommentable ⊎ HasKind scope own path bytes kind.Unknown

-- the file isn't text; or it has no style, and a header block is looked for, or it is too long
abbrev pub HasNoText : FileAmendment → Scope → OwnKinds → List ℕ → List ℕ → Type 0
HasNoText (InHeader values) scope own path bytes = (is_text bytes ≡ false) ⊎ HasNoStyle scope own path bytes
HasNoText (Remove values removal) scope own path bytes = (is_text bytes ≡ false) ⊎ HasNoStyle scope own path bytes
HasNoText (Everywhere values) scope own path bytes =
    (is_text bytes ≡ false) ⊎ ((LONGEST_FILE < length bytes) × HasNoStyle scope own path bytes)

-- it has no neighbour either, so that nothing in it is amended
abbrev pub HasNoPlace : FileAmendment → Scope → OwnKinds → List ℕ → List ℕ → Pair → Type 0
HasNoPlace amendment scope own path bytes pair =
    (pair.neighbour ≡ None) × HasNoText amendment scope own path bytes

-- the path has a covered file, which has no place that is amended, and then both stay; or it is amended, or its
-- neighbour is
pub record IsCoveredAmended (amendment : FileAmendment) (scope : Scope) (own : OwnKinds) (path : List ℕ)
    (old new : Pair) : Type 0 where
  pub bytes : List ℕ
  pub there : old.file ≡ Some bytes
  pub covered : is_covered path ≡ true
  pub becomes : (HasNoPlace amendment scope own path bytes old × (new ≡ old))
      ⊎ IsFileAmended amendment scope own path bytes old new ⊎ IsNeighbourAmended amendment old new

-- ---- a table

-- It is there, and holds what the rules make of its own bytes. That is read as the old table with the values of the two
-- keys amended. It is as it was, or differs in strings and commas alone, so that each comment stays. A neighbour of it
-- stays.
pub record IsTableAmended (amendments : Amendments) (old new : Pair) : Type 0 where
  pub bytes : List ℕ
  pub there : old.file ≡ Some bytes
  pub made : List ℕ
  pub by_rules : amended_table bytes (toml_amendment_of amendments bytes) ≡ Ok made
  pub holds : new ≡ record { file = Some made; neighbour = old.neighbour }
  pub reads : IsAmendedText amendments bytes made
  pub keeps : (made ≡ bytes) ⊎ DiffersInStrings bytes made

-- the path is that of a table, which is amended; or it has a covered file, which is
abbrev pub IsAmended : FileAmendment → Scope → OwnKinds → List ℕ → Pair → Pair → Type 0
IsAmended amendment scope own path old new =
    ((is_table path ≡ true) × IsTableAmended (values_of amendment) old new)
    ⊎ IsCoveredAmended amendment scope own path old new

-- ---- the tree

-- by the tree's own styles each file that is gone through is amended, and each path holds what it held that is none of
-- these nor a neighbour of one
pub record Amends (places : List Place) (amendment : FileAmendment) (scope : Scope) (before after : Files)
    : Type 0 where
  pub own : OwnKinds
  pub styles : styles_in before ≡ Ok own
  pub selected : (path : List ℕ) → Contains (amended_paths scope places before) path
      → IsAmended amendment scope own path (pair_at before path) (pair_at after path)
  pub others : (other : List ℕ)
      → ((path : List ℕ) → Contains (amended_paths scope places before) path → (other ≢ path)
      × (other ≢ neighbour_of path))
      → get after other ≡ get before other

-- no file is made, and none is removed
abbrev pub HaveSamePaths : Files → Files → Type 0
HaveSamePaths before after = (path : List ℕ) → is_some (get after path) ≡ is_some (get before path)

-- so it is where nothing is taken out of a header; else no file is made, and none is removed but a neighbour of one that
-- is gone through
abbrev pub KeepsPaths : FileAmendment → List (List ℕ) → Files → Files → Type 0
KeepsPaths (Remove values removal) paths before after = (path : List ℕ)
    → (is_some (get after path) ≡ is_some (get before path))
    ⊎ ((is_some (get after path) ≡ false) × ((gone : List ℕ) × Contains paths gone × (path ≡ neighbour_of gone)))
KeepsPaths amendment paths before after = HaveSamePaths before after
