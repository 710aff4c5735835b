-- What annotate makes of a tree, in other words: each file that is gone through and its neighbour become what the rules
-- say of these two alone, and all else stays.
use Rattle.std.specs.Prelude.{◌≡◌, ◌≢◌, ◌⊎◌, ℕ, true, false, List, [], ◌++◌, take, drop, Option, Some, None, IsSome, Ok}
use Rattle.std.specs.Prelude.{unwrap_or, if◌then◌else◌}
use Rattle.std.specs.List.{Contains}
use Rattle.std.specs.Option.{option_map}
use Rattle.std.specs.FinMap.{get}
use Rattle.reuse_text.specs.Text.{mark_len_of}
use Rattle.reuse_command.specs.declared.command.HeaderAdditions.{HeaderAdditions}
use Rattle.reuse_style.specs.declared.style.Style.{Style}
use Rattle.reuse_style.specs.declared.style.Kind.{Kind}
use Rattle.reuse_style.specs.declared.style.Kind.TheVariants as kind
use Rattle.reuse_header.specs.declared.annotation.How.{How}
use Rattle.reuse_header.specs.Annotation.{replaced_block}
use Rattle.reuse_header.specs.Header.{HeaderSpan, header_of, span_in}
use Rattle.reuse_style.specs.Kinds.{OwnKinds, kind_of_file}
use Rattle.reuse_header.specs.Neighbour.{is_text, neighbour_end}
use Rattle.reuse_change.specs.Files.{Files}
use Rattle.reuse_edit.specs.Annotation.{annotated, neighbour_annotated}
use Rattle.reuse_edit.specs.Annotate.{neighbour_of, neighbour_is_tagged}
use Rattle.reuse_command.specs.Covered.{is_covered}
use Rattle.reuse_plan.specs.TreeStyles.{styles_in}
use Rattle.reuse_plan.specs.Selected.{selected_paths}
use Rattle.reuse_command.specs.declared.command.Place.{Place}
use Rattle.reuse_command.specs.declared.command.Scope.{Scope}
use Rattle.reuse_command.specs.declared.command.Unknown.TheVariants as unknown

-- ---- bytes that stay

-- the new file is the old one, with some bytes in the place of those from `start` to `end`
abbrev pub IsSameAround : ℕ → ℕ → List ℕ → List ℕ → Type 0
IsSameAround start end old new = (block : List ℕ) × (new ≡ take start old ++ block ++ drop end old)

-- it is so round the old header block, which gives way; where none does, no byte is taken away
abbrev pub KeepsOthers : Option HeaderSpan → List ℕ → List ℕ → Type 0
KeepsOthers (Some block) old new = IsSameAround block.start block.end old new
KeepsOthers None old new = (place : ℕ) × IsSameAround place place old new

-- the header block of a file, where it is one that gives way
abbrev pub block_replaced : How → Style → List ℕ → Option HeaderSpan
block_replaced how style file = replaced_block how.replace (option_map (span_in file) (header_of style file))

-- where the block of a neighbour that gives way ends, which begins behind the mark; it is empty where none does
abbrev pub part_replaced : How → List ℕ → ℕ
part_replaced how file = if how.replace then neighbour_end file else mark_len_of file

-- ---- one file

-- a file and its neighbour, where they are there
pub record Pair : Type 0 where
  pub file : Option (List ℕ)
  pub neighbour : Option (List ℕ)

abbrev pub pair_at : Files → List ℕ → Pair
pair_at files path = record { file = get files path; neighbour = get files (neighbour_of path) }

-- the style of the comments of a file: the one that is asked for, or else that which the file has by its name or by a
-- rule of the tree
abbrev pub IsStyleOf : Scope → OwnKinds → List ℕ → List ℕ → Style → Type 0
IsStyleOf scope own path bytes style =
    (scope.style ≡ Some style) ⊎ ((scope.style ≡ None) × (kind_of_file own path bytes ≡ kind.Style style))

-- no style is asked for, and the file has this kind
abbrev pub HasKind : Scope → OwnKinds → List ℕ → List ℕ → Kind → Type 0
HasKind scope own path bytes of_file = (scope.style ≡ None) × (kind_of_file own path bytes ≡ of_file)

-- the file takes a comment of this style: it is text, and has no neighbour, nor is one asked for
pub record TakesComment (scope : Scope) (own : OwnKinds) (path bytes : List ℕ) (pair : Pair)
    (style : Style) : Type 0 where
  pub text : is_text bytes ≡ true
  pub alone : pair.neighbour ≡ None
  pub unforced : scope.force_dot_license ≡ false
  pub of_style : IsStyleOf scope own path bytes style

-- its neighbour takes the information: it is there or asked for, or the file isn't text, or takes no comment by its
-- kind, or has no style and such files have neighbours
abbrev pub TakesNeighbour : Scope → OwnKinds → List ℕ → List ℕ → Pair → Type 0
TakesNeighbour scope own path bytes pair =
    IsSome pair.neighbour ⊎ (scope.force_dot_license ≡ true) ⊎ (is_text bytes ≡ false)
    ⊎ HasKind scope own path bytes kind.Uncommentable
    ⊎ (HasKind scope own path bytes kind.Unknown × (scope.unknown ≡ unknown.Neighbour))

-- The file is commented: it holds what the header rules make of its own bytes. Each byte outside the old header block
-- stays, and there is no neighbour.
pub record IsCommented (additions : HeaderAdditions) (how : How) (scope : Scope) (own : OwnKinds) (path bytes : List ℕ)
    (old new : Pair) : Type 0 where
  pub style : Style
  pub takes : TakesComment scope own path bytes old style
  pub made : List ℕ
  pub by_rules : annotated style how additions bytes ≡ Ok made
  pub holds : new ≡ record { file = Some made; neighbour = None }
  pub keeps : KeepsOthers (block_replaced how style bytes) bytes made

-- what is there once these bytes are written: no file is made for none
abbrev pub file_written : Option (List ℕ) → List ℕ → Option (List ℕ)
file_written None [] = None
file_written old made = Some made

-- The file stays, and its neighbour holds what the rules make of the neighbour's own bytes, or of none where it isn't
-- there. Each byte outside its old block stays.
pub record IsAccompanied (additions : HeaderAdditions) (how : How) (scope : Scope) (own : OwnKinds)
    (path bytes : List ℕ) (old new : Pair) : Type 0 where
  pub takes : TakesNeighbour scope own path bytes old
  pub made : List ℕ
  pub by_rules : neighbour_annotated how additions (unwrap_or old.neighbour []) ≡ Ok made
  pub holds : new ≡ record { file = old.file; neighbour = file_written old.neighbour made }
  pub keeps : IsSameAround (mark_len_of (unwrap_or old.neighbour [])) (part_replaced how (unwrap_or old.neighbour []))
      (unwrap_or old.neighbour []) made

-- the file or its neighbour, whichever takes it, has licensing information
abbrev pub HasInformation : Scope → OwnKinds → List ℕ → List ℕ → Pair → Type 0
HasInformation scope own path bytes pair =
    ((style : Style) × TakesComment scope own path bytes pair style × IsSome (header_of style bytes))
    ⊎ ((beside : List ℕ) × (pair.neighbour ≡ Some beside) × (neighbour_is_tagged beside ≡ true))

-- it is asked for that such a file is skipped: it has no style, and nothing else calls for its neighbour; or
-- there is licensing information
abbrev pub IsSkipped : Scope → OwnKinds → List ℕ → List ℕ → Pair → Type 0
IsSkipped scope own path bytes pair =
    (HasKind scope own path bytes kind.Unknown × (scope.unknown ≡ unknown.Skip)
    × ¬ (TakesNeighbour scope own path bytes pair))
    ⊎ ((scope.skip_existing ≡ true) × HasInformation scope own path bytes pair)

-- the path has a file, which is skipped
abbrev pub IsSkippedAt : Scope → OwnKinds → Files → List ℕ → Type 0
IsSkippedAt scope own tree path =
    (bytes : List ℕ) × (get tree path ≡ Some bytes) × IsSkipped scope own path bytes (pair_at tree path)

-- the path has a covered file, which is skipped, and then both stay; or is commented; or accompanied
pub record IsAnnotated (additions : HeaderAdditions) (how : How) (scope : Scope) (own : OwnKinds) (path : List ℕ)
    (old new : Pair) : Type 0 where
  pub bytes : List ℕ
  pub there : old.file ≡ Some bytes
  pub covered : is_covered path ≡ true
  pub becomes : (IsSkipped scope own path bytes old × (new ≡ old))
      ⊎ (¬ (IsSkipped scope own path bytes old)
      × (IsCommented additions how scope own path bytes old new
      ⊎ IsAccompanied additions how scope own path bytes old new))

-- ---- the tree

-- by the tree's own styles each file that is gone through is annotated, and each path holds what it held that is none
-- of these nor a neighbour of one
pub record Annotates (places : List Place) (additions : HeaderAdditions) (how : How) (scope : Scope)
    (before after : Files) : Type 0 where
  pub own : OwnKinds
  pub styles : styles_in before ≡ Ok own
  pub selected : (path : List ℕ) → Contains (selected_paths scope places before) path
      → IsAnnotated additions how scope own path (pair_at before path) (pair_at after path)
  pub others : (other : List ℕ)
      → ((path : List ℕ) → Contains (selected_paths scope places before) path → (other ≢ path)
      × (other ≢ neighbour_of path))
      → get after other ≡ get before other

-- what is at a path stays, or it is a file of text then
abbrev pub StaysOrIsText : Files → Files → List ℕ → Type 0
StaysOrIsText before after path =
    (get after path ≡ get before path) ⊎ ((bytes : List ℕ) × (get after path ≡ Some bytes) × (is_text bytes ≡ true))
