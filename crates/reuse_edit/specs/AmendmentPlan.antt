-- What an amendment that is asked for does, by the styles of its tree.
use Rattle.std.specs.Prelude.{◌≡◌, ℕ, Bool, true, false, ◌+◌, ◌-◌, ◌≤◌, List, length, Option, Some, None, Result, Ok}
use Rattle.std.specs.Prelude.{Err}
use Rattle.std.specs.Option.{option_map_or}
use Rattle.reuse_toml.specs.declared.toml_change.TomlSplice.{TomlSplice}
use Rattle.reuse_toml.specs.declared.toml_values.AmendTomlRefusal.{AmendTomlRefusal}
use Rattle.reuse_header.specs.Annotation as header
use Rattle.reuse_style.specs.Kinds.{OwnKinds, kinds_by}
use Rattle.reuse_amend.specs.declared.amendments.Amendments.{Amendments}
use Rattle.reuse_header.specs.declared.amendment.AmendHeaderRefusal.{AmendHeaderRefusal}
use Rattle.reuse_header.specs.declared.annotation.Splice.{Splice}
use Rattle.reuse_header.specs.declared.annotation.HeaderRefusal.{HeaderRefusal}
use Rattle.reuse_words.specs.declared.removal.NeighbourChange.{NeighbourChange}
use Rattle.reuse_words.specs.declared.removal.NeighbourChange.TheVariants.{Unchanged, Changed, Emptied}
use Rattle.reuse_text.specs.Text.{spliced}
use Rattle.reuse_style.specs.declared.style.Style.{Style}
use Rattle.reuse_text.specs.declared.TheConstants.{LONGEST_FILE}
use Rattle.reuse_change.specs.Files.{Files}
use Rattle.reuse_change.specs.declared.change.Change.{Change}
use Rattle.reuse_change.specs.declared.change.Change.TheVariants.{Drop}
use Rattle.reuse_command.specs.Command.{values_of}
use Rattle.reuse_edit.specs.Amend.{amended_at, amend_inside, amend_neighbour, amend_table, amend_own_text}
use Rattle.reuse_edit.specs.Amend.{has_no_style_unread, is_passed_over, style_for}
use Rattle.reuse_edit.specs.Edit.{Edit}
use Rattle.reuse_edit.specs.Left.{is_left, still_names, still_tells}
use Rattle.reuse_edit.specs.Answered.{IsRefusalOf, MakesEdit}
use Rattle.reuse_edit.specs.declared.annotation.Amendment.{Amendment}
use Rattle.reuse_edit.specs.declared.left.Amended.{Amended}
use Rattle.reuse_command.specs.declared.reply.Refusal.{Refusal}
use Rattle.reuse_command.specs.declared.reply.Refusal.TheVariants.{Failed}
use Rattle.reuse_command.specs.declared.failure.Failure.TheVariants.{Memory}

-- what amending makes of a file, which may be nothing
abbrev pub Expected : Type 0
Expected = Result (Option header.Edit) AmendHeaderRefusal

-- an edit is within its file, and makes none that is too long
abbrev pub Fits : List ℕ → Expected → Type 0
Fits bytes (Ok (Some edit)) =
    (edit.start + edit.old_len ≤ length bytes) × (length (header.edited bytes edit) ≤ LONGEST_FILE)
Fits bytes (Ok None) = Unit {0}
Fits bytes (Err refusal) = Unit {0}

-- the tree's own styles
abbrev pub own_of : Amendment → OwnKinds
own_of asked = kinds_by asked.styles.now

abbrev pub amended_by : Amendment → Files → List ℕ → Result (Option Edit) Refusal
amended_by asked tree path = amended_at asked.amendment.now asked.scope.now (own_of asked) tree path

-- the style of the file, of these bytes
abbrev pub style_by : Amendment → List ℕ → List ℕ → Option Style
style_by asked path bytes = style_for asked.scope.now (own_of asked) path bytes

-- the file, of these bytes, is passed over
abbrev pub is_passed_over_by : Amendment → List ℕ → List ℕ → Bool
is_passed_over_by asked path bytes = is_passed_over asked.amendment.now asked.scope.now (own_of asked) path bytes

-- it has no style, whatever it holds
abbrev pub has_no_style_by : Amendment → List ℕ → Bool
has_no_style_by asked path = has_no_style_unread asked.scope.now (own_of asked) path

-- where its neighbour is there, of these bytes
abbrev pub beside_by : Amendment → List ℕ → List ℕ → Result (Option Edit) Refusal
beside_by asked path beside = amend_neighbour asked.amendment.now path beside

-- where it isn't, and the file has these bytes
abbrev pub inside_by : Amendment → List ℕ → List ℕ → Result (Option Edit) Refusal
inside_by asked path bytes = amend_inside asked.amendment.now asked.scope.now (own_of asked) path bytes

-- and they are a text
abbrev pub own_text_by : Amendment → List ℕ → List ℕ → Result (Option Edit) Refusal
own_text_by asked path bytes = amend_own_text asked.amendment.now asked.scope.now (own_of asked) path bytes

-- a table, of these bytes
abbrev pub table_by : Amendment → List ℕ → List ℕ → Result (Option Edit) Refusal
table_by asked path bytes = amend_table (values_of asked.amendment.now) path bytes

-- the change that is made of it stands in the file
abbrev pub IsWithin : List ℕ → Result (Option TomlSplice) AmendTomlRefusal → Type 0
IsWithin bytes (Ok (Some change)) = change.at + change.old ≤ length bytes
IsWithin bytes (Ok None) = Unit {0}
IsWithin bytes (Err refusal) = Unit {0}

-- ---- what is left

-- what a call makes of a text stands within it, and makes none that is too long
abbrev pub IsMadeWithin : List ℕ → Result (Option Splice) AmendHeaderRefusal → Type 0
IsMadeWithin bytes (Ok (Some splice)) = (splice.at + length splice.old ≤ length bytes)
    × (length bytes - length splice.old + length splice.new ≤ LONGEST_FILE)
IsMadeWithin bytes (Ok None) = Unit {0}
IsMadeWithin bytes (Err refusal) = Unit {0}

-- the change of an edit, and whether the path is left, or its refusal
abbrev pub AnswersAmended : Files → Result (Option Edit) Refusal → Bool → Result Amended Refusal → Type 0
AnswersAmended tree given left (Ok amended) = MakesEdit tree given amended.change × (amended.is_left ≡ left)
AnswersAmended tree given left (Err refusal) = IsRefusalOf given refusal

-- a text of these bytes behind what is done with it; none where that is refused
abbrev pub text_behind : List ℕ → Result (Option Edit) Refusal → Option (List ℕ)
text_behind bytes (Err refusal) = None
text_behind bytes (Ok None) = Some bytes
text_behind bytes (Ok (Some edit)) = edit.file

-- it still has a value that the amendments name
abbrev pub names_behind : Amendments → List ℕ → Result (Option Edit) Refusal → Bool
names_behind amendments bytes given = option_map_or (still_names amendments) (text_behind bytes given) false

-- so it is of a text of these bytes, in which these values are amended
abbrev pub AnswersValues : Amendments → Files → List ℕ → Result (Option Edit) Refusal → Result Amended Refusal → Type 0
AnswersValues values tree bytes given result = AnswersAmended tree given (names_behind values bytes given) result

-- so it is of a text of these bytes, by what is asked for
abbrev pub AnswersText : Amendment → Files → List ℕ → Result (Option Edit) Refusal → Result Amended Refusal → Type 0
AnswersText asked tree bytes given result =
    AnswersValues (values_of asked.amendment.now) tree bytes given result

-- so it is of a path, by what tells its licensing then
abbrev pub AnswersPath : Amendment → Files → List ℕ → Result (Option Edit) Refusal → Result Amended Refusal → Type 0
AnswersPath asked tree path given result =
    AnswersAmended tree given (still_tells (values_of asked.amendment.now) tree path given) result

-- a change takes its file away
abbrev pub takes_away : Option Change → Bool
takes_away None = false
takes_away (Some (Drop path old before)) = true
takes_away (Some other) = false

abbrev pub left_by : Amendment → Files → List ℕ → Bool
left_by asked tree path = is_left (values_of asked.amendment.now) tree path (amended_by asked tree path)

-- ---- what is taken out of a header

-- an edit that takes something out, which may be none
abbrev pub ExpectedRemoval : Type 0
ExpectedRemoval = Result (Option header.Edit) HeaderRefusal

-- it is within its file, and makes none that is too long
abbrev pub FitsRemoval : List ℕ → ExpectedRemoval → Type 0
FitsRemoval bytes (Ok (Some edit)) =
    (edit.start + edit.old_len ≤ length bytes) × (length (header.edited bytes edit) ≤ LONGEST_FILE)
FitsRemoval bytes (Ok None) = Unit {0}
FitsRemoval bytes (Err refusal) = Unit {0}

abbrev pub IsShort : List ℕ → Type 0
IsShort bytes = length bytes ≤ LONGEST_FILE

-- a change of a text stands within it, and makes none that is too long
abbrev pub IsSpliceWithin : List ℕ → Splice → Type 0
IsSpliceWithin bytes splice = (splice.at + length splice.old ≤ length bytes)
    × (length bytes - length splice.old + length splice.new ≤ LONGEST_FILE)

abbrev pub IsRemovalWithin : List ℕ → Result (Option Splice) HeaderRefusal → Type 0
IsRemovalWithin bytes (Ok (Some splice)) = IsSpliceWithin bytes splice
IsRemovalWithin bytes (Ok None) = Unit {0}
IsRemovalWithin bytes (Err refusal) = Unit {0}

abbrev pub IsChangeWithin : List ℕ → Result NeighbourChange HeaderRefusal → Type 0
IsChangeWithin bytes (Ok (Changed splice)) = IsSpliceWithin bytes splice
IsChangeWithin bytes (Ok Unchanged) = Unit {0}
IsChangeWithin bytes (Ok Emptied) = Unit {0}
IsChangeWithin bytes (Err refusal) = Unit {0}

-- the text behind it
abbrev pub spliced_by : List ℕ → Splice → List ℕ
spliced_by bytes splice = spliced bytes splice.at (length splice.old) splice.new

-- memory was refused
abbrev pub IsOutOfMemory : Refusal → Type 0
IsOutOfMemory refusal = refusal ≡ Failed Memory
