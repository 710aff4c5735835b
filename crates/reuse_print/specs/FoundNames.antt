-- The names for which an annotation that was previewed is refused, since they have no comment style, and those that a
-- ready style or ready rules are better for.
use Rattle.std.specs.Prelude.{◌≡◌, ℕ, Bool, true, false, is_some, ◌||◌, List, [], ◌∷◌, Option, None}
use Rattle.std.specs.Prelude.{Some, Result, Ok, Err}
use Rattle.std.specs.Prelude.{codes, filter_map, if◌then◌else◌}
use Rattle.std.specs.Str.{bytes_eq}
use Rattle.std.specs.declared.vec.Vec.{Vec}
use Rattle.reuse_header.specs.declared.harm.Harm.{Harm}
use Rattle.reuse_header.specs.declared.harm.Harm.TheVariants.{BelowText, Markup}
use Rattle.reuse_command.specs.declared.failure.Failure.TheVariants.{Memory}
use Rattle.reuse_command.specs.declared.path_outcome.PathOutcome.{PathOutcome}
use Rattle.reuse_command.specs.declared.path_outcome.PathOutcome.TheVariants.{Changes, Refused}
use Rattle.reuse_command.specs.declared.reply.Refusal.{Refusal}
use Rattle.reuse_command.specs.declared.reply.Refusal.TheVariants.{NoSuchPath, TooLong, Unrecognised, BadStyles}
use Rattle.reuse_command.specs.declared.reply.Refusal.TheVariants.{BadComments, Failed}
use Rattle.reuse_print.specs.Names.{name_lines, name_objects}
use Rattle.reuse_print.specs.Outputs.{Adds, AddsFront}
use Rattle.reuse_print.specs.declared.fault.Fault.{Fault}
use Rattle.reuse_print.specs.declared.fault.Fault.TheVariants as faults
use Rattle.reuse_ready.specs.Ready.{has_ready_rules, ready_style}
use Rattle.reuse_ready.specs.Tally.{name_of, tally}
use Rattle.reuse_ready.specs.declared.name_count.NameCount.{NameCount}
use Rattle.reuse_shown.specs.declared.shown_name.NameDisplay.{NameDisplay}

-- a name has a ready style that may keep in front what a header could break, or ready rules that give a file another
-- style if it begins with markup
abbrev pub is_helped : Option Harm → List ℕ → Bool
is_helped None name = false
is_helped (Some BelowText) name = false
is_helped (Some Markup) name = has_ready_rules name
is_helped (Some harm) name = is_some (ready_style name)

-- the path of a file whose name has no style, or that a header could break, if the ready tables help its name
abbrev pub listed_path : PathOutcome → Option (List ℕ)
listed_path (Refused (Unrecognised path)) = Some path
listed_path (Changes path harm) = if is_helped harm (name_of path) then Some path else None
listed_path path_outcome = None

abbrev pub listed_paths : List PathOutcome → List (List ℕ)
listed_paths path_outcomes = filter_map listed_path path_outcomes

-- a file of the tree's own styles or comments
abbrev pub is_own_file : List ℕ → Bool
is_own_file path = bytes_eq path (codes ".reuse/styles.toml") || bytes_eq path (codes ".reuse/comments.toml")

-- a refusal that is of the whole call: of a PATH that isn't there, or of such a file
abbrev pub is_for_all : Refusal → Bool
is_for_all (NoSuchPath path) = true
is_for_all (BadStyles refusal) = true
is_for_all (BadComments refusal) = true
is_for_all (TooLong path) = is_own_file path
is_for_all refusal = false

abbrev pub refusal_for_all : PathOutcome → Option Refusal
refusal_for_all (Refused refusal) = if is_for_all refusal then Some refusal else None
refusal_for_all path_outcome = None

-- the first of some refusals is the answer, where there is one
abbrev pub unless_first : {A : Type 0} → List Refusal → A → Result A Refusal
unless_first [] value = Ok value
unless_first (refusal ∷ refusals) value = Err refusal

abbrev pub unless_for_all : {A : Type 0} → List PathOutcome → A → Result A Refusal
unless_for_all path_outcomes value = unless_first (filter_map refusal_for_all path_outcomes) value

-- the names of these files, each with how many of them have it, unless a refusal is of the whole call
abbrev pub names_found : List PathOutcome → Result (List NameCount) Refusal
names_found path_outcomes = unless_for_all path_outcomes (tally (listed_paths path_outcomes))

-- what is expected was found, as a list; an allocation failure may take its place
abbrev pub IsFound : {A B : Type 0} → Result (List B) Refusal → Result (Vec B A) Refusal → Type 0
IsFound expected (Ok found) = expected ≡ Ok found.items
IsFound expected (Err (Failed Memory)) = Unit {0}
IsFound expected (Err refusal) = expected ≡ Err refusal

-- ---- the list

abbrev pub names_text : Bool → NameDisplay → List NameCount → List ℕ
names_text as_objects names rows = if as_objects then name_objects rows else name_lines names rows

-- The output took the list of the names that are expected, by this text of names, or failed behind some front part of
-- it. Where they are refused that is handed on, and nothing is written of it, nor for an allocation failure. No path
-- changed.
abbrev pub ReportsNames : (List NameCount → List ℕ) → Result (List NameCount) Refusal → List ℕ → List ℕ → Result ℕ Fault
    → Type 0
ReportsNames text_of expected old new (Ok count) =
    (rows : List NameCount) × (expected ≡ Ok rows) × Adds old new (text_of rows) × (count ≡ 0)
ReportsNames text_of expected old new (Err (faults.Refused (Failed Memory))) = new ≡ old
ReportsNames text_of expected old new (Err (faults.Refused refusal)) = (expected ≡ Err refusal) × (new ≡ old)
ReportsNames text_of expected old new (Err faults.Write) =
    (rows : List NameCount) × (expected ≡ Ok rows) × AddsFront old new (text_of rows)
ReportsNames text_of expected old new (Err faults.Memory) = new ≡ old
ReportsNames text_of expected old new (Err fault) = ⊥

-- that the list couldn't be written is reported exactly where the output failed
abbrev pub TellsFailure : Bool → Bool → Result ℕ Fault → Type 0
TellsFailure old new (Err faults.Write) = new ≡ true
TellsFailure old new result = new ≡ old

-- ---- for private clauses

abbrev pub IsNoRefusal : Fault → Type 0
IsNoRefusal (faults.Refused refusal) = ⊥
IsNoRefusal fault = Unit {0}
