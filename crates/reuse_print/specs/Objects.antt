-- The JSON objects that rows, steps and dry runs are printed as.
use Rattle.std.specs.Prelude.{◌≡◌, ◌==◌, ℕ, List, [], ◌∷◌, ◌++◌, codes, map, Option, None, Some, if◌then◌else◌}
use Rattle.std.specs.List.{flat_map}
use Rattle.jiff.specs.Types.{Date}
use Rattle.jiff.specs.Words.{date_text}
use Rattle.serde_json.specs.Data.{Data, null, string, boolean}
use Rattle.serde_json.specs.Written.{compact_text}
use Rattle.reuse_header.specs.declared.harm.Harm.{Harm}
use Rattle.reuse_header.specs.declared.harm.Harm.TheVariants as harms
use Rattle.reuse_dep5.specs.declared.refusal.Dep5Refusal.TheVariants as dep5
use Rattle.reuse_change.specs.Change.{path_of}
use Rattle.reuse_change.specs.declared.change.Change.{Change}
use Rattle.reuse_json.specs.Json.{count, object_of, array_of}
use Rattle.reuse_command.specs.Command.{place_text}
use Rattle.reuse_command.specs.RefusalTexts.{refusal_text}
use Rattle.reuse_command.specs.declared.path_outcome.PathOutcome.{PathOutcome}
use Rattle.reuse_command.specs.declared.path_outcome.PathOutcome.TheVariants.{Changes, Unchanged, Skipped, Refused}
use Rattle.reuse_command.specs.declared.path_outcome.PathOutcome.TheVariants.{Left}
use Rattle.reuse_command.specs.declared.reply.Refusal.{Refusal}
use Rattle.reuse_command.specs.declared.reply.Refusal.TheVariants as refusals
use Rattle.reuse_command.specs.declared.reply.Row.{Row}
use Rattle.reuse_command.specs.declared.reply.Shown.{Shown}
use Rattle.reuse_shown.specs.Dates.{IsDateOf}
use Rattle.reuse_print.specs.Lines.{kind_word}
use Rattle.reuse_print.specs.RowLines.{command_word}
use Rattle.reuse_shown.specs.JoinedTexts.{AreJoined}

-- the members of a row, in the order of their keys
abbrev pub row_members : Row → Date → List (List ℕ × Data)
row_members row date =
    (codes "command", string (command_word row.command)) ∷ (codes "count", count row.count)
    ∷ (codes "date", string (date_text date))
    ∷ (codes "done", boolean row.done) ∷ (codes "number", count row.number) ∷ (codes "when", count row.when) ∷ []

abbrev pub row_value : Row → Date → Data
row_value row date = object_of (row_members row date)

abbrev pub change_value : Change → Data
change_value change =
    object_of ((codes "kind", string (kind_word change)) ∷ (codes "path", string (path_of change)) ∷ [])

abbrev pub changes_value : List Change → Data
changes_value changes = array_of (map change_value changes)

abbrev pub shown_value : Shown → Date → Data
shown_value shown date = object_of ((codes "changes", changes_value shown.changes) ∷ row_members shown.row date)

-- a byte of a JSON text; 7F, which JSON leaves as it is, is escaped as the other control bytes are
abbrev pub json_byte : ℕ → List ℕ
json_byte byte = if byte == 127 then 92 ∷ codes "u007f" else byte ∷ []

-- the compact text of a value, and a line end
abbrev pub object_line : Data → List ℕ
object_line value = flat_map json_byte (compact_text value) ++ 10 ∷ []

-- the object of a row, with the date of its moment, on a line
abbrev pub IsRowObject : Row → List ℕ → Type 0
IsRowObject row text = (date : Date) × (IsDateOf row.when date × (text ≡ object_line (row_value row date)))

-- one for each row
abbrev pub AreRowObjects : List Row → List ℕ → Type 0
AreRowObjects rows text = AreJoined IsRowObject rows text

-- the object of a step, on a line
abbrev pub IsShownObject : Shown → List ℕ → Type 0
IsShownObject shown text =
    (date : Date) × (IsDateOf shown.row.when date × (text ≡ object_line (shown_value shown date)))

-- what would become of a path
abbrev pub outcome_value : List ℕ → List ℕ → Data
outcome_value outcome path = object_of ((codes "outcome", string outcome) ∷ (codes "path", string path) ∷ [])

-- what has to stay in front of a header, what shows it, or what it may be in
abbrev pub harm_word : Harm → List ℕ
harm_word harms.InnerAttribute = codes "inner attribute"
harm_word harms.FrontMatter = codes "front matter"
harm_word harms.Directive = codes "directive"
harm_word harms.ModeLine = codes "mode line"
harm_word harms.CloudConfig = codes "cloud-config"
harm_word harms.Charset = codes "charset"
harm_word harms.Markup = codes "markup"
harm_word harms.BelowText = codes "string"

-- a path that would change, with what its new header could break
abbrev pub change_outcome_value : List ℕ → Option Harm → Data
change_outcome_value path None = outcome_value (codes "would change") path
change_outcome_value path (Some harm) =
    object_of (
    (codes "could_break", string (harm_word harm)) ∷ (codes "outcome", string (codes "would change"))
    ∷ (codes "path", string path) ∷ []
    )

-- the path that a refusal names
abbrev pub refused_path : Refusal → Option (List ℕ)
refused_path (refusals.NoSuchPath path) = Some path
refused_path (refusals.IsFolder place) = Some (place_text place)
refused_path (refusals.NotCovered path) = Some path
refused_path (refusals.TooLong path) = Some path
refused_path (refusals.Unrecognised path) = Some path
refused_path (refusals.Header path fault) = Some path
refused_path (refusals.Amend path fault) = Some path
refused_path (refusals.Exists path) = Some path
refused_path (refusals.Clash path) = Some path
refused_path (refusals.Moved path) = Some path
refused_path (refusals.BadJournal path) = Some path
refused_path refusals.NoDep5 = Some (codes ".reuse/dep5")
refused_path (refusals.Dep5 dep5.Memory) = None
refused_path (refusals.Dep5 refusal) = Some (codes ".reuse/dep5")
refused_path (refusals.BadStyles refusal) = Some (codes ".reuse/styles.toml")
refused_path (refusals.BadComments refusal) = Some (codes ".reuse/comments.toml")
refused_path refusal = None

abbrev pub path_value : Option (List ℕ) → Data
path_value (Some path) = string path
path_value None = null

-- a refusal, with its path, if it names one, and its text
abbrev pub refused_value : Refusal → Data
refused_value refusal =
    object_of (
    (codes "outcome", string (codes "refused")) ∷ (codes "path", path_value (refused_path refusal))
    ∷ (codes "reason", string (refusal_text refusal)) ∷ []
    )

-- the object of what would become of a path, on a line
abbrev pub IsPathOutcomeObject : PathOutcome → List ℕ → Type 0
IsPathOutcomeObject (Changes path harm) text = text ≡ object_line (change_outcome_value path harm)
IsPathOutcomeObject (Unchanged path) text = text ≡ object_line (outcome_value (codes "unchanged") path)
IsPathOutcomeObject (Skipped path) text = text ≡ object_line (outcome_value (codes "skipped") path)
IsPathOutcomeObject (Refused refusal) text = text ≡ object_line (refused_value refusal)
IsPathOutcomeObject (Left path) text = text ≡ object_line (outcome_value (codes "left") path)

-- one for each
abbrev pub ArePathOutcomeObjects : List PathOutcome → List ℕ → Type 0
ArePathOutcomeObjects path_outcomes text = AreJoined IsPathOutcomeObject path_outcomes text
