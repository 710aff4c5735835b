-- The lines that an answer is printed as.
use Rattle.std.specs.Prelude.{◌≡◌, ℕ, List, [], ◌∷◌, ◌++◌, Bool, true, false, codes, count_by, length}
use Rattle.reuse_change.specs.Change.{path_of}
use Rattle.reuse_change.specs.declared.change.Change.{Change}
use Rattle.reuse_change.specs.declared.change.Change.TheVariants.{Make, Drop, Splice}
use Rattle.std.specs.Fmt.{decimal}
use Rattle.std.specs.List.{flat_map}
use Rattle.reuse_print.specs.RowLines.{AreRowLines, IsRowLine}
use Rattle.reuse_command.specs.declared.path_outcome.PathOutcome.{PathOutcome}
use Rattle.reuse_command.specs.declared.path_outcome.PathOutcome.TheVariants.{Changes, Unchanged, Skipped, Refused}
use Rattle.reuse_command.specs.declared.path_outcome.PathOutcome.TheVariants.{Left}
use Rattle.reuse_command.specs.declared.reply.Recovered.{Recovered}
use Rattle.reuse_command.specs.declared.reply.Response.{Response}
use Rattle.reuse_command.specs.declared.reply.Response.TheVariants as responses
use Rattle.reuse_command.specs.declared.reply.Response.TheVariants.{Opened, Changed, NothingChanged, Undone, Redone}
use Rattle.reuse_command.specs.declared.reply.Response.TheVariants.{Log, Preview}
use Rattle.reuse_command.specs.declared.reply.Reverted.{Reverted}
use Rattle.reuse_command.specs.declared.reply.Shown.{Shown}
use Rattle.reuse_shown.specs.ShownNames.{shown}
use Rattle.reuse_shown.specs.declared.shown_name.NameDisplay.{NameDisplay}

-- a word, a space, a path, as names are shown, and a line end
abbrev pub line_of : NameDisplay → List ℕ → List ℕ → List ℕ
line_of names word path = word ++ 32 ∷ [] ++ shown names path ++ 10 ∷ []

-- the texts of all, one after the other
abbrev pub joined : {A : Type 0} → (A → List ℕ) → List A → List ℕ
joined text_of [] = []
joined text_of (one ∷ others) = text_of one ++ joined text_of others

-- one line for each path
abbrev pub lines_of : NameDisplay → List ℕ → List (List ℕ) → List ℕ
lines_of names word paths = joined (line_of names word) paths

-- what would become of a path; a refusal is reported elsewhere
abbrev pub path_outcome_line : NameDisplay → PathOutcome → List ℕ
path_outcome_line names (Changes path harm) = line_of names (codes "would change") path
path_outcome_line names (Unchanged path) = line_of names (codes "unchanged") path
path_outcome_line names (Skipped path) = line_of names (codes "skipped") path
path_outcome_line names (Refused refusal) = []
path_outcome_line names (Left path) = line_of names (codes "would leave") path

abbrev pub path_outcome_lines : NameDisplay → List PathOutcome → List ℕ
path_outcome_lines names path_outcomes = joined (path_outcome_line names) path_outcomes

-- what a change made of its path
abbrev pub kind_word : Change → List ℕ
kind_word (Make path new after) = codes "made"
kind_word (Drop path old before) = codes "removed"
kind_word (Splice path at old new rest seal) = codes "changed"

abbrev pub change_line : NameDisplay → Change → List ℕ
change_line names change = line_of names (kind_word change) (path_of change)

abbrev pub change_lines : NameDisplay → List Change → List ℕ
change_lines names changes = joined (change_line names) changes

-- what a step is printed as: its row of the log, and a line for each path
abbrev pub IsShownText : NameDisplay → Shown → List ℕ → Type 0
IsShownText names shown text =
    (line : List ℕ) × IsRowLine shown.row line × (text ≡ line ++ change_lines names shown.changes)

-- a line for each path, or that there was none
abbrev pub some_paths_text : NameDisplay → List ℕ → List (List ℕ) → List ℕ
some_paths_text names word [] = codes "nothing changed" ++ 10 ∷ []
some_paths_text names word (path ∷ paths) = lines_of names word (path ∷ paths)

-- a line for each path that changed, or that there was none, and then one for each that was left
abbrev pub done_text : NameDisplay → List ℕ → List (List ℕ) → List ℕ → List (List ℕ) → List ℕ
done_text names word changed left_word left = some_paths_text names word changed ++ lines_of names left_word left

-- what a revert is printed as: the paths at which a step was taken back, and then those that were left
abbrev pub reverted_text : NameDisplay → Reverted → List ℕ
reverted_text names reverted =
    done_text names (codes "changed") reverted.changed (codes "skipped") reverted.skipped

-- what a run is printed as: the paths that changed, and then those that an amendment left
abbrev pub changed_text : NameDisplay → List (List ℕ) → List (List ℕ) → List ℕ
changed_text names paths left = done_text names (codes "changed") paths (codes "left") left

-- what a recovery is printed as: the paths that were rolled back, and then those that were left
abbrev pub recovered_text : NameDisplay → Recovered → List ℕ
recovered_text names recovered =
    done_text names (codes "set back") recovered.changed (codes "skipped") recovered.skipped

-- what forgetting is printed as: a line for each number, or that there was none
abbrev pub forgotten_line : ℕ → List ℕ
forgotten_line number = codes "forgot " ++ decimal number ++ 10 ∷ []

abbrev pub forgotten_text : List ℕ → List ℕ
forgotten_text [] = codes "nothing changed" ++ 10 ∷ []
forgotten_text (number ∷ numbers) = flat_map forgotten_line (number ∷ numbers)

-- what a reply is printed as; that a session was opened is not reported
abbrev pub IsResponseText : NameDisplay → Response → List ℕ → Type 0
IsResponseText names Opened text = text ≡ []
IsResponseText names (Changed paths left) text = text ≡ changed_text names paths left
IsResponseText names (NothingChanged left) text = text ≡ changed_text names [] left
IsResponseText names (Undone paths) text = text ≡ lines_of names (codes "undone") paths
IsResponseText names (Redone paths) text = text ≡ lines_of names (codes "redone") paths
IsResponseText names (Log rows) text = AreRowLines rows text
IsResponseText names (Preview path_outcomes) text = text ≡ path_outcome_lines names path_outcomes
IsResponseText names (responses.Shown shown) text = IsShownText names shown text
IsResponseText names (responses.Reverted reverted) text = text ≡ reverted_text names reverted
IsResponseText names (responses.Forgotten numbers) text = text ≡ forgotten_text numbers
IsResponseText names (responses.Recovered recovered) text = text ≡ recovered_text names recovered

-- whether a path would change, or be left
abbrev pub would_change : PathOutcome → Bool
would_change (Changes path harm) = true
would_change (Left path) = true
would_change path_outcome = false

-- how many paths a reply reports that changed, or that would change or be left
abbrev pub path_count : Response → ℕ
path_count Opened = 0
path_count (Changed paths left) = length paths
path_count (NothingChanged left) = 0
path_count (Undone paths) = length paths
path_count (Redone paths) = length paths
path_count (Log rows) = 0
path_count (Preview path_outcomes) = count_by would_change path_outcomes
path_count (responses.Shown shown) = 0
path_count (responses.Reverted reverted) = length reverted.changed
path_count (responses.Forgotten numbers) = 0
path_count (responses.Recovered recovered) = length recovered.changed
