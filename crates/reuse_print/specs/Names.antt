-- The lines and the JSON objects that names without a comment style are printed as.
use Rattle.std.specs.Prelude.{ℕ, List, [], ◌∷◌, ◌++◌, codes, Option, None, Some, unwrap_or, if◌then◌else◌}
use Rattle.std.specs.Fmt.{decimal}
use Rattle.std.specs.Option.{option_or}
use Rattle.serde_json.specs.Data.{Data, null, string}
use Rattle.reuse_json.specs.Json.{count, object_of}
use Rattle.reuse_command.specs.RefusalTexts as texts
use Rattle.reuse_ready.specs.Ready.{has_ready_rules}
use Rattle.reuse_ready.specs.declared.name_count.NameCount.{NameCount}
use Rattle.reuse_shown.specs.ShownNames.{shown}
use Rattle.reuse_shown.specs.declared.shown_name.NameDisplay.{NameDisplay}
use Rattle.reuse_print.specs.Lines.{joined}
use Rattle.reuse_print.specs.Objects.{object_line}

-- the ready style of a name, or that there are ready rules for it
abbrev pub ready_word : NameCount → Option (List ℕ)
ready_word row = option_or row.style (if has_ready_rules row.name then Some (codes "rules") else None)

-- how many files have the name, the name, as names are shown, and its style, `rules` or a hyphen, with a space between
-- each two, and a line end
abbrev pub name_line : NameDisplay → NameCount → List ℕ
name_line names row =
    decimal row.count ++ 32 ∷ [] ++ shown names row.name ++ 32 ∷ [] ++ unwrap_or (ready_word row) (codes "-") ++ 10 ∷ []

abbrev pub name_lines : NameDisplay → List NameCount → List ℕ
name_lines names rows = joined (name_line names) rows

-- ---- objects

abbrev pub style_value : Option (List ℕ) → Data
style_value (Some style) = string (texts.shown style)
style_value None = null

-- the members, in the order of their keys; a name or a style that isn't UTF-8 is shown as text
abbrev pub name_value : NameCount → Data
name_value row = object_of (
    (codes "count", count row.count) ∷ (codes "name", string (texts.shown row.name))
    ∷ (codes "style", style_value (ready_word row)) ∷ []
    )

abbrev pub name_object : NameCount → List ℕ
name_object row = object_line (name_value row)

abbrev pub name_objects : List NameCount → List ℕ
name_objects rows = joined name_object rows
