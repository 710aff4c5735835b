-- What can be done about refusals of paths, and which call lists what a note only counts (docs/REFERENCE.md, "Notes").
use Rattle.std.specs.Prelude.{ℕ, Bool, List, ◌++◌, Option, None, Some, codes, if◌then◌else◌}
use Rattle.reuse_command.specs.declared.reply.Refusal.{Refusal}
use Rattle.reuse_command.specs.declared.reply.Refusal.TheVariants.{IsFolder, Unrecognised}

-- what can be done about a name without a style, where ready styles may be left
abbrev pub style_advice : Bool → List ℕ
style_advice is_any_left = if is_any_left
    then codes "no comment style is known for this name: add ready ones by reuse-undo styles --add, "
    ++ codes "name one with --style or in .reuse/styles.toml, write the information beside the file with "
    ++ codes "--fallback-dot-license, or pass it over with --skip-unrecognised"
    else codes "no comment style is known for this name, and no ready one is left: name one with --style or by a line "
    ++ codes "in .reuse/styles.toml, write the information beside the file with --fallback-dot-license, "
    ++ codes "or pass it over with --skip-unrecognised"

-- what can be done about the refusal of a path, where a note says that
abbrev pub path_advice : Refusal → Bool → Option (List ℕ)
path_advice (IsFolder place) is_any_left = Some (codes "with --recursive a folder stands for the files beneath it")
path_advice (Unrecognised path) is_any_left = Some (style_advice is_any_left)
path_advice refusal is_any_left = None

-- which call lists names without a style, and which one adds ready styles
abbrev pub name_listing : Bool → List ℕ
name_listing is_any_left = if is_any_left
    then codes "reuse-undo styles lists them, styles --add adds ready ones"
    else codes "reuse-undo styles lists their names"

-- which call lists the files that a header could break
abbrev pub harm_listing : Bool → List ℕ
harm_listing is_made = if is_made
    then codes "after reuse-undo undo, --dry-run --json lists each, with could_break"
    else codes "--dry-run --json lists each, with could_break"
