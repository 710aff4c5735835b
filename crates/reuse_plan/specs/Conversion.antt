-- What convert-dep5 does on a tree: it puts a `REUSE.toml` in the place of `.reuse/dep5` (the reuse tool's manual page
-- of `convert-dep5`; the refusals: docs/RULES.md).
use Rattle.std.specs.Prelude.{ℕ, List, [], ◌∷◌, length, Option, Some, None, Result, Ok, Err, nat_lt, if◌then◌else◌}
use Rattle.std.specs.Prelude.{codes, is_some}
use Rattle.std.specs.FinMap.{get}
use Rattle.reuse_change.specs.Files.{Files}
use Rattle.reuse_dep5.specs.declared.refusal.Dep5Refusal.{Dep5Refusal}
use Rattle.reuse_dep5.specs.Conversion.{converted}
use Rattle.reuse_text.specs.declared.TheConstants.{LONGEST_FILE}
use Rattle.reuse_edit.specs.Edit.{Edit, made, dropped}
use Rattle.reuse_change.specs.Clash.{is_clash}
use Rattle.reuse_command.specs.declared.reply.Refusal.{Refusal}
use Rattle.reuse_command.specs.declared.reply.Refusal.TheVariants.{NoDep5, TooLong, Exists, Dep5, Clash}
use Rattle.reuse_edit.specs.Tables.{toml_path}

abbrev pub dep5_path : List ℕ
dep5_path = codes ".reuse/dep5"

-- the dep5 is removed and the text made, unless the dep5 is refused or the text's file clashes
abbrev pub replaced_by : Files → List ℕ → Result (List ℕ) Dep5Refusal → Result (List Edit) Refusal
replaced_by tree bytes (Err refusal) = Err (Dep5 refusal)
replaced_by tree bytes (Ok text) =
    if is_clash tree toml_path then Err (Clash toml_path) else Ok (dropped dep5_path bytes ∷ made toml_path text ∷ [])

-- what is done where the tree has this at `.reuse/dep5`
abbrev pub conversion_where : Files → Option (List ℕ) → Result (List Edit) Refusal
conversion_where tree None = Err NoDep5
conversion_where tree (Some bytes) =
    if nat_lt LONGEST_FILE (length bytes) then Err (TooLong dep5_path)
    else if is_some (get tree toml_path) then Err (Exists toml_path)
    else replaced_by tree bytes (converted bytes)

abbrev pub conversion_edits : Files → Result (List Edit) Refusal
conversion_edits tree = conversion_where tree (get tree dep5_path)
