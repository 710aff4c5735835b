-- From the bytes of a dep5 to the text of the `REUSE.toml` that says the same.
use Rattle.std.specs.Prelude.{ℕ, List, length, nat_lt, Option, Some, None, Result, Ok, Err, if◌then◌else◌}
use Rattle.reuse_text.specs.declared.TheConstants.{LONGEST_FILE}
use Rattle.reuse_dep5.specs.declared.refusal.Dep5Refusal.{Dep5Refusal}
use Rattle.reuse_dep5.specs.declared.refusal.Dep5Refusal.TheVariants.{Question, NotToml, TooLong}
use Rattle.reuse_dep5.specs.Dep5.{Dep5Value, dep5_of}
use Rattle.reuse_dep5.specs.ReuseTable.{toml_text}
use Rattle.reuse_dep5.specs.ReadBack.{table_of}
use Rattle.reuse_toml.specs.TomlText.{read_toml}
use Rattle.reuse_dep5.specs.ReuseToml.{question_of}
use Rattle.reuse_dep5.specs.SameData.{is_table}

-- the stated text, unless it is over 16 MiB or isn't read back as the stated table
abbrev pub text_of : Dep5Value → Result (List ℕ) Dep5Refusal
text_of dep5 =
    if nat_lt LONGEST_FILE (length (toml_text dep5)) then Err TooLong
    else if is_table (read_toml (toml_text dep5)) (table_of dep5) then Ok (toml_text dep5)
    else Err NotToml

-- a `?` comes first
abbrev pub text_unless : Option ℕ → Dep5Value → Result (List ℕ) Dep5Refusal
text_unless (Some line) dep5 = Err (Question line)
text_unless None dep5 = text_of dep5

-- the text of a dep5, or the first refusal
abbrev pub toml_of : Dep5Value → Result (List ℕ) Dep5Refusal
toml_of dep5 = text_unless (question_of dep5.files) dep5

abbrev pub converted_from : Result Dep5Value Dep5Refusal → Result (List ℕ) Dep5Refusal
converted_from (Err refusal) = Err refusal
converted_from (Ok dep5) = toml_of dep5

-- the text of the dep5 that the bytes are, or the first refusal
unfoldable pub converted : List ℕ → Result (List ℕ) Dep5Refusal
converted bytes = converted_from (dep5_of bytes)
