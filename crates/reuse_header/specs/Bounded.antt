-- A text that may have so many bytes, as it is written line by line (this project's own).
use Rattle.std.specs.Prelude.{◌≡◌, ℕ, ◌||◌, nat_le, List, ◌++◌, length, Option, None, Some, if◌then◌else◌}
use Rattle.reuse_text.specs.Text.{is_empty}
use Rattle.reuse_header.specs.declared.writer.LineWriter.{LineWriter}
use Rattle.reuse_header.specs.Writing.{ended_by}

-- a text with more bytes behind, none if there is no room for them, or if there was none before
abbrev pub with_more : ℕ → Option (List ℕ) → List ℕ → Option (List ℕ)
with_more room None more = None
with_more room (Some bytes) more =
    if is_empty more || nat_le (length (bytes ++ more)) room then Some (bytes ++ more) else None

-- what is written, none if there was no room for it
abbrev pub written : LineWriter → Option (List ℕ)
written writer = if writer.is_full then None else Some writer.bytes.items

-- lines are written behind all others, and ended
pub record Writes (old new : LineWriter) (lines : List (List ℕ)) : Type 0 where
  pub format : new.format ≡ old.format
  pub text : written new ≡ with_more old.format.room (written old) (ended_by old.format.kind lines)
