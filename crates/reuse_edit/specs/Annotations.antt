-- What an annotation of a file may be, where it is an edit (this project's own).
use Rattle.std.specs.Prelude.{ℕ, ◌+◌, ◌≤◌, List, length, Result, Ok, Err}
use Rattle.reuse_header.specs.Annotation as header
use Rattle.reuse_words.specs.declared.refusal.TextHeaderRefusal.{TextHeaderRefusal}
use Rattle.reuse_text.specs.declared.TheConstants.{LONGEST_FILE}

-- the edit of a file, or the first refusal
abbrev pub Expected : Type 0
Expected = Result header.Edit TextHeaderRefusal

-- an edit is within its file, and makes none that is too long
abbrev pub Fits : List ℕ → Expected → Type 0
Fits bytes (Ok edit) = (edit.start + edit.old_len ≤ length bytes) × (length (header.edited bytes edit) ≤ LONGEST_FILE)
Fits bytes (Err refusal) = Unit {0}
