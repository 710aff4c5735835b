-- What a call answers of an edit (this project's own).
use Rattle.std.specs.Prelude.{◌≡◌, ℕ, List, take, drop, Option, None, Some, Result, Ok, Err, if◌then◌else◌}
use Rattle.std.specs.Str.{bytes_eq}
use Rattle.reuse_text.specs.Text.{spliced}
use Rattle.reuse_header.specs.declared.annotation.Splice.{Splice}
use Rattle.reuse_header.specs.declared.annotation.HeaderRefusal.{HeaderRefusal}
use Rattle.reuse_header.specs.declared.annotation.HeaderRefusal.TheVariants.{Memory}
use Rattle.reuse_header.specs.Annotation.{Edit, new_bytes}

-- the change that puts new bytes in the place of some of a file, with those that it takes away; none if
-- it makes the file itself
abbrev pub splice_at : List ℕ → ℕ → ℕ → List ℕ → Option Splice
splice_at file start old_len new =
    if bytes_eq (spliced file start old_len new) file then None
    else Some (record { at = start; old = take old_len (drop start file); new = new })

-- the change that an edit is, and what a call answers of it
abbrev pub splice_of : List ℕ → Edit → Option Splice
splice_of file edit = splice_at file edit.start edit.old_len (new_bytes edit)

abbrev pub answer_of : List ℕ → Result Edit HeaderRefusal → Result (Option Splice) HeaderRefusal
answer_of file (Ok edit) = Ok (splice_of file edit)
answer_of file (Err refusal) = Err refusal

-- the answer that is expected, or an allocation failure, which may take the place of each
abbrev pub IsExpected : Result (Option Splice) HeaderRefusal → Result (Option Splice) HeaderRefusal → Type 0
IsExpected expected (Err (Memory e)) = Unit {0}
IsExpected expected (Ok splice) = expected ≡ Ok splice
IsExpected expected (Err refusal) = expected ≡ Err refusal
