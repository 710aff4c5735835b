-- Edits as they are made: first their place, then their bytes (this project's own).
use Rattle.std.specs.Prelude.{◌≡◌, ℕ, ◌<◌, ◌≤◌, List, ◌++◌, length, Option, None, Some, Result, Ok, Err}
use Rattle.reuse_text.specs.declared.TheConstants.{LONGEST_FILE}
use Rattle.reuse_text.specs.declared.LineKind.{LineKind}
use Rattle.reuse_header.specs.declared.place.Place.{Place}
use Rattle.reuse_header.specs.declared.draft.Draft.{Draft}
use Rattle.reuse_header.specs.declared.annotation.HeaderRefusal.{HeaderRefusal}
use Rattle.reuse_header.specs.declared.annotation.HeaderRefusal.TheVariants.{NotText, NoSuchForm, HoldsCloser, TooLong}
use Rattle.reuse_header.specs.declared.annotation.HeaderRefusal.TheVariants.{Unsettled, Memory}
use Rattle.reuse_header.specs.Header.{HeaderSpan}
use Rattle.reuse_header.specs.Annotation.{Edit, ending_if, new_bytes, edited, text_start, text_end}

-- the edit that puts a text into a place
abbrev pub edit_at : Place → LineKind → List ℕ → Edit
edit_at place kind text = record {
  start = place.start;
  old_len = place.old_len;
  front = ending_if place.ends_line kind ++ ending_if place.empty_before kind;
  text = text;
  back = ending_if place.empty_behind kind;
}

-- a draft has the bytes of an edit, and the file that it makes is not too long
pub record IsDraft (file : List ℕ) (edit : Edit) (draft : Draft) : Type 0 where
  pub start : draft.start ≡ edit.start
  pub old_len : draft.old_len ≡ edit.old_len
  pub new : draft.new ≡ new_bytes edit
  pub text_start : draft.text_start ≡ text_start edit
  pub text_end : draft.text_end ≡ text_end edit
  pub short : length (edited file edit) ≤ LONGEST_FILE

-- a draft of the edit, or the refusal of a file that is too long
abbrev pub Drafts : List ℕ → Edit → Result Draft HeaderRefusal → Type 0
Drafts file edit (Ok draft) = IsDraft file edit draft
Drafts file edit (Err TooLong) = LONGEST_FILE < length (edited file edit)
Drafts file edit (Err (Memory e)) = Unit {0}
Drafts file edit (Err NotText) = ⊥
Drafts file edit (Err NoSuchForm) = ⊥
Drafts file edit (Err HoldsCloser) = ⊥
Drafts file edit (Err Unsettled) = ⊥

-- a block, if there is one, is within its file
abbrev pub IsWithin : List ℕ → Option HeaderSpan → Type 0
IsWithin file None = Unit {0}
IsWithin file (Some span) = (span.start ≤ span.end) × (span.end ≤ length file)
