-- Whose a journal is.
use Rattle.std.specs.Prelude.{ℕ, Bool, false, not, ◌||◌, ◌==◌, Option, Some, None}
use Rattle.reuse_folder.specs.declared.journal_owner.JournalOwners.{JournalOwners}

-- what stands there belongs to another user
abbrev pub is_of_other : ℕ → Option ℕ → Bool
is_of_other user None = false
is_of_other user (Some owner) = not (owner == user)

-- the journal is another user's: its folder, the folder above it, or the head
abbrev pub is_journal_of_other : ℕ → JournalOwners → Bool
is_journal_of_other user owners =
    is_of_other user owners.above || is_of_other user owners.folder || is_of_other user owners.head
