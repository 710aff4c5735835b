-- Reverting: the changes of a step are taken back on whatever the tree is now.
use Rattle.std.specs.Prelude.{ℕ, ◌-◌, nat_le, nat_eq, Bool, true, false, not, ◌&&◌, ◌||◌, List, length, drop, Option}
use Rattle.std.specs.Prelude.{Some, None, Result, Ok, Err, if◌then◌else◌}
use Rattle.std.specs.List.{starts_with}
use Rattle.std.specs.Str.{bytes_eq}
use Rattle.std.specs.FinMap.{get}
use Rattle.sha2.specs.Sha256.{sha256}
use Rattle.reuse_text.specs.Text.{spliced}
use Rattle.reuse_change.specs.Change.{path_of}
use Rattle.reuse_change.specs.Files.{Files}
use Rattle.reuse_change.specs.declared.change.Change.{Change}
use Rattle.reuse_change.specs.declared.change.Change.TheVariants.{Make, Drop, Splice}
use Rattle.reuse_change.specs.declared.digest.Seal.{Seal}
use Rattle.reuse_text.specs.declared.TheConstants.{LONGEST_FILE}
use Rattle.reuse_change.specs.Clash.{is_clash}
use Rattle.reuse_edit.specs.Edit.{Edit, made, dropped}
use Rattle.reuse_edit.specs.PathEdits.{PathEdit}
use Rattle.reuse_change.specs.Entry.{makes}
use Rattle.reuse_change.specs.Listing.{is_among}
use Rattle.reuse_change.specs.declared.direction.Direction.TheVariants.{Backward}
use Rattle.reuse_command.specs.declared.reply.Refusal.{Refusal}
use Rattle.reuse_command.specs.declared.reply.Refusal.TheVariants.{Moved}

-- whether the part stands in the file at the place
abbrev pub stands_at : List ℕ → List ℕ → ℕ → Bool
stands_at file part at = nat_le at (length file) && starts_with nat_eq (drop at file) part

-- the file has the digest that a step recorded of it, if it recorded one
abbrev pub has_digest : List ℕ → Option Seal → Bool
has_digest file None = true
has_digest file (Some seal) = bytes_eq (sha256 file) seal.after

-- behind new bytes that stand at the place the file has just as many bytes as a step left there, and it has the digest
abbrev pub is_as_left : List ℕ → ℕ → List ℕ → ℕ → Option Seal → Bool
is_as_left file at new rest seal = nat_eq (length file - at - length new) rest && has_digest file seal

-- Whether new bytes that stand at the place are those that a step wrote. Where the old bytes begin with them, as where
-- bytes were only taken away, the place alone doesn't show it: then the file must be as the step left it.
abbrev pub stands_as_written : List ℕ → ℕ → (old new : List ℕ) → ℕ → Option Seal → Bool
stands_as_written file at old new rest seal =
    stands_at file new at && (not (starts_with nat_eq old new) || is_as_left file at new rest seal)

-- no file of a step is longer
abbrev pub is_short : List ℕ → Bool
is_short file = nat_le (length file) LONGEST_FILE

-- of a file that was edited, the new bytes give way to the old ones
abbrev pub put_back : List ℕ → List ℕ → ℕ → (old new : List ℕ) → Edit
put_back path file at old new =
    record { path = path; removed = new; written = old; file = Some (spliced file at (length new) old) }

-- What takes a change back where its path holds this, if it can be taken back: the file that was made goes, if it is as
-- it was made; one that was removed is made again where nothing is; and new bytes that stand at their place as they
-- were written give way to the old ones, whatever follows them.
abbrev pub taken_back : Change → Option (List ℕ) → Option Edit
taken_back (Make path new after) None = None
taken_back (Make path new after) (Some file) = if bytes_eq file new then Some (dropped path new) else None
taken_back (Drop path old before) None = Some (made path old)
taken_back (Drop path old before) (Some file) = None
taken_back (Splice path at old new rest seal) None = None
taken_back (Splice path at old new rest seal) (Some file) =
    if stands_as_written file at old new rest seal && is_short file && is_short (spliced file at (length new) old)
    then Some (put_back path file at old new) else None

-- the same on a tree: no file is made again where that clashes
abbrev pub taken_back_on : Files → Change → Option Edit
taken_back_on tree change = if makes Backward change && is_clash tree (path_of change) then None
    else taken_back change (get tree (path_of change))

-- the same where later steps touched these paths: what they hold is those steps', and nothing takes a change of them
-- back
abbrev pub taken_back_unless : List (List ℕ) → Files → Change → Option Edit
taken_back_unless touched tree change = if is_among touched (path_of change) then None else taken_back_on tree change

-- where nothing takes the change of a path back, that is refused, unless such changes are skipped
abbrev pub back_or_refused : Bool → List ℕ → Option Edit → Result (Option Edit) Refusal
back_or_refused skip_moved path (Some edit) = Ok (Some edit)
back_or_refused skip_moved path None = if skip_moved then Ok None else Err (Moved path)

-- what is done at the path of a change
abbrev pub reverted_at : List (List ℕ) → Bool → Files → Change → PathEdit
reverted_at touched skip_moved tree change = record {
  path = path_of change;
  skipped = skip_moved;
  harm = None;
  left = false;
  edit = back_or_refused skip_moved (path_of change) (taken_back_unless touched tree change);
}
