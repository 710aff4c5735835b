-- The bits and the owner of a new file, as far as they are known, and what they are to be when it gets a name.
use Rattle.std.specs.Prelude.{◌≡◌, ℕ, Option, None, Some}
use Rattle.reuse_system.specs.Owners.{kept_owner}
use Rattle.reuse_system.specs.TempFiles.{place_of, key_of}
use Rattle.reuse_system.specs.declared.owner.Owner.{Owner}
use Rattle.reuse_system.specs.declared.owner.Process.{Process}
use Rattle.reuse_system.specs.declared.place.FileStatus.{FileStatus}
use Rattle.reuse_system.specs.declared.system.TempFile.{TempFile}
use Rattle.reuse_system.specs.declared.system.new_status.NewMode.{NewMode}
use Rattle.reuse_system.specs.declared.system.new_status.NewMode.TheVariants.{Usual, Asked, Known}
use Rattle.reuse_system.specs.declared.system.new_status.NewStatus.{NewStatus}

abbrev pub made_mode : Option ℕ → NewMode
made_mode None = Usual
made_mode (Some bits) = Asked bits

-- what is known of a file that was just made, and asked for these bits, or for none
abbrev pub made_status : Option ℕ → NewStatus
made_status asked = record { mode = made_mode asked; owner = None }

-- it is the same file, whatever is known of its bits and its owner
pub record IsSameFile (old new : TempFile) : Type 0 where
  pub place : place_of new ≡ place_of old
  pub key : key_of new ≡ key_of old

-- what a file is to be that gets a name: what was seen there before, whose it is to be, and the process that writes it
pub record Due : Type 0 where
  pub seen : Option FileStatus
  pub owner : Owner
  pub process : Process

-- the bits of the file that it replaces, or those of a new file
abbrev pub mode_for : Option FileStatus → NewMode
mode_for None = Usual
mode_for (Some seen) = Known seen.mode

-- it has these bits, and belongs to the owner, as far as the process may give it: what it may not stays as it was made
pub record IsAsDue (due : Due) (status : NewStatus) : Type 0 where
  pub mode : status.mode ≡ mode_for due.seen
  pub made : Owner
  pub owner : status.owner ≡ Some (kept_owner due.process due.owner made)
