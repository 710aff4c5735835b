-- What a file that is written is to be when it gets its name.
use Rattle.std.specs.Prelude.{◌≡◌, ℕ, Option, None, Some}
use Rattle.reuse_system.specs.NewFiles.{Due}
use Rattle.reuse_system.specs.Owners.{kept_owner}
use Rattle.reuse_system.specs.declared.owner.Owner.{Owner}
use Rattle.reuse_system.specs.declared.place.FileStatus.{FileStatus}
use Rattle.reuse_disk.specs.declared.new_file.Content.{Content}

-- the bits that are asked for as it is made: those of the file that it replaces
abbrev pub asked_for : Option FileStatus → Option ℕ
asked_for None = None
asked_for (Some seen) = Some seen.mode

abbrev pub due_of : Content → Due
due_of content = record {
  seen = content.found;
  owner = content.wanted.owner;
  process = content.wanted.process.now;
}

-- the owner of a file that was written: the one that it is to have, as far as the process may give it
abbrev pub IsOwnerFor : Due → Option Owner → Type 0
IsOwnerFor due owner = (made : Owner) × (owner ≡ Some (kept_owner due.process due.owner made))
