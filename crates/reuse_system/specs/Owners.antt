-- Whose files are, who may do what with them, and when a file that is written anew can't keep its owner.
use Rattle.std.specs.Prelude.{ℕ, Bool, not, if◌then◌else◌, ◌||◌, ◌&&◌, ◌==◌, ◌/◌, ◌%◌, bit_and}
use Rattle.std.specs.List.{list_any}
use Rattle.reuse_system.specs.declared.owner.Owner.{Owner}
use Rattle.reuse_system.specs.declared.owner.Process.{Process}
use Rattle.reuse_system.specs.declared.owner.Rights.{Rights}

-- ---- who may do what

-- the bits of a file's mode that a rewritten file keeps: who may read, write and run it
abbrev pub kept_bits : ℕ → ℕ
kept_bits mode = bit_and mode 0o777

-- each three bits of a mode: for the owner, for the group, and for all others
abbrev pub rights_of_mode : ℕ → Rights
rights_of_mode mode = record { owner = mode / 64 % 8; group = mode / 8 % 8; others = mode % 8 }

-- whoever has these rights may do all that those allow
abbrev pub covers : (rights less : ℕ) → Bool
covers rights less = bit_and less rights == less

-- what a user, who is a member of these groups, may do with a file of this owner
abbrev pub access : (user : ℕ) → (is_member : ℕ → Bool) → Owner → Rights → ℕ
access user is_member owner rights =
    if user == owner.user then rights.owner else (if is_member owner.group then rights.group else rights.others)

-- ---- what a process may give

-- it may give a file of its own to this user
abbrev pub gives_user : Process → ℕ → Bool
gives_user process user = process.user == 0 || user == process.user

-- and to this group
abbrev pub gives_group : Process → ℕ → Bool
gives_group process group = process.user == 0 || list_any (λ other. other == group) process.groups.items

-- A new file that belongs to `made` gets this owner in place of the one that it should have: user and group each, if
-- the process may give it.
abbrev pub kept_owner : Process → (wanted made : Owner) → Owner
kept_owner process wanted made = record {
  user = if gives_user process wanted.user then wanted.user else made.user;
  group = if gives_group process wanted.group then wanted.group else made.group;
}

-- A file that is written anew can't keep its owner if that owner would lose access, or somebody would gain it. An owner
-- who loses the file is taken to be in its group. If the group is lost, some users change over from the group's rights
-- to those of others, and some the other way round.
abbrev pub cannot_keep : Process → Owner → Rights → Bool
cannot_keep process owner rights =
    (not (gives_user process owner.user) && not (covers rights.group rights.owner))
    || (not (gives_group process owner.group) && not (rights.group == rights.others))

-- A file that is made anew belongs to the process, and to the folder's group if the folder passes its group on. What
-- root makes belongs to the folder's owner.
abbrev pub owner_of_new : Process → (folder : Owner) → (passes_group : Bool) → Owner
owner_of_new process folder passes_group =
    if process.user == 0 then folder else record {
      user = process.user;
      group = if passes_group then folder.group else process.group;
    }
