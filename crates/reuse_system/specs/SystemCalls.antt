-- The calls of the system with their answers, and what names lead to after them.
use Rattle.std.specs.Prelude.{◌≡◌, ℕ, zero, suc, Bool, true, false, if◌then◌else◌, List, [], ◌∷◌, ◌++◌, length, take}
use Rattle.std.specs.Prelude.{Option, None, Some, Ok, ◌==◌}
use Rattle.std.specs.List.{list_any}
use Rattle.std.specs.Option.{unwrap_or}
use Rattle.std.specs.Str.{bytes_eq}
use Rattle.reuse_system.specs.FileStates.{FileKey, StateFile, Place, FileState, file, place_in}
use Rattle.reuse_system.specs.FileStates.FileKey.{Found, Made}
use Rattle.reuse_system.specs.Folders.{Folders, folder_in}
use Rattle.reuse_system.specs.NameTree.{IsNameTree}
use Rattle.reuse_system.specs.NameChanges.{Look, NameChange, change_at, change_of_free, change_to}
use Rattle.reuse_system.specs.SystemCall.{SystemCall, made_of}
use Rattle.reuse_system.specs.SystemCall.SystemCall.{MakeCall, AppendCall, SyncCall, RenameCall, LinkCall, RemoveCall}
use Rattle.reuse_system.specs.SystemCall.SystemCall.{LookCall, ReadCall, RootCall, OpenCall, NoFolderCall}
use Rattle.reuse_system.specs.SystemCall.SystemCall.{MakeFolderCall, RemoveFolderCall, SyncFolderCall}
use Rattle.reuse_system.specs.SystemLaws.{IsSeen, IsReadOf, IsNoFolder}
use Rattle.reuse_system.specs.declared.place.Identity.{Identity}
use Rattle.reuse_system.specs.declared.system.record.CallKind.{CallKind}
use Rattle.reuse_system.specs.declared.system.record.CallKind.TheVariants as kind

-- the device and the number of the root; each name that leads to a folder, with the device and the number of that; and
-- the names that lead to something else that is no regular file
abbrev pub FolderStart : Type 0
FolderStart = (ℕ × ℕ) × (List (Place × (ℕ × ℕ)) × List Place)

-- what nobody can know of a system at its start: its folders; each name that leads to a file, with the number of that
-- file, its bytes, and whether a loss of power surely leaves it these; and of each call that is to come its effect: how
-- much of an appending that fails is written, whether another call that fails takes effect, which is 1 or more, and the
-- number of a folder that is made, or 1 more than that where its making fails
pub record SystemStart : Type 0 where
  pub folders : FolderStart
  pub files : List (Place × (ℕ × (List ℕ × Bool)))
  pub effects : List ℕ

abbrev pub effect_at : List ℕ → ℕ → ℕ
effect_at [] n = 0
effect_at (effect ∷ effects) zero = effect
effect_at (effect ∷ effects) (suc n) = effect_at effects n

-- the file that the place leads to at the start
abbrev pub held_at_start : List (Place × (ℕ × (List ℕ × Bool))) → FileState
held_at_start [] place = None
held_at_start (entry ∷ entries) place =
    if bytes_eq place entry.0 then file (Found entry.1.0) entry.1.1.0 entry.1.1.1 else held_at_start entries place

-- the folder that the place leads to
abbrev pub folder_among : List (Place × (ℕ × ℕ)) → Place → Option Identity
folder_among [] place = None
folder_among (entry ∷ entries) place = if bytes_eq place entry.0
    then Some (record { device = entry.1.0; number = entry.1.1 }) else folder_among entries place

-- what names lead to at the start but for regular files
abbrev pub folders_of : FolderStart → Folders
folders_of start =
    record {
      root = record { device = start.0.0; number = start.0.1 };
      below = folder_among start.1.0;
      is_other = λ place. list_any (bytes_eq place) start.1.1;
    }

-- the place leads to this
abbrev pub set : FileState → Place → Option StateFile → FileState
set held place one other = if bytes_eq other place then one else held other

abbrev pub is_made : ℕ → FileKey → Bool
is_made number (Found other) = false
is_made number (Made other) = other == number

-- the file, if it is the one that was made so
abbrev pub filled_if : ℕ → List ℕ → Bool → Option StateFile → Option StateFile
filled_if number bytes is_durable None = None
filled_if number bytes is_durable (Some held) =
    if is_made number held.key then file held.key (held.bytes ++ bytes) is_durable else Some held

abbrev pub filled : ℕ → List ℕ → Bool → FileState → FileState
filled number bytes is_durable held place = filled_if number bytes is_durable (held place)

abbrev pub is_one_key : FileKey → FileKey → Bool
is_one_key (Found one) (Found other) = one == other
is_one_key (Made one) (Made other) = one == other
is_one_key (Found one) (Made other) = false
is_one_key (Made one) (Found other) = false

-- both are the same file
abbrev pub is_one_file : Option StateFile → Option StateFile → Bool
is_one_file (Some one) (Some other) = is_one_key one.key other.key
is_one_file one None = false
is_one_file None (Some other) = false

-- where both led to the same file, the old name stays
abbrev pub renamed : Place → Place → FileState → FileState
renamed from to held = set (if is_one_file (held from) (held to) then held else set held from None) to (held from)

abbrev pub renamed_by : ℕ → Place → Place → FileState → FileState
renamed_by zero from to held = held
renamed_by (suc effect) from to held = renamed from to held

abbrev pub set_by : ℕ → FileState → Place → Option StateFile → FileState
set_by zero held place one = held
set_by (suc effect) held place one = set held place one

-- where both are one place, nothing was linked
abbrev pub linked : Place → Place → FileState → FileState
linked from to held place = if bytes_eq from to then held place else set held to (held from) place

abbrev pub linked_by : ℕ → Place → Place → FileState → FileState
linked_by zero from to held = held
linked_by (suc effect) from to held = linked from to held

-- what a call of this effect makes of it, before which so many files were made
abbrev pub held_by : ℕ → ℕ → SystemCall → FileState → FileState
held_by effect made (MakeCall place true) held = set held place (file (Made made) [] false)
held_by effect made (MakeCall place false) held = set_by effect held place (file (Made made) [] false)
held_by effect made (AppendCall number bytes true) held = filled number bytes false held
held_by effect made (AppendCall number bytes false) held = filled number (take effect bytes) false held
held_by effect made (SyncCall number is_done) held = filled number [] is_done held
held_by effect made (RenameCall from to given true) held = renamed from to held
held_by effect made (RenameCall from to given false) held = renamed_by effect from to held
held_by effect made (LinkCall from to given true) held = linked from to held
held_by effect made (LinkCall from to given false) held = linked_by effect from to held
held_by effect made (RemoveCall place true) held = set held place None
held_by effect made (RemoveCall place false) held = set_by effect held place None
held_by effect made (LookCall place answer) held = held
held_by effect made (ReadCall place said limit answer) held = held
held_by effect made (RootCall opened) held = held
held_by effect made (OpenCall above name opened) held = held
held_by effect made (NoFolderCall above name found) held = held
held_by effect made (MakeFolderCall above name is_done) held = held
held_by effect made (RemoveFolderCall place is_done) held = held
held_by effect made (SyncFolderCall folder is_done) held = held

-- what names lead to after these calls, the newest first
abbrev pub held_after : List (Place × (ℕ × (List ℕ × Bool))) → List ℕ → List SystemCall → FileState
held_after files effects [] = held_at_start files
held_after files effects (call ∷ calls) =
    held_by (effect_at effects (length calls)) (made_of calls) call (held_after files effects calls)

-- the place leads to this folder, if it led to none
abbrev pub with_folder : Place → Identity → Folders → Folders
with_folder place one folders =
    record folders {
      below = λ other. if bytes_eq other place then Some (unwrap_or (folders.below other) one)
          else folders.below other;
    }

abbrev pub without_folder : Place → Folders → Folders
without_folder place folders =
    record folders { below = λ other. if bytes_eq other place then None else folders.below other }

-- a folder that is made in another one lies on its device
abbrev pub with_folder_by : ℕ → Identity → List ℕ → Folders → Folders
with_folder_by zero above name folders = folders
with_folder_by (suc number) above name folders =
    with_folder (place_in above name) (record { device = above.device; number = number }) folders

abbrev pub without_folder_by : ℕ → Place → Folders → Folders
without_folder_by zero place folders = folders
without_folder_by (suc effect) place folders = without_folder place folders

-- what a call of this effect makes of the folders
abbrev pub folders_by : ℕ → SystemCall → Folders → Folders
folders_by effect (MakeFolderCall above name true) folders = with_folder_by (suc effect) above name folders
folders_by effect (MakeFolderCall above name false) folders = with_folder_by effect above name folders
folders_by effect (RemoveFolderCall place true) folders = without_folder place folders
folders_by effect (RemoveFolderCall place false) folders = without_folder_by effect place folders
folders_by effect (MakeCall place is_done) folders = folders
folders_by effect (AppendCall number bytes is_done) folders = folders
folders_by effect (SyncCall number is_done) folders = folders
folders_by effect (RenameCall from to given is_done) folders = folders
folders_by effect (LinkCall from to given is_done) folders = folders
folders_by effect (RemoveCall place is_done) folders = folders
folders_by effect (LookCall place answer) folders = folders
folders_by effect (ReadCall place said limit answer) folders = folders
folders_by effect (RootCall opened) folders = folders
folders_by effect (OpenCall above name opened) folders = folders
folders_by effect (NoFolderCall above name found) folders = folders
folders_by effect (SyncFolderCall folder is_done) folders = folders

-- the folders after these calls, the newest first
abbrev pub folders_after : FolderStart → List ℕ → List SystemCall → Folders
folders_after start effects [] = folders_of start
folders_after start effects (call ∷ calls) =
    folders_by (effect_at effects (length calls)) call (folders_after start effects calls)

-- a call may answer so where names lead to these folders and files and nobody else writes
abbrev pub MayAnswer : Folders → FileState → SystemCall → Type 0
MayAnswer folders held (LookCall place answer) = IsSeen (held place) answer
MayAnswer folders held (ReadCall place said limit answer) = IsReadOf said limit (held place) answer
MayAnswer folders held (RootCall opened) = opened ≡ folders.root
MayAnswer folders held (OpenCall above name opened) = folder_in folders above name ≡ Some opened
MayAnswer folders held (NoFolderCall above name found) = IsNoFolder folders held (folder_in folders above name) found
MayAnswer folders held call = Unit {0}

-- what the last of these calls reported, if it was a look
abbrev pub looked_of : List SystemCall → Option Look
looked_of (LookCall place (Ok found) ∷ calls) = Some (record { place = place; reported = found })
looked_of calls = None

-- the names that files were given or lost by these calls, the newest first
abbrev pub changes_of : List SystemCall → List NameChange
changes_of [] = []
changes_of (RenameCall from to given is_done ∷ calls) = change_to (looked_of calls) to given ∷ changes_of calls
changes_of (LinkCall from to given is_done ∷ calls) = change_of_free to given ∷ changes_of calls
changes_of (RemoveCall place is_done ∷ calls) = change_at (looked_of calls) place ∷ changes_of calls
changes_of (MakeCall place is_done ∷ calls) = changes_of calls
changes_of (AppendCall number bytes is_done ∷ calls) = changes_of calls
changes_of (SyncCall number is_done ∷ calls) = changes_of calls
changes_of (LookCall place answer ∷ calls) = changes_of calls
changes_of (ReadCall place said limit answer ∷ calls) = changes_of calls
changes_of (RootCall opened ∷ calls) = changes_of calls
changes_of (OpenCall above name opened ∷ calls) = changes_of calls
changes_of (NoFolderCall above name found ∷ calls) = changes_of calls
changes_of (MakeFolderCall above name is_done ∷ calls) = changes_of calls
changes_of (RemoveFolderCall place is_done ∷ calls) = changes_of calls
changes_of (SyncFolderCall folder is_done ∷ calls) = changes_of calls

-- the folder that the call has synced
abbrev pub synced_by : SystemCall → List Identity
synced_by (SyncFolderCall folder true) = folder ∷ []
synced_by call = []

-- the folders that these calls have synced, the newest first
abbrev pub synced_of : List SystemCall → List Identity
synced_of [] = []
synced_of (call ∷ calls) = synced_by call ++ synced_of calls

-- each of these calls was answered so, and the names formed a tree before and behind each
abbrev pub IsHonest : FolderStart → List (Place × (ℕ × (List ℕ × Bool))) → List ℕ → List SystemCall → Type 0
IsHonest start files effects [] = IsNameTree (folders_of start) (held_at_start files)
IsHonest start files effects (call ∷ calls) =
    MayAnswer (folders_after start effects calls) (held_after files effects calls) call
    × IsNameTree (folders_after start effects (call ∷ calls)) (held_after files effects (call ∷ calls))
    × IsHonest start files effects calls

pub names_form_a_tree : (start : FolderStart) (files : List (Place × (ℕ × (List ℕ × Bool)))) (effects : List ℕ)
    (calls : List SystemCall) → IsHonest start files effects calls
    → IsNameTree (folders_after start effects calls) (held_after files effects calls)
names_form_a_tree start files effects [] honest = honest
names_form_a_tree start files effects (call ∷ calls) honest = honest.1

-- a call by its kind and the names or the bytes that this kind has
abbrev pub call_of : CallKind → List ℕ → List ℕ → SystemCall
call_of (kind.Make folder is_done) name other = MakeCall (place_in folder name) is_done
call_of (kind.Append number is_done) bytes other = AppendCall number bytes is_done
call_of (kind.Sync number is_done) name other = SyncCall number is_done
call_of (kind.Rename from to given is_done) name other =
    RenameCall (place_in from name) (place_in to other) given is_done
call_of (kind.Link from to given is_done) name other = LinkCall (place_in from name) (place_in to other) given is_done
call_of (kind.Remove folder is_done) name other = RemoveCall (place_in folder name) is_done
call_of (kind.Look folder answer) name other = LookCall (place_in folder name) answer
call_of (kind.Root opened) name other = RootCall opened
call_of (kind.Open above opened) name other = OpenCall above name opened
call_of (kind.NoFolder above found) name other = NoFolderCall above name found
call_of (kind.MakeFolder above is_done) name other = MakeFolderCall above name is_done
call_of (kind.RemoveFolder above is_done) name other = RemoveFolderCall (place_in above name) is_done
call_of (kind.SyncFolder folder is_done) name other = SyncFolderCall folder is_done
