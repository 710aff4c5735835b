-- Which paths are no part of the tree, whatever stands there.
use Rattle.std.specs.Prelude.{ℕ, Bool, true, false, not, if◌then◌else◌, ◌||◌, ◌&&◌, ◌==◌, List, [], ◌∷◌, length, drop}
use Rattle.std.specs.Prelude.{codes, nat_eq}
use Rattle.std.specs.Char.{is_ascii_digit}
use Rattle.std.specs.List.{starts_with, list_all}
use Rattle.std.specs.Str.{bytes_eq, str_eq_ignore_ascii_case}
use Rattle.reuse_change.specs.Layout.{above_journal, journal_name, new_beside, new_name}
use Rattle.reuse_change.specs.Layout.{new_beside_numbered, new_numbered}
use Rattle.reuse_system.specs.Names.{between_slashes}

-- A folder of this name holds what version control keeps. Capital and small letters are the same, as they are on some
-- file systems, but in `CVS`: a folder of sources may be called `cvs`.
abbrev pub is_control_folder : List ℕ → Bool
is_control_folder name =
    str_eq_ignore_ascii_case name (codes ".git") || str_eq_ignore_ascii_case name (codes ".hg")
    || str_eq_ignore_ascii_case name (codes ".svn")
    || str_eq_ignore_ascii_case name (codes ".jj") || str_eq_ignore_ascii_case name (codes ".bzr")
    || str_eq_ignore_ascii_case name (codes "_darcs")
    || str_eq_ignore_ascii_case name (codes ".sl") || str_eq_ignore_ascii_case name (codes ".pijul")
    || str_eq_ignore_ascii_case name (codes ".repo")
    || bytes_eq name (codes "CVS")

-- the names begin with those of a journal's folder
abbrev pub begins_journal : List (List ℕ) → Bool
begins_journal (first ∷ second ∷ names) = bytes_eq first above_journal && bytes_eq second journal_name
begins_journal names = false

-- a number in decimal digits
abbrev pub is_number : List ℕ → Bool
is_number bytes = not (length bytes == 0) && list_all is_ascii_digit bytes

-- A file of this name may be one that was written beside the one that it is to be: the number is that of a journal's
-- folder.
abbrev pub is_beside_name : List ℕ → Bool
is_beside_name name =
    bytes_eq name new_beside || (starts_with nat_eq name new_beside_numbered && is_number (drop 16 name))

-- a file of this name leads to what version control keeps elsewhere, as that of a submodule does, or hasn't its name
-- yet
abbrev pub is_name_ignored : List ℕ → Bool
is_name_ignored name = str_eq_ignore_ascii_case name (codes ".git") || is_beside_name name

-- A file of this name in a journal's folder was written to a temporary file and has no name of its own yet: the first
-- one, or one of several.
abbrev pub is_new_name : List ℕ → Bool
is_new_name name = bytes_eq name new_name || (starts_with nat_eq name new_numbered && is_number (drop 4 name))

-- the first name along these is that of such a file
abbrev pub begins_new : List (List ℕ) → Bool
begins_new [] = false
begins_new (name ∷ names) = is_new_name name

-- along these names, from the folder `.reuse` on, stands such a file
abbrev pub is_new_in_reuse : List (List ℕ) → Bool
is_new_in_reuse [] = false
is_new_in_reuse (name ∷ names) = bytes_eq name journal_name && begins_new names

-- along these names stands such a file
abbrev pub is_new : List (List ℕ) → Bool
is_new [] = false
is_new (name ∷ names) = bytes_eq name above_journal && is_new_in_reuse names

-- Along these names stands somebody else's data: in a folder of version control, or in a journal behind the first name.
-- The last name, of a folder or of a file, may itself be ignored.
abbrev pub is_foreign : Bool → List (List ℕ) → Bool
is_foreign is_folder [] = false
is_foreign is_folder (name ∷ []) = if is_folder then is_control_folder name else is_name_ignored name
is_foreign is_folder (name ∷ next ∷ names) =
    is_control_folder name || begins_journal (next ∷ names) || is_foreign is_folder (next ∷ names)

-- a file of this path is no part of the tree
abbrev pub is_ignored : List ℕ → Bool
is_ignored path = is_new (between_slashes path) || is_foreign false (between_slashes path)

-- nothing under this folder is part of the tree
abbrev pub is_folder_ignored : List ℕ → Bool
is_folder_ignored folder = is_new (between_slashes folder) || is_foreign true (between_slashes folder)
