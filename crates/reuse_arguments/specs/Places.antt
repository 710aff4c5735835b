-- Which place a word of the command line names.
use Rattle.std.specs.Prelude.{ℕ, ◌-◌, Bool, not, List, [], ◌∷◌, Option, None, Some, filter, length, nat_eq}
use Rattle.std.specs.Prelude.{if◌then◌else◌, take, codes, ◌++◌, option_and_then}
use Rattle.std.specs.List.{ends_with, join_with_byte}
use Rattle.std.specs.Str.{bytes_eq}
use Rattle.reuse_change.specs.Path.{is_path}
use Rattle.reuse_system.specs.Names.{between_slashes}
use Rattle.reuse_command.specs.declared.command.Place.{Place}
use Rattle.reuse_command.specs.declared.command.Place.TheVariants.{Root, Path}

-- the word without a slash at its end
abbrev pub without_end_slash : List ℕ → List ℕ
without_end_slash word = if ends_with nat_eq word (codes "/") then take (length word - 1) word else word

-- a part that isn't `.`
abbrev pub is_named : List ℕ → Bool
is_named part = not (bytes_eq part (codes "."))

-- the parts of a word that count
abbrev pub parts_of : List ℕ → List (List ℕ)
parts_of word = filter is_named (between_slashes (without_end_slash word))

-- the path along these parts, or none where there is no part
abbrev pub path_along : List (List ℕ) → Option (List ℕ)
path_along [] = None
path_along (part ∷ parts) = Some (join_with_byte 47 (part ∷ parts))

-- the parts of the folder that is reached from one with these parts along others: a part `..` leads to the folder
-- above, and there is none above the root
unfoldable pub walked : List (List ℕ) → List (List ℕ) → Option (List (List ℕ))
walked folder [] = Some folder
walked folder (part ∷ parts) =
    if not (bytes_eq part (codes "..")) then walked (folder ++ part ∷ []) parts
    else if nat_eq (length folder) 0 then None
    else walked (take (length folder - 1) folder) parts

-- the place at the path, if it is one; without a path it is the root
abbrev pub place_at : Option (List ℕ) → Option Place
place_at None = Some Root
place_at (Some path) = if is_path path then Some (Path path) else None

-- the place along these parts from the root, or from a folder of the tree, where words start there
abbrev pub place_along : Option (List ℕ) → List (List ℕ) → Option Place
place_along None parts = place_at (path_along parts)
place_along (Some folder) parts =
    option_and_then (λ reached. place_at (path_along reached)) (walked (parts_of folder) parts)

-- the place that the word names, or none where it names none
abbrev pub place_of_word : Option (List ℕ) → List ℕ → Option Place
place_of_word folder word = place_along folder (parts_of word)
