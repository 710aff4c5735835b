-- Which paths a list of files names.
use Rattle.std.specs.Prelude.{ℕ, ◌-◌, Bool, List, [], ◌∷◌, Option, None, Some, filter_map, length, nat_eq, ◌==◌}
use Rattle.std.specs.Prelude.{if◌then◌else◌, nat_le, take}
use Rattle.std.specs.List.{ends_with, list_any, slice_split}
use Rattle.std.specs.Str.{is_utf8}
use Rattle.reuse_notice.specs.Sets.{set_of}
use Rattle.reuse_command.specs.Command.{path_in}
use Rattle.reuse_command.specs.declared.command.Place.{Place}
use Rattle.reuse_arguments.specs.Places.{place_of_word}

-- what stands between two words: NULs where the list holds one, else line feeds
abbrev pub has_nul : List ℕ → Bool
has_nul list = list_any (λ byte. byte == 0) list

abbrev pub separator_of : List ℕ → ℕ
separator_of list = if has_nul list then 0 else 10

abbrev pub words_of : List ℕ → List (List ℕ)
words_of list = slice_split (λ byte. byte == separator_of list) list

-- the path of a place, where it is no root
abbrev pub path_at : Option Place → Option (List ℕ)
path_at None = None
path_at (Some place) = path_in place

-- the path that a word names, as a word of the command line does; none where it isn't UTF-8
abbrev pub path_of_word : Option (List ℕ) → List ℕ → Option (List ℕ)
path_of_word folder word = if is_utf8 word then path_at (place_of_word folder word) else None

-- a line without the carriage return of its end
abbrev pub without_return : List ℕ → List ℕ
without_return line = if ends_with nat_eq line (13 ∷ []) then take (length line - 1) line else line

-- the path that a word names in a list with this separator: a line may end in CR LF
abbrev pub path_listed : Option (List ℕ) → ℕ → List ℕ → Option (List ℕ)
path_listed folder separator word =
    path_of_word folder (if separator == 10 then without_return word else word)

-- the paths that a list names, where words start at the folder
abbrev pub listed_paths : Option (List ℕ) → List ℕ → List (List ℕ)
listed_paths folder list = filter_map (path_listed folder (separator_of list)) (words_of list)

-- the paths of a list that is no longer than this, as a set
abbrev pub paths_within : Option (List ℕ) → ℕ → List ℕ → Option (List (List ℕ))
paths_within folder longest list =
    if nat_le (length list) longest then Some (set_of (listed_paths folder list)) else None
