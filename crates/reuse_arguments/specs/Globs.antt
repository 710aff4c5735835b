-- Which globs a word of the command line stands for.
use Rattle.std.specs.Prelude.{ℕ, List, [], ◌∷◌, Option, None, Some, drop, codes, nat_eq, if◌then◌else◌}
use Rattle.std.specs.List.{starts_with}
use Rattle.std.specs.Option.{option_to_list}
use Rattle.std.specs.Str.{chars}
use Rattle.reuse_toml.specs.declared.glob.GlobPiece.{GlobPiece}
use Rattle.reuse_toml.specs.GlobText.{read_glob}
use Rattle.reuse_arguments.specs.FileLists.{path_at}
use Rattle.reuse_arguments.specs.Places.{place_of_word}

-- what stands behind a leading `**/`
abbrev pub behind_any_folder : List ℕ → Option (List ℕ)
behind_any_folder text = if starts_with nat_eq text (codes "**/") then Some (drop 3 text) else None

-- the texts of a glob: a leading `**/` also stands for nothing
abbrev pub glob_texts : List ℕ → List (List ℕ)
glob_texts text = text ∷ option_to_list (behind_any_folder text)

-- a glob, if it is one, in front of others
abbrev pub with_glob : Option (List GlobPiece) → Option (List (List GlobPiece)) → Option (List (List GlobPiece))
with_glob None others = None
with_glob (Some glob) None = None
with_glob (Some glob) (Some others) = Some (glob ∷ others)

-- the globs that the texts spell, or none where one of them spells none
abbrev pub read_globs : List (List ℕ) → Option (List (List GlobPiece))
read_globs [] = Some []
read_globs (text ∷ texts) = with_glob (read_glob (chars text)) (read_globs texts)

abbrev pub globs_along : Option (List ℕ) → Option (List (List GlobPiece))
globs_along None = None
globs_along (Some path) = read_globs (glob_texts path)

-- the globs of a word: it is written as the word of a place is, from the root, and names no
-- root
abbrev pub globs_of_word : List ℕ → Option (List (List GlobPiece))
globs_of_word word = globs_along (path_at (place_of_word None word))
