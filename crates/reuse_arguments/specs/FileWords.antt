-- Which files the words of a command line name, and what else they name one by one (docs/REFERENCE.md).
use Rattle.std.specs.Prelude.{ℕ, List, [], Option, None, Some, Result, Ok, codes, option_and_then, if◌then◌else◌, unwrap_or}
use Rattle.std.specs.Option.{option_map_or}
use Rattle.std.specs.Str.{bytes_eq}
use Rattle.reuse_toml.specs.declared.glob.GlobPiece.{GlobPiece}
use Rattle.reuse_style.specs.Styles.{style_named}
use Rattle.reuse_style.specs.declared.style.Style.{Style}
use Rattle.reuse_command.specs.declared.command.Place.{Place}
use Rattle.reuse_arguments.specs.Found.{Rows, flag, number, number_of, value, values}
use Rattle.reuse_arguments.specs.Globs.{globs_of_word}
use Rattle.reuse_arguments.specs.LineFaults.{Mistake, bad_glob, bad_path, all_read, each_read, or_mistake, then_read}
use Rattle.reuse_arguments.specs.LineFaults.{unread}
use Rattle.reuse_arguments.specs.Places.{place_of_word}
use Rattle.reuse_command.specs.declared.request.Steps.{Steps}
use Rattle.reuse_command.specs.declared.request.Steps.TheVariants as steps

-- the folder of the tree: the working folder where none is named
abbrev pub root_of : Rows → List ℕ
root_of found = unwrap_or (value found (codes "root")) (codes ".")

-- the file that lists the files, where the subcommand names one
abbrev pub files_from_of : Option (List ℕ × Rows) → Option (List ℕ)
files_from_of sub = option_and_then (λ s. value s.1 (codes "files-from")) sub

-- the files of texts that the subcommand names: `annotate` adds them to headers, and `amend` takes them out
abbrev pub text_option : List ℕ → List ℕ
text_option name = if bytes_eq name (codes "annotate") then codes "text" else codes "remove-text"

abbrev pub text_files_of : Option (List ℕ × Rows) → List (List ℕ)
text_files_of sub = option_map_or (λ s. values s.1 (text_option s.0)) sub []

-- the places, where words start at the folder, or the first word that names none
abbrev pub place_read : Option (List ℕ) → List ℕ → Result Place Mistake
place_read folder word = or_mistake (place_of_word folder word) (bad_path word)

abbrev pub places_read : Option (List ℕ) → Rows → Result (List Place) Mistake
places_read folder found = each_read (place_read folder) (values found (codes "PATH"))

-- the globs of the words, one after the other, or the first word that is none
abbrev pub globs_of : List ℕ → Result (List (List GlobPiece)) Mistake
globs_of word = or_mistake (globs_of_word word) (bad_glob word)

abbrev pub globs_read : Rows → Result (List (List GlobPiece)) Mistake
globs_read found = all_read globs_of (values found (codes "exclude"))

-- the style of all files, where one is named
abbrev pub style_read : Rows → Result (Option Style) Mistake
style_read found = named_style (value found (codes "style"))
  where
    named_style : Option (List ℕ) → Result (Option Style) Mistake
    named_style None = Ok None
    named_style (Some name) =
        then_read (or_mistake (style_named name) (unread (codes "a style that nothing reads")))
        (λ style. Ok (Some style))

-- the folder of the licence texts
abbrev pub texts_folder_read : Rows → Result (List ℕ) Mistake
texts_folder_read found = or_mistake (value found (codes "texts")) (unread (codes "no folder of texts"))

-- the ids of licences
abbrev pub ids_of : Rows → List (List ℕ)
ids_of found = values found (codes "ID")

-- the number of a step
abbrev pub step_read : Rows → Result ℕ Mistake
step_read found = or_mistake (number found (codes "NUMBER")) (unread (codes "no number of a step"))

-- the steps that are to be forgotten
abbrev pub number_read : List ℕ → Result ℕ Mistake
number_read word = or_mistake (number_of word) (unread (codes "a number that nothing reads"))

abbrev pub steps_read : Rows → Result Steps Mistake
steps_read found =
    if flag found (codes "all") then Ok steps.All
    else then_read (each_read number_read (values found (codes "NUMBER"))) (λ numbers. Ok (steps.Numbers numbers))
