-- What clap found on a command line, by the names of options and arguments.
use Rattle.std.specs.Prelude.{ℕ, Bool, false, List, [], Option, None, Some, is_some, unwrap_or, option_and_then, codes}
use Rattle.std.specs.Prelude.{if◌then◌else◌}
use Rattle.std.specs.Option.{option_map_or}
use Rattle.std.specs.Str.{bytes_eq}
use Rattle.std.specs.Str.Parse.{digits_value, without_leading_plus}
use Rattle.clap.specs.Matches.{found_of}
use Rattle.clap.specs.ValueTests.{is_unsigned_in}
use Rattle.clap.specs.Walk.{Row, rows_of, first_of, one_of, all_of}
use Rattle.clap.specs.declared.parser.matches.ArgMatches.{ArgMatches}

-- a row for each option or argument that was given, or that has a default
abbrev pub Rows : Type 0
Rows = List Row

-- what clap found, without the subcommand
abbrev pub found_in : ArgMatches → Rows
found_in matches = rows_of (found_of matches)

-- whether a flag is set: then `true` stands for it
unfoldable pub flag : Rows → List ℕ → Bool
flag found name = option_map_or (λ text. bytes_eq text (codes "true")) (one_of name found) false

-- the first value of an option, if it has one
unfoldable pub value : Rows → List ℕ → Option (List ℕ)
value found name = first_of name found

-- the values of an option or argument, in the order of the words
unfoldable pub values : Rows → List ℕ → List (List ℕ)
values found name = unwrap_or (all_of name found) []

-- whether an option was given
unfoldable pub is_given : Rows → List ℕ → Bool
is_given found name = is_some (all_of name found)

-- the number that a text spells, if it is one of 32 bits
unfoldable pub number_of : List ℕ → Option ℕ
number_of text =
    if is_unsigned_in 0 4_294_967_295 text then Some (digits_value 10 (without_leading_plus text)) else None

-- the number of an argument, if it has one
unfoldable pub number : Rows → List ℕ → Option ℕ
number found name = option_and_then number_of (one_of name found)
