-- Which licences get a text, and where it is looked for.
use Rattle.std.specs.Prelude.{◌≡◌, ◌≢◌, ℕ, List, ◌++◌, Option, None, Some, Result, Ok, Err, MatchResult, codes}
use Rattle.std.specs.Prelude.{filter_map, if◌then◌else◌}
use Rattle.std.specs.IoError.{error_kind}
use Rattle.std.specs.declared.io.Error.{Error}
use Rattle.std.specs.declared.io.ErrorKind.TheVariants.{OutOfMemory}
use Rattle.reuse_edit.specs.Licence.{is_id}

-- the licence of an id, where the id is one of a licence
abbrev pub licence_named : List ℕ → Option (List ℕ)
licence_named id = if is_id id then Some id else None

-- the licences of those ids, in their order
abbrev pub licences_among : List (List ℕ) → List (List ℕ)
licences_among ids = filter_map licence_named ids

-- the file of a licence's text
abbrev pub text_file : List ℕ → List ℕ → List ℕ
text_file folder id = folder ++ codes "/" ++ id ++ codes ".txt"

-- what was read is the text; where nothing could be read there is none, unless memory ran out
abbrev pub IsTextOf : {E : Type 0} → Result (List ℕ) Error → Result (Option (List ℕ)) E → Type 0
IsTextOf (Ok text) found = found ≡ Ok (Some text)
IsTextOf (Err error) found =
    MatchResult found (λ text. (text ≡ None) × (error_kind error ≢ OutOfMemory))
    (λ _. error_kind error ≡ OutOfMemory)
