-- A line that goes through the files of a list alone (docs/REFERENCE.md, "--files-from").
use Rattle.std.specs.Prelude.{◌≡◌, ℕ, List, Option, None, Some, Result, Ok, Err, IfSome}
use Rattle.reuse_arguments.specs.LineFaults.{mistake_of, unreadable}
use Rattle.reuse_arguments.specs.Requests.{request_listed}
use Rattle.reuse_arguments.specs.declared.line.Line.{Line}
use Rattle.reuse_arguments.specs.declared.line.LineFault.{LineFault}

-- the line as it is, or with the list that the file has; or the fault that the file can't be read, or an allocation
-- failure
abbrev pub IsWithList : Option (List ℕ) → Line → Result Line LineFault → Type 0
IsWithList None line answer = answer ≡ Ok line
IsWithList (Some file) line (Ok new) =
    (paths : List (List ℕ)) × (new ≡ record line { request = request_listed paths line.request })
IsWithList (Some file) line (Err fault) = IfSome (mistake_of fault) (λ mistake. mistake ≡ unreadable file)

-- the same of words, which may be no line
abbrev pub IsReadWithList : Option (List ℕ) → Result Line LineFault → Result Line LineFault → Type 0
IsReadWithList file (Ok line) answer = IsWithList file line answer
IsReadWithList file (Err fault) answer = answer ≡ Err fault
