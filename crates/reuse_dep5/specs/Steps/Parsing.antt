-- What was read so far of a Files field.
use Rattle.std.specs.Prelude.{◌≡◌, Vec, List, ◌++◌, Option, Some, None, Result, Ok, Err}
use Rattle.std.specs.declared.alloc.Global.{Global}
use Rattle.reuse_dep5.specs.declared.pattern.PatternPiece.{PatternPiece}
use Rattle.reuse_dep5.specs.declared.refusal.Dep5Refusal.{Dep5Refusal}
use Rattle.reuse_dep5.specs.Answers.{IsRefusalOf}
use Rattle.reuse_dep5.specs.PatternValue.{PatternValue}
use Rattle.reuse_dep5.specs.SourceText.{NumberedLine}
use Rattle.reuse_dep5.specs.PatternText.{patterns_of}

-- patterns in front of others
abbrev pub with_patterns : List PatternValue → Result (List PatternValue) Dep5Refusal
    → Result (List PatternValue) Dep5Refusal
with_patterns front (Ok patterns) = Ok (front ++ patterns)
with_patterns front (Err e) = Err e

-- what was found is what is spelled
abbrev pub AreSpelled : Option (Vec PatternPiece Global) → Option (List PatternPiece) → Type 0
AreSpelled None spelled = spelled ≡ None
AreSpelled (Some pieces) spelled = spelled ≡ Some pieces.items

-- The patterns of the words stand behind the old ones, whatever words follow; or the refusal is theirs.
abbrev pub IsPushed : List NumberedLine → List PatternValue → List PatternValue → Result (Unit {0}) Dep5Refusal → Type 0
IsPushed words old new (Ok done) = (later : List NumberedLine)
    → with_patterns old (patterns_of (words ++ later)) ≡ with_patterns new (patterns_of later)
IsPushed words old new (Err e) =
    (later : List NumberedLine) → IsRefusalOf e (with_patterns old (patterns_of (words ++ later)))
