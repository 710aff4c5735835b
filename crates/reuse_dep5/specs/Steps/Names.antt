-- The names of the fields of a paragraph, kept in a set.
use Rattle.std.specs.Prelude.{◌≡◌, ℕ, List}
use Rattle.std.specs.BTreeSet.{BTreeSet, contains}
use Rattle.std.specs.Cmp.Lexicographic.{slice_cmp}
use Rattle.std.specs.List.{list_any}
use Rattle.std.specs.Ordering.{nat_cmp}
use Rattle.std.specs.Str.{str_to_ascii_lowercase}
use Rattle.reuse_dep5.specs.SourceText.{NumberedLine}
use Rattle.reuse_dep5.specs.Fields.{has_name}

-- the set has the names of the fields that stand in the lines, in lower case, and no other
abbrev pub HoldsNames : BTreeSet (List ℕ) → List NumberedLine → Type 0
HoldsNames names lines =
    (name : List ℕ) → contains (slice_cmp nat_cmp) names (str_to_ascii_lowercase name) ≡ list_any
    (λ (l : NumberedLine). has_name name l.content) lines
