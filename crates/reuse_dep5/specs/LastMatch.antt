-- Which Files paragraph of a dep5, or which record of a `REUSE.toml`, holds for a path: the last that matches.
use Rattle.std.specs.Prelude.{◌≡◌, ◌⊎◌, ℕ, zero, suc, codes, List, [], ◌∷◌, Option, Some}
use Rattle.std.specs.Str.{chars}
use Rattle.toml.specs.Data.{Data, string, array, table, Items, no_items, item, Members, get_member}
use Rattle.reuse_toml.specs.declared.glob.GlobPiece.{GlobPiece}
use Rattle.reuse_dep5.specs.PatternValue.{PatternValue}
use Rattle.reuse_dep5.specs.PatternMatch.{Matches}
use Rattle.reuse_toml.specs.GlobMatch.{GlobMatches}
use Rattle.reuse_toml.specs.GlobText.{read_glob}
use Rattle.reuse_dep5.specs.Dep5.{FilesValue, Dep5Value}
use Rattle.reuse_dep5.specs.ReuseTable.{Annotation}

-- each passes; one does; none does
abbrev pub EachPasses : {A : Type 0} → (A → Type 0) → List A → Type 0
EachPasses P [] = Unit {0}
EachPasses P (x ∷ xs) = P x × EachPasses P xs

abbrev pub SomePasses : {A : Type 0} → (A → Type 0) → List A → Type 0
SomePasses P [] = ⊥
SomePasses P (x ∷ xs) = P x ⊎ SomePasses P xs

abbrev pub NonePasses : {A : Type 0} → (A → Type 0) → List A → Type 0
NonePasses P [] = Unit {0}
NonePasses P (x ∷ xs) = (¬ P x) × NonePasses P xs

-- the one at this place passes, and none after it does
abbrev pub IsLast : {A : Type 0} → (A → Type 0) → List A → ℕ → Type 0
IsLast P [] k = ⊥
IsLast P (x ∷ xs) zero = P x × NonePasses P xs
IsLast P (x ∷ xs) (suc k) = IsLast P xs k

-- the dep5 answer for a path: the last Files paragraph with a pattern that matches
abbrev pub PatternsMatch : List ℕ → FilesValue → Type 0
PatternsMatch path files = SomePasses (λ (p : PatternValue). Matches p.pieces path) files.patterns

abbrev pub IsDep5Answer : Dep5Value → List ℕ → ℕ → Type 0
IsDep5Answer dep5 path k = IsLast (PatternsMatch path) dep5.files k

-- the table answer for a path: the last record with a glob that matches
abbrev pub GlobsMatch : List ℕ → Annotation → Type 0
GlobsMatch path annotation = SomePasses (λ (g : List GlobPiece). GlobMatches g path) annotation.globs

abbrev pub IsTableAnswer : List Annotation → List ℕ → ℕ → Type 0
IsTableAnswer annotations path k = IsLast (GlobsMatch path) annotations k

-- the texts and the tables among values
abbrev pub texts_among : Items → List (List ℕ)
texts_among no_items = []
texts_among (item (string text) more) = text ∷ texts_among more
texts_among (item _ more) = texts_among more

abbrev pub tables_among : Items → List Members
tables_among no_items = []
tables_among (item (table ms) more) = ms ∷ tables_among more
tables_among (item _ more) = tables_among more

-- a text, or the texts of an array
abbrev pub texts_in : Option Data → List (List ℕ)
texts_in (Some (string text)) = text ∷ []
texts_in (Some (array ds)) = texts_among ds
texts_in _ = []

-- the tables of an array
abbrev pub tables_in : Option Data → List Members
tables_in (Some (array ds)) = tables_among ds
tables_in _ = []

-- the text, read as a glob, matches the path
abbrev pub PathMatches : List ℕ → List ℕ → Type 0
PathMatches path text = (glob : List GlobPiece) × (read_glob (chars text) ≡ Some glob) × GlobMatches glob path

-- a text of the record at `path` matches
abbrev pub PathsMatch : List ℕ → Members → Type 0
PathsMatch path table' = SomePasses (PathMatches path) (texts_in (get_member (codes "path") table'))

-- the written answer of a `REUSE.toml` for a path: the last of its `annotations` with a `path` that matches
abbrev pub IsWrittenAnswer : Members → List ℕ → ℕ → Type 0
IsWrittenAnswer document path k = IsLast (PathsMatch path) (tables_in (get_member (codes "annotations") document)) k
