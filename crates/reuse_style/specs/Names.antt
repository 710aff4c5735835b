-- The kind of a file name, by the table of names (docs/RULES.md, "Styles").
use Rattle.std.specs.Prelude.{ℕ, ◌-◌, Bool, not, ◌==◌, List, [], ◌∷◌, ◌++◌, map, length, drop, Option, Some, None}
use Rattle.std.specs.Prelude.{unwrap_or, if◌then◌else◌, codes}
use Rattle.std.specs.List.{after_last, suffix_len}
use Rattle.std.specs.Option.{option_or}
use Rattle.std.specs.Str.{str_eq_ignore_ascii_case}
use Rattle.reuse_style.specs.declared.style.Kind.{Kind}
use Rattle.reuse_style.specs.declared.style.Kind.TheVariants.{Style, Uncommentable, Unknown}
use Rattle.reuse_style.specs.declared.table.TableStyle.{TableStyle}
use Rattle.reuse_style.specs.declared.table.TableStyle.TheVariants.{Python, C, Css, Html, Haskell, Tex, Lisp, Semicolon}
use Rattle.reuse_style.specs.declared.table.TableStyle.TheVariants.{Ml, Vim}
use Rattle.reuse_style.specs.declared.table.TableKind.{TableKind}
use Rattle.reuse_style.specs.declared.table.TableKind.TheVariants as table
use Rattle.reuse_style.specs.Styles.{table_style}

-- the bytes `/` and `.`
abbrev pub slash : ℕ
slash = 47

abbrev pub dot : ℕ
dot = 46

-- what the first entry has whose name is the same but for the case of ASCII letters
unfoldable pub lookup : {A : Type 0} → List (List ℕ × A) → List ℕ → Option A
lookup [] name = None
lookup (entry ∷ table) name = if str_eq_ignore_ascii_case entry.0 name then Some entry.1 else lookup table name

-- what stands from the last element on that passes a test, or all where none does
abbrev pub from_last : (ℕ → Bool) → List ℕ → List ℕ
from_last p xs = drop (length xs - suffix_len (λ x. not (p x)) xs - 1) xs

-- a kind that the table has
abbrev pub table_kind : TableKind → Kind
table_kind (table.Style style) = Style (table_style style)
table_kind table.Uncommentable = Uncommentable

-- the names of one kind, and of a style
abbrev pub names_of : Kind → List (List ℕ) → List (List ℕ × Kind)
names_of kind names = map (λ name. (name, kind)) names

abbrev pub styled : TableStyle → List (List ℕ) → List (List ℕ × Kind)
styled style names = names_of (Style (table_style style)) names

-- the table of names: endings, and whole names
unfoldable pub table_of_names : List (List ℕ × Kind)
table_of_names =
    styled Python (codes ".py" ∷ codes ".sh" ∷ codes ".bash" ∷ codes ".rb" ∷ codes ".pl" ∷ codes ".yaml" ∷ codes ".yml"
    ∷ codes ".toml" ∷ codes ".cmake" ∷ codes ".mk" ∷ codes "Makefile" ∷ codes "Dockerfile" ∷ codes "CMakeLists.txt"
    ∷ codes ".gitignore" ∷ [])
    ++ styled C (codes ".c" ∷ codes ".h" ∷ codes ".cc" ∷ codes ".cpp" ∷ codes ".hpp" ∷ codes ".rs" ∷ codes ".go" ∷ codes
    ".java" ∷ codes ".js" ∷ codes ".ts" ∷ codes ".kt" ∷ codes ".swift" ∷ codes ".scala" ∷ codes ".php" ∷ [])
    ++ styled Css (codes ".css" ∷ [])
    ++ styled Html (codes ".html" ∷ codes ".htm" ∷ codes ".xml" ∷ codes ".md" ∷ [])
    ++ styled Haskell (codes ".hs" ∷ codes ".lua" ∷ codes ".sql" ∷ [])
    ++ styled Tex (codes ".tex" ∷ codes ".sty" ∷ codes ".cls" ∷ codes ".erl" ∷ [])
    ++ styled Lisp (codes ".el" ∷ codes ".lisp" ∷ codes ".scm" ∷ codes ".clj" ∷ [])
    ++ styled Semicolon (codes ".asm" ∷ codes ".ini" ∷ [])
    ++ styled Ml (codes ".ml" ∷ codes ".mli" ∷ [])
    ++ styled Vim (codes ".vim" ∷ [])
    ++ names_of Uncommentable (codes ".json" ∷ codes ".png" ∷ codes ".jpg" ∷ codes ".jpeg" ∷ codes ".gif" ∷ codes ".ico"
    ∷ codes ".pdf" ∷ codes ".csv" ∷ codes ".svg" ∷ [])

-- the kind of a path: by the whole of its last part, else by that from its last dot on
abbrev pub kind_of_name : List ℕ → Kind
kind_of_name path =
    let part = after_last (λ b. b == slash) path in
    unwrap_or (option_or (lookup table_of_names part) (lookup table_of_names (from_last (λ b. b == dot) part))) Unknown

-- the kind that own names give a name, else the table's
abbrev pub joined : (List ℕ → Option Kind) → List ℕ → Option Kind
joined own name = option_or (own name) (lookup table_of_names name)

-- the kind of a path where own names stand before the table's: by the whole of its last part, else by that from its
-- last dot on
unfoldable pub kind_in : (List ℕ → Option Kind) → List ℕ → Kind
kind_in own path =
    let part = after_last (λ b. b == slash) path in
    unwrap_or (option_or (joined own part) (joined own (from_last (λ b. b == dot) part))) Unknown
