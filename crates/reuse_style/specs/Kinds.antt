-- The kind that a project gives a file, by the names of its file of styles, by its rules and by the table of names
-- (docs/RULES.md, "Rules").
use Rattle.std.specs.Prelude.{ℕ, Bool, List, [], ◌∷◌, ◌==◌, ◌&&◌, Option, Some, None, is_some, unwrap_or, find}
use Rattle.std.specs.Prelude.{if◌then◌else◌}
use Rattle.std.specs.List.{after_last, filter}
use Rattle.std.specs.Option.{option_or}
use Rattle.reuse_style.specs.declared.style.Kind.{Kind}
use Rattle.reuse_style.specs.declared.style.Kind.TheVariants.{Unknown}
use Rattle.reuse_style.specs.Names.{slash, dot, from_last, lookup, kind_in, table_of_names}
use Rattle.reuse_style.specs.StyleFile.{kind_named}
use Rattle.reuse_style.specs.Rules.{Rule, CommentRules, first_line_of, may_fit, line_fits}

-- what a project gives files itself: the kinds of its own names, and its styles with its rules
pub record OwnKinds : Type 0 where
  pub names : List ℕ → Option Kind
  pub comments : CommentRules

-- the same by the own names as they are kept
pub record OwnEntries : Type 0 where
  pub entries : List (List ℕ × Kind)
  pub comments : CommentRules

abbrev pub kinds_by : OwnEntries → OwnKinds
kinds_by own = record { names = lookup own.entries; comments = own.comments }

-- the last part of a path
abbrev pub part_of : List ℕ → List ℕ
part_of path = after_last (λ b. b == slash) path

-- names have the last part of a path, or what stands from its last dot on
abbrev pub has_part : (List ℕ → Option Kind) → List ℕ → Bool
has_part names part = is_some (option_or (names part) (names (from_last (λ b. b == dot) part)))

abbrev pub has_name : (List ℕ → Option Kind) → List ℕ → Bool
has_name names path = has_part names (part_of path)

-- the rules that may fit a file of this path, in order: none where the own names have it
unfoldable pub candidates : OwnKinds → List ℕ → List Rule
candidates own path =
    if has_name own.names path then []
    else filter (may_fit (has_name (lookup table_of_names) path) (part_of path)) own.comments.rules

-- a rule fits a file of this path and of these bytes, which has no own name
abbrev pub fits_file : List ℕ → List ℕ → Rule → Bool
fits_file path file rule =
    may_fit (has_name (lookup table_of_names) path) (part_of path) rule && line_fits (first_line_of file) rule

-- the kind by a rule; where there is none, by the names
abbrev pub kind_by : OwnKinds → List ℕ → Option Rule → Kind
kind_by own path None = kind_in own.names path
kind_by own path (Some rule) = unwrap_or (kind_named own.comments.styles rule.style) Unknown

-- the kind of a file of this path and of these bytes: that of the first rule that fits it, and else that of its name
unfoldable pub kind_of_file : OwnKinds → List ℕ → List ℕ → Kind
kind_of_file own path file = kind_by own path (find (line_fits (first_line_of file)) (candidates own path))

-- the kind that a file of this path has whatever it holds: it is known unless the first of these rules asks for a line
abbrev pub kind_before : OwnKinds → List ℕ → List Rule → Option Kind
kind_before own path [] = Some (kind_in own.names path)
kind_before own path (rule ∷ rules) = if is_some rule.first_line then None else Some (kind_by own path (Some rule))

unfoldable pub kind_unread : OwnKinds → List ℕ → Option Kind
kind_unread own path = kind_before own path (candidates own path)
