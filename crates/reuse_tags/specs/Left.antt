-- What amendments leave of what they name, in any text, as REUSE's tools read it (this project's own; docs/RULES.md,
-- "What amend leaves").
use Rattle.std.specs.Prelude.{ℕ, Bool, false, not, ◌&&◌, ◌||◌, List, [], ◌∷◌}
use Rattle.std.specs.Option.{option_map_or}
use Rattle.reuse_text.specs.Text.{TextLine, file_lines}
use Rattle.reuse_amend.specs.declared.amendments.Amendments.{Amendments}
use Rattle.reuse_amend.specs.Named.{names_licence, names_contributor, names_notice}
use Rattle.reuse_amend.specs.Named.{leaves_licence, leaves_contributor, leaves_notice}
use Rattle.reuse_tags.specs.Ignored.{read_part, ignores_next}
use Rattle.reuse_tags.specs.Reading.{value_of, licence_tag, contributor_tag, notice_tag}

-- ---- texts in which a sought value stands

-- which values are sought: licences, contributors and notices
pub record Sought : Type 0 where
  pub licence : List ℕ → Bool
  pub contributor : List ℕ → Bool
  pub notice : List ℕ → Bool

-- the licence of a line is sought, and so are the contributor and the notice
abbrev pub has_licence : Sought → List ℕ → Bool
has_licence sought line = option_map_or (λ t. sought.licence (value_of t)) (licence_tag line) false

abbrev pub has_contributor : Sought → List ℕ → Bool
has_contributor sought line = option_map_or (λ t. sought.contributor (value_of t)) (contributor_tag line) false

abbrev pub has_notice : Sought → List ℕ → Bool
has_notice sought line = option_map_or (λ t. sought.notice (value_of t)) (notice_tag line) false

-- a tag of a line has a sought value, outside of a region that isn't read
abbrev pub has_in_line : Sought → Bool → List ℕ → Bool
has_in_line sought ignored line =
    let part = read_part line in
    not ignored && (has_licence sought part || has_contributor sought part || has_notice sought part)

-- one of some lines has
unfoldable pub has_in_lines : Sought → Bool → List (ℕ × TextLine) → Bool
has_in_lines sought ignored [] = false
has_in_lines sought ignored (line ∷ lines) =
    has_in_line sought ignored line.1.content || has_in_lines sought (ignores_next ignored line.1.content) lines

-- a text has
abbrev pub has_sought : Sought → List ℕ → Bool
has_sought sought text = has_in_lines sought false (file_lines text)

-- ---- what amendments leave

-- the values that amendments name, and those of them that they leave
abbrev pub named_by : Amendments → Sought
named_by a = record { licence = names_licence a; contributor = names_contributor a; notice = names_notice a }

abbrev pub left_by : Amendments → Sought
left_by a = record { licence = leaves_licence a; contributor = leaves_contributor a; notice = leaves_notice a }

-- a tag of a text has a value that the amendments name, and one that they leave
abbrev pub names_values : Amendments → List ℕ → Bool
names_values a text = has_sought (named_by a) text

abbrev pub leaves_values : Amendments → List ℕ → Bool
leaves_values a text = has_sought (left_by a) text
