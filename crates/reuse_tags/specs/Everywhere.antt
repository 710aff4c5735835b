-- What amendments make of each tag of a text, where it stands (this project's own).
use Rattle.std.specs.Prelude.{◌≡◌, ℕ, Bool, true, false, ◌||◌, List, [], ◌∷◌, ◌++◌, take, Option, Some, is_some}
use Rattle.std.specs.Prelude.{unwrap_or, Result, Ok, Err}
use Rattle.std.specs.Option.{option_map, option_map_or, option_and_then}
use Rattle.reuse_text.specs.declared.LineKind.{LineKind}
use Rattle.reuse_text.specs.Text.{TextLine, file_lines, line_bytes, ending_bytes, mark_len_of}
use Rattle.reuse_amend.specs.declared.amendments.Amendments.{Amendments}
use Rattle.reuse_amend.specs.declared.amendments.AmendRefusal.{AmendRefusal}
use Rattle.reuse_amend.specs.AmendmentViews.{IsAnswer}
use Rattle.reuse_amend.specs.Amending.{licence_alone, contributor_alone, notice_amended}
use Rattle.reuse_tags.specs.Ignored.{read_part, ignores_next}
use Rattle.reuse_tags.specs.Reading.{TagText, value_of, licence_tag, contributor_tag, notice_tag}
use Rattle.reuse_tags.specs.Around.{around_of, with_value}

-- a line in which a tag's value becomes another one, or none
abbrev pub amended_at : List ℕ → TagText → Option (List ℕ) → Option (List ℕ)
amended_at line t new = with_value (around_of line (read_part line) t) line new

-- a line, amended in its licence, its contributor or its notice: none where it goes; for a licence no answer where it
-- leaves the grammar
abbrev pub licence_amended_in : Amendments → List ℕ → Option (Option (List ℕ))
licence_amended_in a line =
    option_map_or (λ t. option_map (amended_at line t) (licence_alone a (value_of t)))
    (licence_tag (read_part line)) (Some (Some line))

abbrev pub contributor_amended_in : Amendments → List ℕ → Option (List ℕ)
contributor_amended_in a line =
    option_map_or (λ t. amended_at line t (contributor_alone a (value_of t))) (contributor_tag (read_part line))
    (Some line)

abbrev pub notice_amended_in : Amendments → List ℕ → Option (List ℕ)
notice_amended_in a line =
    option_map_or (λ t. amended_at line t (notice_amended a (value_of t))) (notice_tag (read_part line)) (Some line)

-- one after the other
abbrev pub names_amended_in : Amendments → List ℕ → Option (List ℕ)
names_amended_in a line = option_and_then (notice_amended_in a) (contributor_amended_in a line)

abbrev pub line_amended : Amendments → List ℕ → Option (Option (List ℕ))
line_amended a line = option_map (option_and_then (names_amended_in a)) (licence_amended_in a line)

-- the bytes of a line that stays, with its ending
abbrev pub kept_bytes : Option LineKind → Option (List ℕ) → List ℕ
kept_bytes ending kept = option_map_or (λ line. line ++ ending_bytes ending) kept []

-- the bytes that a line becomes, which stays in a region that isn't read
abbrev pub bytes_made : Amendments → Bool → TextLine → Option (List ℕ)
bytes_made a true line = Some (line_bytes line)
bytes_made a false line = option_map (kept_bytes line.ending) (line_amended a line.content)

-- a line has a tag
abbrev pub has_tag : List ℕ → Bool
has_tag line =
    is_some (licence_tag (read_part line)) || is_some (contributor_tag (read_part line))
    || is_some (notice_tag (read_part line))

-- the answer that is expected, where no bytes stand for a line's own
abbrev pub IsLineAnswer : Option (List ℕ) → List ℕ → Result (Option (List ℕ)) AmendRefusal → Type 0
IsLineAnswer expected own (Ok made) = expected ≡ Some (unwrap_or made own)
IsLineAnswer expected own (Err refusal) = IsAnswer expected (Err refusal)

-- the bytes that lines become
unfoldable pub lines_made : Amendments → Bool → List (ℕ × TextLine) → Option (List ℕ)
lines_made a ignored [] = Some []
lines_made a ignored (line ∷ lines) =
    option_and_then
    (λ made. option_map (λ rest. made ++ rest) (lines_made a (ignores_next ignored line.1.content) lines))
    (bytes_made a ignored line.1)

-- a text whose tags are amended, none where a licence leaves the grammar
abbrev pub amended_everywhere : Amendments → List ℕ → Option (List ℕ)
amended_everywhere a text =
    option_map (λ rest. take (mark_len_of text) text ++ rest) (lines_made a false (file_lines text))
