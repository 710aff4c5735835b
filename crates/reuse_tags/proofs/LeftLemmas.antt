-- A text that holds nothing that the amendments name has no value that they leave.
use Rattle.std.proofs.Common.{◌≡◌, ℕ, Bool, true, false, List, [], ◌∷◌, ◌++◌, take, Option, Some, None, refl, ap, ◌∙◌}
use Rattle.std.specs.Prelude.{◌||◌}
use Rattle.std.specs.Option.{option_map_or}
use Rattle.reuse_text.specs.Text.{TextLine, line_bytes, ending_bytes, file_lines, mark_len_of}
use Rattle.reuse_notice.specs.Tags.{licence_lead, contributor_lead}
use Rattle.reuse_amend.specs.declared.amendments.Amendments.{Amendments}
use Rattle.reuse_amend.specs.Named.{leaves_licence, leaves_contributor, leaves_notice}
use Rattle.reuse_amend.specs.Searched.{holds_named}
use Rattle.reuse_amend.proofs.EndLemmas.{IsEnd}
use Rattle.reuse_amend.proofs.PartLemmas.{Anything}
use Rattle.reuse_amend.proofs.SearchedLemmas.{unnamed-front, unnamed-behind, or_false}
use Rattle.reuse_amend.proofs.SearchedLemmas.{unheld_licence, unheld_contributor, unheld_notice}
use Rattle.reuse_tags.specs.Ignored.{read_part, ignores_next}
use Rattle.reuse_tags.specs.Reading.{TagText, value_of, licence_tag, contributor_tag, notice_tag}
use Rattle.reuse_tags.specs.Around.{around_of}
use Rattle.reuse_tags.specs.Left.{left_by, has_licence, has_contributor, has_notice, has_in_line, has_in_lines}
use Rattle.reuse_tags.specs.Left.{leaves_values}
use Rattle.reuse_tags.proofs.PlaceLemmas.{tag_last, notice_tag-last, joined}
use Rattle.reuse_tags.proofs.LawLemmas.{bytes_of, file_bytes}

module _ (a : Amendments) where
  value_unheld : (line : List ℕ) (t : TagText) → IsEnd Anything (read_part line) t.rest → holds_named a line ≡ false
      → holds_named a (value_of t) ≡ false
  value_unheld line t last e =
      let p = around_of line (read_part line) t in
      unnamed-behind a p.before p.value
      (unnamed-front a (p.before ++ p.value) p.behind (ap (holds_named a) (joined line t last) ∙ e))

  licence_unheld : (line : List ℕ) → holds_named a line ≡ false → has_licence (left_by a) (read_part line) ≡ false
  licence_unheld line e = by (licence_tag (read_part line)) refl
    where
      by : (o : Option TagText) → licence_tag (read_part line) ≡ o
          → option_map_or (λ t. leaves_licence a (value_of t)) o false ≡ false
      by None found = refl
      by (Some t) found =
          unheld_licence a (value_of t) (value_unheld line t (tag_last licence_lead (read_part line) t found) e)

  contributor_unheld : (line : List ℕ) → holds_named a line ≡ false
      → has_contributor (left_by a) (read_part line) ≡ false
  contributor_unheld line e = by (contributor_tag (read_part line)) refl
    where
      by : (o : Option TagText) → contributor_tag (read_part line) ≡ o
          → option_map_or (λ t. leaves_contributor a (value_of t)) o false ≡ false
      by None found = refl
      by (Some t) found =
          unheld_contributor a (value_of t) (value_unheld line t (tag_last contributor_lead (read_part line) t found) e)

  notice_unheld : (line : List ℕ) → holds_named a line ≡ false → has_notice (left_by a) (read_part line) ≡ false
  notice_unheld line e = by (notice_tag (read_part line)) refl
    where
      by : (o : Option TagText) → notice_tag (read_part line) ≡ o
          → option_map_or (λ t. leaves_notice a (value_of t)) o false ≡ false
      by None found = refl
      by (Some t) found =
          unheld_notice a (value_of t) (value_unheld line t (notice_tag-last (read_part line) t found) e)

  line_unheld : (ignored : Bool) (line : List ℕ) → holds_named a line ≡ false
      → has_in_line (left_by a) ignored line ≡ false
  line_unheld true line e = refl
  line_unheld false line e =
      let part = read_part line in
      or_false (has_licence (left_by a) part || has_contributor (left_by a) part) (has_notice (left_by a) part)
      (or_false (has_licence (left_by a) part) (has_contributor (left_by a) part) (licence_unheld line e)
      (contributor_unheld line e)) (notice_unheld line e)

  lines_unheld : (ignored : Bool) (lines : List (ℕ × TextLine)) → holds_named a (bytes_of lines) ≡ false
      → has_in_lines (left_by a) ignored lines ≡ false
  unfolding has_in_lines
  lines_unheld ignored [] e = refl
  lines_unheld ignored (line ∷ lines) e =
      let own = line.1 in
      let next = ignores_next ignored own.content in
      let whole = unnamed-front a (line_bytes own) (bytes_of lines) e in
      or_false (has_in_line (left_by a) ignored own.content) (has_in_lines (left_by a) next lines)
      (line_unheld ignored own.content (unnamed-front a own.content (ending_bytes own.ending) whole))
      (lines_unheld next lines (unnamed-behind a (line_bytes own) (bytes_of lines) e))

  pub unheld_text : (text : List ℕ) → holds_named a text ≡ false → leaves_values a text ≡ false
  unheld_text text e =
      lines_unheld false (file_lines text)
      (unnamed-behind a (take (mark_len_of text) text) (bytes_of (file_lines text))
      (ap (holds_named a) (file_bytes text) ∙ e))
