-- Lines and texts whose tags are amended: what changes, and what stays.
use Rattle.std.proofs.Common.{◌≡◌, ℕ, ◌+◌, Bool, true, false, cond, List, [], ◌∷◌, ◌++◌, length, take, Option, Some}
use Rattle.std.proofs.Common.{None, refl, sym, ap, subst, ◌∙◌, inl, inr}
use Rattle.std.specs.Prelude.{◌||◌}
use Rattle.std.specs.Option.{option_map, option_map_or, option_and_then}
use Rattle.std.proofs.lemmas.Bool.{or_parts}
use Rattle.std.proofs.lemmas.List.{take-append-drop}
use Rattle.reuse_text.specs.Text.{TextLine, line_bytes, text_of, lines_of, placed, file_lines, mark_len_of, after_mark}
use Rattle.reuse_text.proofs.TextLemmas.{text_of-lines_of}
use Rattle.reuse_notice.specs.Tags.{licence_lead, contributor_lead}
use Rattle.reuse_amend.specs.declared.amendments.Amendments.{Amendments}
use Rattle.reuse_amend.specs.Amending.{licence_alone, contributor_alone, notice_amended}
use Rattle.reuse_amend.specs.Named.{names_licence, names_contributor, names_notice}
use Rattle.reuse_amend.proofs.ChoiceLemmas.{was_some}
use Rattle.reuse_amend.proofs.EndLemmas.{IsEnd}
use Rattle.reuse_amend.proofs.NamedLemmas.{other_licence-kept, other_contributor-kept, other_notice-kept}
use Rattle.reuse_amend.proofs.PartLemmas.{Anything}
use Rattle.reuse_tags.specs.Ignored.{read_part, ignores_next}
use Rattle.reuse_tags.specs.Reading.{TagText, value_of, licence_tag, contributor_tag, notice_tag}
use Rattle.reuse_tags.specs.Around.{around_of, is_bare}
use Rattle.reuse_tags.specs.Left.{named_by, has_licence, has_contributor, has_notice, has_in_line, has_in_lines}
use Rattle.reuse_tags.specs.Left.{names_values}
use Rattle.reuse_tags.specs.Everywhere
use Rattle.reuse_tags.specs.Placed.{MayChangeAt, IsChangedInValues}
use Rattle.reuse_tags.proofs.PlaceLemmas.{tag_last, notice_tag-last, joined}

-- ---- what changes

change_at : (find : List ℕ → Option TagText) (line : List ℕ) (t : TagText) → find (read_part line) ≡ Some t
    → IsEnd Anything (read_part line) t.rest → (new : Option (List ℕ))
    → MayChangeAt find (Some line) (Everywhere.amended_at line t new)
change_at find line t found last (Some new) = inr (record {
  tag = t;
  found = found;
  joined = sym (joined line t last);
  changed = (new, refl);
})
change_at find line t found last None = by (is_bare (around_of line (read_part line) t)) refl
  where
    by : (b : Bool) → is_bare (around_of line (read_part line) t) ≡ b
        → MayChangeAt find (Some line) (cond b None (Some line))
    by true e = inr (record { tag = t; found = found; joined = sym (joined line t last); changed = e })
    by false e = inl refl

licence_change : (a : Amendments) (line : List ℕ) (kept : Option (List ℕ))
    → Everywhere.licence_amended_in a line ≡ Some kept → MayChangeAt licence_tag (Some line) kept
licence_change a line kept e = by (licence_tag (read_part line)) refl e
  where
    by : (o : Option TagText) → licence_tag (read_part line) ≡ o → option_map_or
        (λ t. option_map (Everywhere.amended_at line t) (licence_alone a (value_of t))) o (Some (Some line)) ≡ Some kept
        → MayChangeAt licence_tag (Some line) kept
    by None found is = let same : Some line ≡ kept = cc is in inl (sym same)
    by (Some t) found is =
        let h = was_some (Everywhere.amended_at line t) (licence_alone a (value_of t)) kept is in
        subst (MayChangeAt licence_tag (Some line)) h.2
        (change_at licence_tag line t found (tag_last licence_lead (read_part line) t found) h.0)

contributor_change : (a : Amendments) (line : List ℕ)
    → MayChangeAt contributor_tag (Some line) (Everywhere.contributor_amended_in a line)
contributor_change a line = by (contributor_tag (read_part line)) refl
  where
    by : (o : Option TagText) → contributor_tag (read_part line) ≡ o → MayChangeAt contributor_tag (Some line)
        (option_map_or (λ t. Everywhere.amended_at line t (contributor_alone a (value_of t))) o (Some line))
    by None found = inl refl
    by (Some t) found = change_at contributor_tag line t found (tag_last contributor_lead (read_part line) t found)
        (contributor_alone a (value_of t))

notice_change : (a : Amendments) (line : List ℕ)
    → MayChangeAt notice_tag (Some line) (Everywhere.notice_amended_in a line)
notice_change a line = by (notice_tag (read_part line)) refl
  where
    by : (o : Option TagText) → notice_tag (read_part line) ≡ o → MayChangeAt notice_tag (Some line)
        (option_map_or (λ t. Everywhere.amended_at line t (notice_amended a (value_of t))) o (Some line))
    by None found = inl refl
    by (Some t) found = change_at notice_tag line t found (notice_tag-last (read_part line) t found)
        (notice_amended a (value_of t))

pub line_change : (a : Amendments) (line : List ℕ) (kept : Option (List ℕ)) → Everywhere.line_amended a line ≡ Some kept
    → IsChangedInValues line kept
line_change a line kept e =
    let h = was_some (option_and_then (Everywhere.names_amended_in a)) (Everywhere.licence_amended_in a line) kept e in
    subst (IsChangedInValues line) h.2 (by h.0 (licence_change a line h.0 h.1))
  where
    third : (o : Option (List ℕ)) → MayChangeAt notice_tag o (option_and_then (Everywhere.notice_amended_in a) o)
    third None = refl
    third (Some next) = notice_change a next

    by : (first : Option (List ℕ)) → MayChangeAt licence_tag (Some line) first
        → IsChangedInValues line (option_and_then (Everywhere.names_amended_in a) first)
    by None change = record { first = None; second = None; licence = change; contributor = refl; notice = refl }
    by (Some next) change = record {
      first = Some next;
      second = Everywhere.contributor_amended_in a next;
      licence = change;
      contributor = contributor_change a next;
      notice = third (Everywhere.contributor_amended_in a next);
    }

-- ---- what stays

own_value : (line : List ℕ) (t : TagText) → IsEnd Anything (read_part line) t.rest
    → Everywhere.amended_at line t (Some (value_of t)) ≡ Some line
own_value line t last = ap (λ l. Some l) (joined line t last)

licence_stays : (a : Amendments) (line : List ℕ) → has_licence (named_by a) (read_part line) ≡ false
    → Everywhere.licence_amended_in a line ≡ Some (Some line)
licence_stays a line e = by (licence_tag (read_part line)) refl e
  where
    by : (o : Option TagText) → licence_tag (read_part line) ≡ o
        → option_map_or (λ t. names_licence a (value_of t)) o false ≡ false → option_map_or
        (λ t. option_map (Everywhere.amended_at line t) (licence_alone a (value_of t))) o (Some (Some line))
        ≡ Some (Some line)
    by None found other = refl
    by (Some t) found other =
        ap (option_map (Everywhere.amended_at line t)) (other_licence-kept a (value_of t) other)
        ∙ ap (λ l. Some l) (own_value line t (tag_last licence_lead (read_part line) t found))

contributor_stays : (a : Amendments) (line : List ℕ) → has_contributor (named_by a) (read_part line) ≡ false
    → Everywhere.contributor_amended_in a line ≡ Some line
contributor_stays a line e = by (contributor_tag (read_part line)) refl e
  where
    by : (o : Option TagText) → contributor_tag (read_part line) ≡ o
        → option_map_or (λ t. names_contributor a (value_of t)) o false ≡ false
        → option_map_or (λ t. Everywhere.amended_at line t (contributor_alone a (value_of t))) o (Some line) ≡ Some line
    by None found other = refl
    by (Some t) found other =
        ap (Everywhere.amended_at line t) (other_contributor-kept a (value_of t) other)
        ∙ own_value line t (tag_last contributor_lead (read_part line) t found)

-- the bytes of some lines
abbrev pub bytes_of : List (ℕ × TextLine) → List ℕ
bytes_of [] = []
bytes_of (line ∷ lines) = line_bytes line.1 ++ bytes_of lines

placed_bytes : (start : ℕ) (lines : List TextLine) → bytes_of (placed start lines) ≡ text_of lines
placed_bytes start [] = refl
placed_bytes start (line ∷ lines) =
    ap (λ rest. line_bytes line ++ rest)
    (placed_bytes (start + length (line_bytes line)) lines)

-- a text is its mark and its lines
pub file_bytes : (text : List ℕ) → take (mark_len_of text) text ++ bytes_of (file_lines text) ≡ text
file_bytes text =
    ap (λ rest. take (mark_len_of text) text ++ rest)
    (placed_bytes (mark_len_of text) (lines_of (after_mark text)) ∙ text_of-lines_of (after_mark text))
    ∙ take-append-drop (mark_len_of text) text

module _ (a : Amendments) (until : a.until ≡ None) (prefix : a.prefix ≡ None) where
  notice_stays : (line : List ℕ) → has_notice (named_by a) (read_part line) ≡ false
      → Everywhere.notice_amended_in a line ≡ Some line
  notice_stays line e = by (notice_tag (read_part line)) refl e
    where
      by : (o : Option TagText) → notice_tag (read_part line) ≡ o
          → option_map_or (λ t. names_notice a (value_of t)) o false ≡ false
          → option_map_or (λ t. Everywhere.amended_at line t (notice_amended a (value_of t))) o (Some line) ≡ Some line
      by None found other = refl
      by (Some t) found other =
          ap (Everywhere.amended_at line t) (other_notice-kept a (value_of t) other until prefix)
          ∙ own_value line t (notice_tag-last (read_part line) t found)

  line_stays : (line : List ℕ) → has_in_line (named_by a) false line ≡ false
      → Everywhere.line_amended a line ≡ Some (Some line)
  line_stays line e =
      let part = read_part line in
      let outer = or_parts (has_licence (named_by a) part || has_contributor (named_by a) part)
      (has_notice (named_by a) part) e in
      let inner = or_parts (has_licence (named_by a) part) (has_contributor (named_by a) part) outer.0 in
      ap (option_map (option_and_then (Everywhere.names_amended_in a))) (licence_stays a line inner.0)
      ∙ ap (λ o. Some (option_and_then (Everywhere.notice_amended_in a) o)) (contributor_stays a line inner.1)
      ∙ ap (λ o. Some o) (notice_stays line outer.1)

  bytes_stay : (ignored : Bool) (line : TextLine) → has_in_line (named_by a) ignored line.content ≡ false
      → Everywhere.bytes_made a ignored line ≡ Some (line_bytes line)
  bytes_stay true line e = refl
  bytes_stay false line e = ap (option_map (Everywhere.kept_bytes line.ending)) (line_stays line.content e)

  lines_stay : (ignored : Bool) (lines : List (ℕ × TextLine)) → has_in_lines (named_by a) ignored lines ≡ false
      → Everywhere.lines_made a ignored lines ≡ Some (bytes_of lines)
  unfolding has_in_lines Everywhere.lines_made
  lines_stay ignored [] e = refl
  lines_stay ignored (line ∷ lines) e =
      let both = or_parts (has_in_line (named_by a) ignored line.1.content)
      (has_in_lines (named_by a) (ignores_next ignored line.1.content) lines) e in
      ap (option_and_then (λ made. option_map (λ rest. made ++ rest)
      (Everywhere.lines_made a (ignores_next ignored line.1.content) lines))) (bytes_stay ignored line.1 both.0)
      ∙ ap (option_map (λ rest. line_bytes line.1 ++ rest))
      (lines_stay (ignores_next ignored line.1.content) lines both.1)

  pub text_stays : (text : List ℕ) → names_values a text ≡ false → Everywhere.amended_everywhere a text ≡ Some text
  text_stays text e =
      ap (option_map (λ rest. take (mark_len_of text) text ++ rest)) (lines_stay false (file_lines text) e)
      ∙ ap (λ all. Some all) (file_bytes text)
