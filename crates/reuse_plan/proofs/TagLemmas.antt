-- What amending each tag of a text keeps of it.
use Rattle.std.proofs.Common.{◌≡◌, inl, inr, ℕ, Bool, true, false, List, [], ◌∷◌, ◌++◌, take, Option, Some, None, refl}
use Rattle.std.proofs.Common.{sym}
use Rattle.std.specs.Option.{option_map, option_and_then}
use Rattle.std.proofs.lemmas.Option.{same_Some}
use Rattle.reuse_text.specs.Text.{TextLine, file_lines, line_bytes, mark_len_of}
use Rattle.reuse_amend.specs.declared.amendments.Amendments.{Amendments}
use Rattle.reuse_tags.specs.Everywhere.{amended_everywhere, bytes_made, kept_bytes, line_amended, lines_made}
use Rattle.reuse_tags.specs.Ignored.{ignores_next}
use Rattle.reuse_tags.proofs.LawLemmas.{line_change}
use Rattle.reuse_plan.specs.Amended.{BecomesLine, BecomeLines, KeepsOutsideValues}

becomes_line : (a : Amendments) (ignored : Bool) (line : TextLine) (made : List ℕ)
    → bytes_made a ignored line ≡ Some made → BecomesLine line made
becomes_line a true line made e = inl (sym (same_Some (line_bytes line) made e))
becomes_line a false line made e = of_line (line_amended a line.content) refl e
  where
    of_line : (kept : Option (Option (List ℕ))) → line_amended a line.content ≡ kept
        → option_map (kept_bytes line.ending) kept ≡ Some made → BecomesLine line made
    of_line None is h = absurd (cc)
    of_line (Some kept) is h =
        inr (kept, line_change a line.content kept is, sym (same_Some (kept_bytes line.ending kept) made h))

become_lines : (a : Amendments) (ignored : Bool) (lines : List (ℕ × TextLine)) (made : List ℕ)
    → lines_made a ignored lines ≡ Some made → BecomeLines lines made
unfolding lines_made BecomeLines
become_lines a ignored [] made e = sym (same_Some [] made e)
become_lines a ignored (line ∷ lines) made e =
    of_first (become_lines a (ignores_next ignored line.1.content) lines) (bytes_made a ignored line.1) refl e
  where
    rest_of : ((bytes : List ℕ) → lines_made a (ignores_next ignored line.1.content) lines ≡ Some bytes
        → BecomeLines lines bytes)
        → (first : List ℕ) → bytes_made a ignored line.1 ≡ Some first → (rest : Option (List ℕ))
        → lines_made a (ignores_next ignored line.1.content) lines ≡ rest
        → option_map (λ (bytes : List ℕ). first ++ bytes) rest ≡ Some made → BecomeLines (line ∷ lines) made
    rest_of behind first is None rest h = absurd (cc)
    rest_of behind first is (Some bytes) rest h = (
      first,
      bytes,
      sym (same_Some (first ++ bytes) made h),
      becomes_line a ignored line.1 first is,
      behind bytes rest,
    )

    of_first : ((bytes : List ℕ) → lines_made a (ignores_next ignored line.1.content) lines ≡ Some bytes
        → BecomeLines lines bytes)
        → (first : Option (List ℕ)) → bytes_made a ignored line.1 ≡ first
        → option_and_then (λ made. option_map (λ rest. made ++ rest)
        (lines_made a (ignores_next ignored line.1.content) lines)) first ≡ Some made → BecomeLines (line ∷ lines) made
    of_first behind None is h = absurd (cc)
    of_first behind (Some first) is h =
        rest_of behind first is (lines_made a (ignores_next ignored line.1.content) lines) refl h

-- each byte outside of the values stays
pub keeps_values : (a : Amendments) (bytes made : List ℕ) → amended_everywhere a bytes ≡ Some made
    → KeepsOutsideValues bytes made
keeps_values a bytes made e = of_lines (lines_made a false (file_lines bytes)) refl e
  where
    of_lines : (lines : Option (List ℕ)) → lines_made a false (file_lines bytes) ≡ lines
        → option_map (λ (rest : List ℕ). take (mark_len_of bytes) bytes ++ rest) lines ≡ Some made
        → KeepsOutsideValues bytes made
    of_lines None is h = absurd (cc)
    of_lines (Some rest) is h = (
      rest,
      sym (same_Some (take (mark_len_of bytes) bytes ++ rest) made h),
      become_lines a false (file_lines bytes) rest is,
    )
