-- Which lines of a block hold a text.
use Rattle.std.proofs.Common.{◌≡◌, ℕ, Bool, true, false, List, [], ◌∷◌, ◌++◌, map, refl, sym, ap, ◌∙◌}
use Rattle.std.specs.Prelude.{not, ◌&&◌, ◌||◌}
use Rattle.std.specs.List.{list_any}
use Rattle.std.proofs.lemmas.List.Folds.{list_any-append}
use Rattle.reuse_notice.specs.declared.infos.Info.{Info}
use Rattle.reuse_header.specs.Marks.{LineMarks}
use Rattle.reuse_header.specs.Writing.{inner_lines, joined, set_off, no_lines, separator_of, holder_lines}
use Rattle.reuse_header.specs.Writing.{licence_lines, free_lines, contributor_text, licence_text}
use Rattle.reuse_header.proofs.WritingLemmas.{no_lines-append, no_lines-map}

module _ (test : List ℕ → Bool) where
  or_assoc : (a b c : Bool) → (a || (b || c)) ≡ ((a || b) || c)
  or_assoc true b c = refl
  or_assoc false b c = refl

  or_false : (a : Bool) → (a || false) ≡ a
  or_false true = refl
  or_false false = refl

  or_true : (a : Bool) → (a || true) ≡ true
  or_true true = refl
  or_true false = refl

  or_moved : (a b c : Bool) → (a || (b || c)) ≡ (b || (a || c))
  or_moved true b c = sym (or_true b)
  or_moved false b c = refl

  any-joined : (separator : List ℕ) (front back : List (List ℕ)) → list_any test (joined separator front back)
      ≡ ((not (no_lines front || no_lines back) && test separator) || (list_any test front || list_any test back))
  any-joined separator [] back = refl
  any-joined separator (x ∷ xs) [] = list_any-append test (x ∷ xs) []
  any-joined separator (x ∷ xs) (y ∷ ys) =
      list_any-append test (x ∷ xs) (separator ∷ y ∷ ys)
      ∙ or_moved (list_any test (x ∷ xs)) (test separator) (list_any test (y ∷ ys))

  any-set_off : (separator : List ℕ) (lines : List (List ℕ))
      → list_any test (set_off separator lines) ≡ ((not (no_lines lines) && test separator) || list_any test lines)
  any-set_off separator [] = refl
  any-set_off separator (x ∷ xs) = refl

  -- the tests of parts, one after the other
  all_parts : (j f s a b c d : Bool)
      → (((j && s) || ((a || b) || c)) || ((f && s) || d)) ≡ (((((((j || f) && s) || a) || b) || c)) || d)
  all_parts true f true a b c d = refl
  all_parts true true false a b c d = refl
  all_parts true false false a b c d = refl
  all_parts false true true a b c d = or_true ((a || b) || c)
  all_parts false true false a b c d = refl
  all_parts false false s a b c d = refl

  pub any-inner : (marks : LineMarks) (info : Info)
      → list_any test (inner_lines marks info)
      ≡ ((((((not ((no_lines info.notices && no_lines info.contributors) || no_lines info.licences) || not
      (no_lines info.free)) && test (separator_of marks))
      || list_any test (map (λ text. marks.lead ++ text) info.notices)) || list_any test
      (map (λ value. marks.lead ++ contributor_text value) info.contributors))
      || list_any test (licence_lines marks info)) || list_any test (free_lines marks info))
  unfolding inner_lines
  any-inner marks info =
      let separator = separator_of marks in
      let notices : List (List ℕ) = map (λ text. marks.lead ++ text) info.notices in
      let contributors : List (List ℕ) = map (λ value. marks.lead ++ contributor_text value) info.contributors in
      let front = no_lines-append notices contributors
      ∙ ap (λ b. b && no_lines contributors) (no_lines-map (λ text. marks.lead ++ text) info.notices)
      ∙ ap (λ b. no_lines info.notices && b)
      (no_lines-map (λ value. marks.lead ++ contributor_text value) info.contributors) in
      let back = no_lines-map (λ value. marks.lead ++ licence_text value) info.licences in
      let free = no_lines-map (λ content. marks.mark ++ content) info.free in
      list_any-append test (joined separator (holder_lines marks info) (licence_lines marks info))
      (set_off separator (free_lines marks info))
      ∙ ap (λ b. b || list_any test (set_off separator (free_lines marks info)))
      (any-joined separator (holder_lines marks info) (licence_lines marks info)
      ∙ ap (λ b. (not (b || no_lines (licence_lines marks info)) && test separator)
      || (list_any test (holder_lines marks info) || list_any test (licence_lines marks info))) front
      ∙ ap (λ b. (not ((no_lines info.notices && no_lines info.contributors) || b) && test separator)
      || (list_any test (holder_lines marks info) || list_any test (licence_lines marks info))) back
      ∙ ap
      (λ b. (not ((no_lines info.notices && no_lines info.contributors) || no_lines info.licences) && test separator)
      || (b || list_any test (licence_lines marks info))) (list_any-append test notices contributors))
      ∙ ap
      (λ b. ((not ((no_lines info.notices && no_lines info.contributors) || no_lines info.licences) && test separator)
      || ((list_any test notices || list_any test contributors) || list_any test (licence_lines marks info))) || b)
      (any-set_off separator (free_lines marks info)
      ∙ ap (λ b. (not b && test separator) || list_any test (free_lines marks info)) free)
      ∙ all_parts (not ((no_lines info.notices && no_lines info.contributors) || no_lines info.licences))
      (not (no_lines info.free)) (test separator)
      (list_any test notices) (list_any test contributors) (list_any test (licence_lines marks info))
      (list_any test (free_lines marks info))
