-- The lines after the prefix lines are the last lines of a file, and the last of the prefix lines.
use Rattle.std.proofs.Common.{◌≡◌, ℕ, ◌+◌, Bool, true, List, [], ◌∷◌, ◌++◌, append_assoc}
use Rattle.std.proofs.Common.{drop, Option, None, Some, refl, sym, ap, subst, ◌∙◌, inl, inr}
use Rattle.std.specs.Option.{option_map, option_or, option_to_list}
use Rattle.std.proofs.lemmas.Bool.{false≢true, cases_Bool as truth}
use Rattle.std.proofs.lemmas.List.{append-nil, drop-drop, take-append-drop}
use Rattle.reuse_text.specs.Text.{TextLine}
use Rattle.reuse_text.specs.declared.Line.{Line}
use Rattle.reuse_text.specs.Lines.{line_view}
use Rattle.reuse_style.specs.declared.style.Style.{Style}
use Rattle.reuse_style.specs.Styles.{first_lines_of, front_matter_of}
use Rattle.reuse_header.specs.Body.{PlacedLines, is_shebang, is_declaration, without_first, first_lines_count}
use Rattle.reuse_header.specs.Body.{front_matter_count, after_declaration, after_first_lines, body_lines}
use Rattle.reuse_header.specs.Annotation.{first_if, first_lines_in, front_matter_in, prefix_lines, has_lines}
use Rattle.reuse_header.specs.Annotation.{is_last_ended}
use Rattle.reuse_header.specs.Passed.{IsLastOf}

-- ---- the lines after the prefix lines

-- the last of some lines, after some of the first
abbrev pub AreRest : PlacedLines → PlacedLines → Type 0
AreRest lines rest = (n : ℕ) × (rest ≡ drop n lines)

rest_after : (lines some rest : PlacedLines) → AreRest lines some → AreRest some rest → AreRest lines rest
rest_after lines some rest a b = (a.0 + b.0, b.1 ∙ ap (drop b.0) a.1 ∙ drop-drop b.0 a.0 lines)

rest_without : (test : List ℕ → Bool) (lines : PlacedLines) → AreRest lines (without_first test lines)
rest_without test [] = (0, refl)
rest_without test (line ∷ lines) = elim (truth (test line.1.content)) [
  | inl e ↦ (1, rw e refl)
  | inr e ↦ (0, rw e refl)
]

pub body_rest : (style : Style) (lines : PlacedLines) → AreRest lines (body_lines style lines)
unfolding body_lines
body_rest style lines =
    let shebang = without_first is_shebang lines in
    let declared = after_declaration style lines in
    let first = after_first_lines style lines in
    rest_after lines first _
    (rest_after lines declared first
    (rest_after lines shebang declared (rest_without is_shebang lines) (rest_without (is_declaration style) shebang))
    (first_lines_count (first_lines_of style) declared, refl))
    (front_matter_count (front_matter_of style) first, refl)

-- ---- the lines before them

first_rest : (test : List ℕ → Bool) (lines : PlacedLines) → lines ≡ first_if test lines ++ without_first test lines
first_rest test [] = refl
first_rest test (line ∷ lines) = elim (truth (test line.1.content)) [ inl e ↦ rw e refl | inr e ↦ rw e refl ]

-- four parts, one behind the other
joined_four : (a b c d p l m n o : PlacedLines) → l ≡ a ++ m → m ≡ b ++ n → n ≡ c ++ o → o ≡ d ++ p
    → l ≡ (a ++ (b ++ (c ++ d))) ++ p
joined_four a b c d p l m n o la mb nc od =
    la
    ∙ ap (λ (xs : PlacedLines). a ++ xs)
    (mb ∙ ap (λ (xs : PlacedLines). b ++ xs) (nc ∙ ap (λ (xs : PlacedLines). c ++ xs) od))
    ∙ sym (append_assoc a (b ++ (c ++ d)) p
    ∙ ap (λ (xs : PlacedLines). a ++ xs)
    (append_assoc b (c ++ d) p ∙ ap (λ (xs : PlacedLines). b ++ xs) (append_assoc c d p)))

pub prefix_body : (style : Style) (lines : PlacedLines) → lines ≡ prefix_lines style lines ++ body_lines style lines
unfolding prefix_lines body_lines
prefix_body style lines =
    let shebang = without_first is_shebang lines in
    let declared = after_declaration style lines in
    let first = after_first_lines style lines in
    joined_four _ _ _ _ _ lines shebang declared first (first_rest is_shebang lines) (first_rest (is_declaration style) shebang)
    (sym (take-append-drop (first_lines_count (first_lines_of style) declared) declared))
    (sym (take-append-drop (front_matter_count (front_matter_of style) first) first))

-- ---- the last of passed lines

pub last_of_one : (last : Option Line) (lines : PlacedLines) → option_to_list (option_map line_view last) ≡ lines
    → IsLastOf last lines
last_of_one None lines is = subst (IsLastOf None) is (record { some = refl; ended = refl })
last_of_one (Some line) lines is = subst (IsLastOf (Some line)) is (record { some = refl; ended = refl })

ended-append : (xs : PlacedLines) (y : ℕ × TextLine) (ys : PlacedLines)
    → is_last_ended (xs ++ y ∷ ys) ≡ is_last_ended (y ∷ ys)
ended-append [] y ys = refl
ended-append (x ∷ []) y ys = refl
ended-append (x ∷ z ∷ xs) y ys = ended-append (z ∷ xs) y ys

has-append : (xs : PlacedLines) (y : ℕ × TextLine) (ys : PlacedLines) → has_lines (xs ++ y ∷ ys) ≡ true
has-append [] y ys = refl
has-append (x ∷ xs) y ys = refl

pub last_of_both : (first second : Option Line) (xs ys : PlacedLines) → IsLastOf first xs → IsLastOf second ys
    → IsLastOf (option_or second first) (xs ++ ys)
last_of_both first None xs [] a b = subst (IsLastOf first) (sym (append-nil xs)) a
last_of_both first (Some line) xs [] a b = absurd (false≢true (sym b.some))
last_of_both first None xs (y ∷ ys) a b = absurd (false≢true b.some)
last_of_both first (Some line) xs (y ∷ ys) a b = record {
  some = b.some ∙ sym (has-append xs y ys);
  ended = b.ended ∙ sym (ended-append xs y ys);
}

-- the last of the prefix lines is that of the last of their parts which has lines
pub last_of_prefix : (style : Style) (lines shebang_left left : PlacedLines) (shebang declaration first matter : Option Line)
    → shebang_left ≡ without_first is_shebang lines → left ≡ after_first_lines style lines
    → option_to_list (option_map line_view shebang) ≡ first_if is_shebang lines
    → option_to_list (option_map line_view declaration) ≡ first_if (is_declaration style) shebang_left
    → IsLastOf first (first_lines_in style (after_declaration style lines))
    → IsLastOf matter (front_matter_in style left)
    → IsLastOf (option_or (option_or (option_or matter first) declaration) shebang) (prefix_lines style lines)
unfolding prefix_lines
last_of_prefix style lines shebang_left left shebang declaration first matter behind last s d f m =
    last_of_both shebang (option_or (option_or matter first) declaration) (first_if is_shebang lines) _
    (last_of_one shebang _ s)
    (last_of_both declaration (option_or matter first) (first_if (is_declaration style) (without_first is_shebang lines)) _
    (last_of_one declaration _ (d ∙ ap (first_if (is_declaration style)) behind))
    (last_of_both first matter (first_lines_in style (after_declaration style lines)) _ f
    (subst (λ (xs : PlacedLines). IsLastOf matter (front_matter_in style xs)) last m)))
