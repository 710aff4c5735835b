-- The loops that pass the first lines of a style, and front matter, keep the last of the lines that they pass.
use Rattle.std.proofs.Common.{◌≡◌, ℕ, suc, Bool, true, false, cond, List, [], ◌∷◌, length, take, drop}
use Rattle.std.proofs.Common.{Option, None, Some, refl}
use Rattle.std.proofs.Common.{◌+◌, sym, ap, subst, ◌∙◌, arith}
use Rattle.std.specs.Option.{option_or}
use Rattle.std.proofs.lemmas.Bool.{false≢true}
use Rattle.reuse_text.specs.Text.{TextLine}
use Rattle.reuse_text.specs.declared.Line.{Line}
use Rattle.reuse_text.specs.declared.Lines.{Lines}
use Rattle.reuse_text.specs.Lines.{line_view, lines_left}
use Rattle.reuse_style.specs.Marks.{begins_with_one}
use Rattle.reuse_header.specs.declared.prefix.Passed.{Passed}
use Rattle.reuse_header.specs.Body.{PlacedLines, first_lines_count, count_to}
use Rattle.reuse_header.specs.Passed.{IsLastOf, LeadsTo}

pub no_last : IsLastOf None []
no_last = record { some = refl; ended = refl }

-- ---- first lines

pub count_here : (beginnings : List (List ℕ)) (line : ℕ × TextLine) (lines : PlacedLines) (b : Bool)
    → begins_with_one beginnings line.1.content ≡ b
    → first_lines_count beginnings (line ∷ lines) ≡ cond b (suc (first_lines_count beginnings lines)) 0
unfolding first_lines_count
count_here beginnings line lines b is = by (begins_with_one beginnings line.1.content) b is
  where
    by : (a b : Bool) → a ≡ b → cond a (1 + first_lines_count beginnings lines) 0
        ≡ cond b (suc (first_lines_count beginnings lines)) 0
    by true true e = omega arith
    by false false e = refl
    by true false e = absurd (false≢true (sym e))
    by false true e = absurd (false≢true e)

-- where there are no beginnings, no line is passed
pub no_first_lines : (beginnings : List (List ℕ)) (lines : PlacedLines) → length beginnings ≡ 0
    → first_lines_count beginnings lines ≡ 0
unfolding first_lines_count
no_first_lines [] [] none = refl
no_first_lines [] (line ∷ lines) none = refl
no_first_lines (beginning ∷ beginnings) lines none = absurd (omega (arith, none))

-- what is passed and left among lines, when `rest` are still to be asked
pub record PassesFirst (beginnings : List (List ℕ)) (lines rest : PlacedLines) (passed : Option Line) : Type 0 where
  pub left : drop (first_lines_count beginnings rest) rest ≡ drop (first_lines_count beginnings lines) lines
  pub last : (more : Option Line) → IsLastOf more (take (first_lines_count beginnings rest) rest)
      → IsLastOf (option_or more passed) (take (first_lines_count beginnings lines) lines)

pub first-starts : (beginnings : List (List ℕ)) (lines : PlacedLines) → PassesFirst beginnings lines lines None
first-starts beginnings lines = record { left = refl; last = same }
  where
    same : (more : Option Line) → IsLastOf more (take (first_lines_count beginnings lines) lines)
        → IsLastOf (option_or more None) (take (first_lines_count beginnings lines) lines)
    same None h = h
    same (Some line) h = h

pub first-goes : (beginnings : List (List ℕ)) (lines rest behind : PlacedLines) (passed : Option Line) (line : Line)
    → PassesFirst beginnings lines rest passed → rest ≡ line_view line ∷ behind
    → begins_with_one beginnings line.content.now ≡ true → PassesFirst beginnings lines behind (Some line)
first-goes beginnings lines rest behind passed line h is begins = record {
  left = sym (ap (λ (n : ℕ). drop n (line_view line ∷ behind)) count) ∙ sym (ap left_of is) ∙ h.left;
  last = next;
}
  where
    count : first_lines_count beginnings (line_view line ∷ behind) ≡ suc (first_lines_count beginnings behind)
    count = count_here beginnings (line_view line) behind true begins

    left_of : PlacedLines → PlacedLines
    left_of xs = drop (first_lines_count beginnings xs) xs

    taken : PlacedLines → PlacedLines
    taken xs = take (first_lines_count beginnings xs) xs

    all : taken rest ≡ line_view line ∷ taken behind
    all = ap taken is ∙ ap (λ (n : ℕ). take n (line_view line ∷ behind)) count

    one_more : (more : Option Line) (xs : PlacedLines) → IsLastOf more xs
        → IsLastOf (option_or more (Some line)) (line_view line ∷ xs)
    one_more None [] m = record { some = refl; ended = refl }
    one_more None (x ∷ xs) m = absurd (false≢true m.some)
    one_more (Some l) [] m = absurd (false≢true (sym m.some))
    one_more (Some l) (x ∷ xs) m = record { some = refl; ended = m.ended }

    kept : (more : Option Line) → IsLastOf (option_or (option_or more (Some line)) passed) (taken lines)
        → IsLastOf (option_or more (Some line)) (taken lines)
    kept None m = m
    kept (Some l) m = m

    next : (more : Option Line) → IsLastOf more (taken behind) → IsLastOf (option_or more (Some line)) (taken lines)
    next more m = kept more (h.last (option_or more (Some line))
        (subst (IsLastOf (option_or more (Some line))) (sym all) (one_more more (taken behind) m)))

-- where the next line, if there is one, begins otherwise
pub first-ends : (beginnings : List (List ℕ)) (lines rest : PlacedLines) (passed : Option Line)
    → PassesFirst beginnings lines rest passed → first_lines_count beginnings rest ≡ 0
    → (rest ≡ drop (first_lines_count beginnings lines) lines)
    × (IsLastOf passed (take (first_lines_count beginnings lines) lines))
first-ends beginnings lines rest passed h none = (
  sym (ap (λ (n : ℕ). drop n rest) none) ∙ h.left,
  h.last None (subst (IsLastOf None) (sym (ap (λ (n : ℕ). take n rest) none)) no_last),
)

pub none-begins : (beginnings : List (List ℕ)) (rest behind : PlacedLines) (line : Line)
    → rest ≡ line_view line ∷ behind → begins_with_one beginnings line.content.now ≡ false
    → first_lines_count beginnings rest ≡ 0
none-begins beginnings rest behind line is other =
    ap (first_lines_count beginnings) is ∙ count_here beginnings (line_view line) behind false other

pub none-left : (beginnings : List (List ℕ)) (rest : PlacedLines) → rest ≡ [] → first_lines_count beginnings rest ≡ 0
unfolding first_lines_count
none-left beginnings rest is = ap (first_lines_count beginnings) is

-- ---- front matter

-- what is found among lines, where it is what is found among the rest
abbrev pub LeadsAs : List ℕ → PlacedLines → PlacedLines → Type 0
LeadsAs text lines rest =
    (found : Option Passed) → LeadsTo found (count_to text rest) rest → LeadsTo found (count_to text lines) lines

-- no line passed
pub none_passed_of : (lines : PlacedLines) (last : Option Line) (left : PlacedLines) (count : ℕ) → last ≡ None
    → left ≡ lines → count ≡ 0 → (left ≡ drop count lines) × (IsLastOf last (take count lines))
none_passed_of lines last left count none same zero = (
  same ∙ sym (ap (λ (n : ℕ). drop n lines) zero),
  subst (λ (o : Option Line). IsLastOf o (take count lines)) (sym none)
      (subst (IsLastOf None) (sym (ap (λ (n : ℕ). take n lines) zero)) no_last),
)

pub empty_passes : (beginnings : List (List ℕ)) (passed : Passed) (lines : Lines)
    → passed ≡ record { last = None; rest = lines } → length beginnings ≡ 0
    → (lines_left passed.rest ≡ drop (first_lines_count beginnings (lines_left lines)) (lines_left lines))
    × (IsLastOf passed.last (take (first_lines_count beginnings (lines_left lines)) (lines_left lines)))
empty_passes beginnings passed lines is none =
    none_passed_of (lines_left lines) passed.last (lines_left passed.rest) _ (ap (λ (p : Passed). p.last) is)
    (ap (λ (p : Passed). lines_left p.rest) is) (no_first_lines beginnings (lines_left lines) none)
