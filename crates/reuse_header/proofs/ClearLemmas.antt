-- In a file that holds no text of a barrier no line is one.
use Rattle.std.proofs.Common.{◌≡◌, ℕ, zero, suc, false, List, [], ◌∷◌, ◌++◌, length, take, drop, Option, None, Some}
use Rattle.std.proofs.Common.{refl, sym, ap, ◌∙◌, append_assoc, inl, inr}
use Rattle.std.specs.Prelude.{All, is_some, codes}
use Rattle.std.proofs.lemmas.Bool.{or_parts, false≢true}
use Rattle.std.proofs.lemmas.List.{take-append-drop}
use Rattle.std.proofs.lemmas.List.Elements.{All-weaker}
use Rattle.std.proofs.lemmas.List.Folds.{list_any_none, list_any-append}
use Rattle.reuse_text.specs.Text.{TextLine, StandsIn, file_lines, line_bytes, ending_bytes}
use Rattle.reuse_style.specs.declared.style.Style.{Style}
use Rattle.reuse_style.specs.Search.{place_of, holds}
use Rattle.reuse_header.specs.Body.{PlacedLines, is_barrier, has_barrier, body_lines, open_contents}
use Rattle.reuse_header.specs.Header.{header_in}
use Rattle.std.proofs.lemmas.Bool.{cases_Bool as truth}
use Rattle.reuse_header.proofs.HeaderLemmas.{header_in-nil, header_in-barrier}
use Rattle.reuse_header.proofs.ClosingLemmas.{place_of-drop}
use Rattle.reuse_header.proofs.CutLemmas.{before_body}
use Rattle.reuse_header.proofs.StandsLemmas.{nowhere_exact}

-- ---- a text that bytes lack

pub lacked : (o : Option ℕ) → is_some o ≡ false → o ≡ None
lacked None e = refl
lacked (Some k) e = absurd (false≢true (sym e))

place_of-front : (text front back : List ℕ) → place_of text (front ++ back) ≡ None → place_of text front ≡ None
place_of-front text front back e =
    (nowhere_exact text front).1 (λ place (before, behind, n, is). (nowhere_exact text (front ++ back)).0 e place
    (before, behind ++ back, n, ap (λ (xs : List ℕ). xs ++ back) is ∙ append_assoc (before ++ text) behind back))

pub place_of-take : (text bytes : List ℕ) (n : ℕ) → place_of text bytes ≡ None → place_of text (take n bytes) ≡ None
place_of-take text bytes n e =
    place_of-front text (take n bytes) (drop n bytes) (ap (place_of text) (take-append-drop n bytes) ∙ e)

-- the content of a line holds no text that its file lacks
pub content_lacks : (text file : List ℕ) (line : ℕ × TextLine) → StandsIn file line → holds text file ≡ false
    → holds text line.1.content ≡ false
content_lacks text file (start, line) stands lacks =
    let none = place_of-take text (drop start file) (length (line_bytes line))
    (place_of-drop text file start (lacked (place_of text file) lacks)) in
    ap is_some (place_of-front text line.content (ending_bytes line.ending) (ap (place_of text) (sym stands) ∙ none))

line_clear : (file : List ℕ) → is_barrier file ≡ false → (line : ℕ × TextLine) → StandsIn file line
    → is_barrier line.1.content ≡ false
unfolding is_barrier
line_clear file clear line stands =
    let both = or_parts (holds (codes "REUSE-IgnoreStart") file) (holds (codes "SPDX-SnippetBegin") file) clear in
    let first = content_lacks (codes "REUSE-IgnoreStart") file line stands both.0 in
    let second = content_lacks (codes "SPDX-SnippetBegin") file line stands both.1 in
    rw (first, second) refl

-- ---- lines of which none is a barrier

pub body_clear : (style : Style) (file : List ℕ) → All (StandsIn file) (file_lines file) → is_barrier file ≡ false
    → has_barrier (body_lines style (file_lines file)) ≡ false
body_clear style file placed clear =
    let lines = file_lines file in
    let all =
    All-weaker (StandsIn file) (λ line. is_barrier line.1.content ≡ false) (line_clear file clear) lines placed in
    let none = list_any_none (λ (line : ℕ × TextLine). is_barrier line.1.content) lines all in
    let body = before_body style lines in
    (or_parts (has_barrier body.0) (has_barrier (body_lines style lines))
    (sym (list_any-append (λ (line : ℕ × TextLine). is_barrier line.1.content) body.0 (body_lines style lines))
    ∙ ap has_barrier (sym body.1) ∙ none)).1

pub has_barrier-drop : (n : ℕ) (lines : PlacedLines) → has_barrier lines ≡ false → has_barrier (drop n lines) ≡ false
has_barrier-drop zero lines clear = clear
has_barrier-drop (suc n) [] clear = clear
has_barrier-drop (suc n) (line ∷ lines) clear =
    has_barrier-drop n lines (or_parts (is_barrier line.1.content) (has_barrier lines) clear).1

-- no block is found where no line is open
pub header_in-closed : (style : Style) (lines : PlacedLines) → open_contents lines ≡ [] → header_in style 0 lines ≡ None
header_in-closed style [] closed = header_in-nil style 0
header_in-closed style (line ∷ lines) closed = elim (truth (is_barrier line.1.content)) [
  | inl is ↦ header_in-barrier style line lines is
  | inr isnt ↦ absurd (let none = rw isnt at closed in let never : ⊥ = cc in never)
]
