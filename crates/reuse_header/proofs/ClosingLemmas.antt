-- Multi-line comments that are not closed: none begins between an opener and the first line behind it that
-- holds the closer.
use Rattle.std.proofs.Common.{◌≡◌, ℕ, zero, suc, ◌+◌, ◌-◌, ◌<◌, ◌≤◌, Bool, true, false, List, [], ◌∷◌, length, drop}
use Rattle.std.proofs.Common.{nat_eq, Option, None, Some, refl, sym, ap, ◌∙◌, inl, inr, arith, length-drop}
use Rattle.std.specs.Prelude.{not, is_some, if◌then◌else◌, IfNone}
use Rattle.std.specs.List.{starts_with, prefix_len}
use Rattle.std.specs.Option.{option_map}
use Rattle.std.proofs.lemmas.Bool.{false≢true}
use Rattle.std.proofs.lemmas.List.{drop-drop}
use Rattle.reuse_notice.specs.Tags.{all_blank}
use Rattle.reuse_style.specs.declared.style.Style.{Style}
use Rattle.reuse_style.specs.Marks.{BlockForm}
use Rattle.reuse_style.specs.Search.{place_of}
use Rattle.reuse_header.specs.Body.{PlacedLines, is_barrier, open_contents}
use Rattle.reuse_header.specs.Header.{header_in}
use Rattle.reuse_header.specs.Blocks.{ends_block, count_from, count_to_closer, multi_count, multi_lines, HasNoCount}
use Rattle.reuse_header.specs.Blocks.{HasNoOpening, lacks_closer, lines_lacking}
use Rattle.std.proofs.lemmas.Bool.{cases_Bool as truth}

none_is_some : {X : Type 0} (x : X) → None ≡ Some x → ⊥
none_is_some x e = cc

map_none : {X : Type 0} (f : ℕ → X) (o : Option ℕ) → option_map f o ≡ None → o ≡ None
map_none f None e = refl
map_none f (Some k) e = absurd (none_is_some (f k) (sym e))

map_some : {X : Type 0} (f : ℕ → X) (o : Option ℕ) (x : X) → option_map f o ≡ Some x → is_some o ≡ true
map_some f None x e = absurd (none_is_some x e)
map_some f (Some k) x e = refl

-- ---- lines that lack the closer

lacks_none : (closer content : List ℕ) → place_of closer content ≡ None → lacks_closer closer content ≡ true
lacks_none closer content e = ap (λ (o : Option ℕ). not (is_some o)) e

none_lacks : (closer content : List ℕ) → lacks_closer closer content ≡ true → place_of closer content ≡ None
none_lacks closer content e = by_place (place_of closer content) e
  where
    by_place : (o : Option ℕ) → not (is_some o) ≡ true → o ≡ None
    by_place None e = refl
    by_place (Some k) e = absurd (false≢true e)

lacks_here : (closer content : List ℕ) → ends_block closer content ≡ None → lacks_closer closer content ≡ true
unfolding ends_block
lacks_here closer content e = lacks_none closer content
    (map_none (λ place. all_blank (drop (place + length closer) content)) (place_of closer content) e)

holds_here : (closer content : List ℕ) (ends : Bool) → ends_block closer content ≡ Some ends
    → lacks_closer closer content ≡ false
unfolding ends_block
holds_here closer content ends e =
    ap not (map_some (λ place. all_blank (drop (place + length closer) content)) (place_of closer content) ends e)

pub lacking-nil : (closer : List ℕ) → lines_lacking closer [] ≡ 0
unfolding lines_lacking
lacking-nil closer = refl

pub lacking-here : (closer content : List ℕ) (contents : List (List ℕ)) (ends : Bool)
    → ends_block closer content ≡ Some ends → lines_lacking closer (content ∷ contents) ≡ 0
unfolding lines_lacking
lacking-here closer content contents ends e = let h = holds_here closer content ends e in rw h refl

pub lacking-more : (closer content : List ℕ) (contents : List (List ℕ)) → ends_block closer content ≡ None
    → lines_lacking closer (content ∷ contents) ≡ lines_lacking closer contents + 1
unfolding lines_lacking
lacking-more closer content contents e = let h = lacks_here closer content e in rw h (omega arith)

-- what is behind the front of a line lacks what the line lacks
pub place_of-drop : (text bytes : List ℕ) (n : ℕ) → place_of text bytes ≡ None → place_of text (drop n bytes) ≡ None
unfolding place_of
place_of-drop text bytes zero e = e
place_of-drop text [] (suc n) e = e
place_of-drop text (b ∷ bytes) (suc n) e = place_of-drop text bytes n (behind (starts_with nat_eq (b ∷ bytes) text) e)
  where
    behind : (is : Bool) → (if is then Some 0 else option_map (λ k. suc k) (place_of text bytes)) ≡ None
        → place_of text bytes ≡ None
    behind true e = absurd (none_is_some 0 (sym e))
    behind false e = map_none (λ k. suc k) (place_of text bytes) e

ends_block-drop : (closer content : List ℕ) (n : ℕ) → lacks_closer closer content ≡ true
    → ends_block closer (drop n content) ≡ None
unfolding ends_block
ends_block-drop closer content n e =
    ap (option_map (λ place. all_blank (drop (place + length closer) (drop n content))))
    (place_of-drop closer content n (none_lacks closer content e))

-- the count of lines behind a line that lacks the closer
count-lacking : (closer content : List ℕ) (lines : List (List ℕ)) (n : ℕ) → lacks_closer closer content ≡ true
    → count_to_closer closer (drop n content ∷ lines) ≡ option_map (λ k. suc k) (count_to_closer closer lines)
unfolding count_to_closer
count-lacking closer content lines n e =
    ap (λ (ends : Option Bool). count_from ends (count_to_closer closer lines)) (ends_block-drop closer content n e)

-- ---- openers between

-- lines, the first without its first n bytes
from_byte : ℕ → List (List ℕ) → List (List ℕ)
from_byte n [] = []
from_byte n (line ∷ lines) = drop n line ∷ lines

some_lack : (closer line : List ℕ) (lines : List (List ℕ)) (k : ℕ) (b : Bool) → lacks_closer closer line ≡ b
    → k < prefix_len (lacks_closer closer) (line ∷ lines) → b ≡ true
some_lack closer line lines k true e low = refl
some_lack closer line lines k false e low = absurd (none_here e low)
  where
    none_here : lacks_closer closer line ≡ false → k < prefix_len (lacks_closer closer) (line ∷ lines) → ⊥
    none_here e low = let h = rw e at low in omega (arith, h)

-- from no place of the lines before the first that holds the closer on a comment is closed, if from the
-- first line on none is
never_closed : (closer : List ℕ) (lines : List (List ℕ)) (k n : ℕ) → count_to_closer closer lines ≡ None
    → k < prefix_len (lacks_closer closer) lines
    → count_to_closer closer (from_byte n (drop k lines)) ≡ None
unfolding from_byte
never_closed closer [] k n e low = absurd (omega (arith, low))
never_closed closer (line ∷ lines) k n e low =
    let lacks = some_lack closer line lines k (lacks_closer closer line) refl low in
    let behind =
    map_none (λ m. suc m) (count_to_closer closer lines) (sym (count-lacking closer line lines 0 lacks) ∙ e) in
    at_line k lacks behind (rw lacks at low) (λ j below. never_closed closer lines j n behind below)
  where
    at_line : (k : ℕ) → lacks_closer closer line ≡ true → count_to_closer closer lines ≡ None
        → k < 1 + prefix_len (lacks_closer closer) lines
        → ((j : ℕ) → j < prefix_len (lacks_closer closer) lines
        → count_to_closer closer (from_byte n (drop j lines)) ≡ None)
        → count_to_closer closer (from_byte n (drop k (line ∷ lines))) ≡ None
    at_line zero lacks behind low deeper = count-lacking closer line lines n lacks ∙ ap (option_map (λ m. suc m)) behind
    at_line (suc k) lacks behind low deeper = deeper k (omega (arith, low))

multi_count-from : (comment : BlockForm) (lines : List (List ℕ))
    → count_to_closer comment.closer (from_byte (length comment.opener) lines) ≡ None → multi_count comment lines ≡ None
unfolding multi_count from_byte
multi_count-from comment [] e = refl
multi_count-from comment (line ∷ lines) e = begun (starts_with nat_eq line comment.opener)
  where
    begun : (b : Bool)
        → (if b then count_to_closer comment.closer (drop (length comment.opener) line ∷ lines) else None) ≡ None
    begun true = e
    begun false = refl

-- no comment is closed that begins before the line that ends the first one wrongly
pub no_count : (comment : BlockForm) (line : List ℕ) (lines : List (List ℕ)) (passed : ℕ)
    → count_to_closer comment.closer (drop (length comment.opener) line ∷ lines) ≡ None
    → passed ≡ lines_lacking comment.closer (drop (length comment.opener) line ∷ lines)
    → HasNoCount comment passed (line ∷ lines)
unfolding from_byte lines_lacking
no_count comment line lines passed e is zero low = multi_count-from comment (line ∷ lines) e
no_count comment line lines passed e is (suc k) low =
    multi_count-from comment (drop k lines) (never_closed comment.closer (drop (length comment.opener) line ∷ lines)
    (suc k) (length comment.opener) e (omega (arith, is, low)))

pub no_count_if : (comment : BlockForm) (line : List ℕ) (lines : List (List ℕ)) (count : Option ℕ) (passed : ℕ)
    → count ≡ count_to_closer comment.closer (drop (length comment.opener) line ∷ lines)
    → IfNone count (passed ≡ lines_lacking comment.closer (drop (length comment.opener) line ∷ lines))
    → IfNone count (HasNoCount comment passed (line ∷ lines))
no_count_if comment line lines None passed e is = no_count comment line lines passed (sym e) is
no_count_if comment line lines (Some n) passed e is = tt

-- fewer lines, of which the first are taken away
pub no_opening_behind : (style : Style) (contents : List (List ℕ)) (count passed : ℕ)
    → HasNoOpening style count contents → HasNoOpening style (count - passed) (drop passed contents)
no_opening_behind style contents count passed h line low =
    ap (multi_lines style) (drop-drop line passed contents) ∙ h (passed + line) (omega (arith, low))

-- the open lines behind some of them
pub open_contents-drop : (lines : PlacedLines) (count : ℕ) → count ≤ length (open_contents lines)
    → open_contents (drop count lines) ≡ drop count (open_contents lines)
open_contents-drop lines zero low = refl
open_contents-drop [] (suc count) low = absurd (omega (arith, low))
open_contents-drop (line ∷ lines) (suc count) low = elim (truth (is_barrier line.1.content)) [
  | inl e ↦ (let h = rw e at low in absurd (omega (arith, h)))
  | inr e ↦ (let h = rw e at low in rw e (open_contents-drop lines count (omega (arith, h))))
]

-- what the search knows of the lines that it goes on with
pub record IsKept (style : Style) (next lines : PlacedLines) (unclosed n : ℕ) : Type 0 where
  pub fits : length next < n
  pub same : header_in style 0 next ≡ header_in style 0 lines
  pub unclosed_there : HasNoOpening style unclosed (open_contents next)

pub kept : (style : Style) (rest next lines : PlacedLines) (passed unclosed n : ℕ) → next ≡ drop passed rest
    → header_in style 0 rest ≡ header_in style 0 (drop passed rest) → passed ≤ length (open_contents rest)
    → length rest < n → header_in style 0 rest ≡ header_in style 0 lines
    → HasNoOpening style unclosed (open_contents rest) → IsKept style next lines (unclosed - passed) n
kept style rest next lines passed unclosed n e goes low few same none = record {
  fits = omega (arith, few, ap length e, length-drop passed rest);
  same = ap (header_in style 0) e ∙ sym goes ∙ same;
  unclosed_there =
      let opened = ap open_contents e ∙ open_contents-drop rest passed low in
      λ line below. ap (λ (cs : List (List ℕ)). multi_lines style (drop line cs)) opened
      ∙ no_opening_behind style (open_contents rest) unclosed passed none line below;
}
