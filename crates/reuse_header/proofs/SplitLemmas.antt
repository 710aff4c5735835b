-- The comment blocks of open lines, and the split of lines at the header block.
use Rattle.std.proofs.Common.{◌≡◌, ℕ, zero, suc, ◌+◌, ◌-◌, ◌<◌, ◌≤◌, Bool, true, false, List, [], ◌∷◌, ◌++◌, length}
use Rattle.std.proofs.Common.{take, drop, Option, None, Some, refl, sym, ap, subst, ◌∙◌, inl, inr, ◌⊎◌, arith}
use Rattle.std.proofs.Common.{length-take}
use Rattle.std.specs.Option.{option_or, option_map_or}
use Rattle.std.proofs.Math.Seq.{drop-append_seam, take-append_seam}
use Rattle.std.proofs.lemmas.List.{take-append-drop}
use Rattle.reuse_text.specs.Text.{TextLine}
use Rattle.reuse_style.specs.declared.style.Style.{Style}
use Rattle.reuse_header.specs.declared.blocks.BlockSize.{BlockSize}
use Rattle.reuse_style.specs.declared.marks.Form.{Form}
use Rattle.reuse_header.specs.Body.{PlacedLines, is_barrier, open_contents}
use Rattle.reuse_header.specs.Blocks.{block_at, contents_of}
use Rattle.reuse_header.specs.Header.{Header, lines_inside, header_in}
use Rattle.reuse_header.specs.Split.{AreCommentBlocks, IsSplitBy, IsSplit, begins_in, comment_blocks, is_tagged}
use Rattle.reuse_header.specs.Split.{size_of}
use Rattle.std.proofs.lemmas.Bool.{cases_Bool as truth}
use Rattle.reuse_header.proofs.CountLemmas.{block_at-within, block_at-nil}
use Rattle.reuse_header.proofs.HeaderLemmas.{header_in-cons, header_in-barrier, none_here, tagged-true, tagged-false}

none_is_some : {X : Type 0} (x : X) → None ≡ Some x → ⊥
none_is_some x e = cc

same_some : {X : Type 0} (x y : X) → Some x ≡ Some y → x ≡ y
same_some x y e = cc

abbrev no_contents : List (List ℕ)
no_contents = []

drop-nil : (n : ℕ) → drop n no_contents ≡ []
drop-nil zero = refl
drop-nil (suc n) = refl

-- ---- the comment blocks of open lines

pub begins_in-nil : (style : Style) (inside line : ℕ) → begins_in style inside [] line ≡ None
unfolding begins_in
begins_in-nil style zero zero = refl
begins_in-nil style zero (suc line) = refl
begins_in-nil style (suc inside) zero = refl
begins_in-nil style (suc inside) (suc line) = refl

begins_in-inside : (style : Style) (contents : List (List ℕ)) (inside line : ℕ) → line < inside
    → begins_in style inside contents line ≡ None
unfolding begins_in
begins_in-inside style [] inside line low = begins_in-nil style inside line
begins_in-inside style (c ∷ contents) zero line low = absurd (omega arith)
begins_in-inside style (c ∷ contents) (suc inside) zero low = refl
begins_in-inside style (c ∷ contents) (suc inside) (suc line) low =
    begins_in-inside style contents inside line (omega arith)

inside_after : (block : Option BlockSize) (line : ℕ) → ((size : BlockSize) → block ≡ Some size → size.count ≤ suc line)
    → lines_inside block ≤ line
inside_after None line h = omega arith
inside_after (Some size) line h = let k = h size refl in omega (arith, k)

free_in : (style : Style) (contents : List (List ℕ)) (inside line : ℕ) → inside ≤ line
    → ((earlier : ℕ) (block : BlockSize) → earlier < line → begins_in style inside contents earlier ≡ Some block
    → earlier + block.count ≤ line)
    → begins_in style inside contents line ≡ block_at style (drop line contents)
unfolding begins_in
free_in style [] inside line low h =
    begins_in-nil style inside line ∙ sym (block_at-nil style _ refl) ∙ ap (block_at style) (sym (drop-nil line))
free_in style (c ∷ contents) zero zero low h = refl
free_in style (c ∷ contents) zero (suc line) low h =
    free_in style contents (lines_inside (block_at style (c ∷ contents))) line
    (inside_after (block_at style (c ∷ contents)) line
    (λ size is. let k = h 0 size (omega arith) is in omega (arith, k)))
    (λ earlier block less is. let k = h (suc earlier) block (omega arith) is in omega (arith, k))
free_in style (c ∷ contents) (suc inside) zero low h = absurd (omega arith)
free_in style (c ∷ contents) (suc inside) (suc line) low h =
    free_in style contents inside line (omega arith)
    (λ earlier block less is. let k = h (suc earlier) block (omega arith) is in omega (arith, k))

inside_in : (style : Style) (contents : List (List ℕ)) (inside line earlier : ℕ) (block : BlockSize) → earlier < line
    → begins_in style inside contents earlier ≡ Some block → line < earlier + block.count
    → begins_in style inside contents line ≡ None
unfolding begins_in
inside_in style [] inside line earlier block less is low = begins_in-nil style inside line
inside_in style (c ∷ contents) inside zero earlier block less is low = absurd (omega arith)
inside_in style (c ∷ contents) zero (suc line) zero block less is low =
    let e = ap lines_inside is in
    begins_in-inside style contents (lines_inside (block_at style (c ∷ contents))) line (omega (arith, e))
inside_in style (c ∷ contents) zero (suc line) (suc earlier) block less is low =
    inside_in style contents (lines_inside (block_at style (c ∷ contents))) line earlier block
    (omega arith) is (omega arith)
inside_in style (c ∷ contents) (suc inside) (suc line) zero block less is low = absurd (none_is_some block is)
inside_in style (c ∷ contents) (suc inside) (suc line) (suc earlier) block less is low =
    inside_in style contents inside line earlier block (omega arith) is (omega arith)

-- a comment block is made of open lines, one at least
pub begins_in-within : (style : Style) (contents : List (List ℕ)) (inside line : ℕ) (block : BlockSize)
    → begins_in style inside contents line ≡ Some block → (0 < block.count) × (line + block.count ≤ length contents)
unfolding begins_in
begins_in-within style [] inside line block is =
    absurd (none_is_some block (sym (begins_in-nil style inside line) ∙ is))
begins_in-within style (c ∷ contents) zero zero block is = let h = block_at-within style (c ∷ contents) block is in
    (h.0, omega (arith, h.1))
begins_in-within style (c ∷ contents) zero (suc line) block is =
    let h = begins_in-within style contents (lines_inside (block_at style (c ∷ contents))) line block is in
    (h.0, omega (arith, h.1))
begins_in-within style (c ∷ contents) (suc inside) zero block is = absurd (none_is_some block is)
begins_in-within style (c ∷ contents) (suc inside) (suc line) block is =
    let h = begins_in-within style contents inside line block is in (h.0, omega (arith, h.1))

pub are_comment_blocks : (style : Style) (contents : List (List ℕ))
    → AreCommentBlocks style contents (comment_blocks style contents)
are_comment_blocks style contents = record {
  free = λ line h. free_in style contents 0 line (omega arith) h;
  inside = λ line earlier block less is low. inside_in style contents 0 line earlier block less is low;
}

-- an earlier block that reaches to the line or beyond it
Reaching : (ℕ → Option BlockSize) → ℕ → ℕ → Type 0
Reaching begins line n =
    (earlier : ℕ) × (block : BlockSize) × (earlier < n) × (begins earlier ≡ Some block) × (line < earlier + block.count)

Passing : (ℕ → Option BlockSize) → ℕ → ℕ → Type 0
Passing begins line n =
    (earlier : ℕ) (block : BlockSize) → earlier < n → begins earlier ≡ Some block → earlier + block.count ≤ line

-- one of both holds of the blocks at the first n lines
either : (begins : ℕ → Option BlockSize) (line n : ℕ) → Reaching begins line n ⊎ Passing begins line n
unfolding Reaching Passing
either begins line zero = inr (λ earlier block less is. absurd (omega arith))
either begins line (suc n) = elim (either begins line n) [
  | inl (earlier, block, less, is, low) ↦ inl (earlier, block, omega arith, is, low)
  | inr pass ↦ last (begins n) refl pass
]
  where
    le_cases : (a b : ℕ) → (a ≤ b) ⊎ (b < a)
    le_cases zero b = inl (omega arith)
    le_cases (suc a) zero = inr (omega arith)
    le_cases (suc a) (suc b) = elim (le_cases a b) [ inl h ↦ inl (omega (arith, h)) | inr h ↦ inr (omega (arith, h)) ]

    lt_or_eq : (a n : ℕ) → a < suc n → (a < n) ⊎ (a ≡ n)
    lt_or_eq a n h = elim (le_cases n a) [ inl k ↦ inr (omega (arith, h, k)) | inr k ↦ inl k ]

    ended : (block : BlockSize) → begins n ≡ Some block → n + block.count ≤ line → Passing begins line n
        → Passing begins line (suc n)
    ended block is low pass = λ earlier other less there. elim (lt_or_eq earlier n less) [
      | inl k ↦ pass earlier other k there
      | inr e ↦
          (let same = ap (λ (b : BlockSize). b.count) (same_some block other (sym is ∙ ap begins (sym e) ∙ there)) in
          omega (arith, e, same, low))
    ]

    last : (b : Option BlockSize) → begins n ≡ b → Passing begins line n
        → Reaching begins line (suc n) ⊎ Passing begins line (suc n)
    last None is pass = inr (λ earlier other less there. elim (lt_or_eq earlier n less) [
      | inl k ↦ pass earlier other k there
      | inr e ↦ absurd (none_is_some other (sym is ∙ ap begins (sym e) ∙ there))
    ])
    last (Some block) is pass = elim (le_cases (n + block.count) line) [
      | inl low ↦ inr (ended block is low pass)
      | inr low ↦ inl (n, block, omega arith, is, low)
    ]

-- both answers agree at each line below n
agree_below : (style : Style) (contents : List (List ℕ)) (a b : ℕ → Option BlockSize)
    → AreCommentBlocks style contents a → AreCommentBlocks style contents b
    → (n line : ℕ) → line < n → a line ≡ b line
unfolding Reaching Passing
agree_below style contents a b p q zero line low = absurd (omega arith)
agree_below style contents a b p q (suc n) line low =
    let ih = λ (k : ℕ) (less : k < line). agree_below style contents a b p q n k (omega (arith, less, low)) in
    at_line ih (either a line line)
  where
    at_line : ((k : ℕ) → k < line → a k ≡ b k) → Reaching a line line ⊎ Passing a line line → a line ≡ b line
    at_line ih (inl (earlier, block, less, is, low)) =
        p.inside line earlier block less is low
        ∙ sym (q.inside line earlier block less (sym (ih earlier less) ∙ is) low)
    at_line ih (inr pass) =
        p.free line pass ∙ sym (q.free line (λ earlier block less is. pass earlier block less (ih earlier less ∙ is)))

pub comment_blocks_are_one : (style : Style) (contents : List (List ℕ)) (begins : ℕ → Option BlockSize)
    → AreCommentBlocks style contents begins → (line : ℕ) → begins line ≡ comment_blocks style contents line
comment_blocks_are_one style contents begins p line =
    agree_below style contents begins (comment_blocks style contents) p (are_comment_blocks style contents)
    (suc line) line (omega arith)

-- ---- the split

pub open-cons : (line : ℕ × TextLine) (lines : PlacedLines) → is_barrier line.1.content ≡ false
    → open_contents (line ∷ lines) ≡ line.1.content ∷ open_contents lines
open-cons line lines e = rw e refl

open-barrier : (line : ℕ × TextLine) (lines : PlacedLines) → is_barrier line.1.content ≡ true
    → open_contents (line ∷ lines) ≡ []
open-barrier line lines e = rw e refl

-- a split of the lines behind the first is one of all
more_before : (style : Style) (begins : ℕ → Option BlockSize) (content : List ℕ) (contents : List (List ℕ))
    (line : ℕ × TextLine) (lines before : PlacedLines) (h : Header)
    → ((block : BlockSize) → begins 0 ≡ Some block
    → is_tagged style (contents_of style block (content ∷ contents)) ≡ false)
    → IsSplitBy style (λ k. begins (suc k)) contents lines before h
    → IsSplitBy style begins (content ∷ contents) (line ∷ lines) (line ∷ before) h
more_before style begins content contents line lines before h first s = record {
  joined = ap (λ (xs : PlacedLines). line ∷ xs) s.joined;
  begins_there = s.begins_there;
  contents = s.contents;
  tagged = s.tagged;
  least = least_all;
}
  where
    least_all : (n : ℕ) (block : BlockSize) → n < length (line ∷ before) → begins n ≡ Some block
        → is_tagged style (contents_of style block (drop n (content ∷ contents))) ≡ false
    least_all zero block low is = first block is
    least_all (suc n) block low is = s.least n block (omega arith) is

lines_same : (a b : ℕ × TextLine) (xs ys : PlacedLines) → (a ∷ xs) ≡ (b ∷ ys) → xs ≡ ys
lines_same a b xs ys e = cc

fewer_before : (style : Style) (begins : ℕ → Option BlockSize) (content : List ℕ) (contents : List (List ℕ))
    (line x : ℕ × TextLine) (lines before : PlacedLines) (h : Header)
    → IsSplitBy style begins (content ∷ contents) (line ∷ lines) (x ∷ before) h
    → IsSplitBy style (λ k. begins (suc k)) contents lines before h
fewer_before style begins content contents line x lines before h s = record {
  joined = lines_same line x lines (before ++ (h.block ++ h.after)) s.joined;
  begins_there = s.begins_there;
  contents = s.contents;
  tagged = s.tagged;
  least = λ n block low is. s.least (suc n) block (omega arith) is;
}

the_size : Form → ℕ → BlockSize
the_size form count = record { form = form; count = count }

length-open : (lines : PlacedLines) → length (open_contents lines) ≤ length lines
length-open [] = omega arith
length-open (line ∷ lines) = elim (truth (is_barrier line.1.content)) [
  | inl e ↦ rw e (omega arith)
  | inr e ↦ rw e (omega (arith, length-open lines))
]

-- a split where the first `inside` lines belong to a block that began before
SplitIn : Style → ℕ → List (List ℕ) → PlacedLines → Header → Type 0
SplitIn style inside contents lines h =
    (before : PlacedLines) × IsSplitBy style (begins_in style inside contents) contents lines before h

-- the header of a block with a tag of the first lines
first_header : Style → PlacedLines → List (List ℕ) → BlockSize → Header
first_header style lines contents size = record {
  form = size.form;
  block = take size.count lines;
  contents = contents_of style size contents;
  after = drop size.count lines;
}

first_split : (style : Style) (line : ℕ × TextLine) (lines : PlacedLines) (contents : List (List ℕ)) (size : BlockSize)
    → length contents ≤ length lines
    → block_at style (line.1.content ∷ contents) ≡ Some size
    → is_tagged style (contents_of style size (line.1.content ∷ contents)) ≡ true
    → SplitIn style 0 (line.1.content ∷ contents) (line ∷ lines)
    (first_header style (line ∷ lines) (line.1.content ∷ contents) size)
unfolding SplitIn begins_in first_header the_size
first_split style line lines contents size few is tag =
    let fits = block_at-within style (line.1.content ∷ contents) size is in
    let n : length (take size.count (line ∷ lines)) ≡ size.count = simp length-take (omega (arith, fits.1, few)) in
    let same = ap (λ (k : ℕ). the_size size.form k) n in (
      [],
      record {
        joined = sym (take-append-drop size.count (line ∷ lines));
        begins_there = is ∙ ap (λ (b : BlockSize). Some b) (sym same);
        contents = ap (λ (b : BlockSize). contents_of style b (line.1.content ∷ contents)) (sym same);
        tagged = tag;
        least = λ n block low there. absurd (omega arith);
      },
    )

-- a split behind the first line, at which no block with a tag begins
deeper : (style : Style) (line : ℕ × TextLine) (lines : PlacedLines) (contents : List (List ℕ)) (h : Header)
    → ((size : BlockSize) → block_at style (line.1.content ∷ contents) ≡ Some size
    → is_tagged style (contents_of style size (line.1.content ∷ contents)) ≡ false)
    → SplitIn style (lines_inside (block_at style (line.1.content ∷ contents))) contents lines h
    → SplitIn style 0 (line.1.content ∷ contents) (line ∷ lines) h
unfolding SplitIn begins_in
deeper style line lines contents h first (before, s) = (
  line ∷ before,
  more_before style (begins_in style 0 (line.1.content ∷ contents)) line.1.content contents line lines before h first s,
)

-- the split at a line that is no barrier, by the cases of the block that begins there
found_at : (style : Style) (line : ℕ × TextLine) (lines : PlacedLines) (h : Header) → is_barrier line.1.content ≡ false
    → ((inside : ℕ) → inside ≤ length (open_contents lines) → header_in style inside lines ≡ Some h
    → SplitIn style inside (open_contents lines) lines h)
    → (block : Option BlockSize) → block_at style (line.1.content ∷ open_contents lines) ≡ block
    → (tag : Bool) → is_tagged style
    (option_map_or (λ size. contents_of style size (line.1.content ∷ open_contents lines)) block []) ≡ tag
    → header_in style 0 (line ∷ lines) ≡ Some h
    → SplitIn style 0 (line.1.content ∷ open_contents lines) (line ∷ lines) h
unfolding first_header
found_at style line lines h clear ih None is tag t found =
    let is' = ap (block_at style) (open-cons line lines clear) ∙ is in
    let deep = ih 0 (omega arith) (sym (none_here style line lines clear (sym is')) ∙ found) in
    deeper style line lines (open_contents lines) h (λ size there. absurd (none_is_some size (sym is ∙ there)))
    (subst (λ (b : Option BlockSize). SplitIn style (lines_inside b) (open_contents lines) lines h) (sym is) deep)
found_at style line lines h clear ih (Some size) is true t found =
    let opened = open-cons line lines clear in
    let is' = ap (block_at style) opened ∙ is in
    let t' = ap (λ (cs : List (List ℕ)). is_tagged style (contents_of style size cs)) opened ∙ t in
    let here = header_in-cons style line lines (Some size) clear (sym is') ∙ ap
    (λ o. option_or o (header_in style (size.count - 1) lines)) (tagged-true style (line ∷ lines) size true t' refl) in
    let same = ap (λ (cs : List (List ℕ)). first_header style (line ∷ lines) cs size) (sym opened)
    ∙ same_some _ h (sym here ∙ found) in
    subst (λ (k : Header). SplitIn style 0 (line.1.content ∷ open_contents lines) (line ∷ lines) k) same
    (first_split style line lines (open_contents lines) size (length-open lines) is t)
found_at style line lines h clear ih (Some size) is false t found =
    let opened = open-cons line lines clear in
    let is' = ap (block_at style) opened ∙ is in
    let t' = ap (λ (cs : List (List ℕ)). is_tagged style (contents_of style size cs)) opened ∙ t in
    let here = header_in-cons style line lines (Some size) clear (sym is')
    ∙ ap (λ o. option_or o (header_in style (size.count - 1) lines))
    (tagged-false style (line ∷ lines) size false t' refl) in
    let fits = block_at-within style (line.1.content ∷ open_contents lines) size is in
    let low : size.count - 1 ≤ length (open_contents lines) = omega (arith, fits.1) in
    let deep = ih (size.count - 1) low (sym here ∙ found) in
    deeper style line lines (open_contents lines) h
    (λ other there. ap (λ (b : BlockSize). is_tagged style (contents_of style b (line.1.content ∷ open_contents lines)))
    (same_some other size (sym there ∙ is)) ∙ t)
    (subst (λ (b : Option BlockSize). SplitIn style (lines_inside b) (open_contents lines) lines h) (sym is) deep)

-- a split of the lines behind one that a block goes on to
behind_inside : (style : Style) (line : ℕ × TextLine) (lines : PlacedLines) (contents : List (List ℕ))
    (inside : ℕ) (h : Header)
    → SplitIn style inside contents lines h → SplitIn style (suc inside) (line.1.content ∷ contents) (line ∷ lines) h
unfolding SplitIn begins_in
behind_inside style line lines contents inside h (before, s) = (
  line ∷ before,
  more_before style (begins_in style (suc inside) (line.1.content ∷ contents)) line.1.content contents line lines before
      h (λ block is. absurd (none_is_some block is)) s,
)

found_in : (style : Style) (lines : PlacedLines) (inside : ℕ) (h : Header) → inside ≤ length (open_contents lines)
    → header_in style inside lines ≡ Some h
    → SplitIn style inside (open_contents lines) lines h
unfolding header_in
found_in style [] inside h low found = absurd (none_is_some h found)
found_in style (line ∷ lines) (suc inside) h low found = elim (truth (is_barrier line.1.content)) [
  | inl e ↦ (let none = ap length (open-barrier line lines e) in absurd (omega (arith, none, low)))
  | inr e ↦
      (let opened = open-cons line lines e in
      let n = ap length opened in
      let low' : inside ≤ length (open_contents lines) = omega (arith, n, low) in
      subst (λ (cs : List (List ℕ)). SplitIn style (suc inside) cs (line ∷ lines) h) (sym opened)
      (behind_inside style line lines (open_contents lines) inside h (found_in style lines inside h low' found)))
]
found_in style (line ∷ lines) zero h low found = elim (truth (is_barrier line.1.content)) [
  | inl e ↦ absurd (none_is_some h (sym (header_in-barrier style line lines e) ∙ found))
  | inr e ↦
      subst (λ (cs : List (List ℕ)). SplitIn style 0 cs (line ∷ lines) h) (sym (open-cons line lines e))
      (found_at style line lines h e (λ k low' f. found_in style lines k h low' f)
      (block_at style (line.1.content ∷ open_contents lines)) refl _ refl found)
]

pub split_found : (style : Style) (lines : PlacedLines) (h : Header) → header_in style 0 lines ≡ Some h
    → (before : PlacedLines) × IsSplit style lines before h
unfolding SplitIn
split_found style lines h found = found_in style lines 0 h (omega arith) found

-- ---- and back

-- the first of two lists that are joined, by its length
front_of : (xs ys : PlacedLines) (n : ℕ) → length xs ≡ n → (take n (xs ++ ys) ≡ xs) × (drop n (xs ++ ys) ≡ ys)
front_of xs ys n e = (
  ap (λ k. take k (xs ++ ys)) (sym e) ∙ take-append_seam xs ys,
  ap (λ k. drop k (xs ++ ys)) (sym e) ∙ drop-append_seam xs ys,
)

the_header : Form → PlacedLines → List (List ℕ) → PlacedLines → Header
the_header form block contents after = record { form = form; block = block; contents = contents; after = after }

header_same : (h : Header) (form : Form) (block after : PlacedLines) (contents : List (List ℕ)) → form ≡ h.form
    → block ≡ h.block → contents ≡ h.contents → after ≡ h.after
    → record { form = form; block = block; contents = contents; after = after } ≡ h
unfolding the_header
header_same h form block after contents a b c d =
    let e : the_header form block contents after ≡ the_header h.form h.block h.contents h.after = cc in e

-- the header block that begins at the first line is the one that the search finds
only_here : (style : Style) (line : ℕ × TextLine) (lines : PlacedLines) (h : Header) → is_barrier line.1.content ≡ false
    → IsSplitBy style (begins_in style 0 (line.1.content ∷ open_contents lines)) (line.1.content ∷ open_contents lines)
    (line ∷ lines) [] h
    → header_in style 0 (line ∷ lines) ≡ Some h
unfolding begins_in
only_here style line lines h clear s =
    let size = size_of h in
    let opened = open-cons line lines clear in
    let is' = ap (block_at style) opened ∙ s.begins_there in
    let t' = ap (λ (cs : List (List ℕ)). is_tagged style (contents_of style size cs)) opened
    ∙ ap (is_tagged style) (sym s.contents) ∙ s.tagged in
    let here = header_in-cons style line lines (Some size) clear (sym is') ∙ ap
    (λ o. option_or o (header_in style (size.count - 1) lines)) (tagged-true style (line ∷ lines) size true t' refl) in
    let parts = front_of h.block h.after (length h.block) refl in
    here ∙ ap (λ (k : Header). Some k) (header_same h h.form (take size.count (line ∷ lines))
    (drop size.count (line ∷ lines)) (contents_of style size (open_contents (line ∷ lines)))
    refl (ap (take size.count) s.joined ∙ parts.0)
    (ap (contents_of style size) opened ∙ sym s.contents)
    (ap (drop size.count) s.joined ∙ parts.1))

only_behind : (style : Style) (line x : ℕ × TextLine) (lines before : PlacedLines) (h : Header)
    → is_barrier line.1.content ≡ false
    → ((inside : ℕ) → inside ≤ length (open_contents lines) → IsSplitBy style (begins_in style inside
    (open_contents lines)) (open_contents lines) lines before h → header_in style inside lines ≡ Some h)
    → (block : Option BlockSize) → block_at style (line.1.content ∷ open_contents lines) ≡ block
    → IsSplitBy style (begins_in style 0 (line.1.content ∷ open_contents lines)) (line.1.content ∷ open_contents lines)
    (line ∷ lines) (x ∷ before) h
    → header_in style 0 (line ∷ lines) ≡ Some h
unfolding begins_in
only_behind style line x lines before h clear ih block is s =
    let contents = open_contents lines in
    let opened = open-cons line lines clear in
    let is' = ap (block_at style) opened ∙ is in
    let deep = fewer_before style
    (begins_in style 0 (line.1.content ∷ contents)) line.1.content contents line x lines before h s in
    let deep' = subst (λ (b : Option BlockSize). IsSplitBy style
    (begins_in style (lines_inside b) contents) contents lines before h) is deep in
    goes_on block is is' opened
    (λ (size : BlockSize) (there : block ≡ Some size). s.least 0 size (omega arith) (is ∙ there)) deep'
  where
    goes_on : (block : Option BlockSize) → block_at style (line.1.content ∷ open_contents lines) ≡ block
        → block_at style (open_contents (line ∷ lines)) ≡ block
        → open_contents (line ∷ lines) ≡ line.1.content ∷ open_contents lines
        → ((size : BlockSize) → block ≡ Some size
        → is_tagged style (contents_of style size (line.1.content ∷ open_contents lines)) ≡ false)
        → IsSplitBy style (begins_in style (lines_inside block) (open_contents lines))
        (open_contents lines) lines before h
        → header_in style 0 (line ∷ lines) ≡ Some h
    goes_on None is is' opened least deep = none_here style line lines clear (sym is') ∙ ih 0 (omega arith) deep
    goes_on (Some size) is is' opened least deep =
        let t' = ap (λ (cs : List (List ℕ)). is_tagged style (contents_of style size cs)) opened ∙ least size refl in
        let here = header_in-cons style line lines (Some size) clear (sym is')
        ∙ ap (λ o. option_or o (header_in style (size.count - 1) lines))
        (tagged-false style (line ∷ lines) size false t' refl) in
        let fits = block_at-within style (line.1.content ∷ open_contents lines) size is in
        let low : size.count - 1 ≤ length (open_contents lines) = omega (arith, fits.1) in
        here ∙ ih (size.count - 1) low deep

by_first : (style : Style) (line : ℕ × TextLine) (lines : PlacedLines) (inside : ℕ) (before : PlacedLines) (h : Header)
    → is_barrier line.1.content ≡ false
    → ((k : ℕ) (b : PlacedLines) → k ≤ length (open_contents lines) → IsSplitBy style
    (begins_in style k (open_contents lines)) (open_contents lines) lines b h → header_in style k lines ≡ Some h)
    → inside ≤ suc (length (open_contents lines))
    → IsSplitBy style (begins_in style inside (line.1.content ∷ open_contents lines))
    (line.1.content ∷ open_contents lines) (line ∷ lines) before h
    → header_in style inside (line ∷ lines) ≡ Some h
unfolding header_in begins_in
by_first style line lines zero [] h clear ih low s = only_here style line lines h clear s
by_first style line lines zero (x ∷ before) h clear ih low s = only_behind style line x lines before h clear
    (λ k low' t. ih k before low' t) (block_at style (line.1.content ∷ open_contents lines)) refl s
by_first style line lines (suc inside) [] h clear ih low s = absurd (none_is_some (size_of h) s.begins_there)
by_first style line lines (suc inside) (x ∷ before) h clear ih low s =
    ih inside before (omega arith) (fewer_before style (begins_in style (suc inside)
    (line.1.content ∷ open_contents lines)) line.1.content (open_contents lines) line x lines before h s)

only_in : (style : Style) (lines : PlacedLines) (inside : ℕ) (before : PlacedLines) (h : Header)
    → inside ≤ length (open_contents lines)
    → IsSplitBy style (begins_in style inside (open_contents lines)) (open_contents lines) lines before h
    → header_in style inside lines ≡ Some h
unfolding header_in
only_in style [] inside before h low s =
    absurd (none_is_some (size_of h) (sym (begins_in-nil style inside (length before)) ∙ s.begins_there))
only_in style (line ∷ lines) inside before h low s = elim (truth (is_barrier line.1.content)) [
  | inl e ↦
      absurd (none_is_some (size_of h) (sym (begins_in-nil style inside (length before)) ∙ ap (λ (cs : List (List ℕ)).
      begins_in style inside cs (length before)) (sym (open-barrier line lines e)) ∙ s.begins_there))
  | inr e ↦
      by_first style line lines inside before h e (λ k b low' t. only_in style lines k b h low' t)
      (let n = ap length (open-cons line lines e) in omega (arith, n, low))
      (subst (λ (cs : List (List ℕ)). IsSplitBy style (begins_in style inside cs) cs (line ∷ lines) before h)
      (open-cons line lines e) s)
]

pub split_only : (style : Style) (lines before : PlacedLines) (h : Header) → IsSplit style lines before h
    → header_in style 0 lines ≡ Some h
split_only style lines before h s = only_in style lines 0 before h (omega arith) s
