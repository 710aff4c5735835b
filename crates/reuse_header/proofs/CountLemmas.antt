-- How many lines a comment block has.
use Rattle.std.proofs.Common.{◌≡◌, ℕ, zero, suc, ◌<◌, ◌≤◌, Bool, true, false, List, [], ◌∷◌, length, drop, Option, None}
use Rattle.std.proofs.Common.{Some, nat_eq, refl, ap, arith}
use Rattle.std.specs.Prelude.{if◌then◌else◌, option_and_then}
use Rattle.std.specs.List.{starts_with, prefix_len}
use Rattle.std.specs.Option.{option_map_or}
use Rattle.std.proofs.lemmas.List.Sums.{prefix_len-le-length}
use Rattle.reuse_style.specs.declared.style.Style.{Style}
use Rattle.reuse_header.specs.declared.blocks.BlockSize.{BlockSize}
use Rattle.reuse_style.specs.Marks.{LineForm, BlockForm}
use Rattle.reuse_style.specs.Styles.{line_comment_of, block_comment_of}
use Rattle.reuse_header.specs.Blocks.{ends_block, count_from, count_to_closer, multi_count, multi_lines, marked_lines}
use Rattle.reuse_header.specs.Blocks.{block_of, block_at}

some_is_none : {X : Type 0} (x : X) → None ≡ Some x → ⊥
some_is_none x e = cc

some_same : {X : Type 0} (x y : X) → Some x ≡ Some y → x ≡ y
some_same x y e = cc

count_from-within : (ends : Option Bool) (later : Option ℕ) (count n : ℕ)
    → ((k : ℕ) → later ≡ Some k → (0 < k) × (k ≤ n)) → count_from ends later ≡ Some count
    → (0 < count) × (count ≤ suc n)
count_from-within None None count n ih e = absurd (some_is_none count e)
count_from-within None (Some k) count n ih e = let h = ih k refl in let c = some_same (suc k) count e in
    (omega (arith, h.0, h.1), omega (arith, h.0, h.1))
count_from-within (Some true) later count n ih e = let c = some_same 1 count e in (omega arith, omega arith)
count_from-within (Some false) later count n ih e = absurd (some_is_none count e)

count_to_closer-within : (closer : List ℕ) (lines : List (List ℕ)) (count : ℕ)
    → count_to_closer closer lines ≡ Some count → (0 < count) × (count ≤ length lines)
unfolding count_to_closer
count_to_closer-within closer [] count e = absurd (some_is_none count e)
count_to_closer-within closer (line ∷ lines) count e =
    count_from-within (ends_block closer line) (count_to_closer closer lines) count (length lines)
    (λ k is. count_to_closer-within closer lines k is) e

multi_count-within : (comment : BlockForm) (lines : List (List ℕ)) (count : ℕ) → multi_count comment lines ≡ Some count
    → (0 < count) × (count ≤ length lines)
unfolding multi_count
multi_count-within comment [] count e = absurd (some_is_none count e)
multi_count-within comment (line ∷ lines) count e = begun (starts_with nat_eq line comment.opener) e
  where
    begun : (b : Bool)
        → (if b then count_to_closer comment.closer (drop (length comment.opener) line ∷ lines) else None) ≡ Some count
        → (0 < count) × (count ≤ suc (length lines))
    begun true e = count_to_closer-within comment.closer (drop (length comment.opener) line ∷ lines) count e
    begun false e = absurd (some_is_none count e)

multi_of-within : (comment : Option BlockForm) (lines : List (List ℕ)) (count : ℕ)
    → option_and_then (λ c. multi_count c lines) comment ≡ Some count → (0 < count) × (count ≤ length lines)
multi_of-within None lines count e = absurd (some_is_none count e)
multi_of-within (Some comment) lines count e = multi_count-within comment lines count e

multi_lines-within : (style : Style) (lines : List (List ℕ)) (count : ℕ) → multi_lines style lines ≡ Some count
    → (0 < count) × (count ≤ length lines)
unfolding multi_lines
multi_lines-within style lines count e = multi_of-within (block_comment_of style) lines count e

marked_of-within : (comment : Option LineForm) (lines : List (List ℕ))
    → option_map_or (λ c. prefix_len (λ content. starts_with nat_eq content c.marker) lines) comment 0 ≤ length lines
marked_of-within None lines = omega arith
marked_of-within (Some comment) lines =
    prefix_len-le-length (λ content. starts_with nat_eq content comment.marker) lines

marked_lines-within : (style : Style) (lines : List (List ℕ)) → marked_lines style lines ≤ length lines
unfolding marked_lines
marked_lines-within style lines = marked_of-within (line_comment_of style) lines

block_of-within : (multi : Option ℕ) (run n : ℕ) (size : BlockSize) → ((k : ℕ) → multi ≡ Some k → (0 < k) × (k ≤ n))
    → run ≤ n → block_of multi run ≡ Some size → (0 < size.count) × (size.count ≤ n)
block_of-within (Some count) run n size m r e = let h = m count refl in
    let c = ap (λ (b : BlockSize). b.count) (some_same _ size e) in
    (omega (arith, c, h.0, h.1), omega (arith, c, h.0, h.1))
block_of-within None zero n size m r e = absurd (some_is_none size e)
block_of-within None (suc k) n size m r e = let c = ap (λ (b : BlockSize). b.count) (some_same _ size e) in
    (omega (arith, c), omega (arith, c))

-- a comment block is made of open lines, one at least
pub block_at-within : (style : Style) (lines : List (List ℕ)) (size : BlockSize) → block_at style lines ≡ Some size
    → (0 < size.count) × (size.count ≤ length lines)
unfolding block_at
block_at-within style lines size e =
    block_of-within (multi_lines style lines) (marked_lines style lines) (length lines) size
    (λ k is. multi_lines-within style lines k is) (marked_lines-within style lines) e

-- no block begins where there is no line
pub block_at-nil : (style : Style) (block : Option BlockSize) → block_at style [] ≡ block → block ≡ None
block_at-nil style None e = refl
block_at-nil style (Some size) e = let h = block_at-within style [] size e in absurd (omega (arith, h.0, h.1))
