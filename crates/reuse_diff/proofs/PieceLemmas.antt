-- What stands on the two sides of some pieces.
use Rattle.std.proofs.Common.{◌≡◌, ℕ, ◌+◌, ◌-◌, ◌<◌, true, List, [], ◌∷◌, ◌++◌, length, take, drop, refl, sym, ap, ◌∙◌}
use Rattle.std.proofs.Common.{arith, append_assoc, subst, inl, inr, ap₂}
use Rattle.std.specs.Prelude.{All}
use Rattle.std.specs.List.{prefix_len, suffix_len}
use Rattle.std.proofs.lemmas.Bool.{cases_lt}
use Rattle.std.proofs.lemmas.List.{take-append-drop, length-take-le, length-drop, drop-drop, drop_all, get_or-take}
use Rattle.std.proofs.lemmas.List.{get_or-drop}
use Rattle.std.proofs.lemmas.List.Sums.{prefix_len_passes}
use Rattle.std.proofs.lemmas.Grind.{flat_map-append}
use Rattle.std.proofs.lemmas.List.Elements.{All-head, All-tail}
use Rattle.reuse_diff.specs.TextLines.{AreLinesOf, joined}
use Rattle.reuse_diff.specs.declared.hunk.Sign.{Sign}
use Rattle.reuse_diff.specs.declared.hunk.Sign.TheVariants.{Kept, Removed, Added}
use Rattle.reuse_diff.specs.Hunks.{stays, old_line, new_line, old_lines, new_lines, is_kept, IsKept, IsContext}
use Rattle.reuse_diff.specs.Hunks.{IsHunkOf, IsHunk, AreCommon, KeepsEnds, same_front, same_end}
use Rattle.reuse_diff.specs.declared.hunk.Piece.{Piece}
use Rattle.reuse_diff.specs.declared.hunk.Hunk.{Hunk}
use Rattle.reuse_diff.proofs.EndLemmas.{ends_apart, suffix_passes, prefix_len-part, suffix_len-part, suffix_len-behind}

-- the parts of a list joined
in_three : {X : Type 0} (xs : List X) (a n : ℕ) → take a xs ++ take n (drop a xs) ++ drop (a + n) xs ≡ xs
in_three xs a n =
    append_assoc (take a xs) (take n (drop a xs)) (drop (a + n) xs)
    ∙ ap (λ ys. take a xs ++ (take n (drop a xs) ++ ys)) (sym (drop-drop n a xs))
    ∙ ap (λ ys. take a xs ++ ys) (take-append-drop n (drop a xs))
    ∙ take-append-drop a xs

-- some lines are hidden only where three are shown
context : (kept : ℕ) (left : List (List ℕ)) → (kept - 3 ≡ 0 → left ≡ []) → IsContext (kept - (kept - 3)) left
context kept left none = record {
  most = omega arith;
  whole = λ some. elim (cases_lt 3 kept) [
    | inl more ↦ omega arith
    | inr few ↦ absurd (some (none (omega arith)))
  ];
}

-- what is left out at both ends, and the rest
record AreHidden (first last size a b n : ℕ) : Type 0 where
  above : a ≡ first - 3
  below : b ≡ last - 3
  rest : a + n + b ≡ size
  some : first + last < size

-- The pieces without all but three of those that are kept at both ends are a hunk.
hunk_of-hidden : (pieces : List Piece) (hunk : Hunk) (a b n : ℕ) (d : Piece)
    → AreHidden (prefix_len is_kept pieces) (suffix_len is_kept pieces) (length pieces) a b n
    → hunk.lines_above ≡ a → hunk.pieces.items ≡ take n (drop a pieces) → IsHunkOf pieces hunk
hunk_of-hidden pieces hunk a b n d are number part =
    let shown_first : prefix_len is_kept hunk.pieces.items
    ≡ prefix_len is_kept pieces - (prefix_len is_kept pieces - 3) =
    ap (prefix_len is_kept) part ∙ prefix_len-part is_kept pieces a n d (omega arith) (omega arith) (omega arith)
    ∙ ap (λ m. prefix_len is_kept pieces - m) are.above in
    let shown_last : suffix_len is_kept hunk.pieces.items
    ≡ suffix_len is_kept pieces - (suffix_len is_kept pieces - 3) =
    ap (suffix_len is_kept) part ∙ suffix_len-part is_kept pieces a n d (omega arith) (omega arith) (omega arith)
    ∙ (let e : suffix_len is_kept pieces - (length pieces - (a + n))
    ≡ suffix_len is_kept pieces - (suffix_len is_kept pieces - 3) = omega arith in e) in
    record {
      above = take a pieces;
      below = drop (a + n) pieces;
      whole = rw part (in_three pieces a n);
      kept_above = λ k e low. ap is_kept
          (get_or-take a pieces k e (let size = length-take-le a pieces (omega arith) in omega arith))
          ∙ prefix_len_passes is_kept pieces k e (let size = length-take-le a pieces (omega arith) in omega arith);
      kept_below = λ k e low. ap is_kept (get_or-drop (a + n) pieces k e) ∙ suffix_passes is_kept pieces (a + n + k) e
          (omega arith) (let size = length-drop (a + n) pieces in omega arith);
      number = number ∙ sym (length-take-le a pieces (omega arith));
      first =
          subst (λ m. IsContext m (old_lines (take a pieces))) (sym shown_first) (context (prefix_len is_kept pieces)
          (old_lines (take a pieces)) (λ none. ap (λ m. old_lines (take m pieces)) (are.above ∙ none)));
      last = subst (λ m. IsContext m (old_lines (drop (a + n) pieces))) (sym shown_last)
          (context (suffix_len is_kept pieces) (old_lines (drop (a + n) pieces))
          (λ none. ap old_lines (drop_all (a + n) pieces (omega arith))));
      start = omega (arith, shown_first, length-take-le a pieces (omega arith));
      end = omega (arith, shown_last, length-drop (a + n) pieces);
      some = omega arith;
    }

pub hunk_of-part : (pieces : List Piece) (hunk : Hunk) (a b : ℕ) → prefix_len is_kept pieces < length pieces
    → a ≡ prefix_len is_kept pieces - 3 → b ≡ suffix_len is_kept pieces - 3
    → hunk.lines_above ≡ a → hunk.pieces.items ≡ take (length pieces - b - a) (drop a pieces) → IsHunkOf pieces hunk
hunk_of-part [] hunk a b some above below number part = absurd (omega arith)
hunk_of-part (first ∷ pieces) hunk a b some above below number part =
    let apart = ends_apart is_kept (first ∷ pieces) some in
    hunk_of-hidden (first ∷ pieces) hunk a b (length (first ∷ pieces) - b - a) first
    (record { above = above; below = below; rest = omega arith; some = apart }) number part

-- ---- the two files beside the hunk

old_lines-append : (pieces more : List Piece) → old_lines (pieces ++ more) ≡ old_lines pieces ++ old_lines more
old_lines-append pieces more = flat_map-append (λ piece. old_line piece.sign piece.line.now) pieces more

new_lines-append : (pieces more : List Piece) → new_lines (pieces ++ more) ≡ new_lines pieces ++ new_lines more
new_lines-append pieces more = flat_map-append (λ piece. new_line piece.sign piece.line.now) pieces more

-- a line that is kept stands in both
kept_in_both : (sign : Sign) (line : List ℕ) → stays sign ≡ true
    → (old_line sign line ≡ line ∷ []) × (new_line sign line ≡ line ∷ [])
kept_in_both Kept line is = (refl, refl)
kept_in_both Removed line is = cc
kept_in_both Added line is = cc

record AreKept (pieces : List Piece) : Type 0 where
  same : new_lines pieces ≡ old_lines pieces
  count : length (old_lines pieces) ≡ length pieces

are_kept : (pieces : List Piece) → All IsKept pieces → AreKept pieces
are_kept [] all = record { same = refl; count = refl }
are_kept (piece ∷ pieces) all =
    let rest = are_kept pieces (All-tail IsKept piece pieces all) in
    let both = kept_in_both piece.sign piece.line.now (All-head IsKept piece pieces all) in
    record {
      same = rw (both.0, both.1) (ap (λ lines. piece.line.now ∷ lines) rest.same);
      count = rw both.0 (omega (arith, rest.count));
    }

-- the lines on one side of a hunk
old_sides : (above items below : List Piece)
    → old_lines (above ++ items ++ below) ≡ old_lines above ++ old_lines items ++ old_lines below
old_sides above items below =
    old_lines-append (above ++ items) below ∙ ap (λ lines. lines ++ old_lines below) (old_lines-append above items)

new_sides : (above items below : List Piece) → AreKept above → AreKept below
    → new_lines (above ++ items ++ below) ≡ old_lines above ++ new_lines items ++ old_lines below
new_sides above items below a b =
    new_lines-append (above ++ items) below ∙ ap (λ lines. lines ++ new_lines below) (new_lines-append above items)
    ∙ ap (λ lines. lines ++ new_lines items ++ new_lines below) a.same
    ∙ ap (λ lines. old_lines above ++ new_lines items ++ lines) b.same

-- all lines that both begin and end with, where the lines and the counts are these
are_common : (pieces : List Piece) (old new : List (List ℕ)) (first last : ℕ) → KeepsEnds pieces
    → prefix_len is_kept pieces < length pieces → old_lines pieces ≡ old → new_lines pieces ≡ new
    → first ≡ prefix_len is_kept pieces → last ≡ suffix_len is_kept pieces → AreCommon old new first last
are_common pieces old new first last keeps some o n f l = record {
  front = f ∙ keeps.front ∙ ap₂ same_front o n;
  end = l ∙ sym (suffix_len-behind is_kept pieces some) ∙ keeps.end
      ∙ ap₂ same_end (ap₂ drop (sym f) o) (ap₂ drop (sym f) n);
}

pub is_hunk : (before after : List ℕ) (pieces : List Piece) → AreLinesOf before (old_lines pieces)
    → AreLinesOf after (new_lines pieces) → KeepsEnds pieces
    → (hunk : Hunk) → IsHunkOf pieces hunk → IsHunk before after hunk
is_hunk before after pieces old new keeps hunk is =
    let above = are_kept is.above is.kept_above in
    let below = are_kept is.below is.kept_below in
    let olds = sym (ap old_lines is.whole) ∙ old_sides is.above hunk.pieces.items is.below in
    let news = sym (ap new_lines is.whole) ∙ new_sides is.above hunk.pieces.items is.below above below in
    record {
      above = old_lines is.above;
      below = old_lines is.below;
      old = subst (AreLinesOf before) olds old;
      new = subst (AreLinesOf after) news new;
      number = is.number ∙ sym above.count;
      first = is.first;
      last = is.last;
      common = are_common pieces (old_lines is.above ++ old_lines hunk.pieces.items ++ old_lines is.below)
          (old_lines is.above ++ new_lines hunk.pieces.items ++ old_lines is.below)
          (length (old_lines is.above) + prefix_len is_kept hunk.pieces.items)
          (suffix_len is_kept hunk.pieces.items + length (old_lines is.below)) keeps is.some olds news
          (omega (arith, is.start, above.count)) (omega (arith, is.end, below.count));
    }

-- where each is kept, the files are the same
pub same_files : (before after : List ℕ) (pieces : List Piece) → AreLinesOf before (old_lines pieces)
    → AreLinesOf after (new_lines pieces)
    → prefix_len is_kept pieces ≡ length pieces → before ≡ after
same_files before after pieces old new all =
    let kept = are_kept pieces (λ k d low. prefix_len_passes is_kept pieces k d (omega arith)) in
    sym old.whole ∙ ap joined (sym kept.same) ∙ new.whole
