-- Lines that two files begin and end with.
use Rattle.std.proofs.Common.{inl, inr, cond, ◌≡◌, ◌⊎◌, ℕ, ◌+◌, ◌-◌, ◌<◌, ◌≤◌, false, List, [], ◌∷◌, ◌++◌, length}
use Rattle.std.proofs.Common.{get_or, take, drop, reverse, refl, sym, ap, ap₂, ◌∙◌, arith, append_assoc, subst}
use Rattle.std.specs.List.{drop-map, flat_map, prefix_len, suffix_len}
use Rattle.std.specs.Str.{bytes_eq}
use Rattle.std.specs.Borrow.{Bor}
use Rattle.std.proofs.Math.Seq.{drop-append_seam}
use Rattle.std.proofs.lemmas.Bool.{cases_Bool, cases_lt}
use Rattle.std.proofs.lemmas.Grind.{flat_map-append}
use Rattle.std.proofs.lemmas.List.{append-nil, length-drop, length-map, length-reverse, length-take, get_or-reverse}
use Rattle.std.proofs.lemmas.List.{map-append, reverse-append, take-append-drop, take-append-le}
use Rattle.std.proofs.lemmas.List.Sums.{common_prefix_len-le, common_prefix_len-drop_yes, common_prefix_len-drop_no}
use Rattle.std.proofs.lemmas.Slice.Eq.{bytes_eq-Decides}
use Rattle.reuse_diff.specs.declared.hunk.Sign.{Sign}
use Rattle.reuse_diff.specs.declared.hunk.Sign.TheVariants.{Kept, Removed, Added}
use Rattle.reuse_diff.specs.declared.hunk.Piece.{Piece}
use Rattle.reuse_diff.specs.TextLines.{texts_of}
use Rattle.reuse_diff.specs.Hunks.{stays, is_kept, old_line, new_line, old_lines, new_lines, pieces_with, same_front}
use Rattle.reuse_diff.specs.Hunks.{same_end, KeepsEnds}
use Rattle.reuse_diff.proofs.LineLists.{texts_of-at, length-texts_of, above-more, below-more}

-- ---- how many both begin with, line by line

-- the next lines are the same
front-more : (old new : List (List ℕ)) (i : ℕ) (d : List ℕ) → i < length old → i < length new
    → get_or old i d ≡ get_or new i d
    → same_front old new ≡ i + same_front (drop i old) (drop i new)
    → same_front old new ≡ i + 1 + same_front (drop (i + 1) old) (drop (i + 1) new)
front-more old new i d low low' here so =
    let more = common_prefix_len-drop_yes bytes_eq old new i d d low low'
    ((bytes_eq-Decides (get_or old i d) (get_or new i d)).1 here) in
    omega arith

-- they differ
front-stops : (old new : List (List ℕ)) (i : ℕ) (d : List ℕ) → i < length old → i < length new
    → (get_or old i d ≡ get_or new i d → ⊥)
    → same_front old new ≡ i + same_front (drop i old) (drop i new) → i ≡ same_front old new
front-stops old new i d low low' differ so =
    let apart : bytes_eq (get_or old i d) (get_or new i d) ≡ false =
    elim (cases_Bool (bytes_eq (get_or old i d) (get_or new i d))) [
      | inl equal ↦ absurd (differ ((bytes_eq-Decides (get_or old i d) (get_or new i d)).0 equal))
      | inr other ↦ other
    ] in
    let none = common_prefix_len-drop_no bytes_eq old new i d d low low' apart in
    omega arith

-- ---- the same of lines as they are lent

above-all : (old new : List (Bor (List ℕ))) (i : ℕ) (d : Bor (List ℕ)) → i < length old → i < length new
    → (get_or old i d).now ≡ (get_or new i d).now
    → same_front (texts_of old) (texts_of new) ≡ i + same_front (drop i (texts_of old)) (drop i (texts_of new))
    → same_front (texts_of old) (texts_of new) ≡ i + 1 + same_front (drop (i + 1) (texts_of old))
    (drop (i + 1) (texts_of new))
above-all old new i d low low' here so =
    front-more (texts_of old) (texts_of new) i d.now (rw length-texts_of low) (rw length-texts_of low')
    (texts_of-at old i d ∙ here ∙ sym (texts_of-at new i d)) so

pub above-stops : (old new : List (Bor (List ℕ))) (i : ℕ) (d : Bor (List ℕ)) → i < length old → i < length new
    → ((get_or old i d).now ≡ (get_or new i d).now → ⊥)
    → same_front (texts_of old) (texts_of new) ≡ i + same_front (drop i (texts_of old)) (drop i (texts_of new))
    → i ≡ same_front (texts_of old) (texts_of new)
above-stops old new i d low low' differ so =
    front-stops (texts_of old) (texts_of new) i d.now (rw length-texts_of low) (rw length-texts_of low')
    (λ here. differ (sym (texts_of-at old i d) ∙ here ∙ texts_of-at new i d)) so

-- so far both begin with the same lines
pub record BeginAlike (old new : List (Bor (List ℕ))) (i : ℕ) : Type 0 where
  pub same : take i (texts_of old) ≡ take i (texts_of new)
  pub all : same_front (texts_of old) (texts_of new) ≡ i + same_front (drop i (texts_of old)) (drop i (texts_of new))

pub above-on : (old new : List (Bor (List ℕ))) (i : ℕ) (d : Bor (List ℕ)) → i < length old → i < length new
    → (get_or old i d).now ≡ (get_or new i d).now → BeginAlike old new i → BeginAlike old new (i + 1)
above-on old new i d low low' here so = record {
  same = above-more old new i d low low' so.same here;
  all = above-all old new i d low low' here so.all;
}

-- one of the two ends there
front-ends : (old new : List (List ℕ)) (i : ℕ) → (length old ≤ i) ⊎ (length new ≤ i)
    → same_front old new ≡ i + same_front (drop i old) (drop i new) → i ≡ same_front old new
front-ends old new i (inl late) so =
    let few = common_prefix_len-le bytes_eq (drop i old) (drop i new) in
    omega (arith, few.0, length-drop i old)
front-ends old new i (inr late) so =
    let few = common_prefix_len-le bytes_eq (drop i old) (drop i new) in
    omega (arith, few.1, length-drop i new)

-- the shorter one does
at_one : (old new : List (Bor (List ℕ))) (i : ℕ) → (length old ≤ length new → length old ≤ i)
    → (length new < length old → length new ≤ i) → (length old ≤ i) ⊎ (length new ≤ i)
at_one old new i short long = elim (cases_lt (length new) (length old)) [
  | inl e ↦ inr (long e)
  | inr e ↦ inl (short e)
]

pub above-ends : (old new : List (Bor (List ℕ))) (i : ℕ) → (length old ≤ length new → length old ≤ i)
    → (length new < length old → length new ≤ i)
    → same_front (texts_of old) (texts_of new) ≡ i + same_front (drop i (texts_of old)) (drop i (texts_of new))
    → i ≡ same_front (texts_of old) (texts_of new)
above-ends old new i short long so =
    front-ends (texts_of old) (texts_of new) i
    (elim (at_one old new i short long) [ inl e ↦ inl (rw length-texts_of e) | inr e ↦ inr (rw length-texts_of e) ]) so

-- ---- how many both end with

-- a line as it stands from the end
at_end : (lines : List (Bor (List ℕ))) (i : ℕ) (d : Bor (List ℕ)) → i < length lines
    → get_or (reverse (texts_of lines)) i d.now ≡ (get_or lines (length lines - 1 - i) d).now
at_end lines i d low =
    get_or-reverse (texts_of lines) i d.now (rw length-texts_of low)
    ∙ ap (λ n. get_or (texts_of lines) (n - 1 - i) d.now) (length-texts_of lines)
    ∙ texts_of-at lines (length lines - 1 - i) d

length-back : (lines : List (Bor (List ℕ))) → length (reverse (texts_of lines)) ≡ length lines
length-back lines = length-reverse (texts_of lines) ∙ length-texts_of lines

below-all : (old new : List (Bor (List ℕ))) (i : ℕ) (d : Bor (List ℕ)) → i < length old → i < length new
    → (get_or old (length old - 1 - i) d).now ≡ (get_or new (length new - 1 - i) d).now
    → same_end (texts_of old) (texts_of new) ≡ i + same_front (drop i (reverse (texts_of old)))
    (drop i (reverse (texts_of new)))
    → same_end (texts_of old) (texts_of new) ≡ i + 1 + same_front (drop (i + 1) (reverse (texts_of old)))
    (drop (i + 1) (reverse (texts_of new)))
below-all old new i d low low' here so =
    front-more (reverse (texts_of old)) (reverse (texts_of new)) i d.now (rw length-back low) (rw length-back low')
    (at_end old i d low ∙ here ∙ sym (at_end new i d low')) so

pub below-stops : (old new : List (Bor (List ℕ))) (i : ℕ) (d : Bor (List ℕ)) → i < length old → i < length new
    → ((get_or old (length old - 1 - i) d).now ≡ (get_or new (length new - 1 - i) d).now → ⊥)
    → same_end (texts_of old) (texts_of new) ≡ i + same_front (drop i (reverse (texts_of old)))
    (drop i (reverse (texts_of new))) → i ≡ same_end (texts_of old) (texts_of new)
below-stops old new i d low low' differ so =
    front-stops (reverse (texts_of old)) (reverse (texts_of new)) i d.now (rw length-back low) (rw length-back low')
    (λ here. differ (sym (at_end old i d low) ∙ here ∙ at_end new i d low')) so

pub below-ends : (old new : List (Bor (List ℕ))) (i : ℕ) → (length old ≤ length new → length old ≤ i)
    → (length new < length old → length new ≤ i)
    → same_end (texts_of old) (texts_of new) ≡ i + same_front (drop i (reverse (texts_of old)))
    (drop i (reverse (texts_of new))) → i ≡ same_end (texts_of old) (texts_of new)
below-ends old new i short long so =
    front-ends (reverse (texts_of old)) (reverse (texts_of new)) i
    (elim (at_one old new i short long) [ inl e ↦ inl (rw length-back e) | inr e ↦ inr (rw length-back e) ]) so

-- so far both end with the same lines
pub record EndAlike (old new : List (Bor (List ℕ))) (i : ℕ) : Type 0 where
  pub same : drop (length old - i) (texts_of old) ≡ drop (length new - i) (texts_of new)
  pub all : same_end (texts_of old) (texts_of new) ≡ i + same_front (drop i (reverse (texts_of old)))
      (drop i (reverse (texts_of new)))

pub below-on : (old new : List (Bor (List ℕ))) (i : ℕ) (d : Bor (List ℕ)) → i < length old → i < length new
    → (get_or old (length old - 1 - i) d).now ≡ (get_or new (length new - 1 - i) d).now → EndAlike old new i
    → EndAlike old new (i + 1)
below-on old new i d low low' here so = record {
  same = below-more old new i d low low' so.same here;
  all = below-all old new i d low low' here so.all;
}

-- where the lines are those of pieces
pub end_behind : (old new : List (Bor (List ℕ))) (a b n : ℕ) (olds news : List (List ℕ)) → olds ≡ texts_of old
    → news ≡ texts_of new → n ≡ a
    → b ≡ same_end (texts_of (drop a old)) (texts_of (drop a new)) → b ≡ same_end (drop n olds) (drop n news)
end_behind old new a b n olds news o w count so = so ∙ ap₂ same_end (behind_first old olds o) (behind_first new news w)
  where
    behind_first : (lines : List (Bor (List ℕ))) (all : List (List ℕ)) → all ≡ texts_of lines
        → texts_of (drop a lines) ≡ drop n all
    behind_first lines all is = sym (drop-map (λ (l : Bor (List ℕ)). l.now) a lines) ∙ ap₂ drop (sym count) (sym is)

-- ---- pieces that are kept

-- what some pieces begin with stays where more are added
pub front-kept : (front pieces more : List Piece) → take (length front) pieces ≡ front
    → take (length front) (pieces ++ more) ≡ front
front-kept front pieces more so =
    take-append-le (length front) pieces more (omega (arith, length-take (length front) pieces, ap length so)) ∙ so

-- no more lines are kept at the start than both begin with
kept_few : (pieces : List Piece) → prefix_len is_kept pieces ≤ same_front (old_lines pieces) (new_lines pieces)
kept_few [] = omega arith
kept_few (piece ∷ pieces) = by piece.sign piece.line.now (kept_few pieces)
  where
    by : (sign : Sign) (line : List ℕ) → prefix_len is_kept pieces ≤ same_front (old_lines pieces) (new_lines pieces)
        → cond (stays sign) (1 + prefix_len is_kept pieces) 0 ≤ same_front (old_line sign line ++ old_lines pieces)
        (new_line sign line ++ new_lines pieces)
    by Kept line few = rw ((bytes_eq-Decides line line).1 refl) (omega arith)
    by Removed line few = omega arith
    by Added line few = omega arith

-- pieces from the last to the first
back : (f : Piece → List (List ℕ)) → ((piece : Piece) → reverse (f piece) ≡ f piece) → (pieces : List Piece)
    → flat_map f (reverse pieces) ≡ reverse (flat_map f pieces)
back f each [] = refl
back f each (piece ∷ pieces) =
    ap (flat_map f) (reverse-append (piece ∷ []) pieces) ∙ flat_map-append f (reverse pieces) (piece ∷ [])
    ∙ ap₂ (λ xs ys. xs ++ ys) (back f each pieces) (append-nil (f piece) ∙ sym (each piece))
    ∙ sym (reverse-append (f piece) (flat_map f pieces))

old_back : (pieces : List Piece) → old_lines (reverse pieces) ≡ reverse (old_lines pieces)
old_back pieces = back (λ piece. old_line piece.sign piece.line.now) (λ piece. by piece.sign piece.line.now) pieces
  where
    by : (sign : Sign) (line : List ℕ) → reverse (old_line sign line) ≡ old_line sign line
    by Kept line = refl
    by Removed line = refl
    by Added line = refl

new_back : (pieces : List Piece) → new_lines (reverse pieces) ≡ reverse (new_lines pieces)
new_back pieces = back (λ piece. new_line piece.sign piece.line.now) (λ piece. by piece.sign piece.line.now) pieces
  where
    by : (sign : Sign) (line : List ℕ) → reverse (new_line sign line) ≡ new_line sign line
    by Kept line = refl
    by Removed line = refl
    by Added line = refl

kept_few_back : (pieces : List Piece) → suffix_len is_kept pieces ≤ same_end (old_lines pieces) (new_lines pieces)
kept_few_back pieces = subst (λ n. suffix_len is_kept pieces ≤ n) (ap₂ same_front (old_back pieces) (new_back pieces))
    (kept_few (reverse pieces))

-- behind lines that are kept
kept_in_front : (lines : List (Bor (List ℕ))) (pieces : List Piece)
    → prefix_len is_kept (pieces_with Kept lines ++ pieces) ≡ length lines + prefix_len is_kept pieces
kept_in_front [] pieces = omega arith
kept_in_front (line ∷ lines) pieces = omega (arith, kept_in_front lines pieces)

pieces_back : (lines : List (Bor (List ℕ))) → reverse (pieces_with Kept lines) ≡ pieces_with Kept (reverse lines)
pieces_back [] = refl
pieces_back (line ∷ lines) =
    reverse-append (pieces_with Kept (line ∷ [])) (pieces_with Kept lines)
    ∙ ap (λ ps. ps ++ pieces_with Kept (line ∷ [])) (pieces_back lines)
    ∙ sym (ap (pieces_with Kept) (reverse-append (line ∷ []) lines)
    ∙ map-append (λ (l : Bor (List ℕ)). record { sign = Kept; line = l }) (reverse lines) (line ∷ []))

kept_at_end : (pieces : List Piece) (lines : List (Bor (List ℕ)))
    → length lines ≤ suffix_len is_kept (pieces ++ pieces_with Kept lines)
kept_at_end pieces lines =
    let turned = ap (prefix_len is_kept)
    (reverse-append pieces (pieces_with Kept lines) ∙ ap (λ ps. ps ++ reverse pieces) (pieces_back lines)) in
    omega (arith, turned, kept_in_front (reverse lines) (reverse pieces), length-reverse lines)

old_of_kept : (lines : List (Bor (List ℕ))) (pieces : List Piece)
    → old_lines (pieces_with Kept lines ++ pieces) ≡ texts_of lines ++ old_lines pieces
old_of_kept [] pieces = refl
old_of_kept (line ∷ lines) pieces = ap (λ ls. line.now ∷ ls) (old_of_kept lines pieces)

new_of_kept : (lines : List (Bor (List ℕ))) (pieces : List Piece)
    → new_lines (pieces_with Kept lines ++ pieces) ≡ texts_of lines ++ new_lines pieces
new_of_kept [] pieces = refl
new_of_kept (line ∷ lines) pieces = ap (λ ls. line.now ∷ ls) (new_of_kept lines pieces)

behind : {X : Type 0} (front rest all : List X) (n : ℕ) → n ≡ length front → all ≡ front ++ rest → drop n all ≡ rest
behind front rest all n count is = ap₂ drop count is ∙ drop-append_seam front rest

-- pieces that begin and end with all the lines that both do
keeps_ends : (above below : List (Bor (List ℕ))) (middle pieces : List Piece)
    → pieces ≡ pieces_with Kept above ++ (middle ++ pieces_with Kept below)
    → length above ≡ same_front (old_lines pieces) (new_lines pieces)
    → length below ≡ same_end (drop (length above) (old_lines pieces)) (drop (length above) (new_lines pieces))
    → KeepsEnds pieces
keeps_ends above below middle pieces is front end =
    let rest = middle ++ pieces_with Kept below in
    let many = ap (prefix_len is_kept) is ∙ kept_in_front above rest in
    let count : prefix_len is_kept pieces ≡ length above = omega (arith, many, kept_few pieces) in
    let left : drop (prefix_len is_kept pieces) pieces ≡ rest = behind (pieces_with Kept above) rest pieces
    (prefix_len is_kept pieces) (count ∙ sym (length-map above (λ l. record { sign = Kept; line = l }))) is in
    let old : drop (length above) (old_lines pieces) ≡ old_lines rest = behind (texts_of above) (old_lines rest)
    (old_lines pieces) (length above) (sym (length-texts_of above)) (ap old_lines is ∙ old_of_kept above rest) in
    let new : drop (length above) (new_lines pieces) ≡ new_lines rest = behind (texts_of above) (new_lines rest)
    (new_lines pieces) (length above) (sym (length-texts_of above)) (ap new_lines is ∙ new_of_kept above rest) in
    let same : length below ≡ same_end (old_lines rest) (new_lines rest) = end ∙ ap₂ same_end old new in
    let last : suffix_len is_kept rest ≡ length below = omega (arith, kept_few_back rest, kept_at_end middle below) in
    record {
      front = count ∙ front;
      end = ap (suffix_len is_kept) left ∙ last ∙ end
          ∙ ap (λ n. same_end (drop n (old_lines pieces)) (drop n (new_lines pieces))) (sym count);
    }

-- they were added in three steps
pub keeps_ends-added : (above below : List (Bor (List ℕ))) (one two three : List Piece) → one ≡ pieces_with Kept above
    → take (length one) two ≡ one
    → three ≡ two ++ pieces_with Kept below → length above ≡ same_front (old_lines three) (new_lines three)
    → length below ≡ same_end (drop (length above) (old_lines three)) (drop (length above) (new_lines three))
    → KeepsEnds three
keeps_ends-added above below one two three first second third front end =
    let middle = drop (length one) two in
    let parts : two ≡ pieces_with Kept above ++ middle =
    sym (take-append-drop (length one) two) ∙ ap (λ ps. ps ++ middle) (second ∙ first) in
    keeps_ends above below middle three (third ∙ ap (λ ps. ps ++ pieces_with Kept below) parts
    ∙ append_assoc (pieces_with Kept above) middle (pieces_with Kept below)) front end
