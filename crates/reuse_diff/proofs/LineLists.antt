-- Lines, one more behind others.
use Rattle.std.proofs.Common.{◌≡◌, ◌≢◌, ◌⊎◌, inl, inr, ℕ, List, [], ◌∷◌, ◌++◌, ◌+◌, ◌-◌, ◌<◌, zero, suc, get_or, length}
use Rattle.std.proofs.Common.{take, drop, refl, sym, ap, ◌∙◌, append_assoc, arith}
use Rattle.std.specs.List.{flat_map}
use Rattle.std.proofs.lemmas.List.{flat_map_more, map-append, append-nil, take_all, drop_all, length-map}
use Rattle.std.proofs.lemmas.List.{take_more_same, drop_more, take-append-drop, take-map}
use Rattle.std.specs.List.{drop-map}
use Rattle.std.specs.Borrow.{Bor}
use Rattle.reuse_diff.specs.TextLines.{IsEnded, IsUnended, AreLines, joined, texts_of}

-- each is ended
abbrev pub AllEnded : List (List ℕ) → Type 0
AllEnded [] = Unit {0}
AllEnded (line ∷ lines) = IsEnded line × AllEnded lines

pub all_ended-push : (lines : List (List ℕ)) (line : List ℕ) → AllEnded lines → IsEnded line
    → AllEnded (lines ++ line ∷ [])
all_ended-push [] line all is = (is, tt)
all_ended-push (first ∷ lines) line all is = (all.0, all_ended-push lines line all.1 is)

-- ended lines and some lines behind them
pub lines-append : (first second : List (List ℕ)) → AllEnded first → AreLines second → AreLines (first ++ second)
lines-append [] second all are = are
lines-append (line ∷ []) [] all are = inl all.0
lines-append (line ∷ []) (next ∷ second) all are = (all.0, are)
lines-append (line ∷ next ∷ first) second all are = (all.0, lines-append (next ∷ first) second all.1 are)

-- the lines so far: each is ended, if something is left
pub record AreSoFar (text : List ℕ) (lines : List (List ℕ)) (rest : List ℕ) : Type 0 where
  pub whole : joined lines ++ rest ≡ text
  pub each : AreLines lines
  pub ended : rest ≢ [] → AllEnded lines

joined-push : (lines : List (List ℕ)) (line rest : List ℕ)
    → joined (lines ++ line ∷ []) ++ rest ≡ joined lines ++ (line ++ rest)
joined-push lines line rest =
    ap (λ xs. xs ++ rest) (sym (flat_map_more (λ l. l) [] lines line)) ∙ append_assoc (joined lines) line rest

-- one line more
pub so_far-more : (text : List ℕ) (lines : List (List ℕ)) (rest line next : List ℕ) → AreSoFar text lines rest
    → rest ≢ [] → line ++ next ≡ rest
    → IsEnded line ⊎ ((next ≡ []) × IsUnended line) → AreSoFar text (lines ++ line ∷ []) next
so_far-more text lines rest line next far some parts is = record {
  whole = joined-push lines line next ∙ ap (λ xs. joined lines ++ xs) parts ∙ far.whole;
  each = lines-append lines (line ∷ []) (far.ended some) (elim is [ inl e ↦ inl e | inr u ↦ inr u.1 ]);
  ended = λ left. elim is [ inl e ↦ all_ended-push lines line (far.ended some) e | inr u ↦ absurd (left u.0) ];
}

-- a line more as it is lent
pub texts_of-push : (lines : List (Bor (List ℕ))) (line : Bor (List ℕ))
    → texts_of (lines ++ line ∷ []) ≡ texts_of lines ++ line.now ∷ []
texts_of-push lines line = map-append (λ (l : Bor (List ℕ)). l.now) lines (line ∷ [])

-- the first line, and what is behind it
pub line_split : (n : ℕ) (text : List ℕ) → IsEnded (take n text) ⊎ ((n ≡ length text) × IsUnended text)
    → IsEnded (take n text) ⊎ ((drop n text ≡ []) × IsUnended (take n text))
line_split n text (inl is) = inl is
line_split n text (inr u) = inr (drop_all n text (omega (arith, u.0)), rw (take_all n text (omega (arith, u.0))) u.1)

-- a line as it is lent, and among lines
pub texts_of-at : (lines : List (Bor (List ℕ))) (i : ℕ) (d : Bor (List ℕ))
    → get_or (texts_of lines) i d.now ≡ (get_or lines i d).now
texts_of-at [] i d = refl
texts_of-at (line ∷ lines) zero d = refl
texts_of-at (line ∷ lines) (suc i) d = texts_of-at lines i d

pub length-texts_of : (lines : List (Bor (List ℕ))) → length (texts_of lines) ≡ length lines
length-texts_of lines = length-map lines (λ line. line.now)

-- one more line at the start of both is the same
pub above-more : (old new : List (Bor (List ℕ))) (i : ℕ) (d : Bor (List ℕ)) → i < length old → i < length new
    → take i (texts_of old) ≡ take i (texts_of new) → (get_or old i d).now ≡ (get_or new i d).now
    → take (i + 1) (texts_of old) ≡ take (i + 1) (texts_of new)
above-more old new i d low low' same here =
    take_more_same (texts_of old) (texts_of new) i d.now (rw length-texts_of low) (rw length-texts_of low') same
    (texts_of-at old i d ∙ here ∙ sym (texts_of-at new i d))

drop_before : (lines : List (Bor (List ℕ))) (i : ℕ) (d : Bor (List ℕ)) → i < length lines
    → drop (length lines - (i + 1)) (texts_of lines) ≡ (get_or lines (length lines - 1 - i) d).now ∷ drop
    (length lines - i) (texts_of lines)
drop_before lines i d low =
    let at : length lines - (i + 1) ≡ length lines - 1 - i = omega arith in
    let next : length lines - (i + 1) + 1 ≡ length lines - i = omega arith in
    drop_more (texts_of lines) (length lines - (i + 1)) d.now (let size = length-texts_of lines in omega arith)
    ∙ ap (λ line. line ∷ drop (length lines - (i + 1) + 1) (texts_of lines))
    (texts_of-at lines (length lines - (i + 1)) d ∙ ap (λ k. (get_or lines k d).now) at)
    ∙ ap (λ k. (get_or lines (length lines - 1 - i) d).now ∷ drop k (texts_of lines)) next

-- one more line at the end of both is the same
pub below-more : (old new : List (Bor (List ℕ))) (i : ℕ) (d : Bor (List ℕ)) → i < length old → i < length new
    → drop (length old - i) (texts_of old) ≡ drop (length new - i) (texts_of new)
    → (get_or old (length old - 1 - i) d).now ≡ (get_or new (length new - 1 - i) d).now
    → drop (length old - (i + 1)) (texts_of old) ≡ drop (length new - (i + 1)) (texts_of new)
below-more old new i d low low' same here =
    drop_before old i d low ∙ ap (λ line. line ∷ drop (length old - i) (texts_of old)) here
    ∙ ap (λ lines. (get_or new (length new - 1 - i) d).now ∷ lines) same ∙ sym (drop_before new i d low')

-- each line alone, or none of them
pub flat_map-single : (lines : List (List ℕ)) → flat_map (λ line. line ∷ []) lines ≡ lines
flat_map-single [] = refl
flat_map-single (line ∷ lines) = ap (λ xs. line ∷ xs) (flat_map-single lines)

pub flat_map-none : (lines : List (List ℕ)) → flat_map {A = List ℕ} (λ line. []) lines ≡ []
flat_map-none [] = refl
flat_map-none (line ∷ lines) = flat_map-none lines

-- the lines at the start, those in between, and those at the end
pub in_three : (lines : List (Bor (List ℕ))) (a n : ℕ)
    → texts_of (take a lines) ++ texts_of (take n (drop a lines)) ++ texts_of (drop n (drop a lines)) ≡ texts_of lines
in_three lines a n =
    append_assoc (texts_of (take a lines)) (texts_of (take n (drop a lines))) (texts_of (drop n (drop a lines)))
    ∙ ap (λ xs. texts_of (take a lines) ++ xs)
    (sym (map-append (λ (l : Bor (List ℕ)). l.now) (take n (drop a lines)) (drop n (drop a lines)))
    ∙ ap texts_of (take-append-drop n (drop a lines)))
    ∙ sym (map-append (λ (l : Bor (List ℕ)). l.now) (take a lines) (drop a lines))
    ∙ ap texts_of (take-append-drop a lines)

-- lines that were added in three steps
pub added_in_three : (start first second third above middle below : List (List ℕ)) → start ≡ []
    → first ≡ start ++ flat_map (λ line. line ∷ []) above → second ≡ first ++ middle
    → third ≡ second ++ flat_map (λ line. line ∷ []) below → third ≡ above ++ middle ++ below
added_in_three start first second third above middle below none a b c =
    rw (c, b, a, none, flat_map-single, flat_map-single) refl

-- lines of which the first go, and the others come
pub goes : (start first second old new : List (List ℕ)) → first ≡ start ++ flat_map (λ line. line ∷ []) old
    → second ≡ first ++ flat_map (λ line. []) new → second ≡ start ++ old
goes start first second old new a b = rw (b, a, flat_map-single, flat_map-none) (append-nil (start ++ old))

pub comes : (start first second old new : List (List ℕ)) → first ≡ start ++ flat_map (λ line. []) old
    → second ≡ first ++ flat_map (λ line. line ∷ []) new → second ≡ start ++ new
comes start first second old new a b =
    rw (b, a, flat_map-single, flat_map-none) (ap (λ lines. lines ++ new) (append-nil start))

-- both have the same lines at the start and at the end
pub in_three-both : (old new : List (Bor (List ℕ))) (a b : ℕ) → take a (texts_of old) ≡ take a (texts_of new)
    → drop (length (drop a old) - b) (texts_of (drop a old)) ≡ drop (length (drop a new) - b) (texts_of (drop a new))
    → texts_of (take a old) ++ texts_of (take (length (drop a new) - b) (drop a new)) ++ texts_of
    (drop (length (drop a old) - b) (drop a old)) ≡ texts_of new
in_three-both old new a b above below =
    ap (λ lines. lines ++ texts_of (take (length (drop a new) - b) (drop a new)) ++ texts_of
    (drop (length (drop a old) - b) (drop a old))) (texts_of-take a old ∙ above ∙ sym (texts_of-take a new))
    ∙ ap (λ lines. texts_of (take a new) ++ texts_of (take (length (drop a new) - b) (drop a new)) ++ lines)
    (texts_of-drop (length (drop a old) - b) (drop a old) ∙ below
    ∙ sym (texts_of-drop (length (drop a new) - b) (drop a new)))
    ∙ in_three new a (length (drop a new) - b)
  where
    texts_of-take : (n : ℕ) (lines : List (Bor (List ℕ))) → texts_of (take n lines) ≡ take n (texts_of lines)
    texts_of-take n lines = sym (take-map (λ (l : Bor (List ℕ)). l.now) n lines)

    texts_of-drop : (n : ℕ) (lines : List (Bor (List ℕ))) → texts_of (drop n lines) ≡ drop n (texts_of lines)
    texts_of-drop n lines = sym (drop-map (λ (l : Bor (List ℕ)). l.now) n lines)
