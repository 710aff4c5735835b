-- A path that clashes: what the look-ups of the parts above it answer.
use Rattle.std.proofs.Common.{◌≡◌, ℕ, ◌+◌, ◌<◌, Bool, true, false, ◌||◌, List, [], ◌∷◌, ◌++◌, length, take, drop}
use Rattle.std.proofs.Common.{get_or, refl, sym, ap, ◌∙◌, subst, arith}
use Rattle.std.specs.List.{list_any}
use Rattle.std.specs.Str.{bytes_eq}
use Rattle.std.proofs.lemmas.Bool.{false≢true, or_parts, or_right}
use Rattle.std.proofs.lemmas.List.{drop_more, take-append-drop}
use Rattle.std.proofs.lemmas.Slice.Eq.{bytes_eq-Decides}
use Rattle.std.proofs.Math.Seq.{take-append_seam}
use Rattle.reuse_change.specs.Path.{lies_under}
use Rattle.reuse_change.specs.Clash.{is_clash_of}
use Rattle.reuse_change.specs.Listing.{is_among, is_folder_of}
use Rattle.reuse_change.proofs.ListingLemmas.{under_from_test, test_from_under}

-- ---- the parts above a path

-- whether a part above the path is one of the paths
abbrev pub is_below : List (List ℕ) → List ℕ → Bool
is_below paths path = list_any (λ other. lies_under path other) paths

or_swap : (a b c d : Bool) → ((a || b) || (c || d)) ≡ ((a || c) || (b || d))
or_swap true b c d = refl
or_swap false true true d = refl
or_swap false true false d = refl
or_swap false false c d = refl

-- a clash is of either kind
pub clash_kinds : (paths : List (List ℕ)) (path : List ℕ)
    → is_clash_of paths path ≡ (is_folder_of paths path || is_below paths path)
clash_kinds [] path = refl
clash_kinds (other ∷ paths) path =
    ap (λ b. (lies_under other path || lies_under path other) || b) (clash_kinds paths path)
    ∙ or_swap (lies_under other path) (lies_under path other) (is_folder_of paths path) (is_below paths path)

or_false : (b : Bool) → (b || false) ≡ b
or_false true = refl
or_false false = refl

pub clash_below : (paths : List (List ℕ)) (path : List ℕ) → is_below paths path ≡ true → true ≡ is_clash_of paths path
clash_below paths path e = sym
    (clash_kinds paths path ∙ ap (λ b. is_folder_of paths path || b) e ∙ or_right (is_folder_of paths path) true refl)

pub clash_folder : (paths : List (List ℕ)) (path : List ℕ) → is_below paths path ≡ false
    → is_folder_of paths path ≡ is_clash_of paths path
clash_folder paths path e =
    sym (clash_kinds paths path ∙ ap (λ b. is_folder_of paths path || b) e ∙ or_false (is_folder_of paths path))

-- a part above the path is one of the paths
pub part_found : (paths : List (List ℕ)) (path : List ℕ) (k : ℕ) → k < length path → get_or path k 0 ≡ 47
    → is_among paths (take k path) ≡ true → is_below paths path ≡ true
part_found [] path k low slash among = absurd (false≢true among)
part_found (other ∷ paths) path k low slash among =
    of_test (bytes_eq (take k path) other) refl among (part_found paths path k low slash)
  where
    cut : path ≡ take k path ++ 47 ∷ drop (k + 1) path
    cut = sym (take-append-drop k path)
        ∙ ap (λ l. take k path ++ l) (drop_more path k 0 low ∙ ap (λ (n : ℕ). n ∷ drop (k + 1) path) slash)

    of_test : (b : Bool) → bytes_eq (take k path) other ≡ b → (b || is_among paths (take k path)) ≡ true
        → (is_among paths (take k path) ≡ true → is_below paths path ≡ true)
        → (lies_under path other || is_below paths path) ≡ true
    of_test true e h rest =
        ap (λ b. b || is_below paths path) (subst (λ o. lies_under path o ≡ true)
        ((bytes_eq-Decides (take k path) other).0 e) (test_from_under path (take k path) (drop (k + 1) path, cut)))
    of_test false e h rest = ap (λ b. lies_under path other || b) (rest h) ∙ or_right (lies_under path other) true refl

length_of_front : (front rest : List ℕ) → length front < length (front ++ 47 ∷ rest)
length_of_front [] rest = omega arith
length_of_front (x ∷ front) rest = let h = length_of_front front rest in omega arith

slash_after : (front rest : List ℕ) → get_or (front ++ 47 ∷ rest) (length front) 0 ≡ 47
slash_after [] rest = refl
slash_after (x ∷ front) rest = slash_after front rest

-- where no part above the path is one of the paths, it lies under none
pub no_part : (paths : List (List ℕ)) (path : List ℕ)
    → ((k : ℕ) → k < length path → get_or path k 0 ≡ 47 → is_among paths (take k path) ≡ false)
    → is_below paths path ≡ false
no_part [] path none = refl
no_part (other ∷ paths) path none = of_test (lies_under path other) refl (no_part paths path
    (λ k low slash. (or_parts (bytes_eq (take k path) other) (is_among paths (take k path)) (none k low slash)).1))
  where
    of_test : (b : Bool) → lies_under path other ≡ b → is_below paths path ≡ false → (b || is_below paths path) ≡ false
    of_test false e rest = rest
    of_test true e rest =
        let under = under_from_test path other e in
        let front : take (length other) path ≡ other =
        ap (take (length other)) under.1 ∙ take-append_seam other (47 ∷ under.0) in
        let k = length other in
        let differs = (or_parts (bytes_eq (take (length other) path) other) (is_among paths (take (length other) path))
        (none (length other) (subst (λ p. length other < length p) (sym under.1) (length_of_front other under.0))
        (ap (λ p. get_or p (length other) 0) under.1 ∙ slash_after other under.0))).0 in
        absurd (false≢true (sym differs ∙ (bytes_eq-Decides (take (length other) path) other).1 front))
