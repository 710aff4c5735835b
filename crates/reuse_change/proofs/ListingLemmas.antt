-- A look-up among paths in byte order, and the folders above them.
use Rattle.std.proofs.Common.{◌≡◌, ℕ, zero, suc, ◌+◌, ◌<◌, ◌≤◌, Bool, true, false, cond, ◌&&◌, ◌||◌, List, [], ◌∷◌}
use Rattle.std.proofs.Common.{◌++◌, length, get_or, drop, Less, Equal, Greater, Ordering, nat_cmp, nat_lt, nat_eq, refl}
use Rattle.std.proofs.Common.{sym, ap, ap₂, ◌∙◌, arith, append_assoc, ◌⊎◌, inl, inr, filter}
use Rattle.std.specs.Ordering.{ordering_then, ordering_reverse, MatchOrdering, is_lt, is_eq}
use Rattle.std.specs.Cmp.Lexicographic.{slice_cmp}
use Rattle.std.specs.List.{AllByRecursion, starts_with, list_any, take_while}
use Rattle.std.proofs.lemmas.List.Sums.{take_while-cons}
use Rattle.std.specs.List.Sorted.{IsPartitionPoint, IsPartitionedBy}
use Rattle.std.specs.Str.{bytes_eq}
use Rattle.std.proofs.lemmas.Bool.{false≢true, false_from_ne_true, and_parts, and_from, le-ltb, lt-ltb, eqb-true}
use Rattle.std.proofs.lemmas.Bool.Decides.{nat_tests, Decides-eqb}
use Rattle.std.proofs.lemmas.Cmp.{nat_list_cmp_total, nat_cmp_total, ranked, tied_itself}
use Rattle.std.proofs.lemmas.List.{drop_more}
use Rattle.std.proofs.lemmas.Map.Text.{is_eq-slice_cmp}
use Rattle.std.proofs.lemmas.Map.Keys.{sorted_head, sorted_tail}
use Rattle.std.proofs.lemmas.Slice.Eq.{starts_is, bytes_eq-Decides}
use Rattle.reuse_change.specs.Path.{lies_under}
use Rattle.reuse_change.specs.Listing.{ArePaths, is_among, is_folder_of}

abbrev before : List ℕ → List ℕ → Ordering
before = slice_cmp nat_cmp

-- ---- what an order answers

is_less : (o : Ordering) → is_lt o ≡ true → o ≡ Less
is_less Less e = refl
is_less Equal e = absurd (false≢true e)
is_less Greater e = absurd (false≢true e)

not_less : (o : Ordering) → is_lt o ≡ false → (o ≡ Equal) ⊎ (o ≡ Greater)
not_less Less e = absurd (false≢true (sym e))
not_less Equal e = inl refl
not_less Greater e = inr refl

not_itself : (x : List ℕ) → before x x ≡ Less → ⊥
not_itself x e = let s = sym e ∙ tied_itself nat_list_cmp_total x in cc

-- ---- under a folder

abbrev LiesUnder : List ℕ → List ℕ → Type 0
LiesUnder folder path = (rest : List ℕ) × (path ≡ folder ++ 47 ∷ rest)

pub get_or_after : (p : List ℕ) (x : ℕ) (rest : List ℕ) → get_or (p ++ x ∷ rest) (length p) 0 ≡ x
get_or_after [] x rest = refl
get_or_after (a ∷ p) x rest = get_or_after p x rest

slash_within : (path : List ℕ) (k : ℕ) → nat_eq (get_or path k 0) 47 ≡ true → k < length path
slash_within [] k e = absurd (false≢true e)
slash_within (x ∷ path) zero e = omega arith
slash_within (x ∷ path) (suc k) e = let h = slash_within path k e in omega arith

pub under_from_test : (path folder : List ℕ) → lies_under path folder ≡ true → LiesUnder folder path
under_from_test path folder h =
    let parts = and_parts (starts_with nat_eq path folder) _ h in
    let begun : path ≡ folder ++ drop (length folder) path =
    (starts_is Decides-eqb path folder (starts_with nat_eq path folder) refl).0 parts.0 in (
      drop (length folder + 1) path,
      begun ∙ ap (λ l. folder ++ l) (drop_more path (length folder) 0 (slash_within path (length folder) parts.1)
          ∙ ap (λ (n : ℕ). n ∷ drop (length folder + 1) path) (eqb-true _ 47 parts.1)),
    )

pub test_from_under : (path folder : List ℕ) → LiesUnder folder path → lies_under path folder ≡ true
test_from_under path folder h =
    and_from _ _ ((starts_is Decides-eqb path folder (starts_with nat_eq path folder) refl).1 (47 ∷ h.0) h.1)
    (ap (λ (l : List ℕ). nat_eq (get_or l (length folder) 0) 47) h.1
    ∙ ap (λ n. nat_eq n 47) (get_or_after folder 47 h.0))

then_less_at : (r : Ordering) (a b : ℕ) (o : Ordering) → MatchOrdering r (a < b) (a ≡ b) (b < a)
    → ordering_then r o ≡ Less → (a < b) ⊎ ((a ≡ b) × (o ≡ Less))
then_less_at Less a b o m e = inl m
then_less_at Equal a b o m e = inr (m, e)
then_less_at Greater a b o m e = absurd (cc)

then_less : (a b : ℕ) (o : Ordering) → ordering_then (nat_cmp a b) o ≡ Less → (a < b) ⊎ ((a ≡ b) × (o ≡ Less))
then_less a b o e = then_less_at (nat_cmp a b) a b o (ranked a b (nat_cmp a b) refl) e

parts_of_cons : (c a : ℕ) (q l : List ℕ) → c ∷ q ≡ a ∷ l → (c ≡ a) × (q ≡ l)
parts_of_cons c a q l e = (cc, cc)

-- what lies between p and something that begins with p begins with p
begins_between : (p x q rest : List ℕ) → before p x ≡ Less → before x q ≡ Less → q ≡ p ++ rest
    → (mid : List ℕ) × (x ≡ p ++ mid)
begins_between [] x q rest low high is = (x, refl)
begins_between (a ∷ p) [] q rest low high is = absurd (cc)
begins_between (a ∷ p) (b ∷ x) [] rest low high is = absurd (cc)
begins_between (a ∷ p) (b ∷ x) (c ∷ q) rest low high is =
    let parts = parts_of_cons c a q (p ++ rest) is in
    let head : c ≡ a = parts.0 in
    elim (then_less a b (before p x) low) [
      | inl below ↦ elim (then_less b c (before x q) high) [
        | inl above ↦ absurd (omega arith)
        | inr same ↦ let both : b ≡ c = same.0 in absurd (omega arith)
      ]
      | inr same ↦
          let first : a ≡ b = same.0 in
          elim (then_less b c (before x q) high) [
            | inl above ↦ absurd (omega arith)
            | inr next ↦
                let m = begins_between p x q rest same.1 next.1 parts.1 in
                (m.0, ap₂ (λ (n : ℕ) (l : List ℕ). n ∷ l) (sym first) m.1)
          ]
    ]

pub same_number : (a : ℕ) → nat_cmp a a ≡ Equal
same_number a = tied_itself nat_cmp_total a

-- what both begin with does not count
pub before_front : (p x y : List ℕ) → before (p ++ x) (p ++ y) ≡ before x y
before_front [] x y = refl
before_front (a ∷ p) x y = rw (same_number a) (before_front p x y)

pub before_nothing : (xs : List ℕ) → before xs [] ≡ Less → ⊥
before_nothing [] e = absurd (cc)
before_nothing (x ∷ xs) e = absurd (cc)

-- a path below the folder with its slash doesn't lie under it
under_not_below : (folder path : List ℕ) → before path (folder ++ 47 ∷ []) ≡ Less → lies_under path folder ≡ false
under_not_below folder path less = false_from_ne_true (lies_under path folder) (λ e.
    let under = under_from_test path folder e in
    let front : before (folder ++ 47 ∷ under.0) (folder ++ 47 ∷ []) ≡ before (47 ∷ under.0) (47 ∷ []) =
    before_front folder (47 ∷ under.0) (47 ∷ []) in
    before_nothing under.0
    (sym (front ∙ refl) ∙ ap (λ (l : List ℕ). before l (folder ++ 47 ∷ [])) (sym under.1) ∙ less))

-- what isn't below the folder with its slash, and is below a path under it, lies under it
under_between : (folder path q : List ℕ) → is_lt (before path (folder ++ 47 ∷ [])) ≡ false → before path q ≡ Less
    → lies_under q folder ≡ true → lies_under path folder ≡ true
under_between folder path q not_below low h =
    let under = under_from_test q folder h in
    test_from_under path folder (elim (not_less (before path (folder ++ 47 ∷ [])) not_below) [
      | inl equal ↦ (
        [],
        (bytes_eq-Decides path (folder ++ 47 ∷ [])).0 (sym (is_eq-slice_cmp path (folder ++ 47 ∷ [])) ∙ ap is_eq equal),
      )
      | inr greater ↦
          let above : before (folder ++ 47 ∷ []) path ≡ Less =
          nat_list_cmp_total.antisymm (folder ++ 47 ∷ []) path ∙ ap ordering_reverse greater in
          let mid = begins_between (folder ++ 47 ∷ []) path q under.0 above low
          (under.1 ∙ sym (append_assoc folder (47 ∷ []) under.0)) in
          (mid.0, mid.1 ∙ append_assoc folder (47 ∷ []) mid.0)
    ])

-- ---- a look-up by halves

above : (x : List ℕ) (xs : List (List ℕ)) (k : ℕ) (d : List ℕ) → AllByRecursion (λ y. before x y ≡ Less) xs
    → k < length xs → before x (get_or xs k d) ≡ Less
above x [] k d each h = absurd (omega arith)
above x (y ∷ ys) zero d each h = each.0
above x (y ∷ ys) (suc k) d each h = above x ys k d each.1 (omega arith)

-- those below a target come first
pub below_first : (target : List ℕ) (ks : List (List ℕ)) → ArePaths ks
    → IsPartitionedBy (λ k. is_lt (before k target)) ks
below_first target [] sorted i j d low high e = absurd (omega arith)
below_first target (x ∷ xs) sorted zero zero d low high e = e
below_first target (x ∷ xs) sorted zero (suc j) d low high e =
    ap is_lt (nat_list_cmp_total.trans x (get_or xs j d) target
    (above x xs j d (sorted_head before x xs sorted) (omega arith)) (is_less _ e))
below_first target (x ∷ xs) sorted (suc i) zero d low high e = absurd (omega arith)
below_first target (x ∷ xs) sorted (suc i) (suc j) d low high e =
    below_first target xs (sorted_tail before x xs sorted) i j d (omega arith) (omega arith) e

one_more_below : (i n : ℕ) → nat_lt (suc i) (suc n) ≡ nat_lt i n
one_more_below i n = grind (arith, nat_tests)

-- a test that no path below the target passes, and that a path from the target on passes where a later one does
module _ (test : List ℕ → Bool) (target : List ℕ)
    (low : (x : List ℕ) → before x target ≡ Less → test x ≡ false)
    (high : (x y : List ℕ) → is_lt (before x target) ≡ false → before x y ≡ Less → test y ≡ true → test x ≡ true) where
  none_later : (x : List ℕ) (xs : List (List ℕ)) → AllByRecursion (λ y. before x y ≡ Less) xs
      → is_lt (before x target) ≡ false → test x ≡ false → list_any test xs ≡ false
  none_later x [] each from fails = refl
  none_later x (y ∷ ys) each from fails = of_test (test y) refl (none_later x ys each.1 from fails)
    where
      of_test : (b : Bool) → test y ≡ b → list_any test ys ≡ false → (b || list_any test ys) ≡ false
      of_test true e rest = absurd (false≢true (sym fails ∙ high x y from each.0 e))
      of_test false e rest = rest

  pub any_at : (ks : List (List ℕ)) (i : ℕ) (d : List ℕ) → ArePaths ks
      → IsPartitionPoint (λ k. is_lt (before k target) ≡ true) (λ k. is_lt (before k target) ≡ false) ks i
      → list_any test ks ≡ (nat_lt i (length ks) && test (get_or ks i d))
  any_at [] i d sorted point = sym (ap (λ b. b && test (get_or [] i d)) (le-ltb i 0 (omega arith)))
  any_at (x ∷ xs) zero d sorted point =
      of_test (test x) refl ∙ sym (ap (λ b. b && test x) (lt-ltb 0 (length (x ∷ xs)) (omega arith)))
    where
      of_test : (b : Bool) → test x ≡ b → (b || list_any test xs) ≡ test x
      of_test true e = sym e
      of_test false e =
          none_later x xs (sorted_head before x xs sorted) (point.1 0 d (omega arith) (omega arith)) e ∙ sym e
  any_at (x ∷ xs) (suc i) d sorted point =
      ap (λ b. b || list_any test xs) (low x (is_less _ (point.0 0 d (omega arith) (omega arith))))
      ∙ any_at xs i d (sorted_tail before x xs sorted) (
        λ k e from to. point.0 (suc k) e (omega arith) (omega arith),
        λ k e from to. point.1 (suc k) e (omega arith) (omega arith),
      )
      ∙ sym (ap (λ b. b && test (get_or xs i d)) (one_more_below i (length xs)))

  none_kept : (x : List ℕ) (xs : List (List ℕ)) → AllByRecursion (λ y. before x y ≡ Less) xs
      → is_lt (before x target) ≡ false → test x ≡ false → filter test xs ≡ []
  none_kept x [] each from fails = refl
  none_kept x (y ∷ ys) each from fails = of_test (test y) refl (none_kept x ys each.1 from fails)
    where
      of_test : (b : Bool) → test y ≡ b → filter test ys ≡ [] → cond b (y ∷ filter test ys) (filter test ys) ≡ []
      of_test true e rest = absurd (false≢true (sym fails ∙ high x y from each.0 e))
      of_test false e rest = rest

  pub filter_at : (ks : List (List ℕ)) (i : ℕ) → ArePaths ks → IsPartitionPoint (λ k. is_lt (before k target) ≡ true)
      (λ k. is_lt (before k target) ≡ false) ks i → filter test ks ≡ take_while test (drop i ks)
  filter_at [] zero sorted point = refl
  filter_at [] (suc i) sorted point = refl
  filter_at (x ∷ xs) zero sorted point =
      of_test (test x) refl (filter_at xs zero (sorted_tail before x xs sorted)
      (λ k e from to. absurd (omega arith), λ k e from to. point.1 (suc k) e (omega arith) (omega arith)))
    where
      of_test : (b : Bool) → test x ≡ b → filter test xs ≡ take_while test xs
          → cond (test x) (x ∷ filter test xs) (filter test xs) ≡ take_while test (x ∷ xs)
      of_test true e rest = ap (λ b. cond b (x ∷ filter test xs) (filter test xs)) e ∙ ap (λ ys. x ∷ ys) rest
          ∙ sym (take_while-cons test x xs ∙ ap (λ b. cond b (x ∷ take_while test xs) []) e)
      of_test false e rest =
          ap (λ b. cond b (x ∷ filter test xs) (filter test xs)) e
          ∙ none_kept x xs (sorted_head before x xs sorted) (point.1 0 x (omega arith) (omega arith)) e
          ∙ sym (take_while-cons test x xs ∙ ap (λ b. cond b (x ∷ take_while test xs) []) e)
  filter_at (x ∷ xs) (suc i) sorted point =
      ap (λ b. cond b (x ∷ filter test xs) (filter test xs))
      (low x (is_less _ (point.0 0 x (omega arith) (omega arith))))
      ∙ filter_at xs i (sorted_tail before x xs sorted) (
        λ k e from to. point.0 (suc k) e (omega arith) (omega arith),
        λ k e from to. point.1 (suc k) e (omega arith) (omega arith),
      )

pub among_at : (ks : List (List ℕ)) (path : List ℕ) (i : ℕ) (d : List ℕ) → ArePaths ks
    → IsPartitionPoint (λ k. is_lt (before k path) ≡ true) (λ k. is_lt (before k path) ≡ false) ks i
    → is_among ks path ≡ (nat_lt i (length ks) && bytes_eq path (get_or ks i d))
among_at ks path i d sorted point = any_at (λ other. bytes_eq path other) path low high ks i d sorted point
  where
    low : (x : List ℕ) → before x path ≡ Less → bytes_eq path x ≡ false
    low x less = of_test (bytes_eq path x) refl
      where
        of_test : (b : Bool) → bytes_eq path x ≡ b → b ≡ false
        of_test false e = refl
        of_test true e = absurd (not_itself x (ap (before x) (sym ((bytes_eq-Decides path x).0 e)) ∙ less))

    high : (x y : List ℕ) → is_lt (before x path) ≡ false → before x y ≡ Less → bytes_eq path y ≡ true
        → bytes_eq path x ≡ true
    high x y from less e =
        absurd (false≢true (sym from ∙ ap is_lt (ap (before x) ((bytes_eq-Decides path y).0 e) ∙ less)))

pub folder_at : (ks : List (List ℕ)) (folder : List ℕ) (i : ℕ) (d : List ℕ) → ArePaths ks → IsPartitionPoint
    (λ k. is_lt (before k (folder ++ 47 ∷ [])) ≡ true) (λ k. is_lt (before k (folder ++ 47 ∷ [])) ≡ false) ks i
    → is_folder_of ks folder ≡ (nat_lt i (length ks) && lies_under (get_or ks i d) folder)
folder_at ks folder i d sorted point =
    any_at (λ other. lies_under other folder) (folder ++ 47 ∷ []) (under_not_below folder)
    (under_between folder) ks i d sorted point

pub among_found : (ks : List (List ℕ)) (path : List ℕ) (i : ℕ) (d : List ℕ) (r : Bool) → ArePaths ks
    → IsPartitionPoint (λ k. is_lt (before k path) ≡ true) (λ k. is_lt (before k path) ≡ false) ks i
    → i < length ks → r ≡ bytes_eq path (get_or ks i d) → r ≡ is_among ks path
among_found ks path i d r sorted point within e = e ∙ sym
    (among_at ks path i d sorted point ∙ ap (λ b. b && bytes_eq path (get_or ks i d)) (lt-ltb i (length ks) within))

pub among_none : (ks : List (List ℕ)) (path : List ℕ) (i : ℕ) → ArePaths ks
    → IsPartitionPoint (λ k. is_lt (before k path) ≡ true) (λ k. is_lt (before k path) ≡ false) ks i
    → length ks ≤ i → nat_lt i (length ks) ≡ is_among ks path
among_none ks path i sorted point past =
    le-ltb i (length ks) past ∙ sym
    (among_at ks path i [] sorted point ∙ ap (λ b. b && bytes_eq path (get_or ks i [])) (le-ltb i (length ks) past))

pub folder_found : (ks : List (List ℕ)) (folder : List ℕ) (i : ℕ) (d : List ℕ) (r : Bool) → ArePaths ks
    → IsPartitionPoint (λ k. is_lt (before k (folder ++ 47 ∷ [])) ≡ true)
    (λ k. is_lt (before k (folder ++ 47 ∷ [])) ≡ false) ks i
    → i < length ks → r ≡ lies_under (get_or ks i d) folder → r ≡ is_folder_of ks folder
folder_found ks folder i d r sorted point within e =
    e ∙ sym (folder_at ks folder i d sorted point
    ∙ ap (λ b. b && lies_under (get_or ks i d) folder) (lt-ltb i (length ks) within))

pub folder_none : (ks : List (List ℕ)) (folder : List ℕ) (i : ℕ) → ArePaths ks → IsPartitionPoint
    (λ k. is_lt (before k (folder ++ 47 ∷ [])) ≡ true) (λ k. is_lt (before k (folder ++ 47 ∷ [])) ≡ false) ks i
    → length ks ≤ i → nat_lt i (length ks) ≡ is_folder_of ks folder
folder_none ks folder i sorted point past =
    le-ltb i (length ks) past ∙ sym (folder_at ks folder i [] sorted point
    ∙ ap (λ b. b && lies_under (get_or ks i []) folder) (le-ltb i (length ks) past))

-- ---- the paths beneath a folder

pub beneath_at : (ks : List (List ℕ)) (folder : List ℕ) (i : ℕ) → ArePaths ks → IsPartitionPoint
    (λ k. is_lt (before k (folder ++ 47 ∷ [])) ≡ true) (λ k. is_lt (before k (folder ++ 47 ∷ [])) ≡ false) ks i
    → filter (λ other. lies_under other folder) ks ≡ take_while (λ other. lies_under other folder) (drop i ks)
beneath_at ks folder i sorted point = filter_at (λ other. lies_under other folder) (folder ++ 47 ∷ [])
    (under_not_below folder) (under_between folder) ks i sorted point
