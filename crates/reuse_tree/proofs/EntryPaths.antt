-- The ascending paths of changes, and the folders among them.
use Rattle.std.proofs.Common.{◌≡◌, ℕ, zero, suc, ◌+◌, ◌-◌, ◌<◌, ◌≤◌, Bool, true, false, ◌||◌, ltb, lt-ltb, le-ltb, eqb}
use Rattle.std.proofs.Common.{List, [], ◌∷◌, ◌++◌, length, get_or, drop, map, Less, Equal, Greater, Ordering, nat_cmp}
use Rattle.std.proofs.Common.{None, refl, sym, ap, ap₂, ◌∙◌, subst, arith, length-append, add-one, ◌⊎◌, inl, inr}
use Rattle.std.specs.Prelude.{IsTrue, ◌↔◌}
use Rattle.std.specs.Cmp.Lexicographic.{slice_cmp}
use Rattle.std.specs.Ordering.{ordering_then, ordering_reverse, MatchOrdering, is_lt}
use Rattle.std.specs.List.{AllByRecursion, starts_with}
use Rattle.std.specs.List.Sorted.{IsStrictlySortedBy, IsPartitionPoint, IsPartitionedBy}
use Rattle.std.specs.Str.{bytes_eq}
use Rattle.std.proofs.lemmas.Bool.{false≢true, false_from_ne_true, cases_lt, or_cases, or_parts, or_from, or_right}
use Rattle.std.proofs.lemmas.Bool.Decides.{Decides-eqb}
use Rattle.std.proofs.lemmas.Cmp.{nat_list_cmp_total, ranked}
use Rattle.std.proofs.lemmas.List.{drop_more, length-map, drop-map, get_or-map}
use Rattle.std.proofs.lemmas.List.Elements.{All-weaker}
use Rattle.std.proofs.lemmas.Map.Keys.{Less-from_sorted, sorted_head, sorted_tail}
use Rattle.std.proofs.lemmas.Slice.Eq.{starts_is, bytes_eq-Decides}
use Rattle.reuse_change.specs.Path.{is_path, lies_under}
use Rattle.reuse_change.specs.Change.{path_of, IsProper}
use Rattle.reuse_change.specs.declared.change.Change.{Change}
use Rattle.reuse_change.specs.declared.change.Change.TheVariants.{Make}
use Rattle.reuse_change.specs.Tree.{is_of_tree}
use Rattle.reuse_change.specs.Entry.{touches, AreAllSealed, HasOwnDigest, IsEntry, IsSmall}
use Rattle.reuse_json.specs.EntryText.{HavePaths}
use Rattle.reuse_tree.specs.EntryTests.{AreApart, IsSoundChange, Passes}
use Rattle.reuse_change.specs.Listing.{ArePaths, is_among, is_folder_of}
use Rattle.reuse_change.proofs.ListingLemmas.{under_from_test, below_first, folder_found, folder_none, same_number}
use Rattle.reuse_change.proofs.ListingLemmas.{get_or_after, before_front, before_nothing}

abbrev pub before : List ℕ → List ℕ → Ordering
before = slice_cmp nat_cmp

-- ---- the paths of changes

pub path_at : (cs : List Change) (k : ℕ) (c : Change) → k < length cs → c ≡ get_or cs k c
    → get_or (map path_of cs) k [] ≡ path_of c
path_at cs k c h is = get_or-map path_of cs k c [] h ∙ ap path_of (sym is)

-- two changes in a row that do not ascend
pub not_ascending : (cs : List Change) (i : ℕ) (a b : Change) → 1 ≤ i → i < length cs → a ≡ get_or cs (i - 1) a
    → b ≡ get_or cs i b → (before (path_of a) (path_of b) ≡ Less → ⊥) → IsStrictlySortedBy before (map path_of cs) → ⊥
not_ascending cs i a b some within at_a at_b fails sorted =
    let less =
    Less-from_sorted before (map path_of cs) (i - 1) i [] sorted (omega arith) (omega (arith, length-map cs path_of)) in
    fails (ap₂ before (sym (path_at cs (i - 1) a (omega arith) at_a)) (sym (path_at cs i b within at_b)) ∙ less)

-- one more change that ascends
pub ascends_more : (cs : List Change) (i : ℕ) (a b : Change) → 1 ≤ i → i < length cs → a ≡ get_or cs (i - 1) a
    → b ≡ get_or cs i b → before (path_of a) (path_of b) ≡ Less
    → ((k : ℕ) → k + 1 < i → before (get_or (map path_of cs) k []) (get_or (map path_of cs) (k + 1) []) ≡ Less)
    → (k : ℕ) → k + 1 < i + 1 → before (get_or (map path_of cs) k []) (get_or (map path_of cs) (k + 1) []) ≡ Less
ascends_more cs i a b some within at_a at_b less so_far k h = elim (cases_lt (k + 1) i) [
  | inl below ↦ so_far k below
  | inr last ↦
      let here : k ≡ i - 1 = omega arith in
      let next : k + 1 ≡ i = omega arith in
      rw (next, here) (ap₂ before (path_at cs (i - 1) a (omega arith) at_a) (path_at cs i b within at_b) ∙ less)
]

-- ---- the first change inside a folder, by halves

-- the changes whose paths are below a text come first
pub below_parts : (target : List ℕ) (cs : List Change) → ArePaths (map path_of cs)
    → IsPartitionedBy (λ c. is_lt (before (path_of c) target)) cs
below_parts target cs sorted i j d low high e =
    ap (λ (p : List ℕ). is_lt (before p target)) (sym (get_or-map path_of cs i d [] (omega arith)))
    ∙ below_first target (map path_of cs) sorted i j [] low (omega (arith, length-map cs path_of))
    (ap (λ (p : List ℕ). is_lt (before p target)) (get_or-map path_of cs j d [] high) ∙ e)

-- where the first element doesn't pass the test, none does
pub none_before : {X : Type 0} (p : X → Bool) (xs : List X) (x : X) → IsPartitionedBy p xs → x ≡ get_or xs 0 x
    → p x ≡ false → IsPartitionPoint (λ y. p y ≡ true) (λ y. p y ≡ false) xs 0
none_before p [] x parted is fails =
    (λ k d low high. absurd (omega (arith, high)), λ k d low high. absurd (omega (arith, high)))
none_before p (y ∷ ys) x parted is fails = (
  λ k d low high. absurd (omega (arith, high)),
  λ k d low high. false_from_ne_true (p (get_or (y ∷ ys) k d))
      (λ passes. false≢true (sym fails ∙ ap p is ∙ parted 0 k d (omega arith) high passes)),
)

abbrev IsFirstInside : List ℕ → List Change → ℕ → Type 0
IsFirstInside folder cs i = IsPartitionPoint (λ c. is_lt (before (path_of c) (folder ++ 47 ∷ [])) ≡ true)
    (λ c. is_lt (before (path_of c) (folder ++ 47 ∷ [])) ≡ false) cs i

point_of_paths : (target : List ℕ) (cs : List Change) (i : ℕ) → i ≤ length cs → IsPartitionPoint
    (λ c. is_lt (before (path_of c) target) ≡ true) (λ c. is_lt (before (path_of c) target) ≡ false) cs i
    → IsPartitionPoint (λ p. is_lt (before p target) ≡ true) (λ p. is_lt (before p target) ≡ false) (map path_of cs) i
point_of_paths target cs i within point =
    let test = λ (p : List ℕ). is_lt (before p target) in (
      λ k d from to. ap test (get_or-map path_of cs k (Make [] [] None) d (omega arith))
          ∙ point.0 k (Make [] [] None) from to,
      λ k d from to. let below : k < length cs = omega (arith, length-map cs path_of) in
          ap test (get_or-map path_of cs k (Make [] [] None) d below) ∙ point.1 k (Make [] [] None) from below,
    )

pub folder_among : (folder : List ℕ) (cs : List Change) (i : ℕ) (c : Change) (r : Bool) → ArePaths (map path_of cs)
    → IsFirstInside folder cs i → i < length cs → c ≡ get_or cs i c → r ≡ lies_under (path_of c) folder
    → r ≡ is_folder_of (map path_of cs) folder
folder_among folder cs i c r sorted point within is e =
    folder_found (map path_of cs) folder i [] r sorted (point_of_paths (folder ++ 47 ∷ []) cs i (omega arith) point)
    (omega (arith, length-map cs path_of, within))
    (e ∙ ap (λ (p : List ℕ). lies_under p folder) (sym (path_at cs i c within is)))

pub no_folder_among : (folder : List ℕ) (cs : List Change) (i : ℕ) → ArePaths (map path_of cs)
    → IsFirstInside folder cs i → i ≤ length cs → length cs ≤ i → false ≡ is_folder_of (map path_of cs) folder
no_folder_among folder cs i sorted point within past =
    sym (le-ltb i (length (map path_of cs)) (omega (arith, length-map cs path_of, past)))
    ∙ folder_none (map path_of cs) folder i sorted (point_of_paths (folder ++ 47 ∷ []) cs i within point)
    (omega (arith, length-map cs path_of, past))

-- ---- below all that lie under a folder

-- a list that was tested and does not begin with the folder
pub not_begun : (folder path : List ℕ) (r : Bool) → r ≡ starts_with eqb path folder → r ≡ false → (rest : List ℕ)
    → path ≡ folder ++ rest → ⊥
not_begun folder path r is failed rest e = false≢true (sym failed ∙ (starts_is Decides-eqb path folder r is).1 rest e)

-- a list that was tested and begins with the folder
pub begun : (folder path : List ℕ) (r : Bool) → r ≡ starts_with eqb path folder → r ≡ true
    → path ≡ folder ++ drop (length folder) path
begun folder path r is passed = (starts_is Decides-eqb path folder r is).0 passed

then_greater_or_equal : (o : Ordering) → (o ≡ Less → ⊥) → is_lt o ≡ false
then_greater_or_equal Less h = absurd (h refl)
then_greater_or_equal Equal h = refl
then_greater_or_equal Greater h = refl

slash_at : (r : Ordering) (b : ℕ) (o : Ordering) → MatchOrdering r (b < 47) (b ≡ 47) (47 < b) → (o ≡ Less → ⊥)
    → is_lt (ordering_then r o) ≡ ltb b 47
slash_at Less b o m not_less = sym (lt-ltb b 47 m)
slash_at Equal b o m not_less = then_greater_or_equal o not_less ∙ sym (le-ltb b 47 (omega arith))
slash_at Greater b o m not_less = sym (le-ltb b 47 (omega arith))

-- a list before the slash alone
slash_alone : (b : ℕ) (rest : List ℕ) → is_lt (before (b ∷ rest) (47 ∷ [])) ≡ ltb b 47
slash_alone b rest = slash_at (nat_cmp b 47) b (before rest []) (ranked b 47 (nat_cmp b 47) refl) (before_nothing rest)

-- what the tests of a path that begins with the folder say
pub inside_short : (path folder rest : List ℕ) → path ≡ folder ++ rest → length path ≤ length folder
    → true ≡ is_lt (before path (folder ++ 47 ∷ []))
inside_short path folder [] is h =
    sym (ap (λ (l : List ℕ). is_lt (before l (folder ++ 47 ∷ []))) is ∙ ap is_lt (before_front folder [] (47 ∷ [])))
inside_short path folder (x ∷ rest) is h = absurd (omega (arith, ap length is, length-append folder (x ∷ rest)))

pub inside_long : (path folder rest : List ℕ) → path ≡ folder ++ rest → length folder < length path
    → ltb (get_or path (length folder) 0) 47 ≡ is_lt (before path (folder ++ 47 ∷ []))
inside_long path folder [] is h = absurd (omega (arith, ap length is, length-append folder []))
inside_long path folder (x ∷ rest) is h =
    let at : get_or path (length folder) 0 ≡ x =
    ap (λ (l : List ℕ). get_or l (length folder) 0) is ∙ get_or_after folder x rest in
    ap (λ (n : ℕ). ltb n 47) at ∙ sym (slash_alone x rest) ∙ sym
    (ap (λ (l : List ℕ). is_lt (before l (folder ++ 47 ∷ []))) is ∙ ap is_lt (before_front folder (x ∷ rest) (47 ∷ [])))

then_same_at : (r : Ordering) (b a : ℕ) → MatchOrdering r (b < a) (b ≡ a) (a < b)
    → (b ≡ a) ⊎ ((o p : Ordering) → ordering_then r o ≡ ordering_then r p)
then_same_at Less b a m = inr (λ o p. refl)
then_same_at Equal b a m = inl m
then_same_at Greater b a m = inr (λ o p. refl)

then_same : (b a : ℕ) → (b ≡ a) ⊎ ((o p : Ordering) → ordering_then (nat_cmp b a) o ≡ ordering_then (nat_cmp b a) p)
then_same b a = then_same_at (nat_cmp b a) b a (ranked b a (nat_cmp b a) refl)

-- a path that does not begin with the folder is below it or above it for good
pub inside_apart : (path folder : List ℕ) → ((rest : List ℕ) → path ≡ folder ++ rest → ⊥)
    → before path folder ≡ before path (folder ++ 47 ∷ [])
inside_apart path [] apart = absurd (apart path refl)
inside_apart [] (a ∷ folder) apart = refl
inside_apart (b ∷ path) (a ∷ folder) apart = elim (then_same b a) [
  | inl same ↦
      let here : b ≡ a = same in
      ap (ordering_then (nat_cmp b a))
      (inside_apart path folder (λ rest e. apart rest (ap₂ (λ (n : ℕ) (l : List ℕ). n ∷ l) here e)))
  | inr other ↦ other (before path folder) (before path (folder ++ 47 ∷ []))
]

-- ---- folders among ascending paths

before_longer : (p : List ℕ) (x : ℕ) (rest : List ℕ) → before p (p ++ x ∷ rest) ≡ Less
before_longer [] x rest = refl
before_longer (a ∷ p) x rest = rw (same_number a) (before_longer p x rest)

-- what is below another path does not lie under it
not_under_later : (p q : List ℕ) → before p q ≡ Less → lies_under p q ≡ false
not_under_later p q h = false_from_ne_true (lies_under p q) (λ e.
    let under = under_from_test p q e in
    let back : before q p ≡ Less = ap (before q) under.1 ∙ before_longer q 47 under.0 in
    let applied : before p q ≡ Greater = nat_list_cmp_total.antisymm p q ∙ ap ordering_reverse back in
    absurd (cc))

not_under_itself : (p : List ℕ) → lies_under p p ≡ false
not_under_itself p = of_test (lies_under p p) refl
  where
    of_test : (b : Bool) → lies_under p p ≡ b → b ≡ false
    of_test false e = refl
    of_test true e = let under = under_from_test p p e in
        absurd (omega (arith, ap length under.1, length-append p (47 ∷ under.0)))

abbrev pub IsApartFrom : List ℕ → List ℕ → Type 0
IsApartFrom p q = (lies_under q p || lies_under p q) ≡ false

sorted_cons : (p : List ℕ) (ps : List (List ℕ)) → AllByRecursion (λ y. before p y ≡ Less) ps
    → IsStrictlySortedBy before ps → IsStrictlySortedBy before (p ∷ ps)
unfolding IsStrictlySortedBy
sorted_cons p ps h sorted = (h, sorted)

-- a path below others is apart from them where none lies under it
first_apart : (p : List ℕ) (ps : List (List ℕ)) → AllByRecursion (λ q. before p q ≡ Less) ps → is_folder_of ps p ≡ false
    → AllByRecursion (IsApartFrom p) ps
first_apart p [] below none = tt
first_apart p (q ∷ ps) below none =
    let parts = or_parts (lies_under q p) (is_folder_of ps p) none in
    (or_from _ _ parts.0 (not_under_later p q below.0), first_apart p ps below.1 parts.1)

not_apart : (p : List ℕ) (ps : List (List ℕ)) → is_folder_of ps p ≡ true → AllByRecursion (IsApartFrom p) ps → ⊥
not_apart p [] found each = false≢true found
not_apart p (q ∷ ps) found each = elim (or_cases (lies_under q p) (is_folder_of ps p) found) [
  | inl here ↦ false≢true (sym (or_parts _ _ each.0).0 ∙ here)
  | inr later ↦ not_apart p ps later each.1
]

-- the paths from one on ascend
sorted_after : (cs : List Change) (i : ℕ) (c : Change) → i < length cs → c ≡ get_or cs i c
    → IsStrictlySortedBy before (map path_of cs) → IsStrictlySortedBy before (path_of c ∷ map path_of (drop (i + 1) cs))
sorted_after [] i c h is sorted = absurd (omega arith)
sorted_after (x ∷ xs) zero c h is sorted = rw (ap path_of is) sorted
sorted_after (x ∷ xs) (suc i) c h is sorted = rw add-one
    (rw add-one at (sorted_after xs i c (omega arith) is (sorted_tail before (path_of x) (map path_of xs) sorted)))

pub sorted_later : (cs : List Change) (i : ℕ) (c : Change) → i < length cs → c ≡ get_or cs i c
    → IsStrictlySortedBy before (map path_of cs) → IsStrictlySortedBy before (map path_of (drop (i + 1) cs))
sorted_later cs i c h is sorted =
    sorted_tail before (path_of c) (map path_of (drop (i + 1) cs)) (sorted_after cs i c h is sorted)

-- what is left, from one on
drop_path : (cs : List Change) (i : ℕ) (c : Change) → i < length cs → c ≡ get_or cs i c
    → drop i (map path_of cs) ≡ path_of c ∷ map path_of (drop (i + 1) cs)
drop_path cs i c h is =
    drop-map path_of i cs ∙ ap (map path_of) (drop_more cs i c h ∙ ap (λ (x : Change). x ∷ drop (i + 1) cs) (sym is))

pub apart_step : (cs : List Change) (i : ℕ) (c : Change) → i < length cs → c ≡ get_or cs i c
    → IsStrictlySortedBy before (map path_of cs) → is_folder_of (map path_of (drop (i + 1) cs)) (path_of c) ≡ false
    → AreApart (drop i (map path_of cs)) ↔ AreApart (drop (i + 1) (map path_of cs))
apart_step cs i c within is sorted none =
    let here = drop_path cs i c within is in
    let next = drop-map path_of (i + 1) cs in
    let rest = map path_of (drop (i + 1) cs) in (
      λ h. subst AreApart (sym next) (subst AreApart here h).1,
      λ h. subst AreApart (sym here) (
        first_apart (path_of c) rest (sorted_head before (path_of c) rest (sorted_after cs i c within is sorted)) none,
        subst AreApart next h,
      ),
    )

pub not_apart_from : (cs : List Change) (i : ℕ) (c : Change) → i < length cs → c ≡ get_or cs i c
    → is_folder_of (map path_of (drop (i + 1) cs)) (path_of c) ≡ true → AreApart (drop i (map path_of cs)) → ⊥
not_apart_from cs i c within is found h =
    not_apart (path_of c) (map path_of (drop (i + 1) cs)) found (subst AreApart (drop_path cs i c within is) h).0

-- ---- what the tests say of an entry

touched : (cs : List Change) (path : List ℕ) → touches cs path ≡ is_among (map path_of cs) path
touched [] path = refl
touched (c ∷ cs) path = ap (λ b. bytes_eq path (path_of c) || b) (touched cs path)

first_among : (p : List ℕ) (ps : List (List ℕ)) → is_among (p ∷ ps) p ≡ true
first_among p ps = ap (λ b. b || is_among ps p) ((bytes_eq-Decides p p).1 refl)

or_swap : (a b : Bool) → (a || b) ≡ false → (b || a) ≡ false
or_swap a b e = let parts = or_parts a b e in or_from b a parts.1 parts.0

all_among : (P : List ℕ → Type 0) (ps : List (List ℕ)) → ((q : List ℕ) → is_among ps q ≡ true → P q)
    → AllByRecursion P ps
all_among P [] f = tt
all_among P (p ∷ ps) f =
    (f p (first_among p ps), all_among P ps (λ q m. f q (or_right (bytes_eq q p) (is_among ps q) m)))

one_among : (P : List ℕ → Type 0) (ps : List (List ℕ)) → AllByRecursion P ps → (q : List ℕ) → is_among ps q ≡ true → P q
one_among P [] each q m = absurd (false≢true m)
one_among P (p ∷ ps) each q m = elim (or_cases (bytes_eq q p) (is_among ps q) m) [
  | inl here ↦ subst P (sym ((bytes_eq-Decides q p).0 here)) each.0
  | inr later ↦ one_among P ps each.1 q later
]

apart_all : (ps : List (List ℕ)) → AreApart ps → (path other : List ℕ) → is_among ps path ≡ true
    → is_among ps other ≡ true → IsApartFrom path other
apart_all [] h path other a b = absurd (false≢true a)
apart_all (p ∷ ps) h path other a b = elim (or_cases (bytes_eq path p) (is_among ps path) a) [
  | inl first ↦
      let is : path ≡ p = (bytes_eq-Decides path p).0 first in
      subst (λ (x : List ℕ). IsApartFrom x other) (sym is) (elim (or_cases (bytes_eq other p) (is_among ps other) b) [
        | inl both ↦ let same : other ≡ p = (bytes_eq-Decides other p).0 both in subst (IsApartFrom p) (sym same)
            (or_from (lies_under p p) (lies_under p p) (not_under_itself p) (not_under_itself p))
        | inr later ↦ one_among (IsApartFrom p) ps h.0 other later
      ])
  | inr second ↦ elim (or_cases (bytes_eq other p) (is_among ps other) b) [
    | inl first ↦
        let is : other ≡ p = (bytes_eq-Decides other p).0 first in
        subst (IsApartFrom path) (sym is)
        (or_swap (lies_under path p) (lies_under p path) (one_among (IsApartFrom p) ps h.0 path second))
    | inr later ↦ apart_all ps h.1 path other second later
  ]
]

apart_from : (ps : List (List ℕ)) → ((path other : List ℕ) → is_among ps path ≡ true → is_among ps other ≡ true
    → IsApartFrom path other) → AreApart ps
apart_from [] f = tt
apart_from (p ∷ ps) f = (
  all_among (IsApartFrom p) ps (λ q m. f p q (first_among p ps) (or_right (bytes_eq q p) (is_among ps q) m)),
  apart_from ps (λ path other a b. f path other (or_right (bytes_eq path p) (is_among ps path) a)
      (or_right (bytes_eq other p) (is_among ps other) b)),
)

pub entry_from_tests : (cs : List Change) → (sealed : Bool) × AreAllSealed sealed cs → Passes cs → IsEntry cs
entry_from_tests cs alike h = record {
  some = h.some;
  proper = All-weaker IsSoundChange IsProper (λ c s. s.proper) cs h.each;
  small = All-weaker IsSoundChange IsSmall (λ c s. s.small) cs h.each;
  of_tree = All-weaker IsSoundChange (λ c. is_of_tree (path_of c) ≡ true) (λ c s. s.of_tree) cs h.each;
  ascending = h.ascending;
  apart = λ path other a b. apart_all (map path_of cs) h.apart path other (sym (touched cs path) ∙ a)
      (sym (touched cs other) ∙ b);
  few = h.few;
  light = h.light;
  alike = alike;
  own = All-weaker IsSoundChange HasOwnDigest (λ c s. s.own) cs h.each;
}

pub paths_from_tests : (cs : List Change) → Passes cs → HavePaths cs
paths_from_tests cs h = All-weaker IsSoundChange (λ c. IsTrue (is_path (path_of c))) (λ c s. s.path) cs h.each

pub tests_from_entry : (cs : List Change) → IsEntry cs → HavePaths cs → Passes cs
tests_from_entry cs h paths = record {
  some = h.some;
  few = h.few;
  light = h.light;
  each = λ i c within. record {
    path = paths i c within;
    proper = h.proper i c within;
    small = h.small i c within;
    of_tree = h.of_tree i c within;
    own = h.own i c within;
  };
  ascending = h.ascending;
  apart =
      apart_from (map path_of cs) (λ path other a b. h.apart path other (touched cs path ∙ a) (touched cs other ∙ b));
}
