-- The paths at which two trees differ are those of the entry between them.
use Rattle.std.proofs.Common.{◌≡◌, ◌≢◌, ℕ, Bool, true, false, cond, not, ◌||◌, ◌&&◌, List, [], ◌∷◌, ◌++◌, get_or, map}
use Rattle.std.proofs.Common.{Option, Some, None, IsSome, is_some, refl, sym, ap, subst, ◌∙◌, arith, ◌<◌, length}
use lib.Dec.{T}
use Rattle.std.specs.Ordering.{nat_cmp, is_lt, eq_by_cmp}
use Rattle.std.specs.declared.cmp.Ordering.TheVariants.{Less}
use Rattle.std.specs.Cmp.Lexicographic.{slice_cmp, nat_list_cmp_total}
use Rattle.std.specs.Str.{bytes_eq}
use Rattle.std.specs.List.{All, AllByRecursion, list_any}
use Rattle.std.specs.List.Sorted.{IsStrictlySortedBy}
use Rattle.std.specs.FinMap.Entries.{below_all}
use Rattle.std.specs.FinMap.{get, keys, entries, find, is_sorted, from_entries, from_sorted, same_map, entries_sorted}
use Rattle.std.specs.FinMap.{get-entries, get-from_entries, get-from_sorted, get-retain_keys, entries-from_sorted}
use Rattle.std.specs.FinMap.{contains_key-keys, slice_cmp-IsAntisymmetric, nat_cmp-IsAntisymmetric}
use Rattle.std.proofs.lemmas.Bool.{false≢true}
use Rattle.std.proofs.lemmas.Map.Keys.{sorted_head, sorted_tail}
use Rattle.std.proofs.lemmas.Map.Text.{is_eq-slice_cmp}
use Rattle.std.proofs.lemmas.Slice.Eq.{bytes_eq-Decides}
use Rattle.std.proofs.lemmas.List.Folds.{Any-from_list_any}
use Rattle.reuse_change.specs.Files.{Files}
use Rattle.reuse_change.specs.declared.change.Change.{Change}
use Rattle.reuse_change.specs.declared.change.Change.TheVariants.{Make, Drop, Splice}
use Rattle.reuse_change.specs.Change.{path_of, IsProper, Applies}
use Rattle.reuse_change.proofs.Cuts.{one_part}
use Rattle.reuse_change.specs.Entry.{touches, paths_of, IsEntry, LeadsAll}
use Rattle.reuse_change.specs.Tree.{same_file, changed_paths}

-- the keys alone
abbrev unit : List (List ℕ) → List (List ℕ × Unit {0})
unit ks = map (λ k. (k, tt)) ks

both_true : (a b : Bool) → T a → T b → T (a && b)
both_true true b p q = q
both_true false b p q = absurd p

below_unit : (k : List ℕ) (ks : List (List ℕ)) → AllByRecursion (λ y. slice_cmp nat_cmp k y ≡ Less) ks
    → T (below_all (slice_cmp nat_cmp) k (unit ks))
below_unit k [] h = tt
below_unit k (x ∷ ks) h = both_true _ _ (subst (λ o. T (is_lt o)) (sym h.0) tt) (below_unit k ks h.1)

sorted_unit : (ks : List (List ℕ)) → IsStrictlySortedBy (slice_cmp nat_cmp) ks
    → T (is_sorted (slice_cmp nat_cmp) (unit ks))
sorted_unit [] h = tt
sorted_unit (k ∷ ks) h = both_true _ _ (below_unit k ks (sorted_head (slice_cmp nat_cmp) k ks h))
    (sorted_unit ks (sorted_tail (slice_cmp nat_cmp) k ks h))

keys_unit : (ks : List (List ℕ)) → map (λ (e : List ℕ × Unit {0}). e.0) (unit ks) ≡ ks
keys_unit [] = refl
keys_unit (k ∷ ks) = ap (λ xs. k ∷ xs) (keys_unit ks)

module _ {X : Type 0} where
  below_keys : (k : List ℕ) (es : List (List ℕ × X))
      → below_all (slice_cmp nat_cmp) k (unit (map (λ e. e.0) es)) ≡ below_all (slice_cmp nat_cmp) k es
  below_keys k [] = refl
  below_keys k (e ∷ es) = ap (λ b. is_lt (slice_cmp nat_cmp k e.0) && b) (below_keys k es)

  sorted_keys : (es : List (List ℕ × X))
      → is_sorted (slice_cmp nat_cmp) (unit (map (λ e. e.0) es)) ≡ is_sorted (slice_cmp nat_cmp) es
  sorted_keys [] = refl
  sorted_keys (e ∷ es) = ap (λ b. b && is_sorted (slice_cmp nat_cmp) (unit (map (λ e. e.0) es))) (below_keys e.0 es)
      ∙ ap (λ b. below_all (slice_cmp nat_cmp) e.0 es && b) (sorted_keys es)

find_unit : (q : List ℕ) (ks : List (List ℕ))
    → find (slice_cmp nat_cmp) q (unit ks) ≡ cond (list_any (eq_by_cmp (slice_cmp nat_cmp) q) ks) (Some tt) None
find_unit q [] = refl
find_unit q (k ∷ ks) =
    at_test (eq_by_cmp (slice_cmp nat_cmp) q k) (list_any (eq_by_cmp (slice_cmp nat_cmp) q) ks) _ (find_unit q ks)
  where
    at_test : (b c : Bool) (rest : Option (Unit {0})) → rest ≡ cond c (Some tt) None
        → cond b (Some tt) rest ≡ cond (b || c) (Some tt) None
    at_test true c rest e = refl
    at_test false c rest e = e

-- keys that ascend are those of each map that has them and no others
pub only_keys : (m : Files) (ks : List (List ℕ)) → IsStrictlySortedBy (slice_cmp nat_cmp) ks
    → ((q : List ℕ) → is_some (get m q) ≡ list_any (eq_by_cmp (slice_cmp nat_cmp) q) ks) → keys m ≡ ks
only_keys m ks sorted h =
    let mine : T (is_sorted (slice_cmp nat_cmp) (unit (keys m))) =
    subst T (sym (sorted_keys (entries m))) (entries_sorted m) in
    let theirs : T (is_sorted (slice_cmp nat_cmp) (unit ks)) = sorted_unit ks sorted in
    let same : from_sorted {R = slice_cmp nat_cmp} (unit (keys m)) ≡ from_sorted (unit ks) =
    same_map nat_list_cmp_total (slice_cmp-IsAntisymmetric nat_cmp-IsAntisymmetric) _ _ (λ q.
    get-from_sorted (slice_cmp nat_cmp) (unit (keys m)) q mine ∙ find_unit q (keys m)
    ∙ ap (λ b. cond b (Some tt) None) (sym (contains_key-keys m q) ∙ h q)
    ∙ sym (get-from_sorted (slice_cmp nat_cmp) (unit ks) q theirs ∙ find_unit q ks)) in
    sym (keys_unit (keys m)) ∙ ap (map (λ e. e.0)) (sym (entries-from_sorted (slice_cmp nat_cmp) (unit (keys m)) mine))
    ∙ ap keys same ∙ ap (map (λ e. e.0)) (entries-from_sorted (slice_cmp nat_cmp) (unit ks) theirs) ∙ keys_unit ks

same_itself : (f g : Option (List ℕ)) → f ≡ g → same_file f g ≡ true
same_itself None None e = refl
same_itself (Some x) (Some y) e = (bytes_eq-Decides x y).1 (cc)
same_itself None (Some y) e = absurd (cc)
same_itself (Some x) None e = absurd (cc)

same_is : (f g : Option (List ℕ)) → same_file f g ≡ true → f ≡ g
same_is None None e = refl
same_is (Some x) (Some y) e = ap (λ b. Some b) ((bytes_eq-Decides x y).0 e)
same_is None (Some y) e = absurd (false≢true e)
same_is (Some x) None e = absurd (false≢true e)

differs_test : (f g : Option (List ℕ)) (b : Bool) → same_file f g ≡ b → f ≢ g → b ≡ false
differs_test f g true e differ = absurd (differ (same_is f g e))
differs_test f g false e differ = refl

-- a proper change leads to another file
pub proper_differs : (change : Change) (f g : Option (List ℕ)) → IsProper change → Applies change f g → f ≢ g
proper_differs (Make path new digest) f g proper t e = let x = t.range.0 in let y = t.range.1 in absurd (cc)
proper_differs (Drop path old digest) f g proper t e = let x = t.range.0 in let y = t.range.1 in absurd (cc)
proper_differs (Splice path at old new rest seal) None g proper t e = let x = t.range.2.whole in absurd (cc)
proper_differs (Splice path at old new rest seal) (Some file) g proper t e =
    let r = t.range in
    proper (one_part file old new at rest (r.0, r.1, r.2)
    (r.0, r.1, record { whole = e ∙ r.3.whole; before = r.3.before; behind = r.3.behind }))

touches_keys : (changes : List Change) (q : List ℕ)
    → touches changes q ≡ list_any (eq_by_cmp (slice_cmp nat_cmp) q) (paths_of changes)
touches_keys [] q = refl
touches_keys (c ∷ changes) q = ap (λ b. b || touches changes q) (sym (is_eq-slice_cmp q (path_of c)))
    ∙ ap (λ b. eq_by_cmp (slice_cmp nat_cmp) q (path_of c) || b) (touches_keys changes q)

left_found : (q : List ℕ) (xs ys : List (List ℕ × List ℕ)) → IsSome (find (slice_cmp nat_cmp) q xs)
    → IsSome (find (slice_cmp nat_cmp) q (xs ++ ys))
left_found q [] ys h = absurd (false≢true h)
left_found q (x ∷ xs) ys h = at_test (eq_by_cmp (slice_cmp nat_cmp) q x.0) x.1 _ _ (left_found q xs ys) h
  where
    at_test : (b : Bool) (v : List ℕ) (f g : Option (List ℕ)) → (IsSome f → IsSome g) → IsSome (cond b (Some v) f)
        → IsSome (cond b (Some v) g)
    at_test true v f g k h = refl
    at_test false v f g k h = k h

right_found : (q : List ℕ) (xs ys : List (List ℕ × List ℕ)) → IsSome (find (slice_cmp nat_cmp) q ys)
    → IsSome (find (slice_cmp nat_cmp) q (xs ++ ys))
right_found q [] ys h = h
right_found q (x ∷ xs) ys h = at_test (eq_by_cmp (slice_cmp nat_cmp) q x.0) x.1 _ (right_found q xs ys h)
  where
    at_test : (b : Bool) (v : List ℕ) (g : Option (List ℕ)) → IsSome g → IsSome (cond b (Some v) g)
    at_test true v g k = refl
    at_test false v g k = k

-- where two trees differ, one has a file
pub has_file : (before after : Files) (q : List ℕ) → get before q ≢ get after q
    → IsSome (get (from_entries {R = slice_cmp nat_cmp} (entries before ++ entries after)) q)
has_file before after q differ =
    ap is_some (get-from_entries nat_list_cmp_total (entries before ++ entries after) q)
    ∙ at_files (get before q) (get after q) refl refl differ
  where
    at_files : (f g : Option (List ℕ)) → get before q ≡ f → get after q ≡ g → f ≢ g
        → IsSome (find (slice_cmp nat_cmp) q (entries before ++ entries after))
    at_files None None e h differ = absurd (differ refl)
    at_files (Some x) g e h differ =
        left_found q (entries before) (entries after) (ap is_some (sym (get-entries before q) ∙ e))
    at_files None (Some y) e h differ =
        right_found q (entries before) (entries after) (ap is_some (sym (get-entries after q) ∙ h))

-- a path that changes touch is that of one of them
pub touching : (changes : List Change) (path : List ℕ) → touches changes path ≡ true
    → (i : ℕ) × (d : Change) × (i < length changes) × (path ≡ path_of (get_or changes i d))
touching changes path e =
    let found = Any-from_list_any (λ change. bytes_eq path (path_of change)) changes e in
    (found.0, found.1, found.2, (bytes_eq-Decides path (path_of found.1)).0 found.4 ∙ ap path_of (sym found.3))

module _ (changes : List Change) (before after : Files) (proper : All IsProper changes) (ascending : IsStrictlySortedBy
    (slice_cmp nat_cmp) (paths_of changes)) (leads : LeadsAll changes before after) where
  touched_differs : (q : List ℕ) → touches changes q ≡ true → get before q ≢ get after q
  touched_differs q t =
      let found = touching changes q t in
      let change = get_or changes found.0 found.1 in
      subst (λ p. get before p ≢ get after p) (sym found.3)
      (proper_differs change _ _ (proper found.0 found.1 found.2) (leads.each found.0 found.1 found.2))

  differing : (q : List ℕ) → not (same_file (get before q) (get after q)) ≡ touches changes q
  differing q = at_test (touches changes q) refl
    where
      at_test : (b : Bool) → touches changes q ≡ b → not (same_file (get before q) (get after q)) ≡ b
      at_test true e = ap not (differs_test _ _ _ refl (touched_differs q e))
      at_test false e = ap not (same_itself _ _ (sym (leads.others q e)))

  -- the paths at which the trees differ are those of the changes
  pub changed_by_changes : changed_paths before after ≡ paths_of changes
  unfolding changed_paths
  changed_by_changes = only_keys _ (paths_of changes) ascending (λ q.
      ap is_some (get-retain_keys (from_entries {R = slice_cmp nat_cmp} (entries before ++ entries after))
      (λ path. not (same_file (get before path) (get after path))) q
      (λ x e. ap (λ p. not (same_file (get before p) (get after p)))
      (sym (slice_cmp-IsAntisymmetric nat_cmp-IsAntisymmetric q x e))))
      ∙ at_test q (touches changes q) refl
      ∙ touches_keys changes q)
    where
      at_test : (q : List ℕ) (b : Bool) → touches changes q ≡ b
          → is_some (cond (not (same_file (get before q) (get after q)))
          (get (from_entries {R = slice_cmp nat_cmp} (entries before ++ entries after)) q) None) ≡ touches changes q
      at_test q true e = ap
          (λ b. is_some (cond b (get (from_entries {R = slice_cmp nat_cmp} (entries before ++ entries after)) q) None))
          (differing q ∙ e) ∙ has_file before after q (touched_differs q e) ∙ sym e
      at_test q false e = ap
          (λ b. is_some (cond b (get (from_entries {R = slice_cmp nat_cmp} (entries before ++ entries after)) q) None))
          (differing q ∙ e) ∙ sym e

pub changed_by_entry : (changes : List Change) (before after : Files) → IsEntry changes → LeadsAll changes before after
    → changed_paths before after ≡ paths_of changes
changed_by_entry changes before after good leads =
    changed_by_changes changes before after good.proper good.ascending leads

none_ascend : IsStrictlySortedBy (slice_cmp nat_cmp) []
unfolding IsStrictlySortedBy
none_ascend = tt

-- no change, no path
pub changed_by_none : (before after : Files) → LeadsAll [] before after → changed_paths before after ≡ []
changed_by_none before after leads =
    changed_by_changes [] before after (λ k d lt. absurd (omega (arith, lt))) none_ascend leads
