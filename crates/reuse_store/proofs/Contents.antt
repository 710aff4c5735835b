-- The entries of a map against the files that they stand for.
use Rattle.std.proofs.Common.{◌≡◌, inl, ⊎_elim, ℕ, Bool, true, false, cond, ◌&&◌, ◌||◌, List, [], ◌∷◌, map, length}
use Rattle.std.proofs.Common.{Option, Some, None, Result, Ok, Err, OnOk, OnErr, IsTrue, ◌↔◌, ◌<◌, ◌≤◌, refl, sym, ap}
use Rattle.std.proofs.Common.{subst, ◌∙◌, arith}
use Rattle.std.specs.Ordering.{nat_cmp, is_lt, eq_by_cmp}
use Rattle.std.specs.Result.{is_ok}
use Rattle.std.specs.declared.cmp.Ordering.TheVariants.{Less}
use Rattle.std.specs.Cmp.Lexicographic.{slice_cmp, nat_list_cmp_total}
use Rattle.std.specs.List.{list_any, AllByRecursion}
use Rattle.std.specs.List.Sorted.{IsStrictlySortedBy}
use Rattle.std.specs.Map.{keys_of, lookup}
use Rattle.std.specs.BTreeMap.{BTreeMap, is_at, Updates, IsUnchanged}
use Rattle.std.specs.FinMap.{empty, get, insert, remove, keys, find, is_sorted, from_entries, from_sorted}
use Rattle.std.specs.FinMap.{get-from_entries, get-from_sorted, get-insert, get-remove, entries-from_sorted}
use Rattle.std.specs.FinMap.{contains_key-keys}
use Rattle.std.specs.FinMap.Entries.{below_all}
use Rattle.std.proofs.lemmas.Bool.{false≢true}
use Rattle.std.proofs.lemmas.Bool.Decides.{nat_tests}
use Rattle.std.proofs.lemmas.Cmp.{eq_by_cmp_equiv}
use Rattle.std.proofs.lemmas.Map.Keys.{sorted_head, sorted_tail}
use lib.Dec.{T}
use Rattle.reuse_change.specs.Path.{is_path, lies_under}
use Rattle.reuse_change.specs.Files.{Files, Clashes, AreFiles}
use Rattle.reuse_store.specs.Store.{reading_of}
use Rattle.reuse_store.specs.declared.store.Reading.TheVariants.{Absent, Found, TooLong}
use Rattle.reuse_change.proofs.FileMaps.{tied, ties, same_files}
use Rattle.reuse_store.proofs.GoodFiles.{or_true, or_cases, or_from, put_keeps}

find_is_lookup : (es : List (List ℕ × List ℕ)) (q : List ℕ)
    → find (slice_cmp nat_cmp) q es ≡ lookup (is_at (slice_cmp nat_cmp q)) es
find_is_lookup [] q = refl
find_is_lookup (e ∷ es) q = ap (cond (is_at (slice_cmp nat_cmp q) e.0) (Some e.1)) (find_is_lookup es q)

-- what the files of these entries have at a path
pub get_contents : (es : List (List ℕ × List ℕ)) (q : List ℕ)
    → get (from_entries {R = slice_cmp nat_cmp} es) q ≡ lookup (is_at (slice_cmp nat_cmp q)) es
get_contents es q = get-from_entries nat_list_cmp_total es q ∙ find_is_lookup es q

-- entries that differ at one path make files that differ there
pub one_put : (es fs : List (List ℕ × List ℕ)) (p bytes : List ℕ) → ((q : List ℕ) → lookup (is_at (slice_cmp nat_cmp q))
    fs ≡ cond (is_at (slice_cmp nat_cmp p) q) (Some bytes) (lookup (is_at (slice_cmp nat_cmp q)) es))
    → from_entries {R = slice_cmp nat_cmp} fs ≡ insert (from_entries es) p bytes
one_put es fs p bytes h = same_files _ _ (λ q.
    get_contents fs q ∙ h q ∙ ap (λ b. cond b (Some bytes) (lookup (is_at (slice_cmp nat_cmp q)) es))
    ((eq_by_cmp_equiv nat_list_cmp_total).symm p q)
    ∙ sym (get-insert nat_list_cmp_total (from_entries es) p bytes q
    ∙ ap (cond (is_at (slice_cmp nat_cmp q) p) (Some bytes)) (get_contents es q)))

pub one_removed : (es fs : List (List ℕ × List ℕ)) (p : List ℕ)
    → ((q : List ℕ) → lookup (is_at (slice_cmp nat_cmp q)) fs ≡ cond (is_at (slice_cmp nat_cmp p) q) None
    (lookup (is_at (slice_cmp nat_cmp q)) es)) → from_entries {R = slice_cmp nat_cmp} fs ≡ remove (from_entries es) p
one_removed es fs p h = same_files _ _ (λ q.
    get_contents fs q ∙ h q
    ∙ ap (λ b. cond b None (lookup (is_at (slice_cmp nat_cmp q)) es)) ((eq_by_cmp_equiv nat_list_cmp_total).symm p q)
    ∙ sym (get-remove nat_list_cmp_total (from_entries es) p q
    ∙ ap (cond (is_at (slice_cmp nat_cmp q) p) None) (get_contents es q)))

both_true : (a b : Bool) → T a → T b → T (a && b)
both_true true b p q = q
both_true false b p q = absurd p

below_from_sorted : (k : List ℕ) (es : List (List ℕ × List ℕ))
    → AllByRecursion (λ y. slice_cmp nat_cmp k y ≡ Less) (keys_of es) → T (below_all (slice_cmp nat_cmp) k es)
below_from_sorted k [] h = tt
below_from_sorted k (e ∷ es) h = both_true _ _ (subst (λ o. T (is_lt o)) (sym h.0) tt) (below_from_sorted k es h.1)

-- keys that ascend are sorted, as a finite map asks
pub sorted_entries : (es : List (List ℕ × List ℕ)) → IsStrictlySortedBy (slice_cmp nat_cmp) (keys_of es)
    → T (is_sorted (slice_cmp nat_cmp) es)
sorted_entries [] h = tt
sorted_entries (e ∷ es) h =
    both_true _ _ (below_from_sorted e.0 es (sorted_head (slice_cmp nat_cmp) e.0 (keys_of es) h))
    (sorted_entries es (sorted_tail (slice_cmp nat_cmp) e.0 (keys_of es) h))

-- the paths of the files are the map's keys, in order
pub keys_contents : (es : List (List ℕ × List ℕ)) → IsStrictlySortedBy (slice_cmp nat_cmp) (keys_of es)
    → keys (from_entries {R = slice_cmp nat_cmp} es) ≡ keys_of es
keys_contents es h =
    let sorted = sorted_entries es h in
    let same : from_entries {R = slice_cmp nat_cmp} es ≡ from_sorted es = same_files _ _
    (λ q. get-from_entries nat_list_cmp_total es q ∙ sym (get-from_sorted (slice_cmp nat_cmp) es q sorted)) in
    ap keys same ∙ ap (map (λ e. e.0)) (entries-from_sorted (slice_cmp nat_cmp) es sorted)

-- some path passes the test
abbrev SomePath : (List ℕ → Bool) → List (List ℕ) → Type 0
SomePath test ks = (other : List ℕ) × (test other ≡ true) × (list_any (eq_by_cmp (slice_cmp nat_cmp) other) ks ≡ true)

some_path : (test : List ℕ → Bool) (ks : List (List ℕ)) → list_any test ks ≡ true → SomePath test ks
some_path test [] h = absurd (false≢true h)
some_path test (k ∷ ks) h = ⊎_elim
    (λ (e : test k ≡ true). let found : SomePath test (k ∷ ks) = (k, e, or_from _ _ (inl (ties k k refl))) in found)
    (λ (e : list_any test ks ≡ true). let rest = some_path test ks e in let found : SomePath test
    (k ∷ ks) = (rest.0, rest.1, or_true (eq_by_cmp (slice_cmp nat_cmp) rest.0 k) _ rest.2) in found)
    (or_cases (test k) (list_any test ks) h)

passes : (test : List ℕ → Bool) (ks : List (List ℕ)) (other : List ℕ) → test other ≡ true
    → list_any (eq_by_cmp (slice_cmp nat_cmp) other) ks ≡ true → list_any test ks ≡ true
passes test [] other p h = absurd (false≢true h)
passes test (k ∷ ks) other p h = ⊎_elim
    (λ (e : eq_by_cmp (slice_cmp nat_cmp) other k ≡ true). or_from (test k) (list_any test ks)
    (inl (ap test (sym (tied other k e)) ∙ p)))
    (λ (e : list_any (eq_by_cmp (slice_cmp nat_cmp) other) ks ≡ true). or_true (test k) (list_any test ks)
    (passes test ks other p e))
    (or_cases _ _ h)

-- the test over all paths says whether a path clashes
pub clashes_any : (m : Files) (path : List ℕ)
    → (list_any (λ other. lies_under other path || lies_under path other) (keys m) ≡ true) ↔ Clashes m path
clashes_any m path = (
  λ h. let found = some_path (λ other. lies_under other path || lies_under path other) (keys m) h in
      record { other = found.0; is_file = contains_key-keys m found.0 ∙ found.2; nested = found.1 },
  λ c. passes (λ other. lies_under other path || lies_under path other) (keys m) c.other c.nested
      (sym (contains_key-keys m c.other) ∙ c.is_file),
)

-- what reading a path of these entries gives
pub reading_absent : (es : List (List ℕ × List ℕ)) (q : List ℕ) (limit : ℕ) → None ≡ lookup
    (is_at (slice_cmp nat_cmp q)) es → Absent ≡ reading_of (get (from_entries {R = slice_cmp nat_cmp} es) q) limit
reading_absent es q limit e = ap (λ o. reading_of o limit) (e ∙ sym (get_contents es q))

of_length : (bytes : List ℕ) (limit : ℕ) → length bytes ≤ limit → Found bytes ≡ reading_of (Some bytes) limit
of_length bytes limit h = grind (arith, nat_tests)

pub reading_found : (es : List (List ℕ × List ℕ)) (q bytes : List ℕ) (limit : ℕ)
    → Some bytes ≡ lookup (is_at (slice_cmp nat_cmp q)) es → length bytes ≤ limit
    → Found bytes ≡ reading_of (get (from_entries {R = slice_cmp nat_cmp} es) q) limit
reading_found es q bytes limit e h =
    of_length bytes limit h ∙ ap (λ o. reading_of o limit) (e ∙ sym (get_contents es q))

of_greater_length : (bytes : List ℕ) (limit : ℕ) → limit < length bytes → TooLong ≡ reading_of (Some bytes) limit
of_greater_length bytes limit h = grind (arith, nat_tests)

pub reading_long : (es : List (List ℕ × List ℕ)) (q bytes : List ℕ) (limit : ℕ)
    → Some bytes ≡ lookup (is_at (slice_cmp nat_cmp q)) es → limit < length bytes
    → TooLong ≡ reading_of (get (from_entries {R = slice_cmp nat_cmp} es) q) limit
reading_long es q bytes limit e h =
    of_greater_length bytes limit h ∙ ap (λ o. reading_of o limit) (e ∙ sym (get_contents es q))

-- the test over a map's keys says whether a path clashes
pub clashes_contents : (es : List (List ℕ × List ℕ)) (path : List ℕ) → IsStrictlySortedBy (slice_cmp nat_cmp)
    (keys_of es) → (list_any (λ other. lies_under other path || lies_under path other) (keys_of es) ≡ true)
    ↔ Clashes (from_entries {R = slice_cmp nat_cmp} es) path
clashes_contents es path sorted =
    subst (λ ks. (list_any (λ other. lies_under other path || lies_under path other) ks ≡ true)
    ↔ Clashes (from_entries {R = slice_cmp nat_cmp} es) path) (keys_contents es sorted) (clashes_any _ path)

-- a map after an insertion that succeeded, or failed and changed nothing
pub inserted : {A E : Type 0} (r : Result A E) (m n : BTreeMap (List ℕ) (List ℕ)) (path bytes : List ℕ) →
    OnOk r (Updates (slice_cmp nat_cmp) m n path (Some bytes)) → OnErr r (IsUnchanged m n) →
    AreFiles (from_entries {R = slice_cmp nat_cmp} m.entries) → IsTrue (is_path path)
    → ¬ (Clashes (from_entries {R = slice_cmp nat_cmp} m.entries) path)
    → AreFiles (from_entries {R = slice_cmp nat_cmp} n.entries)
inserted (Ok x) m n path bytes ok err good is free =
    subst AreFiles (sym (one_put m.entries n.entries path bytes ok.0)) (put_keeps _ path bytes good is free)
inserted (Err e) m n path bytes ok err good is free =
    subst (λ gs. AreFiles (from_entries {R = slice_cmp nat_cmp} gs)) (sym err) good

-- what holds where a call gave a value, where it gave one
pub if_given : {A E P : Type 0} (r : Result A E) → is_ok r ≡ true → OnOk r P → P
if_given (Ok x) given holds = holds
if_given (Err e) given holds = absurd (false≢true given)

-- no files: no paths, nothing to read, nothing to remove
abbrev none : Files
none = empty

pub no_paths : keys none ≡ []
unfolding IsStrictlySortedBy
no_paths = keys_contents [] tt

pub nothing_read : (path : List ℕ) (limit : ℕ) → Absent ≡ reading_of (get none path) limit
nothing_read path limit = reading_absent [] path limit refl

pub nothing_removed : (path : List ℕ) → none ≡ remove none path
nothing_removed path = one_removed [] [] path (λ q. same_either_direction (is_at (slice_cmp nat_cmp path) q) None)
  where
    same_either_direction : (b : Bool) (file : Option (List ℕ)) → file ≡ cond b file file
    same_either_direction true file = refl
    same_either_direction false file = refl
