-- A tree among the files of a store: its paths, and what they hold.
use Rattle.std.proofs.Common.{◌≡◌, ℕ, Bool, Some, true, false, cond, not, ◌&&◌, ◌||◌, List, [], ◌∷◌, Less, Equal}
use Rattle.std.proofs.Common.{Ordering, refl, sym, ap, ◌∙◌, Option, None, is_some, IsSome, filter, map}
use lib.Dec.{T}
use Rattle.std.specs.Ordering.{nat_cmp, is_lt, eq_by_cmp}
use Rattle.std.specs.Cmp.Lexicographic.{slice_cmp}
use Rattle.std.specs.List.{AllByRecursion, list_any}
use Rattle.std.specs.List.Sorted.{IsStrictlySortedBy}
use Rattle.std.specs.Str.{bytes_eq}
use Rattle.std.specs.FinMap.Entries.{below_all}
use Rattle.std.specs.FinMap.{get, keys, entries, is_sorted, entries_sorted, contains_key-keys, get-retain_keys}
use Rattle.std.specs.FinMap.{slice_cmp-IsAntisymmetric, nat_cmp-IsAntisymmetric}
use Rattle.std.proofs.lemmas.Bool.{false≢true, and_right}
use Rattle.std.proofs.lemmas.List.Kept.{IsStrictlySortedBy-filter}
use Rattle.std.proofs.lemmas.Map.Text.{is_eq-slice_cmp}
use Rattle.reuse_change.specs.Path.{lies_under, journal_folder}
use Rattle.reuse_change.specs.Files.{Files, AreFiles, tree_of}
use Rattle.reuse_store.specs.Store.{reading_of}
use Rattle.reuse_store.specs.declared.store.Reading.{Reading}
use Rattle.reuse_change.proofs.FileMaps.{tied}
use Rattle.reuse_change.specs.Listing.{ArePaths, is_among}
use Rattle.reuse_change.proofs.Differ.{only_keys}

both : (a b : Bool) → T (a && b) → T a × T b
both true b h = (tt, h)
both false b h = absurd h

is_less : (o : Ordering) → T (is_lt o) → o ≡ Less
is_less o h = of_test (is_lt o) refl h
  where
    of_order : (o : Ordering) → is_lt o ≡ true → o ≡ Less
    of_order Less e = refl
    of_order Equal e = absurd (false≢true e)
    of_order Ordering.Greater e = absurd (false≢true e)

    of_test : (b : Bool) → is_lt o ≡ b → T b → o ≡ Less
    of_test true e h = of_order o e
    of_test false e h = absurd h

below_keys : (k : List ℕ) (es : List (List ℕ × List ℕ)) → T (below_all (slice_cmp nat_cmp) k es)
    → AllByRecursion (λ y. slice_cmp nat_cmp k y ≡ Less) (map (λ (e : List ℕ × List ℕ). e.0) es)
below_keys k [] h = tt
below_keys k (e ∷ es) h = let parts = both (is_lt (slice_cmp nat_cmp k e.0)) (below_all (slice_cmp nat_cmp) k es) h in
    (is_less _ parts.0, below_keys k es parts.1)

keys_of_sorted : (es : List (List ℕ × List ℕ)) → T (is_sorted (slice_cmp nat_cmp) es)
    → IsStrictlySortedBy (slice_cmp nat_cmp) (map (λ (e : List ℕ × List ℕ). e.0) es)
unfolding IsStrictlySortedBy
keys_of_sorted [] h = tt
keys_of_sorted (e ∷ es) h =
    let parts = both (below_all (slice_cmp nat_cmp) e.0 es) (is_sorted (slice_cmp nat_cmp) es) h in
    (below_keys e.0 es parts.0, keys_of_sorted es parts.1)

-- the paths of files are in byte order
pub keys_ascend : (files : Files) → ArePaths (keys files)
keys_ascend files = keys_of_sorted (entries files) (entries_sorted files)

any_filtered : (p : List ℕ → Bool) (q : List ℕ) (ks : List (List ℕ))
    → list_any (eq_by_cmp (slice_cmp nat_cmp) q) (filter p ks) ≡ (p q && list_any (eq_by_cmp (slice_cmp nat_cmp) q) ks)
any_filtered p q [] = sym (and_right (p q) false refl)
any_filtered p q (k ∷ ks) = at_test (p k) refl (eq_by_cmp (slice_cmp nat_cmp) q k) refl (any_filtered p q ks)
  where
    rest : Bool
    rest = list_any (eq_by_cmp (slice_cmp nat_cmp) q) ks

    passes : (b : Bool) → b ≡ true → (true || rest) ≡ (b && (true || rest))
    passes true e = refl
    passes false e = absurd (false≢true e)

    fails : (b : Bool) → b ≡ false → (b && rest) ≡ (b && (true || rest))
    fails false e = refl
    fails true e = absurd (false≢true (sym e))

    at_test : (b : Bool) → p k ≡ b → (t : Bool) → eq_by_cmp (slice_cmp nat_cmp) q k ≡ t → list_any
        (eq_by_cmp (slice_cmp nat_cmp) q) (filter p ks) ≡ (p q && list_any (eq_by_cmp (slice_cmp nat_cmp) q) ks)
        → list_any (eq_by_cmp (slice_cmp nat_cmp) q)
        (cond b (k ∷ filter p ks) (filter p ks)) ≡ (p q && (t || list_any (eq_by_cmp (slice_cmp nat_cmp) q) ks))
    at_test true e true f more =
        ap (λ t. t || list_any (eq_by_cmp (slice_cmp nat_cmp) q) (filter p ks)) f ∙ passes (p q) (ap p (tied q k f) ∙ e)
    at_test true e false f more = ap (λ t. t || list_any (eq_by_cmp (slice_cmp nat_cmp) q) (filter p ks)) f ∙ more
    at_test false e true f more = more ∙ fails (p q) (ap p (tied q k f) ∙ e)
    at_test false e false f more = more

abbrev is_outside : List ℕ → Bool
is_outside path = not (lies_under path journal_folder)

pub tree_file : (files : Files) (q : List ℕ)
    → get (tree_of files) q ≡ cond (not (lies_under q journal_folder)) (get files q) None
tree_file files q = get-retain_keys files is_outside q
    (λ x e. ap is_outside (sym (slice_cmp-IsAntisymmetric nat_cmp-IsAntisymmetric q x e)))

-- the paths of a tree are those of the files that are not in the journal
pub tree_keys : (files : Files)
    → filter (λ path. not (lies_under path journal_folder)) (keys files) ≡ keys (tree_of files)
tree_keys files = sym (only_keys (tree_of files) (filter is_outside (keys files))
    (IsStrictlySortedBy-filter (slice_cmp nat_cmp) is_outside (keys files) (keys_ascend files)) (λ q.
    ap is_some (tree_file files q) ∙ of_test (is_outside q) (get files q)
    ∙ ap (λ b. is_outside q && b) (contains_key-keys files q) ∙ sym (any_filtered is_outside q (keys files))))
  where
    of_test : (b : Bool) (file : Option (List ℕ)) → is_some (cond b file None) ≡ (b && is_some file)
    of_test true file = refl
    of_test false file = refl

kept_some : (b : Bool) (file : Option (List ℕ)) → IsSome (cond b file None) → cond b file None ≡ file
kept_some true file h = refl
kept_some false file h = absurd (false≢true h)

-- a file of the tree is that of the store
pub of_store : (files : Files) (q : List ℕ) → IsSome (get (tree_of files) q) → get (tree_of files) q ≡ get files q
of_store files q h = tree_file files q
    ∙ kept_some (not (lies_under q journal_folder)) (get files q) (ap is_some (sym (tree_file files q)) ∙ h)

pub some_in_store : (files : Files) (q : List ℕ) → IsSome (get (tree_of files) q) → IsSome (get files q)
some_in_store files q h = ap is_some (sym (of_store files q h)) ∙ h

-- the files of a tree
pub tree_are_files : (files : Files) → AreFiles files → AreFiles (tree_of files)
tree_are_files files are = record {
  are_paths = λ q h. are.are_paths q (some_in_store files q h);
  apart = λ q h c. are.apart q (some_in_store files q h)
      (record { other = c.other; is_file = some_in_store files c.other c.is_file; nested = c.nested });
}

any_alike : (q : List ℕ) (ks : List (List ℕ))
    → list_any (eq_by_cmp (slice_cmp nat_cmp) q) ks ≡ list_any (λ other. bytes_eq q other) ks
any_alike q [] = refl
any_alike q (k ∷ ks) = ap (λ b. b || list_any (eq_by_cmp (slice_cmp nat_cmp) q) ks) (is_eq-slice_cmp q k)
    ∙ ap (λ b. bytes_eq q k || b) (any_alike q ks)

-- a path is a file where it is among the paths
pub among_keys : (files : Files) (q : List ℕ) → is_among (keys files) q ≡ is_some (get files q)
among_keys files q = sym (contains_key-keys files q ∙ any_alike q (keys files))

-- what was read of a file of the tree is read of what it holds there
pub read_there : (files : Files) (path bytes : List ℕ) (limit : ℕ) (reading : Reading)
    → get (tree_of files) path ≡ Some bytes → reading ≡ reading_of (get files path) limit
    → reading ≡ reading_of (Some bytes) limit
read_there files path bytes limit reading here read =
    read ∙ ap (λ f. reading_of f limit) (sym (of_store files path (ap is_some here)) ∙ here)
