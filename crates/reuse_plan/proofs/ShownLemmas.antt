-- What a listing of some folders shows of the paths at them and beneath them.
use Rattle.std.proofs.lemmas.List.{append-nil, take_more}
use Rattle.std.proofs.lemmas.List.Concat.{flat_map-append}
use Rattle.std.proofs.Common.{◌≡◌, ◌⊎◌, inl, inr, ℕ, ◌+◌, take, ◌<◌, Bool, true, false, cond, not, ◌&&◌, ◌||◌, ◌==◌}
use Rattle.std.proofs.Common.{List, [], ◌∷◌, ◌++◌, length, get_or, map, filter, nat_eq, nat_lt, nat_le, codes, refl}
use Rattle.std.proofs.Common.{sym, ap, subst, ◌∙◌, append_assoc, arith, bytes_eq}
use Rattle.std.specs.FinMap.{keys}
use Rattle.std.specs.List.{list_any}
use Rattle.std.specs.Ordering.{nat_cmp}
use Rattle.std.specs.Cmp.Lexicographic.{slice_cmp}
use Rattle.std.proofs.lemmas.Bool.{false≢true, false_from_ne_true, and_from, and_parts, or_cases, or_parts, or_right}
use Rattle.std.proofs.lemmas.Bool.Decides.{nat_tests}
use Rattle.std.proofs.lemmas.List.Kept.{IsStrictlySortedBy-filter}
use Rattle.std.proofs.lemmas.Slice.Eq.{bytes_eq-Decides}
use Rattle.reuse_notice.proofs.ClassLemmas.{In-left, In-right}
use Rattle.reuse_notice.proofs.SetLemmas.{In}
use Rattle.reuse_change.specs.Files.{Files, AreFiles, tree_of}
use Rattle.reuse_change.specs.Listing.{is_among, is_asked, is_folder, is_folder_of, is_pruned, is_wanted, listed_paths}
use Rattle.reuse_change.specs.Path.{lies_under, folders_above, has_no_nul, has_good_parts, journal_folder}
use Rattle.reuse_change.proofs.ListingLemmas.{under_from_test, test_from_under}
use Rattle.reuse_change.proofs.NeedLemmas.{none_pruned}
use Rattle.reuse_store.proofs.OfTree.{fronts, slash_inside}
use Rattle.reuse_store.proofs.TreeLemmas.{among_keys, keys_ascend, tree_keys}
use Rattle.reuse_edit.specs.Annotate.{neighbour_of}
use Rattle.reuse_edit.specs.Licence.{licence_path}
use Rattle.reuse_plan.specs.Shown.{Shows, ShowsEach, ShowsLicences, ShowsOne, neighbours_of, with_neighbours}
use Rattle.reuse_edit.specs.Pair.{ShowsPair}
use Rattle.reuse_plan.specs.declared.select.Listing.{Listing}
use Rattle.reuse_plan.proofs.Members.{any_has}

-- ---- two tests, one after the other

filter_swap : (p q : List ℕ → Bool) (xs : List (List ℕ)) → filter p (filter q xs) ≡ filter q (filter p xs)
filter_swap p q [] = refl
filter_swap p q (x ∷ xs) = of_tests (p x) refl (q x) refl (filter_swap p q xs)
  where
    of_tests : (a : Bool) → p x ≡ a → (b : Bool) → q x ≡ b → filter p (filter q xs) ≡ filter q (filter p xs)
        → filter p (cond b (x ∷ filter q xs) (filter q xs)) ≡ filter q (cond a (x ∷ filter p xs) (filter p xs))
    of_tests true e true f more = ap (λ b. cond b (x ∷ filter p (filter q xs)) (filter p (filter q xs))) e
        ∙ ap (λ l. x ∷ l) more ∙ sym (ap (λ b. cond b (x ∷ filter q (filter p xs)) (filter q (filter p xs))) f)
    of_tests true e false f more = more ∙ sym (ap (λ b. cond b (x ∷ filter q (filter p xs)) (filter q (filter p xs))) f)
    of_tests false e true f more = ap (λ b. cond b (x ∷ filter p (filter q xs)) (filter p (filter q xs))) e ∙ more
    of_tests false e false f more = more

-- of what is listed of all files, what is no part of the journal is what is listed of the tree
pub listed_of_tree : (files : Files) (folders : List (List ℕ)) (prunes : List ℕ → Bool)
    → filter (λ path. not (lies_under path journal_folder)) (listed_paths files folders prunes) ≡ listed_paths
    (tree_of files) folders prunes
listed_of_tree files folders prunes =
    filter_swap (λ path. not (lies_under path journal_folder)) (is_wanted folders prunes) (keys files)
    ∙ ap (filter (is_wanted folders prunes)) (tree_keys files)

-- ---- a test that only paths pass which are kept

any_kept : (test keeps : List ℕ → Bool) → ((path : List ℕ) → test path ≡ true → keeps path ≡ true)
    → (paths : List (List ℕ)) → list_any test (filter keeps paths) ≡ list_any test paths
any_kept test keeps all [] = refl
any_kept test keeps all (path ∷ paths) = of_test (keeps path) refl (any_kept test keeps all paths)
  where
    of_test : (b : Bool) → keeps path ≡ b → list_any test (filter keeps paths) ≡ list_any test paths
        → list_any test (cond b (path ∷ filter keeps paths) (filter keeps paths)) ≡ (test path || list_any test paths)
    of_test true e rest = ap (λ b. test path || b) rest
    of_test false e rest = rest ∙ ap (λ b. b || list_any test paths)
        (sym (false_from_ne_true (test path) (λ is. false≢true (sym e ∙ all path is))))

-- ---- at a folder and beneath it

under_folder : (other path folder : List ℕ) → lies_under other path ≡ true → lies_under path folder ≡ true
    → lies_under other folder ≡ true
under_folder other path folder below above =
    let x = under_from_test other path below in
    let y = under_from_test path folder above in
    test_from_under other folder
    (y.0 ++ 47 ∷ x.0, x.1 ∙ ap (λ p. p ++ 47 ∷ x.0) y.1 ∙ append_assoc folder (47 ∷ y.0) (47 ∷ x.0))

or_none : (b : Bool) → (b || false) ≡ b
or_none true = refl
or_none false = refl

module _ (folder : List ℕ) (top : list_any (λ byte. nat_eq byte 47) folder ≡ false) where
  -- nothing stands above a folder of the root
  none_above : (other rest : List ℕ) → folder ≡ other ++ 47 ∷ rest → ⊥
  none_above other rest e = false≢true (sym top ∙ ap (list_any (λ byte. nat_eq byte 47)) e ∙ slash_inside other rest)

  abbrev IsNear : List ℕ → Type 0
  IsNear path = (path ≡ folder) ⊎ (lies_under path folder ≡ true)

  abbrev near : List ℕ → Bool
  near other = bytes_eq other folder || lies_under other folder

  is_near : (other : List ℕ) → IsNear other → near other ≡ true
  is_near other (inl e) = ap (λ b. b || lies_under other folder) ((bytes_eq-Decides other folder).1 e)
  is_near other (inr e) = ap (λ b. bytes_eq other folder || b) e ∙ or_right (bytes_eq other folder) true refl

  beneath_near : (path other : List ℕ) → IsNear path → lies_under other path ≡ true → IsNear other
  beneath_near path other (inl e) below = inr (subst (λ p. lies_under other p ≡ true) e below)
  beneath_near path other (inr e) below = inr (under_folder other path folder below e)

  above_near : (path other : List ℕ) → IsNear path → lies_under path other ≡ true → IsNear other
  above_near path other (inl e) above = let x = under_from_test path other above in
      absurd (none_above other x.0 (sym e ∙ x.1))
  above_near path other (inr e) above =
      let x = under_from_test path folder e in
      let y = under_from_test path other above in
      elim (fronts folder other x.0 y.0 (sym x.1 ∙ y.1)) [
        | inl same ↦ inl same
        | inr apart ↦ elim apart [
          | inl below ↦ inr (test_from_under other folder below)
          | inr over ↦ absurd (none_above other over.0 over.1)
        ]
      ]

  wanted : (other : List ℕ) → IsNear other → is_wanted (folder ∷ []) (λ place. false) other ≡ true
  wanted other is = and_from _ _ (or_none (near other) ∙ is_near other is) (ap not (none_pruned other))

  -- a listing of the folder shows each path at it or beneath it
  pub shows_near : (tree : Files) (path : List ℕ) → IsNear path
      → Shows (listed_paths tree (folder ∷ []) (λ place. false)) tree path
  shows_near tree path is = record {
    ordered = IsStrictlySortedBy-filter (slice_cmp nat_cmp) (is_wanted (folder ∷ []) (λ place. false)) (keys tree)
        (keys_ascend tree);
    there = any_kept (λ other. bytes_eq path other) (is_wanted (folder ∷ []) (λ place. false))
        (λ other e. wanted other (subst IsNear ((bytes_eq-Decides path other).0 e) is)) (keys tree);
    clash =
        any_kept (λ other. lies_under other path || lies_under path other) (is_wanted (folder ∷ []) (λ place. false))
        (λ other e. wanted other (elim (or_cases (lies_under other path) (lies_under path other) e) [
          | inl below ↦ beneath_near path other is below
          | inr above ↦ above_near path other is above
        ])) (keys tree);
  }

pub shows_licences : (tree : Files) → ShowsLicences (listed_paths tree (codes "LICENSES" ∷ []) (λ place. false)) tree
shows_licences tree = record {
  each = λ id.
      shows_near (codes "LICENSES") refl tree (licence_path id)
      (inr (test_from_under (licence_path id) (codes "LICENSES")
      (id ++ codes ".txt", append_assoc (codes "LICENSES/") id (codes ".txt"))));
}

-- ---- pairs of a path and its neighbour

-- what is shown of each is shown of this one
pub one_of_each : (listing : Listing) (tree : Files) (paths : List (List ℕ)) → ShowsEach listing tree paths
    → (i : ℕ) (path : List ℕ) → i < length paths → path ≡ get_or paths i path → ShowsOne listing tree path
one_of_each listing tree paths all i path lt is = subst (ShowsOne listing tree) (sym is) (all.each i path lt)

above_alike : (path : List ℕ) → folders_above (neighbour_of path) ≡ folders_above path
above_alike [] = refl
above_alike (byte ∷ path) =
    ap (λ folders. cond (byte == 47) ([] ∷ []) [] ++ map (λ folder. byte ∷ folder) folders) (above_alike path)

pub none_kept : (test keeps : List ℕ → Bool) (paths : List (List ℕ)) → list_any test paths ≡ false
    → list_any test (filter keeps paths) ≡ false
none_kept test keeps [] none = refl
none_kept test keeps (path ∷ paths) none =
    let parts = or_parts (test path) (list_any test paths) none in
    of_test (keeps path) parts.0 (none_kept test keeps paths parts.1)
  where
    of_test : (b : Bool) → test path ≡ false → list_any test (filter keeps paths) ≡ false
        → list_any test (cond b (path ∷ filter keeps paths) (filter keeps paths)) ≡ false
    of_test true first rest = ap (λ b. b || list_any test (filter keeps paths)) first ∙ rest
    of_test false first rest = rest

fits_path : (n : ℕ) → nat_lt 4096 n ≡ true → nat_le n 4096 ≡ true → ⊥
fits_path n long short = grind (arith, nat_tests)

-- a listing shows a path and its neighbour where both are asked for, and no folder above them is pruned
module _ (tree : Files) (are : AreFiles tree) (folders : List (List ℕ)) (prunes : List ℕ → Bool) (path : List ℕ)
    (asked : is_asked folders path ≡ true)
    (asked_beside : nat_lt 4096 (length (neighbour_of path)) ≡ false → is_asked folders (neighbour_of path) ≡ true)
    (free : is_pruned prunes path ≡ false) where
  kept_at : (at : List ℕ) → is_wanted folders prunes at ≡ true
      → is_among (listed_paths tree folders prunes) at ≡ is_among (keys tree) at
  kept_at at want = any_kept (λ other. bytes_eq at other) (is_wanted folders prunes)
      (λ other e. subst (λ o. is_wanted folders prunes o ≡ true) ((bytes_eq-Decides at other).0 e) want) (keys tree)

  no_long : nat_lt 4096 (length (neighbour_of path)) ≡ true → is_among (keys tree) (neighbour_of path) ≡ false
  no_long long =
      let beside = neighbour_of path in
      false_from_ne_true (is_among (keys tree) beside) (λ there.
      let good = are.are_paths beside (sym (among_keys tree beside) ∙ there) in
      let first = and_parts (nat_lt 0 (length beside) && nat_le (length beside) 4096 && has_no_nul beside)
      (has_good_parts beside) good in
      let second = and_parts (nat_lt 0 (length beside) && nat_le (length beside) 4096) (has_no_nul beside) first.0 in
      fits_path (length beside) long (and_parts (nat_lt 0 (length beside)) (nat_le (length beside) 4096) second.0).1)

  kept_beside : (b : Bool) → nat_lt 4096 (length (neighbour_of path)) ≡ b
      → is_among (listed_paths tree folders prunes) (neighbour_of path) ≡ is_among (keys tree) (neighbour_of path)
  kept_beside false fits = kept_at (neighbour_of path)
      (and_from _ _ (asked_beside fits) (ap not (ap (list_any prunes) (above_alike path) ∙ free)))
  kept_beside true long = none_kept (λ other. bytes_eq (neighbour_of path) other) (is_wanted folders prunes) (keys tree)
      (no_long long) ∙ sym (no_long long)

  pub shows_pair : (is_among (keys tree) path ≡ false
      → is_folder_of (listed_paths tree folders prunes) path ≡ is_folder tree path)
      → ShowsPair (listed_paths tree folders prunes) tree path
  shows_pair folder = record {
    ordered = IsStrictlySortedBy-filter (slice_cmp nat_cmp) (is_wanted folders prunes) (keys tree) (keys_ascend tree);
    there = kept_at path (and_from _ _ asked (ap not free));
    beside = kept_beside (nat_lt 4096 (length (neighbour_of path))) refl;
    folder = folder;
  }

-- ---- what is asked for

pub asked_one : (folders : List (List ℕ)) (place path : List ℕ) → In place folders
    → (bytes_eq path place || lies_under path place) ≡ true → is_asked folders path ≡ true
asked_one [] place path h e = absurd h
asked_one (folder ∷ folders) place path h e =
    any_has (λ at. bytes_eq path at || lies_under path at) place (folder ∷ folders) h e

asked_itself : (folders : List (List ℕ)) (path : List ℕ) → In path folders → is_asked folders path ≡ true
asked_itself folders path h =
    asked_one folders path path h (ap (λ b. b || lies_under path path) ((bytes_eq-Decides path path).1 refl))

asked_under : (folders : List (List ℕ)) (folder path : List ℕ) → In folder folders → lies_under path folder ≡ true
    → is_asked folders path ≡ true
asked_under folders folder path h e =
    asked_one folders folder path h (ap (λ b. bytes_eq path folder || b) e ∙ or_right (bytes_eq path folder) true refl)

pub in_pairs : (given : List (List ℕ)) (path : List ℕ) → In path given → In path (with_neighbours given)
in_pairs [] path h = absurd h
in_pairs (first ∷ given) path (inl is) = In-left (first ∷ neighbours_of first) (with_neighbours given) path (inl is)
in_pairs (first ∷ given) path (inr h) =
    In-right (first ∷ neighbours_of first) (with_neighbours given) path (in_pairs given path h)

neighbour_in : (path : List ℕ) → nat_lt 4096 (length (neighbour_of path)) ≡ false
    → In (neighbour_of path) (neighbours_of path)
neighbour_in path fits = subst (λ b. In (neighbour_of path) (cond b [] (neighbour_of path ∷ []))) (sym fits) (inl refl)

pub in_pairs_beside : (given : List (List ℕ)) (path : List ℕ) → In path given
    → nat_lt 4096 (length (neighbour_of path)) ≡ false → In (neighbour_of path) (with_neighbours given)
in_pairs_beside [] path h fits = absurd h
in_pairs_beside (first ∷ given) path (inl is) fits =
    In-left (first ∷ neighbours_of first) (with_neighbours given) (neighbour_of path)
    (inr (subst (λ p. In (neighbour_of path) (neighbours_of p)) is (neighbour_in path fits)))
in_pairs_beside (first ∷ given) path (inr h) fits =
    In-right (first ∷ neighbours_of first) (with_neighbours given) (neighbour_of path)
    (in_pairs_beside given path h fits)

-- one path more with its neighbour
pub pairs_more : (paths : List (List ℕ)) (i : ℕ) (d : List ℕ) (old new : List (List ℕ)) → i < length paths
    → old ≡ with_neighbours (take i paths) → new ≡ old ++ get_or paths i d ∷ neighbours_of (get_or paths i d)
    → new ≡ with_neighbours (take (i + 1) paths)
pairs_more paths i d old new low so is =
    let at = get_or paths i d in
    let pair : List ℕ → List (List ℕ) = λ path. path ∷ neighbours_of path in
    is ∙ ap (λ ps. ps ++ pair at) so ∙ ap (λ ps. with_neighbours (take i paths) ++ ps) (sym (append-nil (pair at)))
    ∙ sym (flat_map-append pair (take i paths) (at ∷ [])) ∙ ap with_neighbours (sym (take_more paths i d low))

pub pair_of : (path neighbour : List ℕ) → neighbour ≡ neighbour_of path
    → nat_lt 4096 (length (neighbour_of path)) ≡ false → neighbour ∷ [] ≡ neighbours_of path
pair_of path neighbour is fits = ap (λ n. n ∷ []) is ∙ ap (λ b. cond b [] (neighbour_of path ∷ [])) (sym fits)

pub no_pair : (path : List ℕ) → nat_lt 4096 (length (neighbour_of path)) ≡ true → [] ≡ neighbours_of path
no_pair path long = ap (λ b. cond b [] (neighbour_of path ∷ [])) (sym long)

-- a listing of a path and its neighbour shows both
pub shows_alone : (tree : Files) → AreFiles tree → (path : List ℕ)
    → ShowsPair (listed_paths tree (with_neighbours (path ∷ [])) (λ folder. false)) tree path
shows_alone tree are path =
    let folders = with_neighbours (path ∷ []) in
    let here = in_pairs (path ∷ []) path (inl refl) in
    shows_pair tree are folders (λ folder. false) path (asked_itself folders path here)
    (λ fits. asked_itself folders (neighbour_of path) (in_pairs_beside (path ∷ []) path (inl refl) fits))
    (none_pruned path)
    (λ absent. any_kept (λ other. lies_under other path) (is_wanted folders (λ folder. false))
    (λ other under. and_from _ _ (asked_under folders path other here under) (ap not (none_pruned other))) (keys tree))
