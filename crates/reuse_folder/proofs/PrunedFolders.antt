-- The folders of a tree that a listing is to pass over, as a list: it passes over the same files.
use Rattle.std.specs.Prelude.{filter}
use Rattle.std.proofs.Common.{◌≡◌, ◌≢◌, ℕ, zero, suc, ◌<◌, Bool, true, false, cond, ◌||◌, List, [], ◌∷◌, ◌++◌, length}
use Rattle.std.proofs.Common.{get_or, Result, Ok, Err, IfOk, refl, sym, ap, ◌∙◌, arith}
use Rattle.std.specs.FinMap.{keys}
use Rattle.std.specs.List.{All, list_any}
use Rattle.std.specs.Str.{bytes_eq}
use Rattle.std.proofs.lemmas.Bool.{false≢true, and_parts, or_right, not-true, false_from_ne_true}
use Rattle.std.proofs.lemmas.List.Folds.{list_any-append}
use Rattle.std.proofs.lemmas.List.Elements.{All-cons, All-head, All-tail, filter_passes}
use Rattle.std.proofs.lemmas.Slice.Eq.{bytes_eq-Decides}
use Rattle.std.specs.Result.{MatchResult, result_map_both}
use Rattle.reuse_store.specs.Calls.{Call}
use Rattle.reuse_store.specs.Calls.Call.{ListCall}
use Rattle.reuse_store.specs.declared.fault.StoreFault.{StoreFault}
use Rattle.reuse_store.specs.declared.fault.StoreFault.TheVariants.{Clash}
use Rattle.reuse_folder.specs.Honesty.{files_of, IsHonest}
use Rattle.reuse_change.specs.Files.{Files}
use Rattle.reuse_change.specs.Listing.{is_among, is_pruned, is_wanted, listed_paths}
use Rattle.reuse_change.specs.Path.{folders_above}
use Rattle.reuse_change.proofs.NeedLemmas.{above_from, above_some, listed_by_need}

abbrev pub folders_of : List (List ℕ) → List (List ℕ)
folders_of [] = []
folders_of (path ∷ paths) = folders_above path ++ folders_of paths

-- those of the folders above the files that are pruned
abbrev pub pruned_in : Files → (List ℕ → Bool) → List (List ℕ)
pruned_in files prunes = filter prunes (folders_of (keys files))

or_left : (a b : Bool) → a ≡ true → (a || b) ≡ true
or_left true b e = refl
or_left false b e = absurd (false≢true e)

-- a folder above one of the paths is one of their folders
above_one : (test : List ℕ → Bool) (paths : List (List ℕ)) (i : ℕ) (d : List ℕ) → i < length paths
    → list_any test (folders_above (get_or paths i d)) ≡ true → list_any test (folders_of paths) ≡ true
above_one test [] i d lt e = absurd (omega (arith, lt))
above_one test (path ∷ paths) zero d lt e = list_any-append test (folders_above path) (folders_of paths) ∙ or_left _ _ e
above_one test (path ∷ paths) (suc i) d lt e = list_any-append test (folders_above path) (folders_of paths)
    ∙ or_right (list_any test (folders_above path)) _ (above_one test paths i d (omega (arith, lt)) e)

-- a test that only what is kept passes finds as much among what is kept
kept_finds : (test keeps : List ℕ → Bool) → ((path : List ℕ) → test path ≡ true → keeps path ≡ true)
    → (paths : List (List ℕ)) → list_any test paths ≡ true → list_any test (filter keeps paths) ≡ true
kept_finds test keeps all [] e = e
kept_finds test keeps all (path ∷ paths) e =
    by_test (test path) refl (keeps path) refl (λ rest. kept_finds test keeps all paths rest)
  where
    by_test : (t : Bool) → test path ≡ t → (k : Bool) → keeps path ≡ k
        → (list_any test paths ≡ true → list_any test (filter keeps paths) ≡ true)
        → list_any test (cond (keeps path) (path ∷ filter keeps paths) (filter keeps paths)) ≡ true
    by_test true t true k more =
        ap (λ b. list_any test (cond b (path ∷ filter keeps paths) (filter keeps paths))) k ∙ or_left _ _ t
    by_test true t false k more = absurd (false≢true (sym k ∙ all path t))
    by_test false t true k more = ap (λ b. list_any test (cond b (path ∷ filter keeps paths) (filter keeps paths))) k
        ∙ or_right (test path) _ (more (ap (λ b. b || list_any test paths) (sym t) ∙ e))
    by_test false t false k more = ap (λ b. list_any test (cond b (path ∷ filter keeps paths) (filter keeps paths))) k
        ∙ more (ap (λ b. b || list_any test paths) (sym t) ∙ e)

all_filter : (Holds : List ℕ → Type 0) (test : List ℕ → Bool) (paths : List (List ℕ)) → All Holds paths
    → All Holds (filter test paths)
all_filter Holds test [] all = all
all_filter Holds test (path ∷ paths) all =
    by_test (test path) (all_filter Holds test paths (All-tail Holds path paths all))
  where
    by_test : (b : Bool) → All Holds (filter test paths)
        → All Holds (cond b (path ∷ filter test paths) (filter test paths))
    by_test true rest = All-cons Holds path (filter test paths) (All-head Holds path paths all) rest
    by_test false rest = rest

module _ (files : Files) (prunes : List ℕ → Bool) where
  -- a file below a pruned folder is below one of the list
  below_one : (i : ℕ) (d : List ℕ) → i < length (keys files) → is_pruned prunes (get_or (keys files) i d) ≡ true
      → is_pruned (is_among (pruned_in files prunes)) (get_or (keys files) i d) ≡ true
  below_one i d lt e =
      let path = get_or (keys files) i d in
      let found = above_some prunes path e in
      let folder = found.0 in
      let same : (other : List ℕ) → bytes_eq folder other ≡ true → prunes other ≡ true =
      λ other is. ap prunes (sym ((bytes_eq-Decides folder other).0 is)) ∙ found.2 in
      above_from (is_among (pruned_in files prunes)) path folder found.1
      (kept_finds (bytes_eq folder) prunes same (folders_of (keys files)) (above_one (bytes_eq folder)
      (keys files) i d lt (above_from (bytes_eq folder) path folder found.1 ((bytes_eq-Decides folder folder).1 refl))))

  pub same_listed : (folders : List (List ℕ))
      → listed_paths files folders (is_among (pruned_in files prunes)) ≡ listed_paths files folders prunes
  same_listed folders =
      listed_by_need files folders prunes (pruned_in files prunes)
      (listed_paths files folders (is_among (pruned_in files prunes))) (filter_passes prunes (folders_of (keys files)))
      (λ j d lt. all_filter Free test (keys files) frees j d lt
      (not-true _ (and_parts _ _ (filter_passes test (keys files) j d lt)).1)) refl
    where
      test : List ℕ → Bool
      test = is_wanted folders (is_among (pruned_in files prunes))

      Free : List ℕ → Type 0
      Free path = is_pruned (is_among (pruned_in files prunes)) path ≡ false → is_pruned prunes path ≡ false

      frees : All Free (keys files)
      frees i d lt free = false_from_ne_true (is_pruned prunes (get_or (keys files) i d))
          (λ e. false≢true (sym free ∙ below_one i d lt e))

-- ---- a listing that is noted with this list

module _ (start : Files) (calls : List Call) (folders : List (List ℕ)) (prunes : List ℕ → Bool) {V : Type 0}
    (items : V → List (List ℕ)) where
  pub listing_kept : (answer : Result V StoreFault) → IsHonest start calls
      → MatchResult answer
      (λ paths. items paths ≡ listed_paths (files_of start calls) folders prunes → IsHonest start (ListCall folders
      (pruned_in (files_of start calls) prunes) (result_map_both items (λ fault. fault) answer) ∷ calls))
      (λ fault. fault ≢ Clash → IsHonest start (ListCall folders (pruned_in (files_of start calls) prunes)
      (result_map_both items (λ fault. fault) answer) ∷ calls))
  listing_kept (Ok paths) honest = λ e. (e ∙ sym (same_listed (files_of start calls) prunes folders), honest)
  listing_kept (Err fault) honest = λ other. (other, honest)

  pub listing_paths : (answer : Result V StoreFault) → IsHonest start (ListCall folders
      (pruned_in (files_of start calls) prunes) (result_map_both items (λ fault. fault) answer) ∷ calls)
      → IfOk answer (λ paths. items paths ≡ listed_paths (files_of start calls) folders prunes)
  listing_paths (Ok paths) honest = honest.0 ∙ same_listed (files_of start calls) prunes folders
  listing_paths (Err fault) honest = tt
