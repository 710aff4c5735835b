-- What a listing of some folders gives: the folders above a path, and which paths are asked for and not pruned.
use Rattle.std.proofs.Common.{◌≡◌, ◌⊎◌, inl, inr, ◌==◌, ◌<◌, ℕ, zero, suc, ◌+◌, Bool, true, false, not, ◌&&◌, ◌||◌}
use Rattle.std.proofs.Common.{cond, List, [], ◌∷◌, ◌++◌, length, take, get_or, map, filter, refl, sym, ap, ap₂, subst}
use Rattle.std.proofs.Common.{◌∙◌, arith}
use Rattle.std.specs.List.{All, list_any}
use Rattle.std.specs.FinMap.{keys}
use Rattle.std.specs.Str.{bytes_eq}
use Rattle.std.proofs.lemmas.Bool.{false≢true, false_from_ne_true, and_parts, and_from, or_parts, or_right, eqb-true}
use Rattle.std.proofs.lemmas.List.Folds.{list_any-append, Any-from_list_any}
use Rattle.std.proofs.lemmas.List.Elements.{All-head, All-tail, filter_passes}
use Rattle.std.proofs.lemmas.Slice.Eq.{bytes_eq-Decides}
use Rattle.std.proofs.Math.Seq.{take-append_seam}
use Rattle.reuse_change.specs.Path.{lies_under, folders_above}
use Rattle.reuse_change.specs.Files.{Files}
use Rattle.reuse_change.specs.Listing.{is_among, is_folder_of, is_asked, is_pruned, is_wanted, listed_paths}
use Rattle.reuse_change.proofs.ListingLemmas.{under_from_test, test_from_under, get_or_after}

-- ---- the folders above a path

or_none : (b : Bool) → (b || false) ≡ b
or_none true = refl
or_none false = refl

or_cases : (a b : Bool) → (a || b) ≡ true → (a ≡ true) ⊎ (b ≡ true)
or_cases true b e = inl refl
or_cases false b e = inr e

any_mapped : (test : List ℕ → Bool) (byte : ℕ) (paths : List (List ℕ))
    → list_any test (map (λ folder. byte ∷ folder) paths) ≡ list_any (λ folder. test (byte ∷ folder)) paths
any_mapped test byte [] = refl
any_mapped test byte (path ∷ paths) = ap (λ b. test (byte ∷ path) || b) (any_mapped test byte paths)

above_first : (test : List ℕ → Bool) (b : Bool) → list_any test (cond b ([] ∷ []) []) ≡ (b && test [])
above_first test true = or_none (test [])
above_first test false = refl

above_step : (test : List ℕ → Bool) (byte : ℕ) (path : List ℕ) → list_any test (folders_above (byte ∷ path))
    ≡ (((byte == 47) && test []) || list_any (λ folder. test (byte ∷ folder)) (folders_above path))
above_step test byte path =
    list_any-append test (cond (byte == 47) ([] ∷ []) []) (map (λ folder. byte ∷ folder) (folders_above path))
    ∙ ap₂ (λ a b. a || b) (above_first test (byte == 47)) (any_mapped test byte (folders_above path))

-- what a walk along the slashes of a path finds
pub slash_found : (test : List ℕ → Bool) (path : List ℕ) (k : ℕ) → k < length path → get_or path k 0 ≡ 47
    → test (take k path) ≡ true → list_any test (folders_above path) ≡ true
slash_found test [] k low slash is = absurd (omega arith)
slash_found test (byte ∷ path) zero low slash is =
    above_step test byte path ∙ ap (λ b. b || list_any (λ folder. test (byte ∷ folder)) (folders_above path))
    (and_from (byte == 47) (test []) (ap (λ n. n == 47) slash) is)
slash_found test (byte ∷ path) (suc k) low slash is =
    above_step test byte path ∙ ap (λ b. ((byte == 47) && test []) || b)
    (slash_found (λ folder. test (byte ∷ folder)) path k (omega arith) slash is)
    ∙ or_right ((byte == 47) && test []) true refl

pub no_slash_found : (test : List ℕ → Bool) (path : List ℕ)
    → ((k : ℕ) → k < length path → get_or path k 0 ≡ 47 → test (take k path) ≡ false)
    → list_any test (folders_above path) ≡ false
no_slash_found test [] none = refl
no_slash_found test (byte ∷ path) none =
    above_step test byte path
    ∙ ap₂ (λ a b. a || b) (at_first (byte == 47) refl)
    (no_slash_found (λ folder. test (byte ∷ folder)) path (λ k low slash. none (suc k) (omega arith) slash))
  where
    at_first : (b : Bool) → (byte == 47) ≡ b → (b && test []) ≡ false
    at_first true is = none zero (omega arith) (eqb-true byte 47 is)
    at_first false is = refl

-- a path lies under each folder above it
pub above_from : (test : List ℕ → Bool) (path folder : List ℕ) → lies_under path folder ≡ true → test folder ≡ true
    → list_any test (folders_above path) ≡ true
above_from test path folder e is =
    let under = under_from_test path folder e in
    subst (λ p. list_any test (folders_above p) ≡ true) (sym under.1)
    (slash_found test (folder ++ 47 ∷ under.0) (length folder) (within folder under.0) (get_or_after folder 47 under.0)
    (ap test (take-append_seam folder (47 ∷ under.0)) ∙ is))
  where
    within : (folder rest : List ℕ) → length folder < length (folder ++ 47 ∷ rest)
    within [] rest = omega arith
    within (x ∷ folder) rest = let h = within folder rest in omega arith

pub above_some : (test : List ℕ → Bool) (path : List ℕ) → list_any test (folders_above path) ≡ true
    → (folder : List ℕ) × (lies_under path folder ≡ true) × (test folder ≡ true)
above_some test [] e = absurd (false≢true e)
above_some test (byte ∷ path) e = elim (or_cases ((byte == 47) && test [])
    (list_any (λ folder. test (byte ∷ folder)) (folders_above path)) (sym (above_step test byte path) ∙ e)) [
      | inl here ↦
          (let parts = and_parts (byte == 47) (test []) here in
          ([], test_from_under (byte ∷ path) [] (path, ap (λ (n : ℕ). n ∷ path) (eqb-true byte 47 parts.0)), parts.1))
      | inr later ↦
          (let found = above_some (λ folder. test (byte ∷ folder)) path later in
          let under = under_from_test path found.0 found.1 in (
            byte ∷ found.0,
            test_from_under (byte ∷ path) (byte ∷ found.0) (under.0, ap (λ l. byte ∷ l) under.1),
            found.2,
          ))
    ]

-- ---- what is listed

-- a listing of the whole tree that passes over nothing gives all paths
keeps_all : (test : List ℕ → Bool) → ((path : List ℕ) → test path ≡ true) → (paths : List (List ℕ))
    → filter test paths ≡ paths
keeps_all test all [] = refl
keeps_all test all (path ∷ paths) = ap (λ b. cond b (path ∷ filter test paths) (filter test paths)) (all path)
    ∙ ap (λ l. path ∷ l) (keeps_all test all paths)

pub none_pruned : (path : List ℕ) → is_pruned (λ folder. false) path ≡ false
none_pruned path = no_slash_found (λ folder. false) path (λ k low slash. refl)

pub all_listed : (files : Files) → listed_paths files [] (λ folder. false) ≡ keys files
all_listed files = keeps_all (is_wanted [] (λ folder. false)) (λ path. ap not (none_pruned path)) (keys files)

-- a test that only paths pass which are kept finds the same among all
any_kept : (test keeps : List ℕ → Bool) → ((path : List ℕ) → test path ≡ true → keeps path ≡ true)
    → (paths : List (List ℕ)) → list_any test (filter keeps paths) ≡ list_any test paths
any_kept test keeps all [] = refl
any_kept test keeps all (path ∷ paths) = of_test (keeps path) refl (any_kept test keeps all paths)
  where
    of_test : (b : Bool) → keeps path ≡ b → list_any test (filter keeps paths) ≡ list_any test paths
        → list_any test (cond b (path ∷ filter keeps paths) (filter keeps paths)) ≡ (test path || list_any test paths)
    of_test true e rest = ap (λ b. test path || b) rest
    of_test false e rest = rest ∙ ap (λ b. b || list_any test paths)
        (sym (false_from_ne_true (test path) (λ is. false≢true (sym e ∙ all path is))))

-- what lies under a path is found in a listing of it
pub folder_listed : (files : Files) (path : List ℕ) → list_any (λ other. lies_under other path)
    (listed_paths files (path ∷ []) (λ folder. false)) ≡ is_folder_of (keys files) path
folder_listed files path =
    any_kept (λ other. lies_under other path) (is_wanted (path ∷ []) (λ folder. false))
    (λ other under. and_from _ _ (ap (λ b. b || false) (ap (λ b. bytes_eq other path || b) under
    ∙ or_right (bytes_eq other path) true refl)) (ap not (none_pruned other))) (keys files)

module _ (keeps stricter : List ℕ → Bool) (weaker : (path : List ℕ) → stricter path ≡ true → keeps path ≡ true) where
  -- two tests keep the same where each path that the weaker one keeps passes the other too
  pub same_kept : (paths : List (List ℕ)) → All (λ path. stricter path ≡ true) (filter keeps paths)
      → filter keeps paths ≡ filter stricter paths
  same_kept [] all = refl
  same_kept (path ∷ paths) all = of_test (keeps path) refl all (same_kept paths)
    where
      of_test : (b : Bool) → keeps path ≡ b
          → All (λ path. stricter path ≡ true) (cond b (path ∷ filter keeps paths) (filter keeps paths))
          → (All (λ path. stricter path ≡ true) (filter keeps paths) → filter keeps paths ≡ filter stricter paths)
          → cond b (path ∷ filter keeps paths) (filter keeps paths) ≡ cond (stricter path)
          (path ∷ filter stricter paths) (filter stricter paths)
      of_test true e each rest =
          ap (λ l. path ∷ l) (rest (All-tail (λ path. stricter path ≡ true) path (filter keeps paths) each))
          ∙ ap (λ b. cond b (path ∷ filter stricter paths) (filter stricter paths))
          (sym (All-head (λ path. stricter path ≡ true) path (filter keeps paths) each))
      of_test false e each rest =
          rest each ∙ ap (λ b. cond b (path ∷ filter stricter paths) (filter stricter paths))
          (sym (false_from_ne_true (stricter path) (λ is. false≢true (sym e ∙ weaker path is))))

-- the honest answer of a store that says which folders it has passed over is what was asked of it, where each of these
-- folders is pruned and
-- no path of the answer lies under a folder that is
pub listed_by_need : (files : Files) (folders : List (List ℕ)) (prunes : List ℕ → Bool) (pruned answer : List (List ℕ))
    → All (λ folder. prunes folder ≡ true) pruned → All (λ path. is_pruned prunes path ≡ false) answer
    → answer ≡ listed_paths files folders (is_among pruned) → answer ≡ listed_paths files folders prunes
listed_by_need files folders prunes pruned answer each none is =
    is ∙ same_kept (is_wanted folders (is_among pruned)) (is_wanted folders prunes) weaker (keys files)
    (wanted_of (keys files) (subst (All (λ path. is_pruned prunes path ≡ false)) is none))
  where
    not_true : (b : Bool) → not b ≡ true → b ≡ false
    not_true true e = absurd (false≢true e)
    not_true false e = refl

    one_of : (folder : List ℕ) → is_among pruned folder ≡ true → prunes folder ≡ true
    one_of folder among =
        let found = Any-from_list_any (λ other. bytes_eq folder other) pruned among in
        ap prunes ((bytes_eq-Decides folder found.1).0 found.4)
        ∙ subst (λ other. prunes other ≡ true) found.3 (each found.0 found.1 found.2)

    weaker : (path : List ℕ) → is_wanted folders prunes path ≡ true → is_wanted folders (is_among pruned) path ≡ true
    weaker path wanted =
        let parts = and_parts (is_asked folders path) (not (is_pruned prunes path)) wanted in
        and_from _ _ parts.0 (ap not (false_from_ne_true (is_pruned (is_among pruned) path) (λ under.
        let found = above_some (is_among pruned) path under in
        false≢true (sym (not_true (is_pruned prunes path) parts.1)
        ∙ above_from prunes path found.0 found.1 (one_of found.0 found.2)))))

    wanted_of : (paths : List (List ℕ))
        → All (λ path. is_pruned prunes path ≡ false) (filter (is_wanted folders (is_among pruned)) paths)
        → All (λ path. is_wanted folders prunes path ≡ true) (filter (is_wanted folders (is_among pruned)) paths)
    wanted_of paths free k d lt =
        and_from _ _ (and_parts _ _ (filter_passes (is_wanted folders (is_among pruned)) paths k d lt)).0
        (ap not (free k d lt))
