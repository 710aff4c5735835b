-- The changed paths are those at which two trees differ.
use Rattle.std.proofs.Common.{◌≡◌, ◌≢◌, ◌↔◌, ℕ, Bool, true, false, cond, not, List, ◌++◌, Option, Some, None, is_some}
use Rattle.std.proofs.Common.{refl, sym, ap, ◌∙◌}
use Rattle.std.specs.Ordering.{nat_cmp}
use Rattle.std.specs.Cmp.Lexicographic.{slice_cmp, nat_list_eq_equiv}
use Rattle.std.specs.List.{Contains}
use Rattle.std.specs.FinMap.{get, entries, from_entries, retain_keys, get-retain_keys, slice_cmp-IsAntisymmetric}
use Rattle.std.specs.FinMap.{nat_cmp-IsAntisymmetric}
use Rattle.std.proofs.lemmas.Bool.{false≢true}
use Rattle.std.proofs.lemmas.Map.Views.{Contains-from_any, list_any-from_Contains}
use Rattle.std.proofs.lemmas.Slice.Eq.{bytes_eq-Decides}
use Rattle.reuse_change.specs.Files.{Files}
use Rattle.reuse_change.specs.Listing.{ArePaths, is_among}
use Rattle.reuse_change.specs.Tree.{same_file, changed_paths}
use Rattle.reuse_change.proofs.Differ.{has_file}
use Rattle.reuse_store.proofs.TreeLemmas.{keys_ascend, among_keys}

-- the test reports equal files
same_file-Decides : (f g : Option (List ℕ)) → (same_file f g ≡ true) ↔ (f ≡ g)
same_file-Decides None None = (λ e. refl, λ e. refl)
same_file-Decides (Some x) (Some y) =
    (λ e. ap (λ b. Some b) ((bytes_eq-Decides x y).0 e), λ e. (bytes_eq-Decides x y).1 (cc))
same_file-Decides None (Some y) = (λ e. absurd (false≢true e), λ e. absurd (cc))
same_file-Decides (Some x) None = (λ e. absurd (false≢true e), λ e. absurd (cc))

module _ (before after : Files) where
  abbrev differs : List ℕ → Bool
  differs path = not (same_file (get before path) (get after path))

  pub among_changed : (path : List ℕ) → is_among (changed_paths before after) path ≡ differs path
  unfolding changed_paths
  among_changed path =
      let both = from_entries {R = slice_cmp nat_cmp} (entries before ++ entries after) in
      among_keys (retain_keys both differs) path
      ∙ ap is_some (get-retain_keys both differs path
      (λ x e. ap differs (sym (slice_cmp-IsAntisymmetric nat_cmp-IsAntisymmetric path x e))))
      ∙ of_test (same_file (get before path) (get after path)) refl
    where
      of_test : (b : Bool) → same_file (get before path) (get after path) ≡ b → is_some (cond (not b)
          (get (from_entries {R = slice_cmp nat_cmp} (entries before ++ entries after)) path) None) ≡ not b
      of_test true e = refl
      of_test false e = has_file before after path
          (λ same. false≢true (sym e ∙ (same_file-Decides (get before path) (get after path)).1 same))

  -- these paths, and no others
  pub changed_where_differing : (path : List ℕ)
      → Contains (changed_paths before after) path ↔ (get before path ≢ get after path)
  changed_where_differing path = (
    λ h same. both_sides (same_file (get before path) (get after path))
        (sym (among_changed path) ∙ list_any-from_Contains nat_list_eq_equiv path (changed_paths before after) h)
        ((same_file-Decides (get before path) (get after path)).1 same),
    λ other. Contains-from_any (λ x y e. (bytes_eq-Decides x y).0 e) path (changed_paths before after)
        (among_changed path ∙ of_test (same_file (get before path) (get after path)) refl other),
  )
    where
      both_sides : (b : Bool) → not b ≡ true → b ≡ true → ⊥
      both_sides true e f = false≢true e
      both_sides false e f = false≢true f

      of_test : (b : Bool) → same_file (get before path) (get after path) ≡ b
          → get before path ≢ get after path → not b ≡ true
      of_test true e other = absurd (other ((same_file-Decides (get before path) (get after path)).0 e))
      of_test false e other = refl

  -- in byte order, none twice
  pub changed_ascend : ArePaths (changed_paths before after)
  unfolding changed_paths
  changed_ascend =
      keys_ascend (retain_keys (from_entries {R = slice_cmp nat_cmp} (entries before ++ entries after)) differs)
