-- Files as a map: what a path holds after a put or a removal, and when two are equal.
use Rattle.std.proofs.Common.{◌≡◌, ◌≢◌, ◌⊎◌, inl, inr, ℕ, Bool, true, false, cond, List, Some, None, refl, sym, ap, ◌∙◌}
use Rattle.std.specs.Ordering.{nat_cmp, eq_by_cmp}
use Rattle.std.specs.Cmp.Lexicographic.{slice_cmp, nat_list_cmp_total}
use Rattle.std.specs.Str.{bytes_eq}
use Rattle.std.specs.FinMap.{get, insert, remove, get-insert, get-remove, same_map, slice_cmp-IsAntisymmetric}
use Rattle.std.specs.FinMap.{nat_cmp-IsAntisymmetric}
use Rattle.std.proofs.lemmas.Bool.{false≢true}
use Rattle.std.proofs.lemmas.Slice.Eq.{bytes_eq-Decides}
use Rattle.std.proofs.lemmas.Map.Text.{is_eq-slice_cmp}
use Rattle.reuse_change.specs.Files.{Files}

-- paths that tie are equal, and a path ties with itself
pub tied : (p q : List ℕ) → eq_by_cmp (slice_cmp nat_cmp) p q ≡ true → p ≡ q
tied p q e = (bytes_eq-Decides p q).0 (sym (is_eq-slice_cmp p q) ∙ e)

pub ties : (p q : List ℕ) → p ≡ q → eq_by_cmp (slice_cmp nat_cmp) p q ≡ true
ties p q e = is_eq-slice_cmp p q ∙ (bytes_eq-Decides p q).1 e

pub not_tied : (p q : List ℕ) → p ≢ q → eq_by_cmp (slice_cmp nat_cmp) p q ≡ false
not_tied p q differ = of_test (eq_by_cmp (slice_cmp nat_cmp) p q) (λ e. differ (tied p q e))
  where
    of_test : (b : Bool) → (b ≡ true → ⊥) → b ≡ false
    of_test true h = absurd (h refl)
    of_test false h = refl

-- two paths are equal or not
pub same_or_other : (p q : List ℕ) → (p ≡ q) ⊎ (p ≢ q)
same_or_other p q = of_test (bytes_eq p q) refl
  where
    of_test : (b : Bool) → bytes_eq p q ≡ b → (p ≡ q) ⊎ (p ≢ q)
    of_test true e = inl ((bytes_eq-Decides p q).0 e)
    of_test false e = inr (λ same. false≢true (sym e ∙ (bytes_eq-Decides p q).1 same))

-- files that hold the same at each path are equal
pub same_files : (m n : Files) → ((q : List ℕ) → get m q ≡ get n q) → m ≡ n
same_files m n h = same_map nat_list_cmp_total (slice_cmp-IsAntisymmetric nat_cmp-IsAntisymmetric) m n h

pub get-put_same : (m : Files) (p bytes : List ℕ) → get (insert m p bytes) p ≡ Some bytes
get-put_same m p bytes =
    get-insert nat_list_cmp_total m p bytes p ∙ ap (λ b. cond b (Some bytes) (get m p)) (ties p p refl)

pub get-put_other : (m : Files) (p bytes q : List ℕ) → q ≢ p → get (insert m p bytes) q ≡ get m q
get-put_other m p bytes q other =
    get-insert nat_list_cmp_total m p bytes q ∙ ap (λ b. cond b (Some bytes) (get m q)) (not_tied q p other)

pub get-removed_same : (m : Files) (p : List ℕ) → get (remove m p) p ≡ None
get-removed_same m p = get-remove nat_list_cmp_total m p p ∙ ap (λ b. cond b None (get m p)) (ties p p refl)

pub get-removed_other : (m : Files) (p q : List ℕ) → q ≢ p → get (remove m p) q ≡ get m q
get-removed_other m p q other =
    get-remove nat_list_cmp_total m p q ∙ ap (λ b. cond b None (get m q)) (not_tied q p other)
