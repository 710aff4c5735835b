-- A set that gets one more key still has those that it had, and what lies above the paths of changes.
use Rattle.std.proofs.Common.{◌≡◌, ◌⊎◌, ◌∙◌, ◌<◌, ◌+◌, inl, inr, Bool, true, false, List, [], ◌∷◌, refl, ℕ}
use Rattle.std.proofs.Common.{ap, subst, length, get_or}
use Rattle.std.proofs.Common.{Ordering, Less, Equal, Greater}
use Rattle.std.specs.Prelude.{◌||◌}
use Rattle.std.specs.List.{list_any}
use Rattle.std.specs.Ordering.{match_ordering}
use Rattle.std.specs.BTreeSet.{insert_key}
use Rattle.reuse_change.specs.Change.{path_of}
use Rattle.reuse_change.specs.declared.change.Change.{Change}
use Rattle.reuse_disk.specs.Synced.{AreAbove, IsAbove}
use Rattle.reuse_disk.proofs.AtLemmas.{front_or_last, same_at}

or_behind : (front back : Bool) → back ≡ true → (front || back) ≡ true
or_behind true back is = refl
or_behind false back is = is

or_either : (front old new : Bool) → (old ≡ true → new ≡ true) → (front || old) ≡ true → (front || new) ≡ true
or_either true old new then is = is
or_either false old new then is = then is

pub any_still : {K : Type 0} (compare : K → K → Ordering) (fits : K → Bool) (keys : List K) (key : K)
    → list_any fits keys ≡ true → list_any fits (insert_key compare keys key) ≡ true
any_still compare fits [] key any = absurd (cc)
any_still compare fits (one ∷ keys) key any = by (any_still compare fits keys key) (compare key one)
  where
    by : (list_any fits keys ≡ true → list_any fits (insert_key compare keys key) ≡ true) → (order : Ordering)
        → list_any fits (match_ordering order (key ∷ one ∷ keys) (one ∷ keys) (one ∷ insert_key compare keys key)) ≡ true
    by still Less = or_behind (fits key) (fits one || list_any fits keys) any
    by still Equal = any
    by still Greater = or_either (fits one) (list_any fits keys) (list_any fits (insert_key compare keys key)) still any

-- ---- what lies above changes

pub above_weaker : (P Q : List ℕ → Type 0) → ((path : List ℕ) → P path → Q path) → (path : List ℕ) → IsAbove P path
    → IsAbove Q path
above_weaker P Q from path is =
    record { above = is.above; name = is.name; is_split = is.is_split; is_one = from is.above is.is_one }

-- so it is of the change at this place, too
pub above_one_more : (P Q : List ℕ → Type 0) → ((path : List ℕ) → P path → Q path) → (changes : List Change) (n : ℕ)
    (change : Change) → n < length changes → change ≡ get_or changes n change → AreAbove P changes n
    → IsAbove Q (path_of change) → AreAbove Q changes (n + 1)
above_one_more P Q from changes n change short is all here k other less at = by (front_or_last k n less)
  where
    by : (k < n) ⊎ (k ≡ n) → IsAbove Q (path_of other)
    by (inl below) = above_weaker P Q from (path_of other) (all k other below at)
    by (inr last) =
        subst (λ (c : Change). IsAbove Q (path_of c))
        (same_at changes n change other short is (at ∙ ap (λ m. get_or changes m other) last)) here
