-- What was read of a path says what the path has.
use Rattle.std.proofs.Common.{◌≡◌, ◌∙◌, ℕ, ◌<◌, ◌≤◌, Bool, true, false, cond, nat_le, List, length, Option, Some, None}
use Rattle.std.proofs.Common.{IsSome, refl, sym, ap, subst, arith}
use Rattle.std.proofs.lemmas.Bool.Decides.{nat_tests}
use Rattle.std.proofs.lemmas.Grind.{common_steps}
use Rattle.reuse_store.specs.declared.store.Reading.TheVariants.{Absent, Found, TooLong}
use Rattle.std.specs.FinMap.{get}
use Rattle.reuse_change.specs.Files.{Files}
use Rattle.reuse_store.specs.Store.{reading_of}
use Rattle.reuse_change.specs.declared.change.Change.{Change}
use Rattle.reuse_change.specs.declared.direction.Direction.{Direction}
use Rattle.reuse_change.specs.Entry.{IsReady, IsSmall}
use Rattle.reuse_text.specs.declared.TheConstants.{LONGEST_FILE}

-- a fact of two things, at what they are
pub given_as : {A B : Type 0} (Holds : A → B → Type 0) {x given : A} {y file : B} → x ≡ given → y ≡ file
    → Holds given file → Holds x y
given_as Holds {x} {given} {y} {file} is same h = subst (Holds x) (sym same) (subst (λ a. Holds a file) (sym is) h)

pub absent_is : (file : Option (List ℕ)) (limit : ℕ) → Absent ≡ reading_of file limit → file ≡ None
absent_is None limit e = refl
absent_is (Some bytes) limit e = absurd (by_test (nat_le (length bytes) limit) e)
  where
    by_test : (b : Bool) → Absent ≡ cond b (Found bytes) TooLong → ⊥
    by_test true e = absurd (cc)
    by_test false e = absurd (cc)

pub long_is : (file : Option (List ℕ)) (limit : ℕ) → TooLong ≡ reading_of file limit
    → (bytes : List ℕ) × (file ≡ Some bytes) × (limit < length bytes)
long_is None limit e = absurd (cc)
long_is (Some bytes) limit e = (bytes, refl, by_test (nat_le (length bytes) limit) refl e)
  where
    by_test : (b : Bool) → nat_le (length bytes) limit ≡ b → TooLong ≡ cond b (Found bytes) TooLong
        → limit < length bytes
    by_test true t e = absurd (cc)
    by_test false t e = past (length bytes) t
      where
        past : (n : ℕ) → nat_le n limit ≡ false → limit < n
        past n t = grind (arith, nat_tests)

pub found_is : (file : Option (List ℕ)) (limit : ℕ) (bytes : List ℕ) → Found bytes ≡ reading_of file limit
    → (file ≡ Some bytes) × (length bytes ≤ limit)
found_is None limit bytes e = absurd (cc)
found_is (Some other) limit bytes e = by_test (nat_le (length other) limit) refl e
  where
    by_test : (b : Bool) → nat_le (length other) limit ≡ b → Found bytes ≡ cond b (Found other) TooLong
        → (Some other ≡ Some bytes) × (length bytes ≤ limit)
    by_test true t e = let same : other ≡ bytes = cc in
        (ap (λ x. Some x) same, subst (λ x. length x ≤ limit) same (small (length other) t))
      where
        small : (n : ℕ) → nat_le n limit ≡ true → n ≤ limit
        small n t = grind (arith, nat_tests)
    by_test false t e = absurd (cc)

-- where what is read isn't absent, a file is there
pub there_is : (file : Option (List ℕ)) (limit : ℕ) → (reading_of file limit ≡ Absent → ⊥) → IsSome file
there_is None limit h = absurd (h refl)
there_is (Some bytes) limit h = refl

-- what holds of the files behind a reading that reported what a path has holds of those before it
pub read_first : {files read : Files} {file : Option (List ℕ)} (path : List ℕ) (Holds : Files → Type 0) → read ≡ files
    → get files path ≡ file → (get read path ≡ file → Holds read) → Holds files
read_first path Holds same held at = subst Holds same (at (ap (λ files. get files path) same ∙ held))

-- a file that a change can be gone through from isn't too long
pub too_long : (direction : Direction) (change : Change) (bytes : List ℕ) → IsSmall change → LONGEST_FILE < length bytes
    → IsReady direction change (Some bytes) → ⊥
too_long direction change bytes small long ready = grind (arith, common_steps)
