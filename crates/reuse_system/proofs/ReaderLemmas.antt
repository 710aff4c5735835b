-- What was read of a reader, of all that it had.
use Rattle.std.proofs.Common.{◌≡◌, inl, inr, ◌∙◌, ◌<◌, ◌≤◌, ℕ, min, nat_le, List, length, take, cond, Option, Some}
use Rattle.std.proofs.Common.{None, IfSome, refl, sym, ap, arith}
use Rattle.std.proofs.lemmas.Bool.{le-leb, lt-leb}
use Rattle.std.proofs.lemmas.List.{length-take, take_all, take-take}
use Rattle.std.specs.Option.{option_map}
use Rattle.reuse_store.specs.Store.{reading_of}
use Rattle.reuse_store.specs.declared.store.Reading.TheVariants.{Found, TooLong}
use Rattle.reuse_system.specs.Readings.{IsReadingOf, IsWholeOf}

is_too_long : (bytes : List ℕ) (limit : ℕ) → limit < length bytes → TooLong ≡ reading_of (Some bytes) limit
is_too_long bytes limit h = sym (ap (λ b. cond b (Found bytes) TooLong) (lt-leb (length bytes) limit h))

-- what was read of a front part, and is longer than the limit
too_long : (said limit most : ℕ) (had bytes : List ℕ) → limit < length bytes → IsWholeOf said (take most had) bytes
    → IsReadingOf said limit had TooLong
too_long said limit most had bytes long (inl is) =
    let count : length bytes ≡ min most (length had) = ap length is ∙ length-take most had in
    (had, inl refl, is_too_long had limit (omega (arith, count, long)))
too_long said limit most had bytes long (inr (less, is)) =
    let count = length-take most had in (
      bytes,
      inr (omega (arith, less, count), is ∙ take-take said most had (omega (arith, less, count))),
      is_too_long bytes limit long,
    )

-- the same of what a reader had, where that is known
pub reader_too_long : (said limit most : ℕ) (had : Option (List ℕ)) (bytes : List ℕ) → limit < length bytes
    → IfSome (option_map (take most) had) (λ front. IsWholeOf said front bytes)
    → IfSome had (λ all. IsReadingOf said limit all TooLong)
reader_too_long said limit most None bytes long whole = tt
reader_too_long said limit most (Some had) bytes long whole = too_long said limit most had bytes long whole

-- ---- what is made of a front part, where that is all

-- it ends behind the longest that is taken
pub front_too_long : {X : Type 0} (made : List ℕ → X) (longest most : ℕ) (had : Option (List ℕ)) (bytes : List ℕ)
    → longest < length bytes → IfSome had (λ list. bytes ≡ take most list)
    → IfSome had (λ list. None ≡ cond (nat_le (length list) longest) (Some (made list)) None)
front_too_long made longest most None bytes long front = tt
front_too_long made longest most (Some list) bytes long front =
    let count : length bytes ≡ min most (length list) = ap length front ∙ length-take most list in
    sym (ap (λ b. cond b (Some (made list)) None) (lt-leb (length list) longest (omega (arith, count, long))))

-- it is all
pub front_whole : {X : Type 0} (made : List ℕ → X) (longest most : ℕ) (had : Option (List ℕ)) (bytes : List ℕ)
    (value : X) → longest < most → length bytes ≤ longest → IfSome had (λ list. bytes ≡ take most list)
    → value ≡ made bytes → IfSome had (λ list. Some value ≡ cond (nat_le (length list) longest) (Some (made list)) None)
front_whole made longest most None bytes value more short front is = tt
front_whole made longest most (Some list) bytes value more short front is =
    let count : length bytes ≡ min most (length list) = ap length front ∙ length-take most list in
    let all : bytes ≡ list = front ∙ take_all most list (omega (arith, count, more, short)) in
    ap Some (is ∙ ap made all)
    ∙ sym (ap (λ b. cond b (Some (made list)) None) (le-leb (length list) longest (omega (arith, count, more, short))))
