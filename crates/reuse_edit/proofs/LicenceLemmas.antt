-- The paths of licences' files: good ones of the tree, and none a folder of another.
use Rattle.std.proofs.Common.{◌≡◌, ⊎_elim, ℕ, zero, suc, ◌+◌, ◌<◌, ◌≤◌, Bool, true, false, not, ◌&&◌, ◌||◌, ◌==◌}
use Rattle.std.proofs.Common.{nat_eq, nat_lt, nat_le, List, [], ◌∷◌, ◌++◌, codes, length, length-append, take, drop}
use Rattle.std.proofs.Common.{refl, sym, ap, ◌∙◌, subst, arith}
use Rattle.std.specs.Char.{is_ascii_alphanumeric}
use Rattle.std.specs.Int.{is_in_range}
use Rattle.std.specs.List.{list_all, slice_split, All}
use Rattle.std.specs.Str.{bytes_eq, IsAscii, IsUtf8}
use Rattle.std.proofs.lemmas.Bool.{false≢true, and_parts, and_from, or_cases, not-true, le-leb, lt-ltb, and_right}
use Rattle.std.proofs.lemmas.Bool.Decides.{nat_tests}
use Rattle.std.proofs.lemmas.List.Elements.{All-nil, All-cons}
use Rattle.std.proofs.lemmas.List.Folds.{list_all-append}
use Rattle.std.proofs.lemmas.List.Splits.{slice_split_none}
use Rattle.std.proofs.lemmas.Slice.Eq.{bytes_eq-Decides}
use Rattle.std.proofs.lemmas.Str.{IsUtf8-from_ascii}
use Rattle.std.proofs.Math.Seq.{take-append_seam}
use Rattle.reuse_change.specs.Path.{is_part, is_path, has_no_nul, has_good_parts, lies_under}
use Rattle.reuse_change.specs.Tree.{is_of_tree}
use Rattle.reuse_edit.specs.Licence.{is_id_byte, is_id, licence_path, licence_id}
use Rattle.reuse_change.proofs.ListingLemmas.{under_from_test}

-- ---- the bytes of an id

abbrev IsPlainByte : ℕ → Type 0
IsPlainByte b = (45 ≤ b) × (b ≤ 122) × (nat_eq b 47 ≡ false)

from_range : (low high b : ℕ) → 48 ≤ low → high ≤ 122 → is_in_range low high b ≡ true → IsPlainByte b
from_range low high b above below h =
    let parts = and_parts (nat_le low b) (nat_le b high) h in
    let from : low ≤ b = grind (arith, nat_tests) in
    let to : b ≤ high = grind (arith, nat_tests) in
    (omega arith, omega arith, grind (arith, nat_tests))

is_number : (b n : ℕ) → nat_eq b n ≡ true → b ≡ n
is_number b n e = grind (arith, nat_tests)

from_number : (b n : ℕ) → IsPlainByte n → nat_eq b n ≡ true → IsPlainByte b
from_number b n plain e = subst IsPlainByte (sym (is_number b n e)) plain

pub id_byte : (b : ℕ) → is_id_byte b ≡ true → IsPlainByte b
id_byte b h = ⊎_elim
    (λ (e : (is_ascii_alphanumeric b || b == 46) ≡ true). ⊎_elim
    (λ (f : is_ascii_alphanumeric b ≡ true). ⊎_elim
    (λ (g : (is_in_range 48 57 b || is_in_range 65 90 b) ≡ true). ⊎_elim
    (λ (k : is_in_range 48 57 b ≡ true). from_range 48 57 b (omega arith) (omega arith) k)
    (λ (k : is_in_range 65 90 b ≡ true). from_range 65 90 b (omega arith) (omega arith) k)
    (or_cases (is_in_range 48 57 b) (is_in_range 65 90 b) g))
    (λ (g : is_in_range 97 122 b ≡ true). from_range 97 122 b (omega arith) (omega arith) g)
    (or_cases (is_in_range 48 57 b || is_in_range 65 90 b) (is_in_range 97 122 b) f))
    (λ (f : nat_eq b 46 ≡ true). from_number b 46 (omega arith, omega arith, refl) f)
    (or_cases (is_ascii_alphanumeric b) (b == 46) e))
    (λ (e : nat_eq b 45 ≡ true). from_number b 45 (omega arith, omega arith, refl) e)
    (or_cases (is_ascii_alphanumeric b || b == 46) (b == 45) h)

-- what holds of each byte of an id
pub all_bytes : (test : ℕ → Bool) → ((b : ℕ) → IsPlainByte b → test b ≡ true) → (id : List ℕ)
    → list_all is_id_byte id ≡ true → list_all test id ≡ true
all_bytes test each [] h = refl
all_bytes test each (b ∷ id) h =
    let parts = and_parts (is_id_byte b) (list_all is_id_byte id) h in
    and_from (test b) (list_all test id) (each b (id_byte b parts.0)) (all_bytes test each id parts.1)

ascii_bytes : (id : List ℕ) → list_all is_id_byte id ≡ true → IsAscii id
ascii_bytes [] h i = omega arith
ascii_bytes (b ∷ id) h zero =
    let plain = id_byte b (and_parts (is_id_byte b) (list_all is_id_byte id) h).0 in omega arith
ascii_bytes (b ∷ id) h (suc i) = ascii_bytes id (and_parts (is_id_byte b) (list_all is_id_byte id) h).1 i

pub id_bytes : (id : List ℕ) → is_id id ≡ true → list_all is_id_byte id ≡ true
id_bytes id h = (and_parts (nat_lt 0 (length id) && nat_le (length id) 200) (list_all is_id_byte id) h).1

id_length : (id : List ℕ) → is_id id ≡ true → length id ≤ 200
id_length id h =
    let e = (and_parts (nat_lt 0 (length id)) (nat_le (length id) 200)
    (and_parts (nat_lt 0 (length id) && nat_le (length id) 200) (list_all is_id_byte id) h).0).1 in
    grind (arith, nat_tests)

pub id_is_utf8 : (id : List ℕ) → is_id id ≡ true → IsUtf8 id
id_is_utf8 id h = IsUtf8-from_ascii id (ascii_bytes id (id_bytes id h))

-- bytes that are no text are no id
pub no_id : (bytes : List ℕ) → ¬ (IsUtf8 bytes) → is_id bytes ≡ false
no_id bytes other = of_test (is_id bytes) refl
  where
    of_test : (b : Bool) → is_id bytes ≡ b → b ≡ false
    of_test true e = absurd (other (id_is_utf8 bytes e))
    of_test false e = refl

-- ---- the name of the file

pub name_length : (id : List ℕ) → length (id ++ codes ".txt") ≡ length id + 4
name_length id = length-append id (codes ".txt")

-- the id stands in the path
pub id_of_path : (id : List ℕ) → licence_id (licence_path id) ≡ id
id_of_path id =
    let n = name_length id in
    ap (λ k. take k (id ++ codes ".txt")) (omega (arith, n)) ∙ take-append_seam id (codes ".txt")

name_bytes : (test : ℕ → Bool) → ((b : ℕ) → IsPlainByte b → test b ≡ true) → list_all test (codes ".txt") ≡ true
    → (id : List ℕ) → list_all is_id_byte id ≡ true → list_all test (id ++ codes ".txt") ≡ true
name_bytes test each txt id h = list_all-append test id (codes ".txt")
    ∙ and_from (list_all test id) (list_all test (codes ".txt")) (all_bytes test each id h) txt

not_zero : (b : ℕ) → IsPlainByte b → not (nat_eq b 0) ≡ true
not_zero b plain = grind (arith, nat_tests)

not_slash : (b : ℕ) → IsPlainByte b → not (nat_eq b 47) ≡ true
not_slash b plain = ap not plain.2

no_slashes : (id : List ℕ) → list_all is_id_byte id ≡ true → list_all (λ b. not (b == 47)) (id ++ codes ".txt") ≡ true
no_slashes id h = name_bytes (λ b. not (b == 47)) not_slash refl id h

each_fails : (xs : List ℕ) → list_all (λ b. not (b == 47)) xs ≡ true → All (λ x. (x == 47) ≡ false) xs
each_fails [] h = All-nil (λ x. (x == 47) ≡ false)
each_fails (x ∷ xs) h =
    let parts = and_parts (not (x == 47)) (list_all (λ b. not (b == 47)) xs) h in
    All-cons (λ y. (y == 47) ≡ false) x xs (not-true (x == 47) parts.0) (each_fails xs parts.1)

other_length : (xs ys : List ℕ) → length ys < length xs → not (bytes_eq xs ys) ≡ true
other_length xs ys longer = of_test (bytes_eq xs ys) refl
  where
    of_test : (b : Bool) → bytes_eq xs ys ≡ b → not b ≡ true
    of_test false e = refl
    of_test true e = let same = ap length ((bytes_eq-Decides xs ys).0 e) in absurd (omega (arith, same))

some_bytes : (n : ℕ) → 0 < n → not (nat_eq n 0) ≡ true
some_bytes n h = grind (arith, nat_tests)

name_is_part : (id : List ℕ) → is_part (id ++ codes ".txt") ≡ true
name_is_part id =
    let n = name_length id in
    and_from _ _ (and_from _ _ (some_bytes (length (id ++ codes ".txt")) (omega (arith, n)))
    (other_length (id ++ codes ".txt") (codes ".") (omega (arith, n))))
    (other_length (id ++ codes ".txt") (codes "..") (omega (arith, n)))

-- ---- the path

path_is_short : (id : List ℕ) → is_id id ≡ true → nat_le (length (licence_path id)) 4096 ≡ true
path_is_short id h = let n = name_length id in le-leb (length (licence_path id)) 4096 (omega (arith, n, id_length id h))

path_has_bytes : (id : List ℕ) → nat_lt 0 (length (licence_path id)) ≡ true
path_has_bytes id = let n = name_length id in lt-ltb 0 (length (licence_path id)) (omega (arith, n))

path_has_no_nul : (id : List ℕ) → list_all is_id_byte id ≡ true → has_no_nul (licence_path id) ≡ true
path_has_no_nul id h = name_bytes (λ b. not (b == 0)) not_zero refl id h

path_has_good_parts : (id : List ℕ) → list_all is_id_byte id ≡ true → has_good_parts (licence_path id) ≡ true
path_has_good_parts id h =
    let parts : slice_split (λ b. b == 47) (licence_path id) ≡ codes "LICENSES" ∷ (id ++ codes ".txt") ∷ [] =
    ap (λ (ps : List (List ℕ)). codes "LICENSES" ∷ ps)
    (slice_split_none (λ b. b == 47) (id ++ codes ".txt") (each_fails (id ++ codes ".txt") (no_slashes id h))) in
    ap (list_all is_part) parts ∙ ap (λ b. b && true) (name_is_part id)

-- an id makes a good path
pub path_is_good : (id : List ℕ) → is_id id ≡ true → is_path (licence_path id) ≡ true
path_is_good id h =
    and_from _ _ (and_from _ _ (and_from _ _ (path_has_bytes id) (path_is_short id h))
    (path_has_no_nul id (id_bytes id h))) (path_has_good_parts id (id_bytes id h))

pub path_of_tree : (id : List ℕ) → is_of_tree (licence_path id) ≡ true
path_of_tree id = refl

-- no licence's file is a folder of another
pub paths_apart : (id other : List ℕ) → list_all is_id_byte id ≡ true
    → lies_under (licence_path id) (licence_path other) ≡ false
paths_apart id other h = of_test (lies_under (licence_path id) (licence_path other)) refl
  where
    slash : (xs rest : List ℕ) → list_all (λ b. not (b == 47)) (xs ++ 47 ∷ rest) ≡ false
    slash [] rest = refl
    slash (x ∷ xs) rest = ap (λ b. not (x == 47) && b) (slash xs rest) ∙ and_right (not (x == 47)) false refl

    of_test : (b : Bool) → lies_under (licence_path id) (licence_path other) ≡ b → b ≡ false
    of_test false e = refl
    of_test true e =
        let under = under_from_test (licence_path id) (licence_path other) e in
        let names : id ++ codes ".txt" ≡ (other ++ codes ".txt") ++ 47 ∷ under.0 = ap (drop 9) under.1 in
        absurd (false≢true (sym (slash (other ++ codes ".txt") under.0) ∙ ap (list_all (λ b. not (b == 47))) (sym names)
        ∙ no_slashes id h))
