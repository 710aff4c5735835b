-- For private clauses: a JSON value as it is taken apart, member by member.
use Rattle.std.specs.Prelude.{ℕ, ◌^◌, ◌==◌, nat_lt, Bool, true, false, List, [], ◌∷◌, ◌++◌, Option, Some, None}
use Rattle.std.specs.Prelude.{option_map, option_and_then, if◌then◌else◌}
use Rattle.std.specs.Str.{bytes_eq}
use Rattle.serde_json.specs.Data.{Data, Items, no_items, item, Members, no_members, member}
use Rattle.serde_json.specs.Find.{as_array, as_number, as_u64}

infixl 10 ◌>>=◌
abbrev pub ◌>>=◌ : {A B : Type 0} → Option A → (A → Option B) → Option B
o >>= f = option_and_then f o

-- the first member's value, where it has the key, and the members after it
abbrev pub first_member : List ℕ → Members → Option (Data × Members)
first_member key no_members = None
first_member key (member k d ms) = if bytes_eq k key then Some (d, ms) else None

-- the same, with the value read by f
abbrev pub field_in : {A : Type 0} → (Data → Option A) → List ℕ → Members → Option (A × Members)
field_in f key fields = do
  first ← first_member key fields
  value ← f first.0
  Some (value, first.1)

-- no member is left
abbrev pub if_none_left : Members → Option Unit
if_none_left no_members = Some tt
if_none_left (member k d ms) = None

abbrev pub number_in : Data → Option ℕ
number_in d = option_and_then as_u64 (as_number d)

-- a number of 32 bits
abbrev pub small_in : Data → Option ℕ
small_in d = do
  n ← number_in d
  if nat_lt n (2 ^ 32) then Some n else None

-- each item, read by f
unfoldable pub read_items : {A : Type 0} → (Data → Option A) → Items → Option (List A)
read_items f no_items = Some []
read_items f (item d ds) = do
  x ← f d
  xs ← read_items f ds
  Some (x ∷ xs)

unfoldable pub smalls_in : Data → Option (List ℕ)
smalls_in d = do
  ds ← as_array d
  read_items small_in ds

-- whether the format is the second
abbrev pub format_of_number : ℕ → Option Bool
format_of_number n = if n == 1 then Some false else if n == 2 then Some true else None

abbrev pub format_in : Data → Option Bool
format_in d = do
  n ← number_in d
  format_of_number n

-- what is read of the rest, after what is read of the front
abbrev pub with_front : {A : Type 0} → List A → Option (List A) → Option (List A)
with_front front rest = option_map (λ back. front ++ back) rest
