-- For private clauses: a JSON value without the lists and objects that are too long for a text of the journal.
use Rattle.std.specs.Prelude.{◌≡◌, ℕ, nat_le, false, List, length, Some, if◌then◌else◌}
use Rattle.json.specs.Token.{Token}
use Rattle.json.specs.Json.{value, items, members}
use Rattle.serde_json.specs.Data.{Data, null, boolean, number, string, array, object, Items, no_items, item, Members}
use Rattle.serde_json.specs.Data.{no_members, member}
use Rattle.serde_json.specs.Events.{items_len, members_len}
use Rattle.serde_json.specs.Read.{of_json, of_items, of_members, converted}
use Rattle.serde_json.specs.View.{view}
use Rattle.serde_json.specs.declared.value.Value.{Value}
use Rattle.reuse_change.specs.declared.layout.TheConstants.{MOST_LISTED}
use Rattle.reuse_json.specs.declared.length_limit.LengthLimit.{LengthLimit}
use Rattle.reuse_json.specs.declared.length_limit.LengthLimit.TheVariants.{Head, Numbers, Entry, Change, Leaf}

-- how many items or members are kept at a place
abbrev pub most : LengthLimit → ℕ
most Head = 5
most Numbers = MOST_LISTED
most Entry = 4
most Change = 8
most Leaf = 0

-- the place of each item or member
abbrev pub inner : LengthLimit → LengthLimit
inner Head = Numbers
inner Numbers = Leaf
inner Entry = Leaf
inner Change = Leaf
inner Leaf = Leaf

-- a list or an object, or, where it is too long, `false`, which no text of the journal has
abbrev pub if_few : LengthLimit → ℕ → Data → Data
if_few room len d = if nat_le len (most room) then d else boolean false

-- the value, in which `false` stands for each list and each object that is too long for its place
abbrev mutual
  pub trim : LengthLimit → Data → Data
  trim room null = null
  trim room (boolean b) = boolean b
  trim room (number n) = number n
  trim room (string s) = string s
  trim room (array ds) = if_few room (items_len ds) (array (trim_items (inner room) ds))
  trim room (object ms) = if_few room (members_len ms) (object (trim_members (inner room) ms))

  pub trim_items : LengthLimit → Items → Items
  trim_items room no_items = no_items
  trim_items room (item d ds) = item (trim room d) (trim_items room ds)

  pub trim_members : LengthLimit → Members → Members
  trim_members room no_members = no_members
  trim_members room (member k d ms) = member k (trim room d) (trim_members room ms)

-- one more, unless there are too many
abbrev pub one_more : {A : Type 0} → LengthLimit → List A → List A → List A
one_more room more found = if nat_le (length found) (most room) then more else found

-- of the tokens `old`, a value comes first, which is this one when it is trimmed, and then `new`
abbrev pub ReadsValue : ℕ → LengthLimit → List Token → List Token → Value → Type 0
ReadsValue depth room old new v =
    (d : Data) × (converted of_json (value depth old) ≡ Some (d, new)) × (view v ≡ trim room d)

-- the items of a list come first
abbrev pub ReadsItems : ℕ → LengthLimit → List Token → List Token → Value → Type 0
ReadsItems depth room old new v = (ds : Items)
    × (converted of_items (items (value depth) (length old) old) ≡ Some (ds, new)) × (view v ≡ trim room (array ds))

-- the members of an object come first
abbrev pub ReadsMembers : ℕ → LengthLimit → List Token → List Token → Value → Type 0
ReadsMembers depth room old new v =
    (ms : Members)
    × (converted (λ js. of_members js no_members) (members (value depth) (length old) old) ≡ Some (ms, new))
    × (view v ≡ trim room (object ms))
