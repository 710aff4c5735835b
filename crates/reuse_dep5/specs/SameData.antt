-- Whether two values of TOML are the same, as far as they are made of texts, whole numbers, arrays and tables.
use Rattle.std.specs.Prelude.{ℕ, ℤ, List, Bool, true, false, ◌&&◌, Option, Some, None}
use Rattle.std.specs.Ordering.{int_eq}
use Rattle.std.specs.Str.{bytes_eq}
use Rattle.toml.specs.Data.{Data, string, integer, array, table, Items, no_items, item, Members, no_members, member}

-- the value is this text
abbrev pub is_string : List ℕ → Data → Bool
is_string text (string other) = bytes_eq text other
is_string text _ = false

-- the value is this whole number
abbrev pub is_integer : ℤ → Data → Bool
is_integer number (integer other) = int_eq number other
is_integer number _ = false

abbrev mutual
  pub same_data : Data → Data → Bool
  same_data (string text) other = is_string text other
  same_data (integer number) other = is_integer number other
  same_data (array items) (array others) = same_items items others
  same_data (table members) (table others) = same_members members others
  same_data _ _ = false

  pub same_items : Items → Items → Bool
  same_items no_items no_items = true
  same_items (item d ds) (item e es) = same_data d e && same_items ds es
  same_items _ _ = false

  pub same_members : Members → Members → Bool
  same_members no_members no_members = true
  same_members (member k d ms) (member l e ns) = (bytes_eq k l && same_data d e) && same_members ms ns
  same_members _ _ = false

-- what was read is this table
abbrev pub is_table : Option Members → Members → Bool
is_table None stated = false
is_table (Some members) stated = same_members members stated
