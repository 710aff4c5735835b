-- Values at the front of a table's members, each at its key, and the members behind them (this project's own).
use Rattle.std.specs.Prelude.{ℕ, Bool, true, false, List, Option, Some, None, if◌then◌else◌}
use Rattle.std.specs.Str.{bytes_eq}
use Rattle.toml.specs.Data.{Data, string, Members, no_members, member}

-- members behind a text, where there is one
abbrev pub with_text : List ℕ → Option (List ℕ) → Members → Members
with_text key None others = others
with_text key (Some text) others = member key (string text) others

-- the text of a key, where the first member has it, and the members behind it
unfoldable pub take_text : List ℕ → Members → Option (List ℕ) × Members
take_text key (member name (string text) others) =
    if bytes_eq name key then (Some text, others) else (None, member name (string text) others)
take_text key others = (None, others)

-- members behind a value, where there is one, which is written so
abbrev pub with_value : {A : Type 0} → (A → Data) → List ℕ → Option A → Members → Members
with_value written key None others = others
with_value written key (Some value) others = member key (written value) others

-- a value and the members behind it, or no value and all members
abbrev pub value_before : {A : Type 0} → Option A → Members → Members → Option A × Members
value_before None all others = (None, all)
value_before (Some value) all others = (Some value, others)

-- the value of a key, where the first member has it and it is read so, and the members behind it
unfoldable pub take_value : {A : Type 0} → (Data → Option A) → List ℕ → Members → Option A × Members
take_value read key no_members = (None, no_members)
take_value read key (member name value others) =
    value_before (if bytes_eq name key then read value else None) (member name value others) others

abbrev pub is_done : Members → Bool
is_done no_members = true
is_done (member name value others) = false
