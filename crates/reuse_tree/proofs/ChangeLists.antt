-- The changes of a list, as far as a loop has read its items.
use Rattle.std.proofs.Common.{◌≡◌, ◌<◌, List, [], ◌∷◌, ◌++◌, length, Bool, Option, None, ap, ap₂, ◌∙◌}
use Rattle.json.specs.Token.{Token}
use Rattle.json.specs.Json.{after_end_array, value}
use Rattle.serde_json.specs.Data.{Data}
use Rattle.serde_json.specs.View.{view, items_of}
use Rattle.serde_json.specs.declared.value.Value.{Value}
use Rattle.reuse_change.specs.declared.change.Change.{Change}
use Rattle.reuse_json.specs.EntryReading.{change_in, if_few_changes, with_next}
use Rattle.reuse_json.specs.JsonReading.{read_items}
use Rattle.reuse_json.specs.Trimmed.{ReadsValue}
use Rattle.reuse_json.specs.declared.length_limit.LengthLimit.TheVariants as room
use Rattle.reuse_json.proofs.ReadSoFar.{ItemsRead, one_item_read}
use Rattle.reuse_tree.proofs.TrimmedEntries.{next_change}

-- the changes are those of the items so far
abbrev pub ChangesRead : Bool → (all left : List Token) → Option (List Change) → Type 0
ChangesRead sealed all left found =
    (ds : List Data) × ItemsRead (value 125) all left ds
    × (found ≡ if_few_changes (read_items (change_in sealed) (items_of ds)))

pub one_change_read : (sealed : Bool) (all left mid r : List Token) (found next : Option (List Change)) (v : Value)
    → ChangesRead sealed all left found → (after_end_array left ≡ None) × (mid ≡ left)
    → ReadsValue 125 room.Change mid r v → length r < length mid → next ≡ with_next found (change_in sealed (view v))
    → ChangesRead sealed all r next
one_change_read sealed all left mid r found next v read going is shorter with = (
  read.0 ++ is.0 ∷ [],
  one_item_read (value 125) all left mid r read.0 is.0 read.1 going is.1 shorter,
  with ∙ ap₂ with_next read.2 (ap (change_in sealed) is.2) ∙ next_change sealed read.0 is.0,
)
