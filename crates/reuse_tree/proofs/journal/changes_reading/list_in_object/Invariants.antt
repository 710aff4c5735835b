use Rattle.std.proofs.Common.{◌≡◌, length, option_map}
use Rattle.json.specs.Json.{value}
use Rattle.serde_json.specs.Data.{Members}
use Rattle.reuse_json.specs.EntryReading.{listed_in}
use Rattle.reuse_json.proofs.ReadSoFar.{MembersRead}
use Rattle.reuse_tree.proofs.journal.changes_reading.list_in_object.Given as goal

-- the changes are those of the members so far
abbrev pub invariant-members : goal.invariant-members
invariant-members l =
    (ms : Members) × MembersRead (value 126) l.fn.reader l.reader ms
    × (option_map (λ v. v.items) l.found ≡ listed_in l.sealed ms)

abbrev pub decreases-members : goal.decreases-members
decreases-members l = length l.reader
