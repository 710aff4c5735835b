use Rattle.std.proofs.Common.{◌+◌, ◌*◌, List, length}
use Rattle.json.specs.Json.{value}
use Rattle.serde_json.specs.Data.{Data, Members}
use Rattle.reuse_json.proofs.ReadSoFar.{ItemsRead, MembersRead}
use Rattle.reuse_json.proofs.Trimming.{Kept, KeptMembers}
use Rattle.reuse_json.proofs.trimmed.+read.Given as goal

abbrev pub decreases-read : goal.decreases-read
decreases-read l = 3 * l.depth + 1

abbrev pub decreases-read_from : goal.decreases-read_from
decreases-read_from l = 3 * l.depth

abbrev pub decreases-read_items : goal.decreases-read_items
decreases-read_items l = 3 * l.depth + 2

abbrev pub decreases-read_members : goal.decreases-read_members
decreases-read_members l = 3 * l.depth + 2

-- the items so far, and those that are left, are all
abbrev pub invariant-read_items-items : goal.invariant-read_items-items
invariant-read_items-items l =
    (ds : List Data) × ItemsRead (value l.depth) l.initial.reader l.reader ds × Kept l.room ds l.found.items

abbrev pub decreases-read_items-items : goal.decreases-read_items-items
decreases-read_items-items l = length l.reader

-- so are the members
abbrev pub invariant-read_members-members : goal.invariant-read_members-members
invariant-read_members-members l =
    (ms : Members) × MembersRead (value l.depth) l.initial.reader l.reader ms × KeptMembers l.room ms l.found.entries

abbrev pub decreases-read_members-members : goal.decreases-read_members-members
decreases-read_members-members l = length l.reader
