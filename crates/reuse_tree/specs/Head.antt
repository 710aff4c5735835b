-- The head of the journal: which entries are done, which are undone, and which is pending.
use Rattle.std.specs.Prelude.{◌≡◌, ◌≢◌, ℕ, ◌<◌, ◌≤◌, ◌-◌, Bool, List, [], ◌∷◌, ◌++◌, length, map, All, AllPairs}
use Rattle.std.specs.Prelude.{slice_get, codes, decimal, Option, Some, None, ⊤}
use Rattle.std.specs.List.{join_with_byte}
use Rattle.serde_json.specs.Data.{Data, string, null}
use Rattle.reuse_change.specs.declared.layout.TheConstants.{LAST_NUMBER, MOST_LISTED}
use Rattle.reuse_text.specs.declared.TheConstants.{LONGEST_FILE}
use Rattle.reuse_json.specs.Json.{IsJson, count, counts, object_of}
use Rattle.reuse_json.specs.Format.{format_number}
use Rattle.reuse_tree.specs.declared.journal.head.Head.{Head}
use Rattle.reuse_tree.specs.declared.journal.head.Pending.{Pending}
use Rattle.reuse_tree.specs.declared.journal.head.PendingDirection.{PendingDirection}
use Rattle.reuse_tree.specs.declared.journal.head.PendingDirection.TheVariants.{Do, Undo, Redo}
use Rattle.reuse_change.specs.declared.direction.Direction.{Direction}
use Rattle.reuse_change.specs.declared.direction.Direction.TheVariants as direction

-- ---- the text that is written

-- numbers in decimal, as a JSON array
abbrev pub numbers_text : List ℕ → List ℕ
numbers_text ns = codes "[" ++ join_with_byte 44 (map decimal ns) ++ codes "]"

-- which way the changes of an entry are gone through: a redo makes them again
abbrev pub direction_of : PendingDirection → Direction
direction_of Do = direction.Forward
direction_of Undo = direction.Backward
direction_of Redo = direction.Forward

-- the pending way of an entry that is listed
abbrev pub listed_direction : Direction → PendingDirection
listed_direction direction.Forward = Redo
listed_direction direction.Backward = Undo

-- the word for a way
abbrev pub direction_name : PendingDirection → List ℕ
direction_name Do = codes "do"
direction_name Undo = codes "undo"
direction_name Redo = codes "redo"

-- what is pending, or null
abbrev pub pending_text : Option Pending → List ℕ
pending_text None = codes "null"
pending_text (Some p) =
    codes "{\"entry\":" ++ decimal p.entry ++ codes ",\"way\":\"" ++ direction_name p.direction ++ codes "\"}"

-- a head, with the members in the order of their keys, without space
abbrev pub head_text : Head → List ℕ
head_text h = codes "{\"done\":" ++ numbers_text h.done ++ codes ",\"format\":2,\"next\":" ++ decimal h.next ++ codes
    ",\"pending\":" ++ pending_text h.pending ++ codes ",\"undone\":" ++ numbers_text h.undone ++ codes "}"

-- ---- the value that is read

-- what is pending: null, or an object with just these keys and values
abbrev pub pending_value : Option Pending → Data
pending_value None = null
pending_value (Some p) =
    object_of ((codes "entry", count p.entry) ∷ (codes "way", string (direction_name p.direction)) ∷ [])

-- a head in the first format or the second: an object with just these keys and values
abbrev pub head_value : Bool → Head → Data
head_value second h = object_of (
    (codes "done", counts h.done) ∷
    (codes "format", count (format_number second)) ∷
    (codes "next", count h.next) ∷
    (codes "pending", pending_value h.pending) ∷
    (codes "undone", counts h.undone) ∷ [])

-- `serde_json` reads the text as a value that stands for the head
abbrev pub IsJsonHead : List ℕ → Head → Type 0
IsJsonHead text h = (second : Bool) × IsJson text (head_value second h)

-- ---- which heads are good

-- the numbers that the head lists
abbrev pub listed : Head → List ℕ
listed h = h.done ++ h.undone

-- the last number of a list
abbrev pub last_of : List ℕ → Option ℕ
last_of ns = slice_get ns (length ns - 1)

-- The entry that is pending fits the lists: a new one has the next number, one that is being undone is the last of
-- done, one that is being redone is the last of undone.
abbrev pub FitsDirection : ℕ → PendingDirection → ℕ → List ℕ → List ℕ → Type 0
FitsDirection entry Do next done undone = (entry ≡ next) × (entry ≤ LAST_NUMBER)
FitsDirection entry Undo next done undone = last_of done ≡ Some entry
FitsDirection entry Redo next done undone = last_of undone ≡ Some entry

-- so does what is pending, if anything is
abbrev pub PendingFits : Option Pending → ℕ → List ℕ → List ℕ → Type 0
PendingFits None next done undone = ⊤
PendingFits (Some p) next done undone = FitsDirection p.entry p.direction next done undone

-- a head that may be written, whatever its text
pub record IsSoundHead (h : Head) : Type 0 where
  pub next : (1 ≤ h.next) × (h.next ≤ 1000000)
  pub few : length (listed h) ≤ MOST_LISTED
  pub given_out : All (λ n. (1 ≤ n) × (n < h.next)) (listed h)
  pub distinct : AllPairs (λ m n. m ≢ n) (listed h)
  pub pending : PendingFits h.pending h.next h.done h.undone

-- the most bytes that a head's text has
abbrev pub max_head : ℕ
max_head = LONGEST_FILE

-- The text is good, and stands for the head.
pub record IsGoodHead (text : List ℕ) (h : Head) : Type 0 where
  pub short : length text ≤ max_head
  pub value : IsJsonHead text h
  pub sound : IsSoundHead h
