-- Trimming leaves a head as it is.
use Rattle.std.proofs.Common.{◌≡◌, ℕ, ◌≤◌, Bool, true, false, cond, List, [], ◌∷◌, length, length-append, map, Option}
use Rattle.std.proofs.Common.{Some, None, suc, refl, ap, ap₂, ◌∙◌, subst, arith, le-leb, Result}
use Rattle.std.specs.Prelude.{IfOk}
use Rattle.serde_json.specs.Data.{Data, boolean, array, Items, item}
use Rattle.serde_json.specs.Events.{items_len}
use Rattle.serde_json.specs.View.{items_of}
use Rattle.reuse_json.specs.Decoded.{Gives, IsAnswer}
use Rattle.reuse_tree.specs.Head.{head_value, listed, pending_value, IsJsonHead, IsSoundHead}
use Rattle.reuse_tree.specs.HeadReading.{head_in}
use Rattle.reuse_json.specs.Json.{count, counts, IsJson}
use Rattle.reuse_json.specs.Trimmed.{trim, trim_items}
use Rattle.reuse_json.specs.declared.fault.DecodeFault.{DecodeFault}
use Rattle.reuse_tree.specs.declared.journal.head.Head.{Head}
use Rattle.reuse_tree.specs.declared.journal.head.Pending.{Pending}
use Rattle.reuse_json.specs.declared.length_limit.LengthLimit.TheVariants as room
use Rattle.reuse_tree.proofs.HeadParts.{head_found, head_again, small_from_sound}
use Rattle.reuse_json.proofs.JsonParts.{IfOk-from_gives, IsAnswer-from_gives, same_json}
use Rattle.reuse_tree.proofs.TrimmedEntries.{is_clean, are_clean, whole_is}

counts_len : (ns : List ℕ) → items_len (items_of (map count ns)) ≡ length ns
counts_len [] = refl
counts_len (n ∷ ns) = ap suc (counts_len ns)

counts_same : (ns : List ℕ) → trim_items room.Leaf (items_of (map count ns)) ≡ items_of (map count ns)
counts_same [] = refl
counts_same (n ∷ ns) = ap (item (count n)) (counts_same ns)

counts_clean : (ns : List ℕ) → are_clean (items_of (map count ns)) ≡ true
counts_clean [] = refl
counts_clean (n ∷ ns) = counts_clean ns

counts_fit : (ns : List ℕ) → length ns ≤ 4096 → trim room.Numbers (counts ns) ≡ counts ns
counts_fit ns few =
    ap₂ (λ b (ds : Items). cond b (array ds) (boolean false))
    (le-leb (items_len (items_of (map count ns))) 4096 (omega (arith, few, counts_len ns))) (counts_same ns)

pending_fits : (o : Option Pending) → trim room.Numbers (pending_value o) ≡ pending_value o
pending_fits None = refl
pending_fits (Some p) = refl

pending_clean : (o : Option Pending) → is_clean (pending_value o) ≡ true
pending_clean None = refl
pending_clean (Some p) = refl

head_fits : (second : Bool) (h : Head) → length (listed h) ≤ 4096
    → trim room.Head (head_value second h) ≡ head_value second h
head_fits second h few =
    rw (
      counts_fit h.done (omega (arith, few, length-append h.done h.undone)),
      pending_fits h.pending,
      counts_fit h.undone (omega (arith, few, length-append h.done h.undone)),
    ) refl

head_clean : (second : Bool) (h : Head) → is_clean (head_value second h) ≡ true
head_clean second h = rw (counts_clean h.done, pending_clean h.pending, counts_clean h.undone) refl

-- ---- what `read_head` answers

pub trimmed_ok : (r : Result Head DecodeFault) (text : List ℕ) (d : Data) → IsJson text d
    → Gives r (head_in (trim room.Head d)) → IfOk r (IsJsonHead text)
trimmed_ok r text d is gives =
    IfOk-from_gives r (head_in (trim room.Head d)) (IsJsonHead text)
    (λ h e. let f = head_found (trim room.Head d) h e in
    (f.0, subst (IsJson text) (whole_is room.Head d (head_value f.0 h) f.1 (head_clean f.0 h)) is)) gives

pub trimmed_only : (r : Result Head DecodeFault) (text : List ℕ) (d : Data) → IsJson text d
    → Gives r (head_in (trim room.Head d)) → (h : Head) → IsSoundHead h → IsJsonHead text h → IsAnswer r h
trimmed_only r text d is gives h sound other =
    let same : trim room.Head d ≡ head_value other.0 h =
    ap (trim room.Head) (same_json text d (head_value other.0 h) is other.1) ∙ head_fits other.0 h sound.few in
    IsAnswer-from_gives r (head_in (trim room.Head d)) h gives
    (ap head_in same ∙ head_again other.0 h (small_from_sound h sound))
