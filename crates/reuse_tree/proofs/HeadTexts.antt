-- The text of a head is the compact text of its value, and is read back.
use Rattle.std.proofs.Common.{◌≡◌, ℕ, true, List, ◌∷◌, ◌++◌, codes, decimal, Option, Some, None, refl, ap, ap₂, ◌∙◌}
use Rattle.std.proofs.Common.{append_assoc}
use Rattle.std.specs.Fmt.{digits}
use Rattle.json.specs.Print.{escape_byte, quoted}
use Rattle.serde_json.specs.Written.{compact_text}
use Rattle.reuse_json.specs.Json.{count, counts}
use Rattle.reuse_tree.specs.Head.{numbers_text, direction_name, pending_text, head_text, pending_value, head_value}
use Rattle.reuse_tree.specs.declared.journal.head.Head.{Head}
use Rattle.reuse_tree.specs.declared.journal.head.Pending.{Pending}
use Rattle.reuse_tree.specs.declared.journal.head.PendingDirection.{PendingDirection}
use Rattle.reuse_tree.specs.declared.journal.head.PendingDirection.TheVariants.{Do, Undo, Redo}
use Rattle.reuse_json.proofs.JsonPrinting.{items_text-map}

pub counts_text : (ns : List ℕ) → compact_text (counts ns) ≡ numbers_text ns
counts_text ns = ap (λ l. 91 ∷ l) (items_text-map count decimal (λ n. refl) ns)

direction_text : (w : PendingDirection) → quoted (direction_name w) ≡ codes "\"" ++ direction_name w ++ codes "\""
unfolding escape_byte
direction_text Do = refl
direction_text Undo = refl
direction_text Redo = refl

unfoldable pending_shape : (entry name : List ℕ) → List ℕ
pending_shape entry name = codes "{\"entry\":" ++ (entry ++ (codes ",\"way\":" ++ (name ++ codes "}")))

pending_compact : (o : Option Pending) → compact_text (pending_value o) ≡ pending_text o
unfolding escape_byte pending_shape
pending_compact None = refl
pending_compact (Some p) =
    let whole : compact_text (pending_value (Some p)) ≡ pending_shape (decimal p.entry)
    (quoted (direction_name p.direction)) = refl in
    whole ∙ ap (pending_shape (decimal p.entry)) (direction_text p.direction) ∙ simp append_assoc

-- the parts of a head's text, one after another
unfoldable pub head_shape : (done next pending undone : List ℕ) → List ℕ
head_shape done next pending undone = codes "{\"done\":" ++ (done ++ (codes ",\"format\":2,\"next\":"
    ++ (next ++ (codes ",\"pending\":" ++ (pending ++ (codes ",\"undone\":" ++ (undone ++ codes "}")))))))

pub regroup : (done next pending undone : List ℕ)
    → head_shape done next pending undone ≡ codes "{\"done\":" ++ done ++ codes ",\"format\":2,\"next\":" ++ next
    ++ codes ",\"pending\":" ++ pending ++ codes ",\"undone\":" ++ undone ++ codes "}"
unfolding head_shape
regroup done next pending undone = simp append_assoc

pub head_compact : (h : Head) → compact_text (head_value true h) ≡ head_text h
unfolding escape_byte digits head_shape
head_compact h =
    let next = decimal h.next in
    let pending = pending_text h.pending in
    let whole : compact_text (head_value true h) ≡ head_shape (compact_text (counts h.done)) next
    (compact_text (pending_value h.pending)) (compact_text (counts h.undone)) = refl in
    whole ∙ ap₂ (λ (a b : List ℕ). head_shape a next b (compact_text (counts h.undone))) (counts_text h.done)
    (pending_compact h.pending)
    ∙ ap (head_shape (numbers_text h.done) next pending) (counts_text h.undone)
    ∙ regroup (numbers_text h.done) next pending (numbers_text h.undone)
