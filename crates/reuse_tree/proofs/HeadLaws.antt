-- The text of a sound head is good, and short.
use Rattle.std.proofs.Common.{◌≡◌, ℕ, ◌+◌, ◌*◌, ◌^◌, ◌<◌, ◌≤◌, List, [], ◌∷◌, ◌++◌, length, map, codes, decimal, Option}
use Rattle.std.proofs.Common.{Some, None, false, true, refl, sym, ap, ◌∙◌, subst, arith, length-append}
use Rattle.std.specs.Prelude.{IsUtf8}
use Rattle.std.specs.List.{AllByRecursion, join_with_byte}
use Rattle.std.proofs.lemmas.Fmt.{length-decimal-le, IsAscii-decimal}
use Rattle.std.proofs.lemmas.Str.{IsUtf8-append, IsUtf8-from_ascii}
use Rattle.json.specs.Tree as tree
use Rattle.json.proofs.Printed.Utf8.{IsUtf8-are_ascii}
use Rattle.json.proofs.Printed.Decimals.{IsNumber-decimal}
use Rattle.serde_json.specs.Read.{read, of_json, of_items}
use Rattle.serde_json.specs.View.{items_of}
use Rattle.serde_json.specs.Written.{outline, items_outline, has_float, items_have_float}
use Rattle.serde_json.proofs.Numbers.{number_of-decimal}
use Rattle.reuse_json.specs.Json.{count}
use Rattle.reuse_tree.specs.Head.{numbers_text, direction_name, pending_text, head_text, pending_value, head_value}
use Rattle.reuse_tree.specs.Head.{IsSoundHead, IsGoodHead, listed}
use Rattle.reuse_tree.specs.declared.journal.head.Head.{Head}
use Rattle.reuse_tree.specs.declared.journal.head.Pending.{Pending}
use Rattle.reuse_tree.specs.declared.journal.head.PendingDirection.{PendingDirection}
use Rattle.reuse_tree.specs.declared.journal.head.PendingDirection.TheVariants.{Do, Undo, Redo}
use Rattle.reuse_json.proofs.JsonPrinting.{IsReadable, read-compact_text}
use Rattle.reuse_tree.proofs.JoinedTexts.{◌⊹◌, length-join-le, IsUtf8-join, sum_by-constant, AllByRecursion-weaker}
use Rattle.reuse_tree.proofs.HeadTexts.{head_compact, head_shape, regroup}
use Rattle.reuse_tree.proofs.HeadParts.{IsSmallHead, small_from_sound, FitsSmall, FitsSix, six_from_sound}

-- ---- numbers

counts_no_float : (ns : List ℕ) → items_have_float (items_of (map count ns)) ≡ false
counts_no_float [] = refl
counts_no_float (n ∷ ns) = counts_no_float ns

counts_flat : (ns : List ℕ) → tree.items_depth (items_outline (items_of (map count ns))) ≡ 0
counts_flat [] = refl
counts_flat (n ∷ ns) = let rest = counts_flat ns in omega arith

counts_numbers : (ns : List ℕ) → AllByRecursion (λ n. n < 2 ^ 32) ns
    → tree.ItemsHaveNumbers (items_outline (items_of (map count ns)))
counts_numbers [] h = tt
counts_numbers (n ∷ ns) h = (IsNumber-decimal n (let small : n < 2 ^ 32 = h.0 in omega arith), counts_numbers ns h.1)

counts_read : (ns : List ℕ) → AllByRecursion (λ n. n < 2 ^ 32) ns
    → of_items (items_outline (items_of (map count ns))) ≡ Some (items_of (map count ns))
counts_read [] h = refl
counts_read (n ∷ ns) h =
    let small : n < 2 ^ 32 = h.0 in
    rw (number_of-decimal n (omega arith), counts_read ns h.1) refl

-- ---- the head's value

pending_no_float : (o : Option Pending) → has_float (pending_value o) ≡ false
pending_no_float None = refl
pending_no_float (Some p) = refl

pub head_no_float : (h : Head) → has_float (head_value true h) ≡ false
head_no_float h = rw (counts_no_float h.done, pending_no_float h.pending, counts_no_float h.undone) refl

pending_flat : (o : Option Pending) → tree.depth (outline (pending_value o)) ≤ 1
pending_flat None = omega arith
pending_flat (Some p) = omega arith

pending_numbers : (o : Option Pending) → FitsSmall o → tree.HasNumbers (outline (pending_value o))
pending_numbers None h = tt
pending_numbers (Some p) h = (IsNumber-decimal p.entry (omega arith), (tt, tt))

pending_read : (o : Option Pending) → FitsSmall o → of_json (outline (pending_value o)) ≡ Some (pending_value o)
pending_read None h = refl
pending_read (Some p) h = let fits : p.entry < 2 ^ 64 = omega arith in rw (number_of-decimal p.entry fits) refl

head_readable : (h : Head) → IsSmallHead h → IsReadable (head_value true h)
head_readable h small =
    let next : h.next < 2 ^ 64 = omega (arith, small.next) in record {
      shallow = omega (arith, counts_flat h.done, pending_flat h.pending, counts_flat h.undone);
      numbers = (
        counts_numbers h.done small.done,
        (
          IsNumber-decimal 2 (omega arith),
          (
            IsNumber-decimal h.next next,
            (pending_numbers h.pending small.pending, (counts_numbers h.undone small.undone, tt)),
          ),
        ),
      );
      again = rw (
        counts_read h.done small.done,
        number_of-decimal 2 (omega arith),
        number_of-decimal h.next next,
        pending_read h.pending small.pending,
        counts_read h.undone small.undone,
      ) refl;
    }

-- ---- the head's text

number_utf8 : (n : ℕ) → n < 2 ^ 32 → IsUtf8 (decimal n)
number_utf8 n h = IsUtf8-from_ascii (decimal n) (IsAscii-decimal n (omega arith))

numbers_utf8 : (ns : List ℕ) → AllByRecursion (λ n. n < 2 ^ 32) ns → IsUtf8 (numbers_text ns)
numbers_utf8 ns h =
    IsUtf8-append (codes "[") (join_with_byte 44 (map decimal ns)) (IsUtf8-are_ascii _ refl)
    (IsUtf8-join decimal ns (AllByRecursion-weaker (λ n. n < 2 ^ 32) (λ n. IsUtf8 (decimal n)) number_utf8 ns h)) ⊹
    IsUtf8-are_ascii (codes "]") refl

direction_utf8 : (w : PendingDirection) → IsUtf8 (direction_name w)
direction_utf8 Do = IsUtf8-are_ascii _ refl
direction_utf8 Undo = IsUtf8-are_ascii _ refl
direction_utf8 Redo = IsUtf8-are_ascii _ refl

pending_utf8 : (o : Option Pending) → FitsSmall o → IsUtf8 (pending_text o)
pending_utf8 None h = IsUtf8-are_ascii _ refl
pending_utf8 (Some p) h =
    IsUtf8-append (codes "{\"entry\":") (decimal p.entry) (IsUtf8-are_ascii _ refl) (number_utf8 p.entry h) ⊹
    IsUtf8-are_ascii (codes ",\"way\":\"") refl ⊹ direction_utf8 p.direction ⊹ IsUtf8-are_ascii (codes "\"}") refl

head_utf8 : (h : Head) → IsSmallHead h → IsUtf8 (head_text h)
head_utf8 h small =
    IsUtf8-append (codes "{\"done\":") (numbers_text h.done) (IsUtf8-are_ascii _ refl) (numbers_utf8 h.done small.done)
    ⊹ IsUtf8-are_ascii (codes ",\"format\":2,\"next\":") refl ⊹ number_utf8 h.next small.next
    ⊹ IsUtf8-are_ascii (codes ",\"pending\":") refl ⊹ pending_utf8 h.pending small.pending
    ⊹ IsUtf8-are_ascii (codes ",\"undone\":") refl ⊹ numbers_utf8 h.undone small.undone ⊹ IsUtf8-are_ascii
    (codes "}") refl

-- ---- its length

short_numbers : (n next : ℕ) → next ≤ 1000000 → n < next → length (decimal n) + 1 ≤ 7
short_numbers n next h below = let six = length-decimal-le 6 n (omega arith) (omega arith) (omega arith) in omega arith

numbers_length : (ns : List ℕ) → AllByRecursion (λ n. n < 1000000) ns → length (numbers_text ns) ≤ 2 + 7 * length ns
numbers_length ns h =
    let each = AllByRecursion-weaker (λ n. n < 1000000) (λ n. length (decimal n) + 1 ≤ 7)
    (λ n below. short_numbers n 1000000 (omega arith) below) ns h in
    omega (
      arith,
      length-append (codes "[" ++ join_with_byte 44 (map decimal ns)) (codes "]"),
      length-join-le decimal (λ _. 7) ns each,
      sum_by-constant 7 ns,
    )

direction_length : (w : PendingDirection) → length (direction_name w) ≤ 4
direction_length Do = omega arith
direction_length Undo = omega arith
direction_length Redo = omega arith

pending_length : (o : Option Pending) → FitsSix o → length (pending_text o) ≤ 31
pending_length None h = omega arith
pending_length (Some p) h =
    let six = length-decimal-le 6 p.entry (omega arith) (omega arith) (omega arith) in
    omega (
      arith,
      direction_length p.direction,
      length-append
          (codes "{\"entry\":" ++ decimal p.entry ++ codes ",\"way\":\"" ++ direction_name p.direction) (codes "\"}"),
      length-append (codes "{\"entry\":" ++ decimal p.entry ++ codes ",\"way\":\"") (direction_name p.direction),
      length-append (codes "{\"entry\":" ++ decimal p.entry) (codes ",\"way\":\""),
      length-append (codes "{\"entry\":") (decimal p.entry),
    )

shape_length : (done next pending undone : List ℕ)
    → length (head_shape done next pending undone) ≤ 49 + (length done + length next + length pending + length undone)
unfolding head_shape
shape_length done next pending undone = simp length-append (omega arith)

pub head_length : (h : Head) → IsSoundHead h → length (head_text h) ≤ 128 + 7 * length (listed h)
head_length h sound =
    let six = six_from_sound h sound in
    let seven = length-decimal-le 7 h.next (omega arith) (omega (arith, sound.next)) (omega (arith, sound.next)) in
    let done = numbers_text h.done in
    let pending = pending_text h.pending in
    let undone = numbers_text h.undone in
    let parts = shape_length done (decimal h.next) pending undone in
    let whole : length (head_shape done (decimal h.next) pending undone) ≤ 128 + 7 * length (listed h) =
    omega (
      arith,
      parts,
      length-append h.done h.undone,
      numbers_length h.done six.done,
      numbers_length h.undone six.undone,
      pending_length h.pending six.pending,
      seven,
    ) in
    subst (λ (l : List ℕ). length l ≤ 128 + 7 * length (listed h)) (regroup done (decimal h.next) pending undone) whole

-- ---- the law

pub head_good : (h : Head) → IsSoundHead h → IsGoodHead (head_text h) h
head_good h sound =
    let small = small_from_sound h sound in record {
      short = omega (arith, head_length h sound, sound.few);
      value = (
        true,
        record {
          utf8 = head_utf8 h small;
          reads = ap read (sym (head_compact h)) ∙ read-compact_text (head_value true h) (head_readable h small);
        },
      );
      sound = sound;
    }
