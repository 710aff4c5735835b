-- What is read of a head's value is the head, and nothing else is.
use Rattle.std.proofs.Common.{◌≡◌, ℕ, ◌^◌, ◌<◌, ◌≤◌, Bool, List, [], ◌∷◌, codes, Option, Some, None, option_map, refl}
use Rattle.std.proofs.Common.{sym, ap, ◌∙◌, subst, arith, inl, inr, length, ◌-◌, ◌++◌}
use Rattle.std.specs.Prelude.{⊤}
use Rattle.std.specs.List.{AllByRecursion, All, slice_get}
use Rattle.std.proofs.lemmas.List.Elements.{All-get_or, All-weaker, recursion_from_All, All-nil, All-cons, All-head}
use Rattle.std.proofs.lemmas.List.Elements.{All-tail}
use Rattle.std.proofs.lemmas.Option.{none-some, same_Some, cond_some, slice_get_within, get_or_from_slice_get}
use Rattle.std.specs.Str.{bytes_eq}
use Rattle.reuse_json.specs.Format.{format_number}
use Rattle.serde_json.specs.Data.{Data, null, string, object, member}
use Rattle.serde_json.specs.Find.{as_object, as_str}
use Rattle.reuse_json.specs.Json.{count, counts}
use Rattle.reuse_tree.specs.Head.{direction_name, pending_value, head_value, FitsDirection, PendingFits, IsSoundHead}
use Rattle.reuse_tree.specs.Head.{IsGoodHead}
use Rattle.reuse_json.specs.JsonReading.{field_in, if_none_left, small_in, smalls_in, format_in}
use Rattle.reuse_tree.specs.HeadReading.{direction_from, direction_in, some_pending_in, pending_in, head_in}
use Rattle.reuse_tree.specs.declared.journal.head.Head.{Head}
use Rattle.reuse_tree.specs.declared.journal.head.Pending.{Pending}
use Rattle.reuse_tree.specs.declared.journal.head.PendingDirection.{PendingDirection}
use Rattle.reuse_tree.specs.declared.journal.head.PendingDirection.TheVariants.{Do, Undo, Redo}
use Rattle.reuse_tree.proofs.JoinedTexts.{AllByRecursion-weaker}
use Rattle.reuse_json.proofs.JsonParts.{either, named, bind_some, field_is, none_left_found, object_found, string_found}
use Rattle.reuse_json.proofs.JsonParts.{small_found, small_again, smalls_found, smalls_again, format_found}
use Rattle.reuse_json.proofs.JsonParts.{format_again, same_json}

direction_found : (name : List ℕ) (w : PendingDirection) → direction_from name ≡ Some w → name ≡ direction_name w
direction_found name w e = elim (either (bytes_eq name (codes "do")) Do w _ e) [
  | inl first ↦ named direction_name name Do w first
  | inr other ↦ elim (either (bytes_eq name (codes "undo")) Undo w _ other) [
    | inl second ↦ named direction_name name Undo w second
    | inr last ↦ named direction_name name Redo w (cond_some (bytes_eq name (codes "redo")) Redo w last)
  ]
]

direction_again : (w : PendingDirection) → direction_from (direction_name w) ≡ Some w
direction_again Do = refl
direction_again Undo = refl
direction_again Redo = refl

direction_there : (d : Data) (w : PendingDirection) → direction_in d ≡ Some w → d ≡ string (direction_name w)
direction_there d w e = let name = bind_some _ (as_str d) w e in
    string_found d name.0 name.1 ∙ ap string (direction_found name.0 w name.2)

small_there : (d : Data) (n : ℕ) → small_in d ≡ Some n → d ≡ count n
small_there d n e = (small_found d n e).0

some_pending_found : (d : Data) (p : Pending) → some_pending_in d ≡ Some p → d ≡ pending_value (Some p)
unfolding some_pending_in
some_pending_found d p e =
    let fields = bind_some _ (as_object d) p e in
    let entry = bind_some _ (field_in small_in (codes "entry") fields.0) p fields.2 in
    let direction = bind_some _ (field_in direction_in (codes "way") entry.0.1) p entry.2 in
    let end = bind_some _ (if_none_left direction.0.1) p direction.2 in
    let second = field_is direction_in (λ w. string (direction_name w)) direction_there
    (codes "way") entry.0.1 direction.0 direction.1
    ∙ ap (member (codes "way") (string (direction_name direction.0.0))) (none_left_found direction.0.1 end.0 end.1) in
    let first = field_is small_in count small_there (codes "entry") fields.0 entry.0 entry.1
    ∙ ap (member (codes "entry") (count entry.0.0)) second in
    object_found d fields.0 fields.1 ∙ ap object first
    ∙ ap (λ (q : Pending). pending_value (Some q)) (same_Some _ p end.2)

some_pending_again : (p : Pending) → p.entry < 2 ^ 32 → some_pending_in (pending_value (Some p)) ≡ Some p
unfolding some_pending_in
some_pending_again p h = rw (small_again p.entry h, direction_again p.direction) refl

mapped_found : {A B : Type 0} (f : A → B) (o : Option A) (y : B) → option_map f o ≡ Some y
    → (x : A) × (o ≡ Some x) × (f x ≡ y)
mapped_found f None y e = absurd (none-some y e)
mapped_found f (Some x) y e = (x, refl, same_Some (f x) y e)

-- the number of what is pending, if anything is, has six digits
abbrev pub FitsSix : Option Pending → Type 0
FitsSix None = ⊤
FitsSix (Some p) = p.entry < 1000000

-- the number of what is pending, if anything is, has 32 bits
abbrev pub FitsSmall : Option Pending → Type 0
FitsSmall None = ⊤
FitsSmall (Some p) = p.entry < 2 ^ 32

not_null : (d : Data) (o : Option Pending) → option_map Some (some_pending_in d) ≡ Some o → d ≡ pending_value o
not_null d o e =
    let p = mapped_found Some (some_pending_in d) o e in
    some_pending_found d p.0 p.1 ∙ ap pending_value p.2

pending_again : (o : Option Pending) → FitsSmall o → pending_in (pending_value o) ≡ Some o
pending_again None h = refl
pending_again (Some p) h = ap (option_map Some) (some_pending_again p h)

pending_found : (d : Data) (o : Option Pending) → pending_in d ≡ Some o → d ≡ pending_value o
pending_found null o e = ap pending_value (same_Some None o e)
pending_found d o e = not_null d o e

-- what is read as a head is its value
pub head_found : (d : Data) (h : Head) → head_in d ≡ Some h → (second : Bool) × (d ≡ head_value second h)
unfolding head_in
head_found d h e =
    let fields = bind_some _ (as_object d) h e in
    let done = bind_some _ (field_in smalls_in (codes "done") fields.0) h fields.2 in
    let format = bind_some _ (field_in format_in (codes "format") done.0.1) h done.2 in
    let next = bind_some _ (field_in small_in (codes "next") format.0.1) h format.2 in
    let pending = bind_some _ (field_in pending_in (codes "pending") next.0.1) h next.2 in
    let undone = bind_some _ (field_in smalls_in (codes "undone") pending.0.1) h pending.2 in
    let end = bind_some _ (if_none_left undone.0.1) h undone.2 in
    let fifth = field_is smalls_in counts smalls_found (codes "undone") pending.0.1 undone.0 undone.1
    ∙ ap (member (codes "undone") (counts undone.0.0)) (none_left_found undone.0.1 end.0 end.1) in
    let fourth = field_is pending_in pending_value pending_found (codes "pending") next.0.1 pending.0 pending.1
    ∙ ap (member (codes "pending") (pending_value pending.0.0)) fifth in
    let third = field_is small_in count small_there (codes "next") format.0.1 next.0 next.1
    ∙ ap (member (codes "next") (count next.0.0)) fourth in
    let second =
    field_is format_in (λ b. count (format_number b)) format_found (codes "format") done.0.1 format.0 format.1
    ∙ ap (member (codes "format") (count (format_number format.0.0))) third in
    let first = field_is smalls_in counts smalls_found (codes "done") fields.0 done.0 done.1
    ∙ ap (member (codes "done") (counts done.0.0)) second in
    (format.0.0, object_found d fields.0 fields.1 ∙ ap object first ∙ ap (head_value format.0.0) (same_Some _ h end.2))

All-front : (P : ℕ → Type 0) (xs ys : List ℕ) → All P (xs ++ ys) → All P xs
All-front P [] ys h = All-nil P
All-front P (x ∷ xs) ys h = All-cons P x xs (All-head P x (xs ++ ys) h) (All-front P xs ys (All-tail P x (xs ++ ys) h))

All-back : (P : ℕ → Type 0) (xs ys : List ℕ) → All P (xs ++ ys) → All P ys
All-back P [] ys h = h
All-back P (x ∷ xs) ys h = All-back P xs ys (All-tail P x (xs ++ ys) h)

-- the numbers of a head have 32 bits
pub record IsSmallHead (h : Head) : Type 0 where
  pub done : AllByRecursion (λ n. n < 2 ^ 32) h.done
  pub undone : AllByRecursion (λ n. n < 2 ^ 32) h.undone
  pub next : h.next < 2 ^ 32
  pub pending : FitsSmall h.pending

-- a head's value is read as the head
pub head_again : (second : Bool) (h : Head) → IsSmallHead h → head_in (head_value second h) ≡ Some h
unfolding head_in
head_again second h small = rw (
  smalls_again h.done small.done,
  format_again second,
  small_again h.next small.next,
  pending_again h.pending small.pending,
  smalls_again h.undone small.undone,
) refl

last_is : (ns : List ℕ) (n next : ℕ) → All (λ m. (1 ≤ m) × (m < next)) ns
    → slice_get ns (length ns - 1) ≡ Some n → n < next
last_is ns n next h e =
    let within = slice_get_within ns _ n e in
    subst (λ m. m < next) (get_or_from_slice_get ns _ n 0 e) (All-get_or (λ m. (1 ≤ m) × (m < next)) ns _ 0 within h).1

pending_six : (entry next : ℕ) (w : PendingDirection) (done undone : List ℕ) → next ≤ 1000000
    → All (λ m. (1 ≤ m) × (m < next)) done → All (λ m. (1 ≤ m) × (m < next)) undone
    → FitsDirection entry w next done undone → entry < 1000000
pending_six entry next Do done undone h a b fits = omega arith
pending_six entry next Undo done undone h a b fits = let below = last_is done entry next a fits in omega arith
pending_six entry next Redo done undone h a b fits = let below = last_is undone entry next b fits in omega arith

fits_six : (o : Option Pending) (next : ℕ) (done undone : List ℕ) → next ≤ 1000000
    → All (λ m. (1 ≤ m) × (m < next)) done → All (λ m. (1 ≤ m) × (m < next)) undone
    → PendingFits o next done undone → FitsSix o
fits_six None next done undone h a b fits = tt
fits_six (Some p) next done undone h a b fits = pending_six p.entry next p.direction done undone h a b fits

small_from_six : (o : Option Pending) → FitsSix o → FitsSmall o
small_from_six None h = tt
small_from_six (Some p) h = omega arith

-- the numbers of a head have six digits, and that of the next entry may be 1,000,000
pub record IsSixHead (h : Head) : Type 0 where
  pub done : AllByRecursion (λ n. n < 1000000) h.done
  pub undone : AllByRecursion (λ n. n < 1000000) h.undone
  pub pending : FitsSix h.pending

pub six_from_sound : (h : Head) → IsSoundHead h → IsSixHead h
six_from_sound h sound =
    let P : ℕ → Type 0 = λ m. (1 ≤ m) × (m < h.next) in
    let Q : ℕ → Type 0 = λ m. m < 1000000 in
    let wider : (m : ℕ) → P m → Q m = λ m p. omega (arith, sound.next, p) in
    let done : All P h.done = All-front P h.done h.undone sound.given_out in
    let undone : All P h.undone = All-back P h.done h.undone sound.given_out in
    record {
      done = recursion_from_All Q h.done (All-weaker P Q wider h.done done);
      undone = recursion_from_All Q h.undone (All-weaker P Q wider h.undone undone);
      pending = fits_six h.pending h.next h.done h.undone sound.next.1 done undone sound.pending;
    }

pub small_from_sound : (h : Head) → IsSoundHead h → IsSmallHead h
small_from_sound h sound =
    let six = six_from_sound h sound in
    let wider : (m : ℕ) → m < 1000000 → m < 2 ^ 32 = λ m p. omega arith in
    record {
      done = AllByRecursion-weaker (λ m. m < 1000000) (λ m. m < 2 ^ 32) wider h.done six.done;
      undone = AllByRecursion-weaker (λ m. m < 1000000) (λ m. m < 2 ^ 32) wider h.undone six.undone;
      next = omega (arith, sound.next);
      pending = small_from_six h.pending six.pending;
    }

-- a text stands for one head at most
pub one_head : (text : List ℕ) (a b : Head) → IsGoodHead text a → IsGoodHead text b → a ≡ b
one_head text a b is_a is_b =
    let same = same_json text (head_value is_a.value.0 a) (head_value is_b.value.0 b) is_a.value.1 is_b.value.1 in
    same_Some a b (sym (head_again is_a.value.0 a (small_from_sound a is_a.sound)) ∙ ap head_in same
    ∙ head_again is_b.value.0 b (small_from_sound b is_b.sound))
