-- Heads that list a journal, before, on and after a step.
use Rattle.std.proofs.Common.{◌≡◌, ◌≢◌, ℕ, suc, ◌+◌, ◌-◌, ◌<◌, ◌≤◌, Bool, true, false, ◌||◌, leb, List, [], ◌∷◌, ◌++◌}
use Rattle.std.proofs.Common.{length, map, reverse, get_or, Option, Some, None, refl, sym, ap, ◌∙◌, subst, append_assoc}
use Rattle.std.proofs.Common.{arith}
use Rattle.std.specs.List.{All, AllPairs, AllByRecursion}
use Rattle.std.proofs.lemmas.List.{append-nil, length-append, length-map, length-reverse, reverse-append}
use Rattle.std.proofs.lemmas.List.{get_or-reverse, get_or-map, map-append, get_or_push}
use Rattle.std.proofs.lemmas.List.Elements.{All-from_recursion, recursion_from_All}
use Rattle.std.proofs.lemmas.List.Kept.{AllPairs-cons}
use Rattle.std.proofs.lemmas.Option.{slice_get-get_or}
use Rattle.std.proofs.lemmas.Bool.{false≢true}
use Rattle.std.proofs.lemmas.Bool.Decides.{nat_tests}
use Rattle.reuse_tree.specs.Head.{IsSoundHead, FitsDirection, PendingFits, listed, last_of}
use Rattle.reuse_tree.specs.declared.journal.head.Head.{Head}
use Rattle.reuse_journal.specs.Journal.{Recorded, Journal}
use Rattle.reuse_journal.specs.JournalFiles.{number_of, head_of}
use Rattle.reuse_journal.specs.Labels.{is_full}
use Rattle.reuse_journal.specs.CommittedState.{JournalTransition}
use Rattle.reuse_tree.specs.declared.journal.head.Pending.{Pending}
use Rattle.reuse_tree.specs.declared.journal.head.PendingDirection.{PendingDirection}
use Rattle.reuse_tree.specs.declared.journal.head.PendingDirection.TheVariants.{Do, Undo, Redo}

-- ---- what holds of each number that is listed

all_split : (P : ℕ → Type 0) (a b : List ℕ) → AllByRecursion P (a ++ b) → AllByRecursion P a × AllByRecursion P b
all_split P [] b all = (tt, all)
all_split P (x ∷ a) b all = let rest = all_split P a b all.1 in ((all.0, rest.0), rest.1)

all_joined : (P : ℕ → Type 0) (a b : List ℕ) → AllByRecursion P a → AllByRecursion P b → AllByRecursion P (a ++ b)
all_joined P [] b tt all = all
all_joined P (x ∷ a) b front all = (front.0, all_joined P a b front.1 all)

-- the numbers of steps, the newest last
abbrev numbers : List Recorded → List ℕ
numbers steps = map number_of (reverse steps)

each_step : (P : ℕ → Type 0) (steps : List Recorded) → All P (numbers steps) → All (λ step. P (number_of step)) steps
each_step P steps all k d within =
    let n : ℕ = length steps - 1 - k in
    let here : n < length (reverse steps) = omega (arith, length-reverse steps) in
    let back : get_or (reverse steps) n d ≡ get_or steps k d =
    get_or-reverse steps n d (omega arith) ∙ ap (λ m. get_or steps m d) (omega arith) in
    subst P (get_or-map number_of (reverse steps) n d (number_of d) here ∙ ap number_of back)
    (all n (number_of d) (omega (arith, here, length-map (reverse steps) number_of)))

-- what holds of each number that the head lists holds of each step
pub each_listed : (P : ℕ → Type 0) (journal : Journal) (p : Option Pending) → All P (listed (head_of journal p))
    → All (λ step. P (number_of step)) journal.done × All (λ step. P (number_of step)) journal.undone
each_listed P journal p all =
    let parts = all_split P (numbers journal.done) (numbers journal.undone)
    (recursion_from_All P (listed (head_of journal p)) all) in (
      each_step P journal.done (All-from_recursion P (numbers journal.done) parts.0),
      each_step P journal.undone (All-from_recursion P (numbers journal.undone) parts.1),
    )

numbers_more : (step : Recorded) (steps : List Recorded) → numbers (step ∷ steps) ≡ numbers steps ++ number_of step ∷ []
numbers_more step steps =
    ap (map number_of) (reverse-append (step ∷ []) steps) ∙ map-append number_of (reverse steps) (step ∷ [])

-- ---- distinct numbers

abbrev Apart : List ℕ → Type 0
Apart [] = Unit {0}
Apart (x ∷ xs) = AllByRecursion (λ y. x ≢ y) xs × Apart xs

apart_from : (xs : List ℕ) → AllPairs (λ m n. m ≢ n) xs → Apart xs
apart_from [] pairs = tt
apart_from (x ∷ xs) pairs = (
  recursion_from_All (λ y. x ≢ y) xs (λ k d within. pairs 0 (suc k) d (omega arith) (omega arith)),
  apart_from xs (λ i j d before within. pairs (suc i) (suc j) d (omega arith) (omega arith)),
)

pairs_from : (xs : List ℕ) → Apart xs → AllPairs (λ m n. m ≢ n) xs
pairs_from [] apart = λ i j d before within. absurd (omega arith)
pairs_from (x ∷ xs) apart =
    AllPairs-cons (λ m n. m ≢ n) x xs (All-from_recursion (λ y. x ≢ y) xs apart.0) (pairs_from xs apart.1)

flipped : (x : ℕ) (xs : List ℕ) → AllByRecursion (λ y. x ≢ y) xs → AllByRecursion (λ y. y ≢ x) xs
flipped x [] all = tt
flipped x (y ∷ xs) all = (λ same. all.0 (sym same), flipped x xs all.1)

apart_push : (xs : List ℕ) (x : ℕ) → AllByRecursion (λ y. y ≢ x) xs → Apart xs → Apart (xs ++ x ∷ [])
apart_push [] x new apart = (tt, tt)
apart_push (y ∷ xs) x new apart =
    (all_joined (λ z. y ≢ z) xs (x ∷ []) apart.0 (new.0, tt), apart_push xs x new.1 apart.1)

apart_pushed : (xs : List ℕ) (x : ℕ) → Apart (xs ++ x ∷ []) → AllByRecursion (λ y. x ≢ y) xs × Apart xs
apart_pushed [] x apart = (tt, tt)
apart_pushed (y ∷ xs) x apart =
    let front = all_split (λ z. y ≢ z) xs (x ∷ []) apart.0 in
    let rest = apart_pushed xs x apart.1 in
    ((λ same. front.1.0 (sym same), rest.0), (front.0, rest.1))

apart_front : (a b : List ℕ) → Apart (a ++ b) → Apart a
apart_front [] b apart = tt
apart_front (x ∷ a) b apart = ((all_split (λ y. x ≢ y) a b apart.0).0, apart_front a b apart.1)

-- ---- a number that goes to the end, or comes from there

all_later : (P : ℕ → Type 0) (a b : List ℕ) (x : ℕ) → AllByRecursion P (a ++ x ∷ b)
    → AllByRecursion P (a ++ (b ++ x ∷ []))
all_later P a b x all =
    let parts = all_split P a (x ∷ b) all in
    all_joined P a (b ++ x ∷ []) parts.0 (all_joined P b (x ∷ []) parts.1.1 (parts.1.0, tt))

all_sooner : (P : ℕ → Type 0) (a b : List ℕ) (x : ℕ) → AllByRecursion P (a ++ (b ++ x ∷ []))
    → AllByRecursion P (a ++ x ∷ b)
all_sooner P a b x all =
    let parts = all_split P a (b ++ x ∷ []) all in
    let rest = all_split P b (x ∷ []) parts.1 in
    all_joined P a (x ∷ b) parts.0 (rest.1.0, rest.0)

apart_later : (a b : List ℕ) (x : ℕ) → Apart (a ++ x ∷ b) → Apart (a ++ (b ++ x ∷ []))
apart_later [] b x apart = apart_push b x (flipped x b apart.0) apart.1
apart_later (y ∷ a) b x apart = (all_later (λ z. y ≢ z) a b x apart.0, apart_later a b x apart.1)

apart_sooner : (a b : List ℕ) (x : ℕ) → Apart (a ++ (b ++ x ∷ [])) → Apart (a ++ x ∷ b)
apart_sooner [] b x apart = apart_pushed b x apart
apart_sooner (y ∷ a) b x apart = (all_sooner (λ z. y ≢ z) a b x apart.0, apart_sooner a b x apart.1)

-- ---- heads

same_length : (a b : List ℕ) (x : ℕ) → length (a ++ (b ++ x ∷ [])) ≡ length (a ++ x ∷ b)
same_length a b x = omega (arith, length-append a (b ++ x ∷ []), length-append a (x ∷ b), length-append b (x ∷ []))

-- heads that list the same numbers, of which one stands elsewhere
module _ (old new : Head) (a b : List ℕ) (x : ℕ) (next : new.next ≡ old.next) (settled : new.pending ≡ None)
    (sound : IsSoundHead old) where
  in_bounds : AllByRecursion (λ n. (1 ≤ n) × (n < old.next)) (listed old)
  in_bounds = recursion_from_All (λ n. (1 ≤ n) × (n < old.next)) (listed old) sound.given_out

  head_with : (length (listed new) ≡ length (listed old)) → AllByRecursion (λ n. (1 ≤ n) × (n < old.next)) (listed new)
      → Apart (listed new) → IsSoundHead new
  head_with same bounds apart = record {
    next = (omega (arith, next, sound.next), omega (arith, next, sound.next));
    few = omega (arith, same, sound.few);
    given_out = subst (λ m. All (λ n. (1 ≤ n) × (n < m)) (listed new)) (sym next)
        (All-from_recursion (λ n. (1 ≤ n) × (n < old.next)) (listed new) bounds);
    distinct = pairs_from (listed new) apart;
    pending = subst (λ p. PendingFits p new.next new.done new.undone) (sym settled) tt;
  }

  later_sound : listed old ≡ a ++ x ∷ b → listed new ≡ a ++ (b ++ x ∷ []) → IsSoundHead new
  later_sound was is = head_with
      (ap length is ∙ same_length a b x ∙ sym (ap length was))
      (subst (AllByRecursion (λ n. (1 ≤ n) × (n < old.next))) (sym is) (all_later (λ n. (1 ≤ n) × (n < old.next)) a b x
      (subst (AllByRecursion (λ n. (1 ≤ n) × (n < old.next))) was in_bounds)))
      (subst Apart (sym is) (apart_later a b x (subst Apart was (apart_from (listed old) sound.distinct))))

  sooner_sound : listed old ≡ a ++ (b ++ x ∷ []) → listed new ≡ a ++ x ∷ b → IsSoundHead new
  sooner_sound was is = head_with
      (ap length is ∙ sym (same_length a b x) ∙ sym (ap length was))
      (subst (AllByRecursion (λ n. (1 ≤ n) × (n < old.next))) (sym is) (all_sooner (λ n. (1 ≤ n) × (n < old.next)) a b x
      (subst (AllByRecursion (λ n. (1 ≤ n) × (n < old.next))) was in_bounds)))
      (subst Apart (sym is) (apart_sooner a b x (subst Apart was (apart_from (listed old) sound.distinct))))

pub sound_unpended : (journal : Journal) (p : Option Pending) → IsSoundHead (head_of journal p)
    → IsSoundHead (head_of journal None)
sound_unpended journal p sound = record {
  next = sound.next;
  few = sound.few;
  given_out = sound.given_out;
  distinct = sound.distinct;
  pending = tt;
}

last_number : (steps more : List Recorded) (step : Recorded) → steps ≡ step ∷ more
    → last_of (numbers steps) ≡ Some (number_of step)
last_number steps more step is =
    ap (λ s. last_of (numbers s)) is ∙ ap last_of (numbers_more step more) ∙ last (numbers more) (number_of step)
  where
    last : (ns : List ℕ) (n : ℕ) → last_of (ns ++ n ∷ []) ≡ Some n
    last ns n =
        let size = length-append ns (n ∷ []) in
        slice_get-get_or (ns ++ n ∷ []) (length (ns ++ n ∷ []) - 1) 0 (omega arith)
        ∙ ap Some (get_or_push ns n 0 (length (ns ++ n ∷ []) - 1) (omega arith))

pub sound_pending : (journal new : Journal) (direction : PendingDirection) (step : Recorded)
    → IsSoundHead (head_of journal None) → JournalTransition direction step journal new
    → number_of step ≤ 999_999
    → IsSoundHead (head_of journal (Some (record { entry = number_of step; direction = direction })))
sound_pending journal new direction step sound mutations low = record {
  next = sound.next;
  few = sound.few;
  given_out = sound.given_out;
  distinct = sound.distinct;
  pending = fits direction mutations;
}
  where
    fits : (direction : PendingDirection) → JournalTransition direction step journal new
        → FitsDirection (number_of step) direction (journal.used + 1) (numbers journal.done) (numbers journal.undone)
    fits Do mutations = (mutations.0, low)
    fits Undo (steps, was, is) = last_number journal.done steps step was
    fits Redo (steps, was, is) = last_number journal.undone steps step was

pub below : (done used : ℕ) → is_full done used ≡ false → (done < 4096) × (used < 999_999)
below done used room = of_tests (leb 4096 done) refl (leb 999_999 used) refl room
  where
    of_tests : (a : Bool) → leb 4096 done ≡ a → (b : Bool) → leb 999_999 used ≡ b → (a || b) ≡ false
        → (done < 4096) × (used < 999_999)
    of_tests true is_a b is_b e = absurd (false≢true (sym e))
    of_tests false is_a true is_b e = absurd (false≢true (sym e))
    of_tests false is_a false is_b e = (grind (arith, nat_tests), grind (arith, nat_tests))

-- the head after a new entry
done_sound : (old : Journal) (step : Recorded) → IsSoundHead (head_of old None) → number_of step ≡ old.used + 1
    → is_full (length old.done) old.used ≡ false
    → IsSoundHead (head_of (record { done = step ∷ old.done; undone = []; used = old.used + 1 }) None)
done_sound old step sound is room = record {
  next = (omega arith, omega (arith, not_full.1));
  few = omega (
    arith,
    ap length list,
    length-append (numbers old.done) (number_of step ∷ []),
    length-map (reverse old.done) number_of,
    length-reverse old.done,
    not_full.0,
  );
  given_out = subst (All (λ n. (1 ≤ n) × (n < old.used + 1 + 1))) (sym list)
      (All-from_recursion (λ n. (1 ≤ n) × (n < old.used + 1 + 1)) (numbers old.done ++ number_of step ∷ [])
      (all_joined (λ n. (1 ≤ n) × (n < old.used + 1 + 1)) (numbers old.done) (number_of step ∷ [])
      (higher (numbers old.done) bounds) ((omega arith, omega arith), tt)));
  distinct = subst (AllPairs (λ m n. m ≢ n)) (sym list)
      (pairs_from (numbers old.done ++ number_of step ∷ []) (apart_push (numbers old.done) (number_of step)
      (others (numbers old.done) bounds) (apart_front (numbers old.done) (numbers old.undone)
      (apart_from (listed (head_of old None)) sound.distinct))));
  pending = tt;
}
  where
    list : numbers (step ∷ old.done) ++ [] ≡ numbers old.done ++ number_of step ∷ []
    list = append-nil (numbers (step ∷ old.done)) ∙ numbers_more step old.done

    not_full : (length old.done < 4096) × (old.used < 999_999)
    not_full = below (length old.done) old.used room

    bounds : AllByRecursion (λ n. (1 ≤ n) × (n < old.used + 1)) (numbers old.done)
    bounds = (all_split (λ n. (1 ≤ n) × (n < old.used + 1)) (numbers old.done) (numbers old.undone)
        (recursion_from_All (λ n. (1 ≤ n) × (n < old.used + 1)) (listed (head_of old None)) sound.given_out)).0

    higher : (ns : List ℕ) → AllByRecursion (λ n. (1 ≤ n) × (n < old.used + 1)) ns
        → AllByRecursion (λ n. (1 ≤ n) × (n < old.used + 1 + 1)) ns
    higher [] all = tt
    higher (n ∷ ns) all = ((all.0.0, omega (arith, all.0.1)), higher ns all.1)

    others : (ns : List ℕ) → AllByRecursion (λ n. (1 ≤ n) × (n < old.used + 1)) ns
        → AllByRecursion (λ n. n ≢ number_of step) ns
    others [] all = tt
    others (n ∷ ns) all = (λ same. omega (arith, all.0.1, same, is), others ns all.1)

pub sound_moved : (old new : Journal) (direction : PendingDirection) (step : Recorded) → IsSoundHead (head_of old None)
    → JournalTransition direction step old new
    → (direction ≡ Do → is_full (length old.done) old.used ≡ false) → IsSoundHead (head_of new None)
sound_moved old new Do step sound mutations room =
    subst (λ j. IsSoundHead (head_of j None)) (sym mutations.1) (done_sound old step sound mutations.0 (room refl))
sound_moved old new Undo step sound (steps, was, is) room =
    let after : Journal = record { done = steps; undone = step ∷ old.undone; used = old.used } in
    subst (λ j. IsSoundHead (head_of j None)) (sym is)
    (later_sound (head_of old None) (head_of after None) (numbers steps) (numbers old.undone)
    (number_of step) refl refl sound
    (ap (λ ns. ns ++ numbers old.undone) (ap numbers was ∙ numbers_more step steps)
    ∙ append_assoc (numbers steps) (number_of step ∷ []) (numbers old.undone))
    (ap (λ ns. numbers steps ++ ns) (numbers_more step old.undone)))
sound_moved old new Redo step sound (steps, was, is) room =
    let after : Journal = record { done = step ∷ old.done; undone = steps; used = old.used } in
    subst (λ j. IsSoundHead (head_of j None)) (sym is)
    (sooner_sound (head_of old None) (head_of after None) (numbers old.done) (numbers steps)
    (number_of step) refl refl sound
    (ap (λ ns. numbers old.done ++ ns) (ap numbers was ∙ numbers_more step steps))
    (ap (λ ns. ns ++ numbers steps) (numbers_more step old.done)
    ∙ append_assoc (numbers old.done) (number_of step ∷ []) (numbers steps)))
