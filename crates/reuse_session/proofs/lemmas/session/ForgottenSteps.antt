-- Forgetting, on lists: numbers, entries and steps, and the head of those that are left.
use Rattle.std.proofs.Common.{◌≡◌, ◌≢◌, ◌⊎◌, inl, inr, ⊎_elim, ℕ, zero, suc, ◌+◌, ◌<◌, ◌≤◌, Bool, true, false, not}
use Rattle.std.proofs.Common.{cond, ◌||◌, ◌==◌, eqb-true, eq-eqb, List, [], ◌∷◌, ◌++◌, length, map, reverse, get_or}
use Rattle.std.proofs.Common.{Some, None, refl, sym, ap, ap₂, subst, ◌∙◌, arith}
use Rattle.std.specs.List.{All, AllPairs, Contains, filter, find, list_any}
use Rattle.std.proofs.lemmas.Bool.{false≢true}
use Rattle.std.proofs.lemmas.Option.{none-some}
use Rattle.std.proofs.lemmas.List.{append-nil, reverse-append}
use Rattle.std.proofs.lemmas.List.Elements.{All-contains, All-filter, Contains-append_left, Contains-append_right}
use Rattle.std.proofs.lemmas.List.Elements.{filter-append}
use Rattle.std.proofs.lemmas.List.Filters.{length-filter_both}
use Rattle.std.proofs.lemmas.List.Folds.{list_any-append, list_any_at, Any-from_list_any}
use Rattle.std.proofs.lemmas.List.Kept.{AllPairs-filter}
use Rattle.reuse_tree.specs.Head.{IsSoundHead, listed}
use Rattle.reuse_session.specs.session.Forgetting.{has_step, first_absent, numbers_in}
use Rattle.reuse_journal.specs.Numbered.{is_one_of, is_listed, first_unlisted, entries_besides, memory_besides}
use Rattle.reuse_journal.specs.Numbered.{all_numbers, steps_besides, journal_besides}
use Rattle.reuse_journal.specs.History.{Memory, head_listing}
use Rattle.reuse_journal.specs.Journal.{Recorded, Journal}
use Rattle.reuse_journal.specs.JournalFiles.{number_of, head_of}
use Rattle.reuse_journal.specs.Remembered.{listed_as, Remembers}
use Rattle.reuse_journal.specs.Numbered.{lists}
use Rattle.reuse_journal.specs.declared.history.ListedEntry.{ListedEntry}
use Rattle.reuse_journal.proofs.MemoryLemmas.{listing_of}
use Rattle.reuse_session.proofs.lemmas.session.StepsByNumber.{to_map}

-- ---- numbers

pub one_of : (numbers : List ℕ) (number : ℕ) → Contains numbers number → is_one_of numbers number ≡ true
one_of numbers number h =
    list_any_at (λ other. other == number) numbers h.0 number h.1 (eq-eqb (get_or numbers h.0 number) number h.2)

pub is_in : (numbers : List ℕ) (number : ℕ) → is_one_of numbers number ≡ true → Contains numbers number
is_in numbers number e =
    let found = Any-from_list_any (λ other. other == number) numbers e in
    subst (Contains numbers) (eqb-true found.1 number found.4) (found.0, found.2, found.3)

-- either holds
pub or_true : (a b : Bool) → (a || b) ≡ true → (a ≡ true) ⊎ (b ≡ true)
or_true true b e = inl refl
or_true false b e = inr e

-- ---- filters

filter_of_map : {X Y : Type 0} (f : X → Y) (p : Y → Bool) (xs : List X)
    → filter p (map f xs) ≡ map f (filter (λ x. p (f x)) xs)
filter_of_map f p [] = refl
filter_of_map {X} {Y} f p (x ∷ xs) = at (p (f x)) (filter_of_map f p xs)
  where
    at : (b : Bool) → filter p (map f xs) ≡ map f (filter (λ y. p (f y)) xs)
        → cond b (f x ∷ filter p (map f xs)) (filter p (map f xs)) ≡ map f
        (cond b (x ∷ filter (λ y. p (f y)) xs) (filter (λ y. p (f y)) xs))
    at true rest = ap (λ ys. f x ∷ ys) rest
    at false rest = rest

filter_of_reverse : {X : Type 0} (p : X → Bool) (xs : List X) → filter p (reverse xs) ≡ reverse (filter p xs)
filter_of_reverse p [] = refl
filter_of_reverse {X} p (x ∷ xs) =
    ap (filter p) (reverse-append (x ∷ []) xs) ∙ filter-append p (reverse xs) (x ∷ [])
    ∙ ap (λ ys. ys ++ filter p (x ∷ [])) (filter_of_reverse p xs) ∙ at (p x)
  where
    at : (b : Bool) → reverse (filter p xs) ++ cond b (x ∷ []) [] ≡ reverse (cond b (x ∷ filter p xs) (filter p xs))
    at true = sym (reverse-append (x ∷ []) (filter p xs))
    at false = append-nil (reverse (filter p xs))

-- a filter that each element passes, or none
pub filter_whole : {X : Type 0} (p : X → Bool) (xs : List X) → ((x : X) → Contains xs x → p x ≡ true) → filter p xs ≡ xs
filter_whole p [] all = refl
filter_whole {X} p (x ∷ xs) all =
    ap (λ b. cond b (x ∷ filter p xs) (filter p xs)) (all x (0, omega arith, refl))
    ∙ ap (λ ys. x ∷ ys) (filter_whole p xs (λ y h. all y (suc h.0, omega (arith, h.1), h.2)))

pub filter_nothing : {X : Type 0} (p : X → Bool) (xs : List X) → ((x : X) → Contains xs x → p x ≡ false)
    → filter p xs ≡ []
filter_nothing p [] none = refl
filter_nothing {X} p (x ∷ xs) none =
    ap (λ b. cond b (x ∷ filter p xs) (filter p xs)) (none x (0, omega arith, refl))
    ∙ filter_nothing p xs (λ y h. none y (suc h.0, omega (arith, h.1), h.2))

-- what `find` doesn't find fails the test
find_none : {X : Type 0} (p : X → Bool) (xs : List X) → find p xs ≡ None → (x : X) → Contains xs x → p x ≡ false
find_none p [] e x h = absurd (omega (arith, h.1))
find_none {X} p (y ∷ xs) e x h = at (p y) refl e (find_none p xs)
  where
    by_place : (k : ℕ) → k < length (y ∷ xs) → get_or (y ∷ xs) k x ≡ x → p y ≡ false
        → ((x : X) → Contains xs x → p x ≡ false) → p x ≡ false
    by_place zero low is first rest = ap p (sym is) ∙ first
    by_place (suc k) low is first rest = rest x (k, omega (arith, low), is)

    at : (b : Bool) → p y ≡ b → cond b (Some y) (find p xs) ≡ None
        → (find p xs ≡ None → (x : X) → Contains xs x → p x ≡ false) → p x ≡ false
    at true is none rest = absurd (none-some y (sym none))
    at false is none rest = by_place h.0 h.1 h.2 is (rest none)

-- ---- steps and entries

any_of_map : {X Y : Type 0} (f : X → Y) (p : Y → Bool) (xs : List X)
    → list_any p (map f xs) ≡ list_any (λ x. p (f x)) xs
any_of_map f p [] = refl
any_of_map f p (x ∷ xs) = ap (λ b. p (f x) || b) (any_of_map f p xs)

any_of_reverse : {X : Type 0} (p : X → Bool) (xs : List X) → list_any p (reverse xs) ≡ list_any p xs
any_of_reverse p [] = refl
any_of_reverse {X} p (x ∷ xs) =
    ap (list_any p) (reverse-append (x ∷ []) xs) ∙ list_any-append p (reverse xs) (x ∷ [])
    ∙ ap (λ b. b || (p x || false)) (any_of_reverse p xs) ∙ swap (list_any p xs) (p x)
  where
    swap : (a b : Bool) → (a || (b || false)) ≡ (b || a)
    swap true true = refl
    swap true false = refl
    swap false true = refl
    swap false false = refl

lists_steps : (steps : List Recorded) (number : ℕ)
    → lists (map listed_as (reverse steps)) number ≡ list_any (λ (step : Recorded). number_of step == number) steps
lists_steps steps number = any_of_map listed_as (λ (entry : ListedEntry). entry.number == number) (reverse steps)
    ∙ any_of_reverse (λ (step : Recorded). number_of step == number) steps

-- an entry has the number exactly where a step has it
listed_as_steps : (memory : Memory) (journal : Journal) → Remembers memory journal → (number : ℕ)
    → is_listed memory number ≡ has_step journal number
listed_as_steps memory journal r number = ap₂ (λ a b. a || b)
    (ap (λ es. lists es number) r.done ∙ lists_steps journal.done number)
    (ap (λ es. lists es number) r.undone ∙ lists_steps journal.undone number)

pub first_is : (memory : Memory) (journal : Journal) → Remembers memory journal → (numbers : List ℕ)
    → first_unlisted memory numbers ≡ first_absent journal numbers
first_is memory journal r numbers = λ i. find (λ number. not (listed_as_steps memory journal r number i)) numbers

besides_listed : (numbers : List ℕ) (steps : List Recorded)
    → entries_besides numbers (map listed_as (reverse steps)) ≡ map listed_as (reverse (steps_besides numbers steps))
besides_listed numbers steps =
    filter_of_map listed_as (λ (entry : ListedEntry). not (is_one_of numbers entry.number)) (reverse steps)
    ∙ ap (map listed_as) (filter_of_reverse (λ (step : Recorded). not (is_one_of numbers (number_of step))) steps)

pub remembers_besides : (numbers : List ℕ) (memory : Memory) (journal : Journal) → Remembers memory journal
    → Remembers (memory_besides numbers memory) (journal_besides numbers journal)
remembers_besides numbers memory journal r = record {
  done = ap (entries_besides numbers) r.done ∙ besides_listed numbers journal.done;
  undone = ap (entries_besides numbers) r.undone ∙ besides_listed numbers journal.undone;
  used = r.used;
}

-- ---- heads

-- the head without some entries is sound
module _ (numbers : List ℕ) (memory : Memory) (sound : IsSoundHead (head_listing memory None)) where
  abbrev stays : ℕ → Bool
  stays n = not (is_one_of numbers n)

  abbrev old : List ℕ
  old = listed (head_listing memory None)

  are : listed (head_listing (memory_besides numbers memory) None) ≡ filter stays old
  are =
      sym (filter-append stays (map (λ (entry : ListedEntry). entry.number) memory.done)
      (map (λ (entry : ListedEntry). entry.number) memory.undone)
      ∙ ap₂ (λ a b. a ++ b) (filter_of_map (λ (entry : ListedEntry). entry.number) stays memory.done)
      (filter_of_map (λ (entry : ListedEntry). entry.number) stays memory.undone))

  pub sound_besides : IsSoundHead (head_listing (memory_besides numbers memory) None)
  sound_besides = record {
    next = sound.next;
    few = omega (arith, ap length are, length-filter_both stays (λ n. not (stays n)) (λ n. refl) old, sound.few);
    given_out = subst (All (λ n. (1 ≤ n) × (n < memory.used + 1))) (sym are)
        (All-filter stays (λ n. (1 ≤ n) × (n < memory.used + 1)) old sound.given_out);
    distinct = subst (AllPairs (λ m n. m ≢ n)) (sym are) (AllPairs-filter (λ m n. m ≢ n) stays old sound.distinct);
    pending = tt;
  }

pub sound_listing : (memory : Memory) (journal : Journal) → Remembers memory journal
    → IsSoundHead (head_of journal None) → IsSoundHead (head_listing memory None)
sound_listing memory journal r sound = subst IsSoundHead (sym (listing_of memory journal None r)) sound

-- the numbers of entries
entry_numbers : (entries : List ListedEntry) (number : ℕ) → lists entries number ≡ true
    → Contains (map (λ (entry : ListedEntry). entry.number) entries) number
entry_numbers entries number e = is_in (map (λ (entry : ListedEntry). entry.number) entries) number
    (any_of_map (λ (entry : ListedEntry). entry.number) (λ other. other == number) entries ∙ e)

in_head : (memory : Memory) (number : ℕ) → is_listed memory number ≡ true
    → Contains (listed (head_listing memory None)) number
in_head memory number e = ⊎_elim
    (λ (done : lists memory.done number ≡ true). Contains-append_left _ _ _ (entry_numbers memory.done number done))
    (λ (undone : lists memory.undone number ≡ true). Contains-append_right _ _ _
    (entry_numbers memory.undone number undone))
    (or_true (lists memory.done number) (lists memory.undone number) e)

not_false : (b : Bool) → not b ≡ false → b ≡ true
not_false true e = refl
not_false false e = absurd (false≢true (sym e))

-- where none is missing, each number is given out
pub each_given_out : (memory : Memory) (numbers : List ℕ) → IsSoundHead (head_listing memory None)
    → first_unlisted memory numbers ≡ None → (number : ℕ) → Contains numbers number → number < 1_000_000
each_given_out memory numbers sound none number h =
    let given =
    All-contains (λ n. (1 ≤ n) × (n < memory.used + 1)) (listed (head_listing memory None)) number sound.given_out
    (in_head memory number
    (not_false (is_listed memory number) (find_none (λ n. not (is_listed memory n)) numbers none number h))) in
    omega (arith, given.1, sound.next.1)

-- ---- all of them

-- none is missing of all numbers
pub all_listed : (memory : Memory) → first_unlisted memory (all_numbers memory) ≡ None
all_listed memory = found_none (all_numbers memory) (λ number h. ap not (listed_all number h))
  where
    found_none : (numbers : List ℕ) → ((number : ℕ) → Contains numbers number → not (is_listed memory number) ≡ false)
        → find (λ n. not (is_listed memory n)) numbers ≡ None
    found_none [] all = refl
    found_none (n ∷ numbers) all =
        ap (λ b. cond b (Some n) (find (λ m. not (is_listed memory m)) numbers)) (all n (0, omega arith, refl))
        ∙ found_none numbers (λ m h. all m (suc h.0, omega (arith, h.1), h.2))

    listed_all : (number : ℕ) → Contains (all_numbers memory) number → is_listed memory number ≡ true
    listed_all number h =
        let of_done = any_of_map (λ (entry : ListedEntry). entry.number) (λ other. other == number) memory.done in
        let of_undone = any_of_map (λ (entry : ListedEntry). entry.number) (λ other. other == number) memory.undone in
        sym (list_any-append (λ other. other == number) (map (λ (entry : ListedEntry). entry.number) memory.done)
        (map (λ (entry : ListedEntry). entry.number) memory.undone) ∙ ap₂ (λ a b. a || b) of_done of_undone)
        ∙ one_of (all_numbers memory) number h

-- no entry is left without all
pub none_besides_all : (memory : Memory) → memory_besides (all_numbers memory) memory ≡ record {
  done = [];
  undone = [];
  used = memory.used;
}
none_besides_all memory = λ i. record {
  done = left memory.done (λ number h. Contains-append_left _ _ number h) i;
  undone = left memory.undone (λ number h. Contains-append_right _ _ number h) i;
  used = memory.used;
}
  where
    left : (entries : List ListedEntry) → ((number : ℕ)
        → Contains (map (λ (entry : ListedEntry). entry.number) entries) number → Contains (all_numbers memory) number)
        → entries_besides (all_numbers memory) entries ≡ []
    left entries among =
        filter_nothing (λ (entry : ListedEntry). not (is_one_of (all_numbers memory) entry.number)) entries (λ entry h.
        ap not (one_of (all_numbers memory) entry.number
        (among entry.number (to_map (λ (e : ListedEntry). e.number) entries entry h))))

-- they are the numbers of all steps
pub numbers_of_all : (memory : Memory) (journal : Journal) → Remembers memory journal
    → all_numbers memory ≡ numbers_in journal
numbers_of_all memory journal r = ap listed (listing_of memory journal None r)
