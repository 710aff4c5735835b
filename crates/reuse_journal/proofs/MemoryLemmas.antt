-- What a session remembers of a journal.
use Rattle.std.proofs.Common.{◌≡◌, ◌↔◌, ◌+◌, true, false, List, [], ◌∷◌, ◌++◌, length, map, reverse, Option, refl, sym}
use Rattle.std.proofs.Common.{ap, ap₂, ◌∙◌, arith}
use Rattle.std.proofs.lemmas.List.{length-append, length-map, length-reverse, reverse-append, reverse-reverse}
use Rattle.std.proofs.lemmas.List.{map-append, same_from_push, nil_from_length}
use Rattle.reuse_journal.specs.History.{Memory, head_listing, row_listing, rows_listing, entries_ahead}
use Rattle.reuse_journal.specs.Journal.{Recorded, Journal, ahead, rows_in}
use Rattle.reuse_journal.specs.JournalFiles.{head_of}
use Rattle.reuse_journal.specs.Remembered.{listed_as, Remembers, listed_count}
use Rattle.reuse_change.specs.declared.direction.Direction.{Direction}
use Rattle.reuse_change.specs.declared.direction.Direction.TheVariants.{Forward, Backward}
use Rattle.reuse_journal.specs.declared.history.ListedEntry.{ListedEntry}
use Rattle.reuse_tree.specs.declared.journal.head.Head.{Head}
use Rattle.reuse_tree.specs.declared.journal.head.Pending.{Pending}

map_twice : {X Y Z : Type 0} (f : Y → Z) (g : X → Y) (xs : List X) → map f (map g xs) ≡ map (λ x. f (g x)) xs
map_twice f g [] = refl
map_twice f g (x ∷ xs) = ap (λ ys. f (g x) ∷ ys) (map_twice f g xs)

pub reverse_map : {X Y : Type 0} (f : X → Y) (xs : List X) → reverse (map f xs) ≡ map f (reverse xs)
reverse_map f [] = refl
reverse_map f (x ∷ xs) =
    reverse-append (f x ∷ []) (map f xs) ∙ ap (λ ys. ys ++ f x ∷ []) (reverse_map f xs)
    ∙ sym (map-append f (reverse xs) (x ∷ [])) ∙ ap (map f) (sym (reverse-append (x ∷ []) xs))

pub head_of_parts : (a b : Head) → a.done ≡ b.done → a.undone ≡ b.undone → a.next ≡ b.next
    → a.pending ≡ b.pending → a ≡ b
head_of_parts a b d u n p = λ i. record { done = d i; undone = u i; next = n i; pending = p i }

pub listing_of : (memory : Memory) (journal : Journal) (p : Option Pending) → Remembers memory journal
    → head_listing memory p ≡ head_of journal p
listing_of memory journal p remembers = head_of_parts (head_listing memory p) (head_of journal p)
    (ap (map (λ (entry : ListedEntry). entry.number)) remembers.done
    ∙ map_twice (λ (entry : ListedEntry). entry.number) listed_as (reverse journal.done))
    (ap (map (λ (entry : ListedEntry). entry.number)) remembers.undone
    ∙ map_twice (λ (entry : ListedEntry). entry.number) listed_as (reverse journal.undone))
    (ap (λ used. used + 1) remembers.used) refl

pub rows_of_memory : (memory : Memory) (journal : Journal) → Remembers memory journal
    → rows_listing memory ≡ rows_in journal
rows_of_memory memory journal remembers = ap₂ ◌++◌
    (ap (map (row_listing true)) remembers.done ∙ map_twice (row_listing true) listed_as (reverse journal.done))
    (ap (λ entries. map (row_listing false) (reverse entries)) remembers.undone
    ∙ ap (map (row_listing false))
    (reverse_map listed_as (reverse journal.undone) ∙ ap (map listed_as) (reverse-reverse journal.undone))
    ∙ map_twice (row_listing false) listed_as journal.undone)

-- entries that are listed as steps, the newest last
last_step : (entries : List ListedEntry) (steps : List Recorded) (entry : ListedEntry) (front : List ListedEntry)
    → entries ≡ map listed_as (reverse steps) → entries ≡ front ++ entry ∷ []
    → (step : Recorded) × (more : List Recorded) × (steps ≡ step ∷ more) × (entry ≡ listed_as step)
    × (front ≡ map listed_as (reverse more))
last_step entries [] entry front are last =
    absurd (omega (arith, ap length are, ap length last, length-append front (entry ∷ [])))
last_step entries (step ∷ more) entry front are last =
    let both = same_from_push front (map listed_as (reverse more)) entry (listed_as step)
    (sym last ∙ are ∙ ap (map listed_as) (reverse-append (step ∷ []) more)
    ∙ map-append listed_as (reverse more) (step ∷ [])) in
    (step, more, refl, both.1, both.0)

count_listed : (entries : List ListedEntry) (steps : List Recorded) → entries ≡ map listed_as (reverse steps)
    → length entries ≡ length steps
count_listed entries steps are = ap length are ∙ length-map (reverse steps) listed_as ∙ length-reverse steps

none_listed : (entries : List ListedEntry) (steps : List Recorded) → entries ≡ map listed_as (reverse steps)
    → (entries ≡ []) ↔ (steps ≡ [])
none_listed entries steps are = (
  λ none. nil_from_length steps (sym (count_listed entries steps are) ∙ ap length none),
  λ none. nil_from_length entries (count_listed entries steps are ∙ ap length none),
)

-- the entries that a way goes on with are listed as its steps
ahead_listed : (direction : Direction) (memory : Memory) (journal : Journal) → Remembers memory journal
    → entries_ahead direction memory ≡ map listed_as (reverse (ahead direction journal))
ahead_listed Backward memory journal remembers = remembers.done
ahead_listed Forward memory journal remembers = remembers.undone

-- the next of them, as a step
pub next_step : (direction : Direction) (memory : Memory) (journal : Journal) (entry : ListedEntry)
    (front : List ListedEntry) → Remembers memory journal → entries_ahead direction memory ≡ front ++ entry ∷ []
    → (step : Recorded) × (steps : List Recorded) × (ahead direction journal ≡ step ∷ steps) × (entry ≡ listed_as step)
    × (front ≡ map listed_as (reverse steps))
next_step direction memory journal entry front remembers last =
    last_step (entries_ahead direction memory) (ahead direction journal) entry front
    (ahead_listed direction memory journal remembers) last

pub none_ahead : (direction : Direction) (memory : Memory) (journal : Journal) → Remembers memory journal
    → (entries_ahead direction memory ≡ []) ↔ (ahead direction journal ≡ [])
none_ahead direction memory journal remembers = none_listed (entries_ahead direction memory) (ahead direction journal)
    (ahead_listed direction memory journal remembers)

pub count_done : (memory : Memory) (journal : Journal) → Remembers memory journal
    → length memory.done ≡ length journal.done
count_done memory journal remembers = count_listed memory.done journal.done remembers.done

-- as many entries are listed as the journal has steps
pub counted : (memory : Memory) (journal : Journal) → Remembers memory journal
    → listed_count memory ≡ length journal.done + length journal.undone
counted memory journal r =
    ap (λ es. length es + length memory.undone) r.done
    ∙ ap (λ es. length (map listed_as (reverse journal.done)) + length es) r.undone
    ∙ omega (
      arith,
      length-map (reverse journal.done) listed_as,
      length-reverse journal.done,
      length-map (reverse journal.undone) listed_as,
      length-reverse journal.undone,
    )
