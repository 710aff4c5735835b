-- A step by its number: what is remembered of it, and what its entry says.
use Rattle.std.proofs.Common.{◌≡◌, ◌⊎◌, inl, inr, ℕ, zero, suc, ◌<◌, Bool, true, false, cond, ◌==◌, ◌||◌, eqb-true}
use Rattle.std.proofs.Common.{eq-eqb, List, [], ◌∷◌, length, map, reverse, get_or, Option, Some, None, is_some, refl}
use Rattle.std.proofs.Common.{sym, ap, subst, ◌∙◌, arith}
use Rattle.std.specs.List.{All, Contains}
use Rattle.std.specs.FinMap.{get}
use Rattle.std.proofs.lemmas.Bool.{false≢true, or_parts}
use Rattle.std.proofs.lemmas.Option.{none-some, same_Some}
use Rattle.std.proofs.lemmas.List.{reverse-append, reverse-reverse}
use Rattle.std.proofs.lemmas.List.Elements.{Contains-get_or, Contains-push_cases}
use Rattle.std.proofs.lemmas.List.Folds.{list_any_at, Any-from_list_any}
use Rattle.reuse_change.specs.Files.{Files}
use Rattle.reuse_command.specs.Answer.{IsReadRefusal}
use Rattle.reuse_journal.specs.History.{Memory, row_listing}
use Rattle.reuse_journal.specs.Journal.{Recorded, Journal, State}
use Rattle.reuse_journal.specs.JournalFiles.{entry_path, entry_in, number_of, EntrySays, IsKeptIn, KeepsJournal}
use Rattle.reuse_session.specs.session.Machine.{Connects, Kept, Snapshots}
use Rattle.reuse_session.specs.session.Session.{store_of, memory_of, SimulatesState, Simulates, HaveCopies}
use Rattle.reuse_journal.specs.Remembered.{listed_as, Remembers}
use Rattle.reuse_session.specs.session.Showing.{steps_in, kept_in, IsUnused, Shows, ShowsAt, LedBy}
use Rattle.reuse_journal.specs.Numbered.{entry_of, row_among, row_in}
use Rattle.reuse_journal.specs.Numbered.{lists}
use Rattle.reuse_change.specs.Tree.{undo_folder_of}
use Rattle.reuse_journal.specs.declared.history.ListedEntry.{ListedEntry}
use Rattle.reuse_json.specs.declared.entry.Entry.{Entry}
use Rattle.reuse_command.specs.declared.reply.Refusal.{Refusal}
use Rattle.reuse_command.specs.declared.reply.Refusal.TheVariants.{NoSuchStep}
use Rattle.reuse_command.specs.declared.reply.Row.{Row}
use Rattle.reuse_command.specs.declared.reply.Shown.{Shown}
use Rattle.reuse_session.specs.declared.session.Session.{Session}
use Rattle.reuse_session.proofs.lemmas.session.Following.{row_alike}
use Rattle.reuse_journal.proofs.JournalLemmas.{same_entry}

-- ---- lists

-- what a list has is its first element or is among the others
first_or_later : {X : Type 0} (y : X) (xs : List X) (x : X) → Contains (y ∷ xs) x → (y ≡ x) ⊎ Contains xs x
first_or_later {X} y xs x h = at h.0 h.1 h.2
  where
    at : (k : ℕ) → k < length (y ∷ xs) → get_or (y ∷ xs) k x ≡ x → (y ≡ x) ⊎ Contains xs x
    at zero low is = inl is
    at (suc k) low is = inr (k, omega (arith, low), is)

later : {X : Type 0} (y : X) (xs : List X) (x : X) → Contains xs x → Contains (y ∷ xs) x
later y xs x h = (suc h.0, omega (arith, h.1), h.2)

pub in_map : {X Y : Type 0} (f : X → Y) (xs : List X) (y : Y) → Contains (map f xs) y
    → (x : X) × Contains xs x × (y ≡ f x)
in_map f [] y h = absurd (omega (arith, h.1))
in_map f (x ∷ xs) y h = elim (first_or_later (f x) (map f xs) y h) [
  | inl here ↦ (x, (0, omega arith, refl), sym here)
  | inr behind ↦ let r = in_map f xs y behind in (r.0, later x xs r.0 r.1, r.2)
]

pub to_map : {X Y : Type 0} (f : X → Y) (xs : List X) (x : X) → Contains xs x → Contains (map f xs) (f x)
to_map f [] x h = absurd (omega (arith, h.1))
to_map f (y ∷ xs) x h = elim (first_or_later y xs x h) [
  | inl here ↦ (0, omega arith, ap f here)
  | inr behind ↦ later (f y) (map f xs) (f x) (to_map f xs x behind)
]

pub in_reverse : {X : Type 0} (xs : List X) (x : X) → Contains (reverse xs) x → Contains xs x
in_reverse {X} [] x h = absurd (omega (arith, h.1))
in_reverse {X} (y ∷ xs) x h =
    elim (Contains-push_cases (reverse xs) y x (subst (λ l. Contains l x) (reverse-append (y ∷ []) xs) h)) [
      | inl before ↦ later y xs x (in_reverse xs x before)
      | inr same ↦ (0, omega arith, same)
    ]

pub to_reverse : {X : Type 0} (xs : List X) (x : X) → Contains xs x → Contains (reverse xs) x
to_reverse xs x h = in_reverse (reverse xs) x (subst (λ l. Contains l x) (sym (reverse-reverse xs)) h)

-- ---- what is remembered

-- the entries that are done, or those that are undone
abbrev pub listed_in : Bool → Memory → List ListedEntry
listed_in true memory = memory.done
listed_in false memory = memory.undone

found_listed : (entries : List ListedEntry) (number : ℕ) → is_some (entry_of entries number) ≡ lists entries number
found_listed [] number = refl
found_listed (e ∷ entries) number = of_test (e.number == number) (found_listed entries number)
  where
    of_test : (b : Bool) → is_some (entry_of entries number) ≡ lists entries number
        → is_some (cond b (Some e) (entry_of entries number)) ≡ (b || lists entries number)
    of_test true rest = refl
    of_test false rest = rest

some_row : (a b : Option ListedEntry) → is_some (row_among a b) ≡ (is_some a || is_some b)
some_row (Some a) b = refl
some_row None (Some b) = refl
some_row None None = refl

-- a row is found exactly where an entry has the number
pub row_listed : (memory : Memory) (number : ℕ)
    → is_some (row_in memory number) ≡ (lists memory.done number || lists memory.undone number)
row_listed memory number =
    some_row (entry_of memory.done number) (entry_of memory.undone number)
    ∙ ap (λ b. b || is_some (entry_of memory.undone number)) (found_listed memory.done number)
    ∙ ap (λ b. lists memory.done number || b) (found_listed memory.undone number)

found_in : (entries : List ListedEntry) (number : ℕ) (entry : ListedEntry) → entry_of entries number ≡ Some entry
    → Contains entries entry × (entry.number ≡ number)
found_in [] number entry e = absurd (none-some entry e)
found_in (x ∷ entries) number entry e = of_test (x.number == number) refl e (found_in entries number entry)
  where
    of_test : (b : Bool) → (x.number == number) ≡ b → cond b (Some x) (entry_of entries number) ≡ Some entry
        → (entry_of entries number ≡ Some entry → Contains entries entry × (entry.number ≡ number))
        → Contains (x ∷ entries) entry × (entry.number ≡ number)
    of_test true is h rest = let same = same_Some x entry h in
        ((0, omega arith, same), ap (λ (y : ListedEntry). y.number) (sym same) ∙ eqb-true x.number number is)
    of_test false is h rest = let r = rest h in ((suc r.0.0, omega (arith, r.0.1), r.0.2), r.1)

-- the row is that of an entry of the number
pub record IsRowOf (memory : Memory) (number : ℕ) (shown : Row) : Type 0 where
  pub entry : ListedEntry
  pub is_in : Contains (listed_in shown.done memory) entry
  pub numbered : entry.number ≡ number
  pub row : shown ≡ row_listing shown.done entry

pub row_found : (memory : Memory) (number : ℕ) (shown : Row) → row_in memory number ≡ Some shown
    → IsRowOf memory number shown
row_found memory number shown e = by_entry (entry_of memory.done number) (entry_of memory.undone number) refl refl e
  where
    by_entry : (a b : Option ListedEntry) → entry_of memory.done number ≡ a → entry_of memory.undone number ≡ b
        → row_among a b ≡ Some shown → IsRowOf memory number shown
    by_entry (Some a) b is_a is_b h =
        let found = found_in memory.done number a is_a in
        subst (IsRowOf memory number) (same_Some (row_listing true a) shown h)
        (record { entry = a; is_in = found.0; numbered = found.1; row = refl })
    by_entry None (Some b) is_a is_b h =
        let found = found_in memory.undone number b is_b in
        subst (IsRowOf memory number) (same_Some (row_listing false b) shown h)
        (record { entry = b; is_in = found.0; numbered = found.1; row = refl })
    by_entry None None is_a is_b h = absurd (none-some shown h)

pub lists_of : (entries : List ListedEntry) (entry : ListedEntry) (number : ℕ) → Contains entries entry
    → entry.number ≡ number → lists entries number ≡ true
lists_of entries entry number h e =
    list_any_at (λ (x : ListedEntry). x.number == number) entries h.0 entry h.1
    (ap (λ (x : ListedEntry). x.number == number) h.2 ∙ eq-eqb entry.number number e)

-- ---- the steps of a journal

remembered : (memory : Memory) (journal : Journal) → Remembers memory journal → (done : Bool)
    → listed_in done memory ≡ map listed_as (reverse (steps_in done journal))
remembered memory journal remembers true = remembers.done
remembered memory journal remembers false = remembers.undone

-- an entry that is remembered is that of a step
pub step_of : (memory : Memory) (journal : Journal) → Remembers memory journal → (done : Bool) (entry : ListedEntry)
    → Contains (listed_in done memory) entry
    → (step : Recorded) × Contains (steps_in done journal) step × (entry ≡ listed_as step)
step_of memory journal remembers done entry h =
    let found = in_map listed_as (reverse (steps_in done journal)) entry
    (subst (λ es. Contains es entry) (remembered memory journal remembers done) h) in
    (found.0, in_reverse (steps_in done journal) found.0 found.1, found.2)

-- where no entry has the number, no step has it
pub unused : (memory : Memory) (journal : Journal) (number : ℕ) → Remembers memory journal → (done : Bool)
    → lists (listed_in done memory) number ≡ false → IsUnused number (steps_in done journal)
unused memory journal number remembers done none k d low same =
    let steps = steps_in done journal in
    let step = get_or (steps_in done journal) k d in
    let there = to_map listed_as (reverse steps) step (to_reverse steps step (Contains-get_or steps k d low)) in
    let listed = subst (λ es. Contains es (listed_as (get_or (steps_in done journal) k d)))
    (sym (remembered memory journal remembers done)) there in
    false≢true (sym none ∙ lists_of (listed_in done memory) (listed_as step) number listed same)

-- where an entry that is done has it, a step that is done has it
pub done_step : (memory : Memory) (journal : Journal) (number : ℕ) → Remembers memory journal
    → lists memory.done number ≡ true → (step : Recorded) × Contains journal.done step × (number_of step ≡ number)
done_step memory journal number remembers e =
    let found = Any-from_list_any (λ (x : ListedEntry). x.number == number) memory.done e in
    let at = step_of memory journal remembers true found.1 (found.0, found.2, found.3) in
    (at.0, at.1, ap (λ (x : ListedEntry). x.number) (sym at.2) ∙ eqb-true found.1.number number found.4)

kept_steps : (folder : Files) (journal : Journal) → KeepsJournal folder journal None → (done : Bool)
    → All (IsKeptIn folder) (steps_in done journal)
kept_steps folder journal keeps true = keeps.done
kept_steps folder journal keeps false = keeps.undone

-- the file of the number says the step
pub says_step : (folder : Files) (journal : Journal) → KeepsJournal folder journal None
    → (done : Bool) (step : Recorded) (number : ℕ) → Contains (steps_in done journal) step → number_of step ≡ number
    → EntrySays (get folder (entry_path number)) (entry_in step)
says_step folder journal keeps done step number h e =
    subst (λ n. EntrySays (get folder (entry_path n)) (entry_in step)) e
    (subst (IsKeptIn folder) h.2 (kept_steps folder journal keeps done h.0 step h.1))

-- ---- what is shown

module _ {S : Type 0} (files : S → Files) (session : Session S) (held : State)
    (stands : SimulatesState files session held) (number : ℕ) where
  abbrev folder : Files
  folder = undo_folder_of (files (store_of session))

  pub shows : (row : Row) (entry : Entry) → row_in (memory_of session) number ≡ Some row → EntrySays
      (get folder (entry_path number)) entry → (shown : Shown) → shown.row ≡ row → shown.changes ≡ entry.changes
      → Shows held.journal number shown
  shows row entry found says shown is_row is_changes =
      let of = row_found (memory_of session) number shown.row (found ∙ ap (λ r. Some r) (sym is_row)) in
      let at = step_of (memory_of session) held.journal stands.remembers shown.row.done of.entry of.is_in in
      let numbered = ap (λ (x : ListedEntry). x.number) (sym at.2) ∙ of.numbered in
      let same = same_entry (get folder (entry_path number)) entry (entry_in at.0) says
      (says_step folder held.journal stands.committed.journal shown.row.done at.0 number at.1 numbered) in
      record {
        step = at.0;
        is_in = at.1;
        numbered = numbered;
        row = of.row ∙ ap (row_listing shown.row.done) at.2;
        changes = is_changes ∙ ap (λ (x : Entry). x.changes) same;
      }

  pub row_says : (row : Row) → row_in (memory_of session) number ≡ Some row
      → (entry : Entry) × EntrySays (get folder (entry_path number)) entry
  row_says row found =
      let of = row_found (memory_of session) number row found in
      let at = step_of (memory_of session) held.journal stands.remembers row.done of.entry of.is_in in
      let numbered = ap (λ (x : ListedEntry). x.number) (sym at.2) ∙ of.numbered in
      (entry_in at.0, says_step folder held.journal stands.committed.journal row.done at.0 number at.1 numbered)

is_none_of : (o : Option Row) → o ≡ None → is_some o ≡ false
is_none_of o e = ap is_some e

pub none_listed : (memory : Memory) (number : ℕ) → row_in memory number ≡ None
    → (lists memory.done number || lists memory.undone number) ≡ false
none_listed memory number e = sym (row_listed memory number) ∙ is_none_of (row_in memory number) e

pub some_listed : (memory : Memory) (number : ℕ) (row : Row) → row_in memory number ≡ Some row
    → (lists memory.done number || lists memory.undone number) ≡ true
some_listed memory number row e = sym (row_listed memory number) ∙ ap is_some e

pub unused_both : (memory : Memory) (journal : Journal) (number : ℕ) → Remembers memory journal
    → row_in memory number ≡ None → IsUnused number journal.done × IsUnused number journal.undone
unused_both memory journal number remembers e =
    let none = or_parts (lists memory.done number) (lists memory.undone number) (none_listed memory number e) in
    (unused memory journal number remembers true none.0, unused memory journal number remembers false none.1)

-- reading an entry is never refused as a step that isn't there
pub read_is_no_absence : (refusal : Refusal) → IsReadRefusal refusal → (number : ℕ) → refusal ≡ NoSuchStep number → ⊥
read_is_no_absence refusal is number e = subst IsReadRefusal e is

-- ---- the model

-- a step has its copies
pub copies_of : (steps : List Recorded) (copies : List Kept) → HaveCopies steps copies → (step : Recorded)
    → Contains steps step
    → (kept : Kept) × Contains copies kept × (kept.label ≡ step.label) × Connects step.changes kept.before kept.after
copies_of [] copies have step h = absurd (omega (arith, h.1))
copies_of (s ∷ steps) [] have step h = absurd have
copies_of (s ∷ steps) (kept ∷ others) have step h = elim (first_or_later s steps step h) [
  | inl same ↦ (
    kept,
    (0, omega arith, refl),
    have.0 ∙ ap (λ (x : Recorded). x.label) same,
    subst (λ (x : Recorded). Connects x.changes kept.before kept.after) same have.1,
  )
  | inr behind ↦ let r = copies_of steps others have.2 step behind in (r.0, later kept others r.0 r.1, r.2, r.3)
]

led_by : (number : ℕ) (step : Recorded) (steps : List Recorded) (copies : List Kept) → HaveCopies steps copies
    → Contains steps step → number_of step ≡ number → LedBy number copies step.changes
led_by number step steps copies have h e =
    let r = copies_of steps copies have step h in
    record { kept = r.0; is_in = r.1; numbered = ap (λ l. l.number) r.2 ∙ e; connects = r.3 }

-- no step that is kept has the number
pub unkept : (number : ℕ) (steps : List Recorded) (copies : List Kept) → HaveCopies steps copies → IsUnused number steps
    → All (λ (kept : Kept). ¬ (kept.label.number ≡ number)) copies
unkept number steps copies have none k d low same = at steps copies have none k low same
  where
    at : (steps : List Recorded) (copies : List Kept) → HaveCopies steps copies → IsUnused number steps → (k : ℕ)
        → k < length copies → (get_or copies k d).label.number ≡ number → ⊥
    at [] [] have none k low same = omega (arith, low)
    at [] (kept ∷ others) have none k low same = have
    at (s ∷ steps) [] have none k low same = have
    at (s ∷ steps) (kept ∷ others) have none zero low same =
        none 0 s (omega arith) (sym (ap (λ l. l.number) have.0) ∙ same)
    at (s ∷ steps) (kept ∷ others) have none (suc k) low same =
        at steps others have.2 (λ i x lt. none (suc i) x (omega (arith, lt))) k (omega (arith, low)) same

module _ (held : State) (state : Snapshots) (holds : Simulates held state) where
  pub led_to_tree : (step : Recorded) (number : ℕ) → Contains held.journal.done step → number_of step ≡ number
      → LedBy number state.past step.changes
  led_to_tree step number h e = led_by number step held.journal.done state.past holds.past h e

  copies_in : (is_done : Bool) → HaveCopies (steps_in is_done held.journal) (kept_in is_done state)
  copies_in true = holds.past
  copies_in false = holds.future

  -- what is shown is of the model
  pub shows_at : (number : ℕ) (shown : Shown) → Shows held.journal number shown → ShowsAt state number shown
  shows_at number shown found =
      let r = copies_of (steps_in shown.row.done held.journal) (kept_in shown.row.done state)
      (copies_in shown.row.done) found.step found.is_in in
      record {
        step = record {
          kept = r.0;
          is_in = r.1;
          numbered = ap (λ l. l.number) r.2 ∙ found.numbered;
          connects = subst (λ cs. Connects cs r.0.before r.0.after) (sym found.changes) r.3;
        };
        row = found.row ∙ row_alike shown.row.done found.step r.0 r.2 r.3;
      }
