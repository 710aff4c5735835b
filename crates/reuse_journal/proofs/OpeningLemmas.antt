-- What is read of a journal: the entries of a head stand for one journal.
use Rattle.std.proofs.Common.{◌≡◌, inl, inr, ℕ, ◌+◌, List, [], ◌∷◌, ◌++◌, length, map, reverse, Option, Some, None}
use Rattle.std.proofs.Common.{IsSome, is_some, codes, refl, sym, ap, subst, ◌∙◌, arith}
use Rattle.std.specs.List.{All, AllZip}
use Rattle.std.specs.FinMap.{get}
use Rattle.std.proofs.lemmas.Bool.{false≢true}
use Rattle.std.proofs.lemmas.List.{reverse-reverse, reverse-append, length-append, length-map, length-reverse}
use Rattle.std.proofs.lemmas.List.Elements.{All-nil, All-cons, All-head, All-tail, All-push, All-append, All-map}
use Rattle.std.proofs.lemmas.List.Elements.{All-weaker, All-contains, Contains-get_or, Contains-append_right}
use Rattle.reuse_change.specs.Path.{journal_folder}
use Rattle.reuse_change.specs.Files.{Files}
use Rattle.reuse_tree.specs.Head.{listed}
use Rattle.reuse_journal.specs.History.{Memory}
use Rattle.reuse_journal.specs.Journal.{Recorded, Journal}
use Rattle.reuse_journal.specs.JournalFiles.{head_path, entry_path, head_of, number_of, entry_in, HeadSays, EntrySays}
use Rattle.reuse_journal.specs.JournalFiles.{IsKeptIn, KeepsJournal}
use Rattle.reuse_journal.specs.Opening.{named, pending_numbers, IsReadable, IsListedIn, IsFirstBad, IsRead}
use Rattle.reuse_journal.specs.Remembered.{listed_as, listed_count, Remembers}
use Rattle.reuse_change.specs.Tree.{undo_folder_of}
use Rattle.reuse_journal.specs.declared.history.ListedEntry.{ListedEntry}
use Rattle.reuse_json.specs.declared.entry.Entry.{Entry}
use Rattle.reuse_tree.specs.declared.journal.head.Head.{Head}
use Rattle.reuse_tree.specs.declared.journal.head.Pending.{Pending}
use Rattle.reuse_tree.proofs.HeadParts.{one_head}
use Rattle.reuse_journal.proofs.JournalLemmas.{same_entry}
use Rattle.reuse_journal.proofs.MemoryLemmas.{counted}

-- ---- lists

All-reverse : {X : Type 0} (P : X → Type 0) (xs : List X) → All P xs → All P (reverse xs)
All-reverse P [] all = All-nil P
All-reverse P (x ∷ xs) all =
    subst (All P) (sym (reverse-append (x ∷ []) xs))
    (All-push P (reverse xs) x (All-reverse P xs (All-tail P x xs all)) (All-head P x xs all))

All-behind : {X : Type 0} (P : X → Type 0) (xs ys : List X) → All P (xs ++ ys) → All P ys
All-behind P xs ys all k d lt =
    All-contains P (xs ++ ys) _ all (Contains-append_right xs ys _ (Contains-get_or ys k d lt))

-- ---- the steps of a head

-- an entry as a step
abbrev pub recorded : ℕ → Entry → Recorded
recorded number entry = record {
  label = record { number = number; when = entry.when; command = entry.command };
  changes = entry.changes;
}

steps_from : (folder : Files) (numbers : List ℕ) (entries : List ListedEntry)
    → AllZip (IsListedIn folder) numbers entries
    → (steps : List Recorded) × (numbers ≡ map number_of steps) × (entries ≡ map listed_as steps)
    × All (IsKeptIn folder) steps
steps_from folder [] [] all = ([], refl, refl, All-nil (IsKeptIn folder))
steps_from folder [] (e ∷ es) all = absurd all
steps_from folder (n ∷ ns) [] all = absurd all
steps_from folder (n ∷ ns) (e ∷ es) all =
    let more = steps_from folder ns es all.1 in
    let step = recorded n all.0.0 in (
      step ∷ more.0,
      ap (λ xs. n ∷ xs) more.1,
      ap (λ x. x ∷ es) all.0.2 ∙ ap (λ xs. listed_as step ∷ xs) more.2,
      All-cons (IsKeptIn folder) step more.0 all.0.1 more.3,
    )

-- the head and its entries are those of a journal
pub read_from : (files : Files) (head : Head) (memory : Memory) → get files (codes ".reuse") ≡ None
    → get files journal_folder ≡ None
    → HeadSays (get (undo_folder_of files) head_path) head
    → AllZip (IsListedIn (undo_folder_of files)) head.done memory.done
    → AllZip (IsListedIn (undo_folder_of files)) head.undone memory.undone
    → All (IsReadable (undo_folder_of files)) (named head) → memory.used + 1 ≡ head.next
    → (journal : Journal) × IsRead files head.pending memory journal
read_from files head memory no_reuse no_undo says done undone readable next =
    let folder = undo_folder_of files in
    let d = steps_from folder head.done memory.done done in
    let u = steps_from folder head.undone memory.undone undone in
    let journal : Journal = record { done = reverse d.0; undone = reverse u.0; used = memory.used } in
    let done_numbers : map number_of (reverse journal.done) ≡ head.done =
    ap (map number_of) (reverse-reverse d.0) ∙ sym d.1 in
    let undone_numbers : map number_of (reverse journal.undone) ≡ head.undone =
    ap (map number_of) (reverse-reverse u.0) ∙ sym u.1 in
    let same : head_of journal head.pending ≡ head =
    ap (λ xs. record {
      done = xs;
      undone = map number_of (reverse journal.undone);
      next = memory.used + 1;
      pending = head.pending;
    }) done_numbers
    ∙ ap (λ xs. record { done = head.done; undone = xs; next = memory.used + 1; pending = head.pending }) undone_numbers
    ∙ ap (λ n. record { done = head.done; undone = head.undone; next = n; pending = head.pending }) next in (
      journal,
      record {
        no_reuse = no_reuse;
        no_undo = no_undo;
        keeps = record {
          head = subst (HeadSays (get folder head_path)) (sym same) says;
          done = All-reverse (IsKeptIn folder) d.0 d.3;
          undone = All-reverse (IsKeptIn folder) u.0 u.3;
        };
        readable = All-behind (IsReadable folder) (listed head) (pending_numbers head.pending) readable;
        remembers = record {
          done = d.2 ∙ ap (map listed_as) (sym (reverse-reverse d.0));
          undone = u.2 ∙ ap (map listed_as) (sym (reverse-reverse u.0));
          used = refl;
        };
      },
    )

-- ---- a folder has one journal

pub same_head : (file : Option (List ℕ)) (a b : Head) → HeadSays file a → HeadSays file b → a ≡ b
same_head None a b is_a is_b = is_a ∙ sym is_b
same_head (Some text) a b is_a is_b = one_head text a b is_a is_b

pub same_step : (a b : Recorded) → number_of a ≡ number_of b → entry_in a ≡ entry_in b → a ≡ b
same_step a b number entry = ap (λ n. recorded n (entry_in a)) number ∙ ap (recorded (number_of b)) entry

same_steps : (folder : Files) (a b : List Recorded) → map number_of a ≡ map number_of b → All (IsKeptIn folder) a
    → All (IsKeptIn folder) b → a ≡ b
same_steps folder [] [] e is_a is_b = refl
same_steps folder [] (y ∷ b) e is_a is_b = absurd (cc)
same_steps folder (x ∷ a) [] e is_a is_b = absurd (cc)
same_steps folder (x ∷ a) (y ∷ b) e is_a is_b =
    let number : number_of x ≡ number_of y = cc in
    let behind : map number_of a ≡ map number_of b = cc in
    let kept_x = All-head (IsKeptIn folder) x a is_a in
    let kept_y = subst (λ n. EntrySays (get folder (entry_path n)) (entry_in y)) (sym number)
    (All-head (IsKeptIn folder) y b is_b) in
    let here =
    same_step x y number (same_entry (get folder (entry_path (number_of x))) (entry_in x) (entry_in y) kept_x kept_y) in
    let more =
    same_steps folder a b behind (All-tail (IsKeptIn folder) x a is_a) (All-tail (IsKeptIn folder) y b is_b) in
    ap (λ s. s ∷ a) here ∙ ap (λ s. y ∷ s) more

-- of steps in the other order too
same_reversed : (folder : Files) (a b : List Recorded) → map number_of (reverse a) ≡ map number_of (reverse b)
    → All (IsKeptIn folder) a → All (IsKeptIn folder) b → a ≡ b
same_reversed folder a b e is_a is_b =
    sym (reverse-reverse a)
    ∙ ap reverse (same_steps folder (reverse a) (reverse b) e (All-reverse (IsKeptIn folder) a is_a)
    (All-reverse (IsKeptIn folder) b is_b))
    ∙ reverse-reverse b

pub same_journal : (folder : Files) (a b : Journal) (p q : Option Pending) → KeepsJournal folder a p
    → KeepsJournal folder b q → (a ≡ b) × (p ≡ q)
same_journal folder a b p q is_a is_b =
    let heads = same_head (get folder head_path) (head_of a p) (head_of b q) is_a.head is_b.head in
    let done = same_reversed folder a.done b.done (ap (λ h. h.done) heads) is_a.done is_b.done in
    let undone = same_reversed folder a.undone b.undone (ap (λ h. h.undone) heads) is_a.undone is_b.undone in
    let next : a.used + 1 ≡ b.used + 1 = ap (λ h. h.next) heads in
    let used : a.used ≡ b.used = omega arith in (
      ap (λ steps. record { done = steps; undone = a.undone; used = a.used }) done
          ∙ ap (λ steps. record { done = b.done; undone = steps; used = a.used }) undone
          ∙ ap (λ n. record { done = b.done; undone = b.undone; used = n }) used,
      ap (λ h. h.pending) heads,
    )

-- ---- a journal without fault

-- each entry that the head of a kept journal names can be read
all_readable : (folder : Files) (journal : Journal) (p : Option Pending) → KeepsJournal folder journal p
    → All (IsReadable folder) (pending_numbers p)
    → All (IsReadable folder) (named (head_of journal p))
all_readable folder journal p keeps readable =
    All-append (IsReadable folder) (listed (head_of journal p)) (pending_numbers p)
    (All-append (IsReadable folder) (map number_of (reverse journal.done)) (map number_of (reverse journal.undone))
    (of_steps journal.done keeps.done) (of_steps journal.undone keeps.undone))
    readable
  where
    of_steps : (steps : List Recorded) → All (IsKeptIn folder) steps
        → All (IsReadable folder) (map number_of (reverse steps))
    of_steps steps kept =
        All-map (IsReadable folder) number_of (reverse steps)
        (All-weaker (IsKeptIn folder) (λ step. IsReadable folder (number_of step)) (λ step says. (entry_in step, says))
        (reverse steps) (All-reverse (IsKeptIn folder) steps kept))

pub no_file_there : (files : Files) (path other : List ℕ) → get files other ≡ None → path ≡ other
    → IsSome (get files path) → ⊥
no_file_there files path other none here some = false≢true (sym (ap is_some (ap (λ p. get files p) here ∙ none)) ∙ some)

-- then no path is at fault
pub none_bad : (files : Files) (journal : Journal) (p : Option Pending) → get files (codes ".reuse") ≡ None
    → get files journal_folder ≡ None
    → KeepsJournal (undo_folder_of files) journal p → All (IsReadable (undo_folder_of files)) (pending_numbers p)
    → (path : List ℕ) → IsFirstBad files path → ⊥
none_bad files journal p no_reuse no_undo keeps readable path (inl file) =
    no_file_there files path (codes ".reuse") no_reuse file.0 file.1
none_bad files journal p no_reuse no_undo keeps readable path (inr (inl file)) =
    no_file_there files path journal_folder no_undo file.1 file.2
none_bad files journal p no_reuse no_undo keeps readable path (inr (inr (above, inl head))) =
    head.1 (head_of journal p) keeps.head
none_bad files journal p no_reuse no_undo keeps readable path (inr (inr (above, inr bad))) =
    let folder = undo_folder_of files in
    let first = bad.2 in
    let same = same_head (get folder head_path) bad.0 (head_of journal p) bad.1 keeps.head in
    let all =
    subst (λ h. All (IsReadable folder) (named h)) (sym same) (all_readable folder journal p keeps readable) in
    first.2.unreadable (All-contains (IsReadable folder) (named bad.0) first.0 all first.2.among)

-- as many entries are remembered as the head lists
pub as_many_listed : (folder : Files) (journal : Journal) (p : Option Pending) (memory : Memory) (head : Head)
    → KeepsJournal folder journal p → Remembers memory journal → HeadSays (get folder head_path) head
    → listed_count memory ≡ length (listed head)
as_many_listed folder journal p memory head keeps remembers says =
    let same : head ≡ head_of journal p = same_head (get folder head_path) head (head_of journal p) says keeps.head in
    let done = map number_of (reverse journal.done) in
    let undone = map number_of (reverse journal.undone) in
    counted memory journal remembers
    ∙ omega (
      arith,
      length-append done undone,
      length-map (reverse journal.done) number_of,
      length-reverse journal.done,
      length-map (reverse journal.undone) number_of,
      length-reverse journal.undone,
    )
    ∙ ap (λ h. length (listed h)) (sym same)
