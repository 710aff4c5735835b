-- The files of the journal: their paths, what a change of one of them leaves, and when they keep a journal.
use Rattle.std.proofs.Common.{◌≡◌, ◌≢◌, ◌⊎◌, inl, inr, ⊎_elim, ℕ, ◌+◌, ◌*◌, ◌/◌, ◌%◌, ◌<◌, ◌≤◌, Bool, false, true, not}
use Rattle.std.proofs.Common.{cond, ◌||◌, nat_eq, List, ◌∷◌, ◌++◌, codes, drop, get_or, Option, Some, None, IsSome}
use Rattle.std.proofs.Common.{is_some, refl, sym, ap, ◌∙◌, subst, append_assoc, arith}
use Rattle.std.specs.List.{All, list_any}
use Rattle.std.proofs.lemmas.Bool.{false≢true, or_from}
use Rattle.std.proofs.lemmas.Bool.Decides.{nat_tests}
use Rattle.std.proofs.lemmas.List.Elements.{All-cons, All-tail, All-nil}
use Rattle.std.specs.FinMap.{get}
use Rattle.reuse_change.specs.Path.{lies_under, journal_folder}
use Rattle.reuse_change.specs.Files.{Files, Clashes, tree_of}
use Rattle.reuse_change.proofs.FileMaps.{same_files, same_or_other}
use Rattle.reuse_change.specs.Entry.{IsEntry}
use Rattle.reuse_tree.specs.Head.{IsGoodHead, IsSoundHead}
use Rattle.reuse_journal.specs.Journal.{Recorded, Journal}
use Rattle.reuse_journal.specs.JournalFiles.{digit, six_digits, head_path, entry_path, IsJournalPath, IsFree, HeadSays}
use Rattle.reuse_journal.specs.JournalFiles.{EntrySays, entry_in, number_of, IsKeptIn, empty_head, head_of}
use Rattle.reuse_journal.specs.JournalFiles.{KeepsJournal}
use Rattle.reuse_journal.specs.Remembered.{IsSameBut}
use Rattle.reuse_journal.specs.CommittedState.{IsTree, JournalTransition}
use Rattle.reuse_change.specs.Tree.{undo_folder_of, Sets}
use Rattle.reuse_json.specs.declared.entry.Entry.{Entry}
use Rattle.reuse_tree.specs.declared.journal.head.Pending.{Pending}
use Rattle.reuse_tree.specs.declared.journal.head.PendingDirection.{PendingDirection}
use Rattle.reuse_tree.specs.declared.journal.head.PendingDirection.TheVariants.{Do, Undo, Redo}
use Rattle.reuse_tree.specs.declared.journal.head.Head.{Head}
use Rattle.reuse_store.proofs.TreeLemmas.{tree_file}
use Rattle.reuse_change.proofs.ListingLemmas.{under_from_test, test_from_under}
use Rattle.reuse_tree.proofs.EntryParts.{one_entry}
use Rattle.reuse_journal.proofs.HeadTransition.{each_listed}
use Rattle.reuse_store.proofs.OfTree.{fronts, slash_inside, above_journal, get-folder}

-- ---- their paths

pub entry_path_is_not_head : (n : ℕ) → entry_path n ≢ head_path
entry_path_is_not_head n same =
    let first : 48 + n / 100_000 % 10 ≡ 104 = ap (λ path. get_or path 12 0) same in
    absurd (omega arith)

-- a number below a million, by its digits
by_digits : (n : ℕ) → n < 1_000_000
    → n ≡ 100_000 * (n / 100_000 % 10) + 10_000 * (n / 10_000 % 10) + 1_000 * (n / 1_000 % 10) + 100 * (n / 100 % 10)
    + 10 * (n / 10 % 10) + n / 1 % 10
by_digits n low =
    let a : n / 100_000 ≡ n / 100_000 % 10 = omega arith in
    let b : n / 10_000 ≡ 10 * (n / 100_000) + n / 10_000 % 10 = omega arith in
    let c : n / 1_000 ≡ 10 * (n / 10_000) + n / 1_000 % 10 = omega arith in
    let d : n / 100 ≡ 10 * (n / 1_000) + n / 100 % 10 = omega arith in
    let e : n / 10 ≡ 10 * (n / 100) + n / 10 % 10 = omega arith in
    let f : n ≡ 10 * (n / 10) + n / 1 % 10 = omega arith in
    omega (arith, a, b, c, d, e, f)

pub entry_path_once : (m n : ℕ) → m < 1_000_000 → n < 1_000_000 → entry_path m ≡ entry_path n → m ≡ n
entry_path_once m n low high e =
    let digits : (place : ℕ) → digit m place ≡ digit n place → m / place % 10 ≡ n / place % 10 =
    λ place same. omega (arith, same) in
    let a = digits 100_000 (ap (λ path. get_or path 12 0) e) in
    let b = digits 10_000 (ap (λ path. get_or path 13 0) e) in
    let c = digits 1_000 (ap (λ path. get_or path 14 0) e) in
    let d = digits 100 (ap (λ path. get_or path 15 0) e) in
    let f = digits 10 (ap (λ path. get_or path 16 0) e) in
    let g = digits 1 (ap (λ path. get_or path 17 0) e) in
    omega (arith, by_digits m low, by_digits n high, a, b, c, d, f, g)

pub head_in_folder : lies_under head_path journal_folder ≡ true
head_in_folder = refl

pub entry_in_folder : (n : ℕ) → lies_under (entry_path n) journal_folder ≡ true
entry_in_folder n = refl

no_slash : (d : ℕ) → nat_eq (48 + d) 47 ≡ false
no_slash d = grind (arith, nat_tests)

name_of_entry : (n : ℕ) → list_any (λ byte. nat_eq byte 47) (six_digits n ++ codes ".json") ≡ false
name_of_entry n =
    or_from _ _ (no_slash (n / 100_000 % 10))
    (or_from _ _ (no_slash (n / 10_000 % 10)) (or_from _ _ (no_slash (n / 1_000 % 10))
    (or_from _ _ (no_slash (n / 100 % 10))
    (or_from _ _ (no_slash (n / 10 % 10)) (or_from _ _ (no_slash (n / 1 % 10)) refl)))))

-- the path is that of the head, or one that an entry of some number would have
abbrev pub IsLikeJournalPath : List ℕ → Type 0
IsLikeJournalPath path = (path ≡ head_path) ⊎ ((number : ℕ) × (path ≡ entry_path number))

pub like : (path : List ℕ) → IsJournalPath path → IsLikeJournalPath path
like path (inl is) = inl is
like path (inr is) = inr (is.0, is.3)

-- such a path is the folder, a slash, and a name without one
name_in : (path : List ℕ) → IsLikeJournalPath path
    → (name : List ℕ) × (path ≡ journal_folder ++ 47 ∷ name) × (list_any (λ byte. nat_eq byte 47) name ≡ false)
name_in path (inl is) = (codes "head.json", is, refl)
name_in path (inr is) = (six_digits is.0 ++ codes ".json", is.1, name_of_entry is.0)

no_folder : (name front x : List ℕ) → list_any (λ byte. nat_eq byte 47) name ≡ false → name ≡ front ++ 47 ∷ x → ⊥
no_folder name front x none is =
    false≢true (sym none ∙ ap (list_any (λ byte. nat_eq byte 47)) is ∙ slash_inside front x)

in_folder : (path : List ℕ) → IsLikeJournalPath path → lies_under path journal_folder ≡ true
in_folder path is = let parts = name_in path is in test_from_under path journal_folder (parts.0, parts.1)

-- none is a folder of another
pub paths_apart : (p q : List ℕ) → IsLikeJournalPath p → IsLikeJournalPath q → lies_under p q ≡ false
paths_apart p q is_p is_q = test (lies_under p q) refl
  where
    test : (b : Bool) → lies_under p q ≡ b → lies_under p q ≡ false
    test false e = e
    test true e =
        let a = name_in p is_p in
        let b = name_in q is_q in
        let below = under_from_test p q e in
        let whole : journal_folder ++ 47 ∷ a.0 ≡ journal_folder ++ 47 ∷ (b.0 ++ 47 ∷ below.0) =
        sym a.1 ∙ below.1 ∙ ap (λ path. path ++ 47 ∷ below.0) b.1
        ∙ append_assoc journal_folder (47 ∷ b.0) (47 ∷ below.0) in
        absurd (no_folder a.0 b.0 below.0 a.2 (ap (drop 12) whole))

-- ---- the folder of the journal

-- where the folders above it are no files, a path of the journal clashes only with a file beneath it
pub clash_beneath : (files : Files) (path : List ℕ) → IsTree (tree_of files) → IsLikeJournalPath path
    → Clashes files path
    → (other : List ℕ) × IsSome (get (undo_folder_of files) other) × (lies_under other path ≡ true)
clash_beneath files path tree is clash = test (lies_under clash.other path) refl
  where
    name : (name : List ℕ) × (path ≡ journal_folder ++ 47 ∷ name) × (list_any (λ byte. nat_eq byte 47) name ≡ false)
    name = name_in path is

    absent : (folder : List ℕ) → clash.other ≡ folder → lies_under folder journal_folder ≡ false
        → get (tree_of files) folder ≡ None → ⊥
    absent folder here outside none =
        let there : get files folder ≡ None =
        ap (λ b. cond (not b) (get files folder) None) (sym outside) ∙ sym (tree_file files folder) ∙ none in
        false≢true (ap is_some (sym there) ∙ ap (λ p. is_some (get files p)) (sym here) ∙ clash.is_file)

    above : lies_under path clash.other ≡ true → ⊥
    above e =
        let over = under_from_test path clash.other e in
        ⊎_elim (λ (same : clash.other ≡ journal_folder). absent journal_folder same refl tree.no_undo)
        (λ r. ⊎_elim
        (λ (u : (z : List ℕ) × (clash.other ≡ journal_folder ++ 47 ∷ z)).
        let whole : journal_folder ++ 47 ∷ name.0 ≡ journal_folder ++ 47 ∷ (u.0 ++ 47 ∷ over.0) =
        sym name.1 ∙ over.1 ∙ ap (λ p. p ++ 47 ∷ over.0) u.1 ∙ append_assoc journal_folder (47 ∷ u.0) (47 ∷ over.0) in
        no_folder name.0 u.0 over.0 name.2 (ap (drop 12) whole))
        (λ (u : (z : List ℕ) × (journal_folder ≡ clash.other ++ 47 ∷ z)). absent (codes ".reuse")
        (above_journal clash.other u.0 u.1) refl tree.no_reuse) r)
        (fronts journal_folder clash.other name.0 over.0 (sym name.1 ∙ over.1))

    test : (b : Bool) → lies_under clash.other path ≡ b
        → (other : List ℕ) × IsSome (get (undo_folder_of files) other) × (lies_under other path ≡ true)
    test true e =
        let below = under_from_test clash.other path e in
        let under : lies_under clash.other journal_folder ≡ true =
        test_from_under clash.other journal_folder (
          name.0 ++ 47 ∷ below.0,
          below.1 ∙ ap (λ p. p ++ 47 ∷ below.0) name.1 ∙ append_assoc journal_folder (47 ∷ name.0) (47 ∷ below.0),
        ) in (
          clash.other,
          ap is_some (get-folder files clash.other ∙ ap (λ b. cond b (get files clash.other) None) under)
              ∙ clash.is_file,
          e,
        )
    test false e = absurd (above (sym (ap (λ b. b || lies_under path clash.other) e) ∙ clash.nested))

-- what changes in the folder leaves the tree
pub same_but_in_folder : (files after : Files) (path : List ℕ) → lies_under path journal_folder ≡ true
    → IsSameBut path files after
    → IsSameBut path (undo_folder_of files) (undo_folder_of after) × (tree_of after ≡ tree_of files)
same_but_in_folder files after path under same = (
  λ other ne. get-folder after other ∙ ap (λ file. cond (lies_under other journal_folder) file None) (same other ne)
      ∙ sym (get-folder files other),
  same_files _ _ (λ other.
      tree_file after other ∙ ⊎_elim
      (λ (here : other ≡ path).
      let inside : lies_under other journal_folder ≡ true = ap (λ p. lies_under p journal_folder) here ∙ under in
      ap (λ b. cond (not b) (get after other) None) inside ∙ sym (ap (λ b. cond (not b) (get files other) None) inside))
      (λ (ne : other ≢ path). ap (λ file. cond (not (lies_under other journal_folder)) file None) (same other ne))
      (same_or_other other path)
      ∙ sym (tree_file files other)),
)

pub sets_in_folder : (files after : Files) (path : List ℕ) (file : Option (List ℕ))
    → lies_under path journal_folder ≡ true → Sets path file files after
    → Sets path file (undo_folder_of files) (undo_folder_of after) × (tree_of after ≡ tree_of files)
sets_in_folder files after path file under sets =
    let same = same_but_in_folder files after path under sets.elsewhere in (
      record {
        here = get-folder after path ∙ ap (λ b. cond b (get after path) None) under ∙ sets.here;
        elsewhere = same.0;
      },
      same.1,
    )

pub free_stays : (folder after : Files) (path : List ℕ) → IsLikeJournalPath path → IsSameBut path folder after
    → IsFree folder → IsFree after
free_stays folder after path is same free p other is_p some below = ⊎_elim
    (λ (here : other ≡ path). false≢true
    (sym (ap (λ o. lies_under o p) here ∙ paths_apart path p is (like p is_p)) ∙ below))
    (λ (ne : other ≢ path). free p other is_p (ap is_some (sym (same other ne)) ∙ some) below)
    (same_or_other other path)

-- the file of an entry changes neither the tree nor whether a path of the journal is a folder
pub tree_beside : (files after : Files) (number : ℕ) → IsSameBut (entry_path number) files after
    → tree_of after ≡ tree_of files
tree_beside files after number same =
    (same_but_in_folder files after (entry_path number) (entry_in_folder number) same).1

pub free_beside : (files after : Files) (number : ℕ) → IsSameBut (entry_path number) files after
    → IsFree (undo_folder_of files) → IsFree (undo_folder_of after)
free_beside files after number same free =
    free_stays (undo_folder_of files) (undo_folder_of after) (entry_path number) (inr (number, refl))
    (same_but_in_folder files after (entry_path number) (entry_in_folder number) same).0 free

-- ---- entries

pub same_entry : (file : Option (List ℕ)) (a b : Entry) → EntrySays file a → EntrySays file b → a ≡ b
same_entry None a b is_a is_b = absurd is_a
same_entry (Some text) a b is_a is_b = one_entry text a b is_a is_b

pub entry_good : (file : Option (List ℕ)) (entry : Entry) → EntrySays file entry → IsEntry entry.changes
entry_good None entry is = absurd is
entry_good (Some text) entry is = is.changes

-- ---- the journal that a folder keeps

empty_sound : IsSoundHead empty_head
empty_sound = record {
  next = (omega arith, omega arith);
  few = omega arith;
  given_out = λ k d within. absurd (omega arith);
  distinct = λ i j d before within. absurd (omega arith);
  pending = tt;
}

sound_file : (file : Option (List ℕ)) (head : Head) → HeadSays file head → IsSoundHead head
sound_file None head is = subst IsSoundHead (sym is) empty_sound
sound_file (Some text) head good = good.sound

pub sound_head : (folder : Files) (journal : Journal) (p : Option Pending) → KeepsJournal folder journal p
    → IsSoundHead (head_of journal p)
sound_head folder journal p keeps = sound_file (get folder head_path) (head_of journal p) keeps.head

-- an entry stays where one of a higher number is put
pub kept_beside : (folder after : Files) (step : Recorded) (n : ℕ) {low : ℕ}
    → (1 ≤ number_of step) × (number_of step < low) → low ≤ n → n < 1_000_000 → IsSameBut (entry_path n) folder after
    → IsKeptIn folder step → IsKeptIn after step
kept_beside folder after step n {low} bounds most room same kept =
    let other : entry_path (number_of step) ≢ entry_path n =
    λ is. let e : number_of step ≡ n = entry_path_once (number_of step) n (omega (arith, bounds.1)) room is in
    absurd (omega (arith, bounds.1)) in
    subst (λ file. EntrySays file (entry_in step)) (sym (same (entry_path (number_of step)) other)) kept

-- the file of an entry of a number that isn't used changes nothing
pub keeps_beside_any : (folder after : Files) (journal : Journal) (p : Option Pending) (n : ℕ)
    → KeepsJournal folder journal p → journal.used < n → n < 1_000_000 → IsSameBut (entry_path n) folder after
    → KeepsJournal after journal p
keeps_beside_any folder after journal p n keeps unused room same = record {
  head = subst (λ file. HeadSays file (head_of journal p))
      (sym (same head_path (λ is. entry_path_is_not_head n (sym is)))) keeps.head;
  done = λ k d within. kept_beside folder after _ n (low.0 k d within) (omega arith) room same (keeps.done k d within);
  undone =
      λ k d within. kept_beside folder after _ n (low.1 k d within) (omega arith) room same (keeps.undone k d within);
}
  where
    low : All (λ step. (1 ≤ number_of step) × (number_of step < journal.used + 1)) journal.done
        × All (λ step. (1 ≤ number_of step) × (number_of step < journal.used + 1)) journal.undone
    low = each_listed (λ n. (1 ≤ n) × (n < journal.used + 1)) journal p (sound_head folder journal p keeps).given_out

pub keeps_beside : (folder after : Files) (journal : Journal) → KeepsJournal folder journal None
    → journal.used < 999_999
    → IsSameBut (entry_path (journal.used + 1)) folder after → KeepsJournal after journal None
keeps_beside folder after journal keeps room same =
    keeps_beside_any folder after journal None (journal.used + 1) keeps (omega arith) (omega arith) same

pub kept_stays : (folder after : Files) (step : Recorded) (text : List ℕ) → IsKeptIn folder step
    → Sets head_path (Some text) folder after → IsKeptIn after step
kept_stays folder after step text kept sets =
    subst (λ file. EntrySays file (entry_in step))
    (sym (sets.elsewhere (entry_path (number_of step)) (entry_path_is_not_head (number_of step)))) kept

all_stay : (folder after : Files) (steps : List Recorded) (text : List ℕ) → All (IsKeptIn folder) steps
    → Sets head_path (Some text) folder after → All (IsKeptIn after) steps
all_stay folder after steps text all sets = λ k d within. kept_stays folder after _ text (all k d within) sets

new_head : (folder after : Files) (head : Head) (text : List ℕ) → Sets head_path (Some text) folder after
    → IsGoodHead text head → HeadSays (get after head_path) head
new_head folder after head text sets good = subst (λ file. HeadSays file head) (sym sets.here) good

-- a head that reports what is pending
pub keeps_pending : (folder after : Files) (journal : Journal) (p : Pending) (text : List ℕ)
    → KeepsJournal folder journal None
    → Sets head_path (Some text) folder after → IsGoodHead text (head_of journal (Some p))
    → KeepsJournal after journal (Some p)
keeps_pending folder after journal p text keeps sets good = record {
  head = new_head folder after (head_of journal (Some p)) text sets good;
  done = all_stay folder after journal.done text keeps.done sets;
  undone = all_stay folder after journal.undone text keeps.undone sets;
}

-- the entries that a head lists, beside another head
pub keeps_with_head : (folder after : Files) (journal : Journal) (p : Option Pending) (text : List ℕ)
    → All (IsKeptIn folder) journal.done × All (IsKeptIn folder) journal.undone
    → Sets head_path (Some text) folder after → IsGoodHead text (head_of journal p) → KeepsJournal after journal p
keeps_with_head folder after journal p text kept sets good = record {
  head = new_head folder after (head_of journal p) text sets good;
  done = all_stay folder after journal.done text kept.0 sets;
  undone = all_stay folder after journal.undone text kept.1 sets;
}

-- the entries of the journal after a step are those before it, and the step's
pub kept_moved : (folder : Files) (old new : Journal) (p : Option Pending) (direction : PendingDirection)
    (step : Recorded) → KeepsJournal folder old p → IsKeptIn folder step → JournalTransition direction step old new
    → All (IsKeptIn folder) new.done × All (IsKeptIn folder) new.undone
kept_moved folder old new p direction step keeps kept mutations = lists direction mutations
  where
    of_journal : (journal : Journal) → new ≡ journal → All (IsKeptIn folder) journal.done
        → All (IsKeptIn folder) journal.undone
        → All (IsKeptIn folder) new.done × All (IsKeptIn folder) new.undone
    of_journal journal is done undone = (
      subst (λ j. All (IsKeptIn folder) j.done) (sym is) done,
      subst (λ j. All (IsKeptIn folder) j.undone) (sym is) undone,
    )

    tail_of : (steps more : List Recorded) → steps ≡ step ∷ more → All (IsKeptIn folder) steps
        → All (IsKeptIn folder) more
    tail_of steps more is all = All-tail (IsKeptIn folder) step more (subst (All (IsKeptIn folder)) is all)

    lists : (direction : PendingDirection) → JournalTransition direction step old new
        → All (IsKeptIn folder) new.done × All (IsKeptIn folder) new.undone
    lists Do mutations =
        of_journal _ mutations.1 (All-cons (IsKeptIn folder) step old.done kept keeps.done) (All-nil (IsKeptIn folder))
    lists Undo (steps, was, is) = of_journal _ is (tail_of old.done steps was keeps.done)
        (All-cons (IsKeptIn folder) step old.undone kept keeps.undone)
    lists Redo (steps, was, is) = of_journal _ is (All-cons (IsKeptIn folder) step old.done kept keeps.done)
        (tail_of old.undone steps was keeps.undone)

-- the head after a step
pub keeps_settled : (folder after : Files) (old new : Journal) (p : Option Pending) (direction : PendingDirection)
    (step : Recorded) (text : List ℕ)
    → KeepsJournal folder old p → IsKeptIn folder step → JournalTransition direction step old new
    → Sets head_path (Some text) folder after
    → IsGoodHead text (head_of new None) → KeepsJournal after new None
keeps_settled folder after old new p direction step text keeps kept mutations sets good =
    keeps_with_head folder after new None text
    (kept_moved folder old new p direction step keeps kept mutations) sets good

-- the head as it was before the step
pub keeps_again : (folder after : Files) (journal : Journal) (p : Pending) (text : List ℕ)
    → KeepsJournal folder journal (Some p)
    → Sets head_path (Some text) folder after → IsGoodHead text (head_of journal None) → KeepsJournal after journal None
keeps_again folder after journal p text keeps sets good = record {
  head = new_head folder after (head_of journal None) text sets good;
  done = all_stay folder after journal.done text keeps.done sets;
  undone = all_stay folder after journal.undone text keeps.undone sets;
}
