-- What is pending in a journal is rolled back.
use Rattle.std.proofs.Common.{◌≡◌, ◌⊎◌, inl, inr, ⊎_elim, ℕ, Bool, true, false, not, cond, List, [], Option, Some, None}
use Rattle.std.proofs.Common.{IsSome, is_some, Result, Ok, Err, IfErr, OnOk, MatchResult, codes, refl, sym, ap, subst}
use Rattle.std.proofs.Common.{◌∙◌}
use Rattle.std.specs.FinMap.{get}
use Rattle.std.proofs.lemmas.List.Elements.{All-head}
use Rattle.reuse_change.specs.Path.{lies_under, journal_folder}
use Rattle.reuse_change.specs.Files.{Files, AreFiles, Clashes, tree_of}
use Rattle.reuse_change.specs.declared.change.Change.{Change}
use Rattle.reuse_command.specs.Answer.{IsEarly, IsFailure, IsReadRefusal, IsRollBackRefusal}
use Rattle.reuse_journal.specs.Carried.{SetsHead, IsRolledBack, StopsRollingBack}
use Rattle.reuse_change.specs.Entry.{IsEntry, SomeMade, ArePartlyMade, CanBeRolledBack, IsFirstWithout}
use Rattle.reuse_tree.specs.Head.{direction_of, IsGoodHead, IsSoundHead}
use Rattle.reuse_journal.specs.History.{Memory, head_listing}
use Rattle.reuse_journal.specs.Journal.{Recorded, Journal, State}
use Rattle.reuse_journal.specs.JournalFiles.{head_path, entry_path, head_of, number_of, entry_in, HeadSays, EntrySays}
use Rattle.reuse_journal.specs.JournalFiles.{IsKeptIn, KeepsJournal}
use Rattle.reuse_journal.specs.Opening.{IsReadable, IsRead, IsSettled, IsStuckAt}
use Rattle.reuse_journal.specs.Remembered.{Remembers}
use Rattle.reuse_journal.specs.CommittedState.{IsTree, IsCommittedState, IsPending}
use Rattle.reuse_store.specs.Durable.{IsMidway}
use Rattle.reuse_change.specs.Tree.{is_of_tree, undo_folder_of}
use Rattle.reuse_change.specs.declared.direction.Direction.{Direction}
use Rattle.reuse_json.specs.declared.entry.Entry.{Entry}
use Rattle.reuse_tree.specs.declared.journal.head.Pending.{Pending}
use Rattle.reuse_tree.specs.declared.journal.head.PendingDirection.{PendingDirection}
use Rattle.reuse_store.specs.declared.cause.Cause.{Cause}
use Rattle.reuse_command.specs.declared.reply.Refusal.{Refusal}
use Rattle.reuse_command.specs.declared.failure.Failure.TheVariants as failures
use Rattle.reuse_command.specs.declared.reply.Refusal.TheVariants as refusals
use Rattle.reuse_store.proofs.TreeLemmas.{tree_file, tree_are_files}
use Rattle.reuse_journal.proofs.HeadTransition.{sound_unpended}
use Rattle.reuse_journal.proofs.JournalLemmas.{head_in_folder, same_entry, entry_good, sound_head, keeps_again}
use Rattle.reuse_store.proofs.MadeLemmas.{back_at_start}
use Rattle.reuse_journal.proofs.MemoryLemmas.{listing_of}
use Rattle.reuse_store.proofs.OfTree.{get-folder}
use Rattle.reuse_journal.proofs.OpeningLemmas.{recorded, same_journal}
use Rattle.reuse_change.proofs.Walk.{none_outside}

-- ---- the folders above the journal

pub none_in_tree : (files : Files) (path : List ℕ) → get files path ≡ None → get (tree_of files) path ≡ None
none_in_tree files path none = tree_file files path ∙ at_test (not (lies_under path journal_folder))
  where
    at_test : (b : Bool) → cond b (get files path) None ≡ None
    at_test true = none
    at_test false = refl

pub none_in_files : (files : Files) (path : List ℕ) → lies_under path journal_folder ≡ false
    → get (tree_of files) path ≡ None → get files path ≡ None
none_in_files files path outside none =
    ap (λ b. cond (not b) (get files path) None) (sym outside) ∙ sym (tree_file files path) ∙ none

-- files without those folders are a tree beside the journal
pub is_tree : (files : Files) → AreFiles files → get files (codes ".reuse") ≡ None → get files journal_folder ≡ None
    → IsTree (tree_of files)
is_tree files are no_reuse no_undo = record {
  are_files = tree_are_files files are;
  no_reuse = none_in_tree files (codes ".reuse") no_reuse;
  no_undo = none_in_tree files journal_folder no_undo;
}

-- ---- what is pending

-- where something is pending, the head has a file, and can be put
pub head_fits : (files : Files) (journal : Journal) (pending : Pending) → AreFiles files
    → KeepsJournal (undo_folder_of files) journal (Some pending) → Clashes files head_path → ⊥
head_fits files journal pending are keeps clash = are.apart head_path here clash
  where
    has_file : (file : Option (List ℕ)) → HeadSays file (head_of journal (Some pending)) → IsSome file
    has_file None says = let e = ap (λ h. h.pending) says in absurd (cc)
    has_file (Some text) says = refl

    here : IsSome (get files head_path)
    here = sym (ap is_some (get-folder files head_path ∙ ap (λ b. cond b (get files head_path) None) head_in_folder))
        ∙ has_file (get (undo_folder_of files) head_path) keeps.head

-- a step is still pending where some of its changes are made, beside the files of the journal as they were
pub pending_still : (direction : PendingDirection) (step : Recorded) (first : State) (before after : Files)
    → IsPending direction step first before → IsMidway (direction_of direction) step.changes first.tree
    (undo_folder_of before) after → IsPending direction step first after
pending_still direction step first before after under midway = record {
  good = under.good;
  journal = subst (λ folder. KeepsJournal folder first.journal
      (Some (record { entry = number_of step; direction = direction }))) (sym midway.folder) under.journal;
  kept = subst (λ folder. IsKeptIn folder step) (sym midway.folder) under.kept;
  partly = record { made = midway.tree; ready = under.partly.ready };
}

module _ (before : Files) (pending : Pending) (memory : Memory) (journal : Journal)
    (read : IsRead before (Some pending) memory journal) (entry : Entry)
    (says : EntrySays (get (undo_folder_of before) (entry_path pending.entry)) entry) where
  pub is_entry : IsEntry entry.changes
  is_entry = entry_good (get (undo_folder_of before) (entry_path pending.entry)) entry says

  -- the files that are rolled back are a committed state, from which the step was pending
  pub is_settled : (after : Files) (text : List ℕ) → AreFiles after → IsGoodHead text (head_of journal None)
      → IsRolledBack (direction_of pending.direction) entry.changes text before after
      → IsSettled pending journal before after
  is_settled after text are good rolled =
      let still : (path : List ℕ) → is_of_tree path ≡ false → get before path ≡ None → get (tree_of after) path ≡ None =
      λ path out none. sym (rolled.partly.made.others path (none_outside entry.changes path is_entry out))
      ∙ none_in_tree before path none in
      let tree : IsTree (tree_of after) = record {
        are_files = tree_are_files after are;
        no_reuse = still (codes ".reuse") refl read.no_reuse;
        no_undo = still journal_folder refl read.no_undo;
      } in (
        recorded pending.entry entry,
        refl,
        record { good = tree; journal = read.keeps; kept = says; partly = rolled.partly },
        record {
          tree = refl;
          good = tree;
          journal = keeps_again (undo_folder_of before)
              (undo_folder_of after) journal pending text read.keeps rolled.sets good;
        },
      )

  pub is_stuck : (path : List ℕ) → IsFirstWithout
      (CanBeRolledBack (direction_of pending.direction) (tree_of before)) entry.changes path → IsStuckAt before path
  is_stuck path first = record {
    above = (read.no_reuse, read.no_undo);
    journal = journal;
    direction = pending.direction;
    step = recorded pending.entry entry;
    keeps = read.keeps;
    kept = says;
    stuck = first;
  }

  module _ (step : Recorded) (first : State) (number : number_of step ≡ pending.entry)
      (under : IsPending pending.direction step first before) where
    -- the step that is pending is that of the entry
    pub of_step : step.changes ≡ entry.changes
    of_step =
        ap (λ e. e.changes) (same_entry (get (undo_folder_of before) (entry_path pending.entry)) (entry_in step) entry
        (subst (λ n. EntrySays (get (undo_folder_of before) (entry_path n)) (entry_in step)) number under.kept) says)

    pub partly_made : ArePartlyMade (direction_of pending.direction) entry.changes first.tree (tree_of before)
    partly_made = subst (λ changes. ArePartlyMade (direction_of pending.direction) changes first.tree (tree_of before))
        of_step under.partly

    its_journal : journal ≡ first.journal
    its_journal = (same_journal (undo_folder_of before) journal first.journal (Some pending)
        (Some (record { entry = number_of step; direction = pending.direction })) read.keeps under.journal).0

    -- files whose tree is that from before the step, under the head that reports none, are the committed state
    pub stands : (after : Files) (text : List ℕ) → IsGoodHead text (head_of journal None) → tree_of after ≡ first.tree
        → SetsHead text before after → IsCommittedState after first
    stands after text good tree sets = record {
      tree = tree;
      good = under.good;
      journal = subst (λ j. KeepsJournal (undo_folder_of after) j None) its_journal
          (keeps_again (undo_folder_of before) (undo_folder_of after) journal pending text read.keeps sets good);
    }

    -- what rolling back answers and leaves
    pub recovers : {A : Type 0} (result : Result A Refusal) (after : Files) (text : List ℕ)
        → IsGoodHead text (head_of journal None)
        → OnOk result (IsRolledBack (direction_of pending.direction) entry.changes text before after)
        → ((cause : Cause) → result ≡ Err (refusals.Failed (failures.Interrupted cause))
        → StopsRollingBack (direction_of pending.direction) entry.changes text first.tree before after)
        → IfErr result (λ refusal. IsEarly refusal → after ≡ before)
        → ((path : List ℕ) → result ≡ Err (refusals.Moved path) → ⊥)
        → IfErr result IsRollBackRefusal
        → MatchResult result (λ _. IsCommittedState after first)
        (λ refusal. IsFailure refusal × (IsCommittedState after first ⊎ IsPending pending.direction step first after))
    recovers (Ok x) after text good done stopped early moved refusal =
        stands after text good (back_at_start (direction_of pending.direction) entry.changes is_entry first.tree
        (tree_of before) (tree_of after) partly_made done.partly) done.sets
    recovers (Err (refusals.Failed (failures.Interrupted cause))) after text good done stopped early moved refusal = (
      tt,
      ⊎_elim
          (λ (still : SomeMade (direction_of pending.direction) entry.changes first.tree (tree_of after)
          × (undo_folder_of after ≡ undo_folder_of before)).
          inr (pending_still pending.direction step first before after under (record {
            tree = subst (λ changes. SomeMade (direction_of pending.direction) changes first.tree (tree_of after))
                (sym of_step) still.0;
            folder = still.1;
          })))
          (λ (back : (tree_of after ≡ first.tree) × SetsHead text before after). inl
          (stands after text good back.0 back.1))
          (stopped cause refl),
    )
    recovers (Err (refusals.Moved path)) after text good done stopped early moved refusal = absurd (moved path refl)
    recovers (Err (refusals.Failed failures.Memory)) after text good done stopped early moved refusal =
        (tt, inr (subst (IsPending pending.direction step first) (sym (early tt)) under))
    recovers (Err (refusals.Failed (failures.Fault fault))) after text good done stopped early moved refusal =
        (tt, inr (subst (IsPending pending.direction step first) (sym (early tt)) under))
    recovers (Err other) after text good done stopped early moved refusal = absurd refusal

-- the entry of what is pending can be read
pub pending_readable : (files : Files) (pending : Pending) (memory : Memory) (journal : Journal)
    → IsRead files (Some pending) memory journal → IsReadable (undo_folder_of files) pending.entry
pending_readable files pending memory journal read =
    All-head (IsReadable (undo_folder_of files)) pending.entry [] read.readable

-- a call that failed before anything was rolled back
pub stays_pending : {A : Type 0} (result : Result A Refusal) (given refusal : Refusal) (direction : PendingDirection)
    (step : Recorded) (first : State) (before after : Files)
    → result ≡ Err given → given ≡ refusal → IsFailure refusal → after ≡ before → IsPending direction step first before
    → MatchResult result (λ _. IsCommittedState after first)
    (λ refusal. IsFailure refusal × (IsCommittedState after first ⊎ IsPending direction step first after))
stays_pending result given refusal direction step first before after is same failure files under =
    subst (λ r. MatchResult r (λ _. IsCommittedState after first)
    (λ refusal. IsFailure refusal × (IsCommittedState after first ⊎ IsPending direction step first after))) (sym is)
    (subst IsFailure (sym same) failure, inr (subst (IsPending direction step first) (sym files) under))

-- one fact at equal files, ways and changes
pub at_same : (P : Files → Direction → List Change → Type 0) (before old : Files) (direction other : Direction)
    (changes others : List Change) → before ≡ old → direction ≡ other → changes ≡ others → P before direction changes
    → P old other others
at_same P before old direction other changes others files directions lists h =
    subst (λ f. P f other others) files (subst (λ w. P before w others) directions (subst (P before direction) lists h))

-- the text of a head that was made of what is remembered
pub settled_sound : (folder : Files) (journal : Journal) (p : Option Pending) (memory : Memory)
    → KeepsJournal folder journal p → Remembers memory journal → IsSoundHead (head_listing memory None)
settled_sound folder journal p memory keeps remembers = subst IsSoundHead
    (sym (listing_of memory journal None remembers)) (sound_unpended journal p (sound_head folder journal p keeps))

pub settled_good : (folder : Files) (journal : Journal) (p : Option Pending) (memory : Memory) (text : List ℕ)
    → KeepsJournal folder journal p → Remembers memory journal
    → (IsSoundHead (head_listing memory None) → IsGoodHead text (head_listing memory None))
    → IsGoodHead text (head_of journal None)
settled_good folder journal p memory text keeps remembers good =
    subst (IsGoodHead text) (listing_of memory journal None remembers)
    (good (settled_sound folder journal p memory keeps remembers))

-- ---- refusals

-- reading fails for the device or memory alone, where nothing is at fault
pub read_failure : (refusal : Refusal) → IsReadRefusal refusal
    → ((path : List ℕ) → refusal ≡ refusals.BadJournal path → ⊥) → IsFailure refusal
read_failure (refusals.Failed failures.Memory) is good = tt
read_failure (refusals.Failed (failures.Fault fault)) is good = tt
read_failure (refusals.BadJournal path) is good = absurd (good path refl)
read_failure other is good = absurd is
