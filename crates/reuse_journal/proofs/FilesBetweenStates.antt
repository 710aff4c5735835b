-- Files in doubt between two committed states: opening them finds the one or the other.
use Rattle.std.proofs.Common.{◌≡◌, ◌⊎◌, inl, inr, ℕ, false, List, [], Some, None, Result, Err, MatchResult, codes, refl}
use Rattle.std.proofs.Common.{sym, ap, subst, ◌∙◌}
use Rattle.std.specs.FinMap.{get}
use Rattle.std.proofs.lemmas.List.Elements.{All-cons, All-nil}
use Rattle.reuse_change.specs.Path.{lies_under, journal_folder}
use Rattle.reuse_change.specs.Files.{Files, AreFiles, tree_of}
use Rattle.reuse_command.specs.Answer.{IsFailure}
use Rattle.reuse_journal.specs.History.{Memory}
use Rattle.reuse_journal.specs.Journal.{Recorded, Journal, State}
use Rattle.reuse_journal.specs.JournalFiles.{entry_path, number_of, entry_in}
use Rattle.reuse_journal.specs.Opening.{IsReadable, IsFirstBad, IsRead, IsSettled, OpensOn}
use Rattle.reuse_journal.specs.Remembered.{Remembers}
use Rattle.reuse_journal.specs.CommittedState.{IsCommittedState, IsStep, IsPending, BetweenStates}
use Rattle.reuse_change.specs.Tree.{undo_folder_of}
use Rattle.reuse_tree.specs.declared.journal.head.Pending.{Pending}
use Rattle.reuse_tree.specs.declared.journal.head.PendingDirection.{PendingDirection}
use Rattle.reuse_command.specs.declared.reply.Refusal.{Refusal}
use Rattle.reuse_journal.proofs.JournalLemmas.{entry_good}
use Rattle.reuse_journal.proofs.OpeningLemmas.{same_journal, none_bad}
use Rattle.reuse_journal.proofs.PendingRecovery.{none_in_files, is_tree}
use Rattle.reuse_change.proofs.Walk.{none_outside}

no_folder_file : (files tree : Files) (path : List ℕ) → lies_under path journal_folder ≡ false
    → get (tree_of files) path ≡ get tree path → get tree path ≡ None → get files path ≡ None
no_folder_file files tree path outside same none = none_in_files files path outside (same ∙ none)

pub committed_bad : (files : Files) (held : State) → IsCommittedState files held → (path : List ℕ)
    → IsFirstBad files path → ⊥
committed_bad files held committed path bad =
    none_bad files held.journal None
    (no_folder_file files held.tree (codes ".reuse") refl
    (ap (λ t. get t (codes ".reuse")) committed.tree) committed.good.no_reuse)
    (no_folder_file files held.tree journal_folder refl
    (ap (λ t. get t journal_folder) committed.tree) committed.good.no_undo)
    committed.journal (All-nil (IsReadable (undo_folder_of files))) path bad

pub pending_bad : (files : Files) (direction : PendingDirection) (step : Recorded) (first : State)
    → IsPending direction step first files → (path : List ℕ) → IsFirstBad files path → ⊥
pending_bad files direction step first under path bad =
    let folder = undo_folder_of files in
    let good = entry_good (get folder (entry_path (number_of step))) (entry_in step) under.kept in
    none_bad files first.journal (Some (record { entry = number_of step; direction = direction }))
    (no_folder_file files first.tree (codes ".reuse") refl (under.partly.made.others (codes ".reuse")
    (none_outside step.changes (codes ".reuse") good refl)) under.good.no_reuse)
    (no_folder_file files first.tree journal_folder refl
    (under.partly.made.others journal_folder (none_outside step.changes journal_folder good refl)) under.good.no_undo)
    under.journal
    (All-cons (IsReadable folder) (number_of step) [] (entry_in step, under.kept)
    (All-nil (IsReadable folder))) path bad

-- nothing is at fault in files in doubt
pub doubt_bad : (first second : State) (files : Files) → BetweenStates first second files → (path : List ℕ)
    → IsFirstBad files path → ⊥
doubt_bad first second files (inl committed) path bad = committed_bad files first committed path bad
doubt_bad first second files (inr (inl committed)) path bad = committed_bad files second committed path bad
doubt_bad first second files (inr (inr step)) path bad = pending_bad files step.0 step.1 first step.3 path bad

-- where nothing is pending, they are one of the two
pub read_committed : (first second : State) (files : Files) (memory : Memory) (journal : Journal)
    → IsRead files None memory journal → BetweenStates first second files
    → (IsCommittedState files first × Remembers memory first.journal)
    ⊎ (IsCommittedState files second × Remembers memory second.journal)
read_committed first second files memory journal read (inl committed) =
    inl (
      committed,
      subst (Remembers memory) (same_journal
          (undo_folder_of files) journal first.journal None None read.keeps committed.journal).0 read.remembers,
    )
read_committed first second files memory journal read (inr (inl committed)) =
    inr (
      committed,
      subst (Remembers memory) (same_journal
          (undo_folder_of files) journal second.journal None None read.keeps committed.journal).0 read.remembers,
    )
read_committed first second files memory journal read (inr (inr step)) =
    let e = (same_journal (undo_folder_of files) journal first.journal None
    (Some (record { entry = number_of step.1; direction = step.0 })) read.keeps step.3.journal).1 in
    absurd (cc)

-- where something is pending, they are no committed state
pub none_pending : (files : Files) (held : State) → IsCommittedState files held
    → (pending : Pending) (memory : Memory) (journal : Journal) → IsRead files (Some pending) memory journal → ⊥
none_pending files held committed pending memory journal read =
    let e =
    (same_journal (undo_folder_of files) journal held.journal (Some pending) None read.keeps committed.journal).1 in
    absurd (cc)

-- the step that is pending in files in doubt
pub record IsPendingBetween (first second : State) (files : Files) (pending : Pending) (memory : Memory) : Type 0 where
  pub step : Recorded
  pub number : number_of step ≡ pending.entry
  pub leads : IsStep pending.direction step first second
  pub under : IsPending pending.direction step first files
  pub remembers : Remembers memory first.journal

pub read_pending : (first second : State) (files : Files) (pending : Pending) (memory : Memory) (journal : Journal)
    → IsRead files (Some pending) memory journal → BetweenStates first second files
    → IsPendingBetween first second files pending memory
read_pending first second files pending memory journal read (inl committed) =
    let e =
    (same_journal (undo_folder_of files) journal first.journal (Some pending) None read.keeps committed.journal).1 in
    absurd (cc)
read_pending first second files pending memory journal read (inr (inl committed)) =
    let e =
    (same_journal (undo_folder_of files) journal second.journal (Some pending) None read.keeps committed.journal).1 in
    absurd (cc)
read_pending first second files pending memory journal read (inr (inr step)) =
    let reported : Pending = record { entry = number_of step.1; direction = step.0 } in
    let both = same_journal (undo_folder_of files) journal first.journal (Some pending)
    (Some reported) read.keeps step.3.journal in
    let same : pending ≡ reported = let e = both.1 in cc in
    let direction : step.0 ≡ pending.direction = ap (λ p. p.direction) (sym same) in
    record {
      step = step.1;
      number = ap (λ p. p.entry) (sym same);
      leads = subst (λ w. IsStep w step.1 first second) direction step.2;
      under = subst (λ w. IsPending w step.1 first files) direction step.3;
      remembers = subst (Remembers memory) both.0 read.remembers;
    }

-- ---- what opening answers and leaves

-- opening leaves the committed state
pub opened_committed : (before : Files) (held : State) (after : Files) → OpensOn before held after
    → IsCommittedState after held
opened_committed before held after (inl stays) = subst (λ files. IsCommittedState files held) (sym stays.1) stays.0
opened_committed before held after (inr settled) = settled.3

module _ (before after : Files) (memory : Memory) (journal : Journal) (read : IsRead before None memory journal)
    (same : after ≡ before) where
  -- where nothing is pending
  pub read_opens : AreFiles before → (held : State) × Remembers memory held.journal × OpensOn before held after
  read_opens are = (
    record { tree = tree_of before; journal = journal },
    read.remembers,
    inl (record { tree = refl; good = is_tree before are read.no_reuse read.no_undo; journal = read.keeps }, same),
  )

  pub read_recovers : (first second : State) → BetweenStates first second before
      → (IsCommittedState after first × Remembers memory first.journal)
      ⊎ (IsCommittedState after second × Remembers memory second.journal)
  read_recovers first second doubt =
      subst (λ files. (IsCommittedState files first × Remembers memory first.journal)
      ⊎ (IsCommittedState files second × Remembers memory second.journal)) (sym same)
      (read_committed first second before memory journal read doubt)

-- where a step was pending
pub settled_opens : (before after : Files) (pending : Pending) (memory : Memory) (journal : Journal)
    → IsRead before (Some pending) memory journal → IsSettled pending journal before after
    → (held : State) × Remembers memory held.journal × OpensOn before held after
settled_opens before after pending memory journal read settled = (
  record { tree = tree_of after; journal = journal },
  read.remembers,
  inr (pending.direction, settled.0, settled.2, settled.3),
)

-- a step that is on the way back leaves the files in doubt
pub still_in_doubt : (first second : State) (before after : Files) (pending : Pending) (memory : Memory)
    (step : IsPendingBetween first second before pending memory)
    → IsCommittedState after first ⊎ IsPending pending.direction step.step first after
    → BetweenStates first second after
still_in_doubt first second before after pending memory step (inl committed) = inl committed
still_in_doubt first second before after pending memory step (inr under) =
    inr (inr (pending.direction, step.step, step.leads, under))

pub left_in_doubt : {A : Type 0} (result : Result A Refusal) (given refusal : Refusal) (P : A → Type 0)
    (first second : State) (after : Files)
    → result ≡ Err given → given ≡ refusal → IsFailure refusal → BetweenStates first second after
    → MatchResult result P (λ refusal. IsFailure refusal × BetweenStates first second after)
left_in_doubt result given refusal P first second after is same failure doubt =
    subst (λ r. MatchResult r P (λ refusal. IsFailure refusal × BetweenStates first second after)) (sym is)
    (subst IsFailure (sym same) failure, doubt)
