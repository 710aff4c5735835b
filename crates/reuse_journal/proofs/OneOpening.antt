-- Of any files one thing holds at most: a path is the first at fault, or the pending step is stuck at a path, or they
-- open on a committed state.
use Rattle.std.proofs.Common.{◌≡◌, inl, inr, ⊎_elim, ℕ, ◌<◌, ◌≤◌, List, [], ◌∷◌, ◌++◌, Some, None, Ok, Err, codes, refl}
use Rattle.std.proofs.Common.{sym, ap, subst, ◌∙◌, arith}
use Rattle.std.specs.List.{All}
use Rattle.std.specs.FinMap.{get}
use Rattle.std.proofs.lemmas.Bool.{false≢true, cases_lt}
use Rattle.std.proofs.lemmas.List.Elements.{All-cons, All-head, All-nil, All-tail}
use Rattle.reuse_change.specs.Path.{journal_folder}
use Rattle.reuse_change.specs.Change.{path_of}
use Rattle.reuse_change.specs.Files.{Files, tree_of}
use Rattle.reuse_change.specs.declared.change.Change.{Change}
use Rattle.reuse_command.specs.Answer.{DidNotFail, IsOpenRefusal}
use Rattle.reuse_change.specs.Entry.{CanBeRolledBack, IsFirstWithout}
use Rattle.reuse_tree.specs.Head.{direction_of}
use Rattle.reuse_journal.specs.Journal.{Recorded, Journal, State}
use Rattle.reuse_journal.specs.JournalFiles.{head_path, entry_path, entry_in, number_of, EntrySays, IsKeptIn}
use Rattle.reuse_journal.specs.JournalFiles.{KeepsJournal}
use Rattle.reuse_journal.specs.Opening.{named, IsReadable, IsLeastUnreadable, IsFirstUnreadable, IsFirstBadIn}
use Rattle.reuse_journal.specs.Opening.{IsFirstBad, IsStuckAt, CanOpenOn, OpensAs, OpensOn}
use Rattle.reuse_journal.specs.CommittedState.{IsPending}
use Rattle.reuse_change.specs.Tree.{undo_folder_of}
use Rattle.reuse_tree.specs.declared.journal.head.Pending.{Pending}
use Rattle.reuse_tree.specs.declared.journal.head.PendingDirection.{PendingDirection}
use Rattle.reuse_command.specs.declared.reply.Refusal.{Refusal}
use Rattle.reuse_command.specs.declared.reply.Refusal.TheVariants.{BadJournal, Moved, Failed}
use Rattle.reuse_journal.proofs.FilesBetweenStates.{committed_bad, pending_bad}
use Rattle.reuse_journal.proofs.JournalLemmas.{same_entry, entry_good}
use Rattle.reuse_store.proofs.MadeLemmas.{back_at_start, settles_from}
use Rattle.reuse_journal.proofs.OpeningLemmas.{same_head, same_step, same_journal, no_file_there, none_bad}
use Rattle.reuse_change.proofs.Walk.{none_without}

-- ---- one path is the first at fault

least_once : (folder : Files) (numbers : List ℕ) (m n : ℕ) → IsLeastUnreadable folder numbers m
    → IsLeastUnreadable folder numbers n → m ≡ n
least_once folder numbers m n a b =
    ⊎_elim
    (λ (lower : m < n). absurd (a.unreadable (b.first m a.among lower)))
    (λ (n_first : n ≤ m). ⊎_elim
    (λ (lower : n < m). absurd (b.unreadable (a.first n b.among lower)))
    (λ (m_first : m ≤ n). omega (arith, n_first, m_first))
    (cases_lt n m))
    (cases_lt m n)

bad_in_once : (folder : Files) (p q : List ℕ) → IsFirstBadIn folder p → IsFirstBadIn folder q → p ≡ q
bad_in_once folder p q (inl a) (inl b) = a.0 ∙ sym b.0
bad_in_once folder p q (inl a) (inr b) = absurd (a.1 b.0 b.1)
bad_in_once folder p q (inr a) (inl b) = absurd (b.1 a.0 a.1)
bad_in_once folder p q (inr a) (inr b) =
    let first = b.2 in
    let other =
    subst (λ head. IsFirstUnreadable folder (named head) p) (same_head (get folder head_path) a.0 b.0 a.1 b.1) a.2 in
    other.1 ∙ ap entry_path (least_once folder (named b.0) other.0 first.0 other.2 first.2) ∙ sym first.1

pub bad_once : (files : Files) (p q : List ℕ) → IsFirstBad files p → IsFirstBad files q → p ≡ q
bad_once files p q (inl a) (inl b) = a.0 ∙ sym b.0
bad_once files p q (inl a) (inr (inl b)) = absurd (no_file_there files p (codes ".reuse") b.0 a.0 a.1)
bad_once files p q (inl a) (inr (inr b)) = absurd (no_file_there files p (codes ".reuse") b.0.0 a.0 a.1)
bad_once files p q (inr (inl a)) (inl b) = absurd (no_file_there files q (codes ".reuse") a.0 b.0 b.1)
bad_once files p q (inr (inl a)) (inr (inl b)) = a.1 ∙ sym b.1
bad_once files p q (inr (inl a)) (inr (inr b)) = absurd (no_file_there files p journal_folder b.0.1 a.1 a.2)
bad_once files p q (inr (inr a)) (inl b) = absurd (no_file_there files q (codes ".reuse") a.0.0 b.0 b.1)
bad_once files p q (inr (inr a)) (inr (inl b)) = absurd (no_file_there files q journal_folder a.0.1 b.1 b.2)
bad_once files p q (inr (inr a)) (inr (inr b)) = bad_in_once (undo_folder_of files) p q a.1 b.1

-- ---- one step is pending

pub record IsOneStep (journal : Journal) (direction : PendingDirection) (step : Recorded) (other : Journal)
    (turn : PendingDirection) (next : Recorded) : Type 0 where
  pub journals : journal ≡ other
  pub directions : direction ≡ turn
  pub steps : step ≡ next

pub one_step : (folder : Files) (journal other : Journal) (direction turn : PendingDirection) (step next : Recorded)
    → KeepsJournal folder journal (Some (record { entry = number_of step; direction = direction }))
    → KeepsJournal folder other (Some (record { entry = number_of next; direction = turn }))
    → IsKeptIn folder step → IsKeptIn folder next → IsOneStep journal direction step other turn next
one_step folder journal other direction turn step next keeps keeps_other kept kept_next =
    let reported : Pending = record { entry = number_of step; direction = direction } in
    let states : Pending = record { entry = number_of next; direction = turn } in
    let both = same_journal folder journal other (Some reported) (Some states) keeps keeps_other in
    let same : reported ≡ states = let e = both.1 in cc in
    let number : number_of step ≡ number_of next = ap (λ (p : Pending). p.entry) same in
    let here = subst (λ n. EntrySays (get folder (entry_path n)) (entry_in step)) number kept in
    record {
      journals = both.0;
      directions = ap (λ (p : Pending). p.direction) same;
      steps = same_step step next number
          (same_entry (get folder (entry_path (number_of next))) (entry_in step) (entry_in next) here kept_next);
    }

-- no step is pending where another journal has none
pub none_pending : (folder : Files) (journal other : Journal) (pending : Pending) → KeepsJournal folder journal None
    → KeepsJournal folder other (Some pending) → ⊥
none_pending folder journal other pending keeps keeps_other =
    let e = (same_journal folder journal other None (Some pending) keeps keeps_other).1 in cc

-- ---- it is stuck at one path

first_once : (Holds : Change → Type 0) (before other : List Change) (a b : Change) (behind more : List Change)
    → before ++ a ∷ behind ≡ other ++ b ∷ more
    → All Holds before → All Holds other → (Holds a → ⊥) → (Holds b → ⊥) → a ≡ b
first_once Holds [] [] a b behind more e holds holds_other not_a not_b = cc
first_once Holds [] (y ∷ other) a b behind more e holds holds_other not_a not_b =
    let same : a ≡ y = cc in absurd (not_a (subst Holds (sym same) (All-head Holds y other holds_other)))
first_once Holds (x ∷ before) [] a b behind more e holds holds_other not_a not_b =
    let same : x ≡ b = cc in absurd (not_b (subst Holds same (All-head Holds x before holds)))
first_once Holds (x ∷ before) (y ∷ other) a b behind more e holds holds_other not_a not_b =
    let rest : before ++ a ∷ behind ≡ other ++ b ∷ more = cc in
    first_once Holds before other a b behind more rest (All-tail Holds x before holds)
    (All-tail Holds y other holds_other) not_a not_b

pub without_once : (Holds : Change → Type 0) (changes : List Change) (p q : List ℕ) → IsFirstWithout Holds changes p
    → IsFirstWithout Holds changes q → p ≡ q
without_once Holds changes p q a b =
    a.here ∙ ap path_of (first_once Holds a.before b.before a.change b.change a.behind b.behind
    (sym a.list ∙ b.list) a.passed b.passed a.stuck b.stuck) ∙ sym b.here

pub stuck_once : (files : Files) (p q : List ℕ) → IsStuckAt files p → IsStuckAt files q → p ≡ q
stuck_once files p q a b =
    let one = one_step
    (undo_folder_of files) a.journal b.journal a.direction b.direction a.step b.step a.keeps b.keeps a.kept b.kept in
    let here = subst (λ (s : Recorded). IsFirstWithout
    (CanBeRolledBack (direction_of b.direction) (tree_of files)) s.changes p) one.steps
    (subst (λ (w : PendingDirection). IsFirstWithout
    (CanBeRolledBack (direction_of w) (tree_of files)) a.step.changes p) one.directions a.stuck) in
    without_once (CanBeRolledBack (direction_of b.direction) (tree_of files)) b.step.changes p q here b.stuck

-- ---- they open on one committed state

same_state : (a b : State) → a.tree ≡ b.tree → a.journal ≡ b.journal → a ≡ b
same_state a b tree journal =
    let same_tree : a ≡ record {
      tree = b.tree;
      journal = a.journal;
    } = ap (λ t. record { tree = t; journal = a.journal }) tree in
    same_tree ∙ ap (λ j. record { tree = b.tree; journal = j }) journal

same_tree : (files : Files) (direction : PendingDirection) (step : Recorded) (a b : State)
    → IsPending direction step a files → IsPending direction step b files → a.tree ≡ b.tree
same_tree files direction step a b under other =
    let good = entry_good (get (undo_folder_of files) (entry_path (number_of step))) (entry_in step) under.kept in
    back_at_start (direction_of direction) step.changes good b.tree (tree_of files) a.tree other.partly under.partly

pub opened_once : (files : Files) (a b : State) → CanOpenOn files a → CanOpenOn files b → a ≡ b
opened_once files a b (inl x) (inl y) = same_state a b (sym x.tree ∙ y.tree)
    (same_journal (undo_folder_of files) a.journal b.journal None None x.journal y.journal).0
opened_once files a b (inl x) (inr (turn, next, y)) =
    absurd (none_pending (undo_folder_of files) a.journal b.journal _ x.journal y.journal)
opened_once files a b (inr (direction, step, x)) (inl y) =
    absurd (none_pending (undo_folder_of files) b.journal a.journal _ y.journal x.journal)
opened_once files a b (inr (direction, step, x)) (inr (turn, next, y)) =
    let one =
    one_step (undo_folder_of files) a.journal b.journal direction turn step next x.journal y.journal x.kept y.kept in
    let here =
    subst (λ s. IsPending turn s a files) one.steps (subst (λ w. IsPending w step a files) one.directions x) in
    same_state a b (same_tree files turn next a b here y) one.journals

-- ---- no two of these hold

pub not_bad_and_stuck : (files : Files) (p q : List ℕ) → IsFirstBad files p → IsStuckAt files q → ⊥
not_bad_and_stuck files p q bad stuck =
    let folder = undo_folder_of files in
    none_bad files stuck.journal (Some (record { entry = number_of stuck.step; direction = stuck.direction }))
    stuck.above.0 stuck.above.1 stuck.keeps
    (All-cons (IsReadable folder) (number_of stuck.step) [] (entry_in stuck.step, stuck.kept)
    (All-nil (IsReadable folder))) p bad

pub not_bad_and_opened : (files : Files) (p : List ℕ) (held : State) → IsFirstBad files p → CanOpenOn files held → ⊥
not_bad_and_opened files p held bad (inl committed) = committed_bad files held committed p bad
not_bad_and_opened files p held bad (inr (direction, step, under)) = pending_bad files direction step held under p bad

pub not_stuck_and_opened : (files : Files) (p : List ℕ) (held : State) → IsStuckAt files p → CanOpenOn files held → ⊥
not_stuck_and_opened files p held stuck (inl committed) =
    none_pending (undo_folder_of files) held.journal stuck.journal _ committed.journal stuck.keeps
not_stuck_and_opened files p held stuck (inr (direction, step, under)) =
    let folder = undo_folder_of files in
    let one = one_step folder stuck.journal held.journal stuck.direction direction stuck.step step stuck.keeps
    under.journal stuck.kept under.kept in
    let here = subst
    (λ (s : Recorded). IsFirstWithout (CanBeRolledBack (direction_of direction) (tree_of files)) s.changes p) one.steps
    (subst (λ (w : PendingDirection). IsFirstWithout
    (CanBeRolledBack (direction_of w) (tree_of files)) stuck.step.changes p) one.directions stuck.stuck) in
    let good = entry_good (get folder (entry_path (number_of step))) (entry_in step) under.kept in
    none_without (CanBeRolledBack (direction_of direction) (tree_of files)) step.changes p
    (settles_from (direction_of direction) held.tree
    (tree_of files) step.changes good under.good.are_files under.partly) here

-- ---- so an answer that is right is exact

pub can_open : (before : Files) (held : State) (after : Files) → OpensOn before held after → CanOpenOn before held
can_open before held after (inl stays) = inl stays.0
can_open before held after (inr settled) = inr (settled.0, settled.1, settled.2)

pub opens_session : {A : Type 0} (files : Files) (session : A) (held : State) → CanOpenOn files held
    → OpensAs files (Ok session)
opens_session files session held opens = record {
  bad = λ path. (λ e. absurd (cc), λ bad. absurd (not_bad_and_opened files path held bad opens));
  moved = λ path. (λ e. absurd (cc), λ stuck. absurd (not_stuck_and_opened files path held stuck opens));
  opened = (λ is. (held, opens), λ opened. refl);
}

refuses_bad : {A : Type 0} (files : Files) (path : List ℕ) → IsFirstBad files path
    → OpensAs {A = A} files (Err (BadJournal path))
refuses_bad files path bad = record {
  bad = λ other. (
    λ e. let same : path ≡ other = cc in subst (IsFirstBad files) same bad,
    λ also. ap (λ p. Err (BadJournal p)) (bad_once files path other bad also),
  );
  moved = λ other. (λ e. absurd (cc), λ stuck. absurd (not_bad_and_stuck files path other bad stuck));
  opened = (λ is. absurd (false≢true is), λ opens. absurd (not_bad_and_opened files path opens.0 bad opens.1));
}

refuses_moved : {A : Type 0} (files : Files) (path : List ℕ) → IsStuckAt files path
    → OpensAs {A = A} files (Err (Moved path))
refuses_moved files path stuck = record {
  bad = λ other. (λ e. absurd (cc), λ bad. absurd (not_bad_and_stuck files other path bad stuck));
  moved = λ other. (
    λ e. let same : path ≡ other = cc in subst (IsStuckAt files) same stuck,
    λ also. ap (λ p. Err (Moved p)) (stuck_once files path other stuck also),
  );
  opened = (λ is. absurd (false≢true is), λ opens. absurd (not_stuck_and_opened files path opens.0 stuck opens.1));
}

pub opens_refused : {A : Type 0} (files : Files) (refusal : Refusal) → IsOpenRefusal refusal
    → DidNotFail {A = A} (Err refusal)
    → ((path : List ℕ) → refusal ≡ BadJournal path → IsFirstBad files path)
    → ((path : List ℕ) → refusal ≡ Moved path → IsStuckAt files path)
    → OpensAs {A = A} files (Err refusal)
opens_refused files (BadJournal path) is reported bad moved = refuses_bad files path (bad path refl)
opens_refused files (Moved path) is reported bad moved = refuses_moved files path (moved path refl)
opens_refused files (Failed failure) is reported bad moved = absurd reported
opens_refused files refusal is reported bad moved = absurd is
