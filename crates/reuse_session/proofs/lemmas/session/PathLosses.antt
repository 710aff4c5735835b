-- What a loss of power may leave at each path.
use Rattle.std.proofs.Common.{◌≡◌, ◌⊎◌, inl, inr, ⊎_elim, ℕ, Bool, true, false, cond, not, List, Option, Some, None, refl}
use Rattle.std.proofs.Common.{sym, ap, subst, ◌∙◌}
use Rattle.std.specs.FinMap.{get}
use Rattle.reuse_store.specs.Asked.{Leaves}
use Rattle.reuse_store.specs.declared.store.Store.{Ghosts}
use Rattle.reuse_change.specs.Entry.{touches, LeadsBy, SomeMade}
use Rattle.reuse_change.specs.Files.{Files, tree_of}
use Rattle.reuse_change.specs.Layout.{above_journal}
use Rattle.reuse_change.specs.Path.{journal_folder, lies_under}
use Rattle.reuse_change.specs.Tree.{undo_folder_of}
use Rattle.reuse_change.specs.declared.change.Change.{Change}
use Rattle.reuse_change.specs.declared.direction.Direction.{Direction}
use Rattle.reuse_change.proofs.Differ.{touching}
use Rattle.reuse_change.proofs.Walk.{applies_once_by}
use Rattle.reuse_store.proofs.TreeLemmas.{tree_file}
use Rattle.reuse_tree.specs.Head.{direction_of}
use Rattle.reuse_tree.specs.declared.journal.head.PendingDirection.{PendingDirection}
use Rattle.reuse_journal.specs.CommittedState.{BetweenStates, IsCommittedState, IsPending, IsStep, IsTree}
use Rattle.reuse_journal.specs.Journal.{Recorded, State}
use Rattle.reuse_journal.specs.JournalFiles.{KeepsJournal, IsKeptIn, number_of}
use Rattle.reuse_journal.specs.Losses.{Earlier, IsSafe}
use Rattle.reuse_journal.specs.Opening.{NoFileAbove}
use Rattle.reuse_journal.specs.Recovery.{HasPending}
use Rattle.reuse_session.specs.session.Machine.{Snapshots}
use Rattle.reuse_session.specs.session.PathLosses.{IsFileOf, IsTreeOf}
use Rattle.reuse_session.specs.session.Session.{Simulates}
use Rattle.reuse_session.specs.session.Stops.{CrashStatesWithin, SimulatesInFiles}

-- ---- the tree of what is left

-- what is safe on a committed state has its tree
safe_tree : (earlier : Earlier) (held : State) (left : Files) → IsSafe earlier held left → tree_of left ≡ held.tree
safe_tree earlier held left (inl safe) = safe.tree
safe_tree earlier held left (inr (forgetting, beside)) =
    beside.safe.tree ∙ ap (λ (s : State). s.tree) beside.differ.is_other
    ∙ sym (ap (λ (s : State). s.tree) beside.differ.is_held)

-- each path is as in the first tree, or as in the second
abbrev IsEither : (first second now : Files) → Type 0
IsEither first second now = (path : List ℕ) → (get now path ≡ get first path) ⊎ (get now path ≡ get second path)

-- so it is where some changes are made of those that lead from the first to the second
some_made : (direction : Direction) (changes : List Change) (first second now : Files)
    → LeadsBy direction changes first second → SomeMade direction changes first now → IsEither first second now
some_made direction changes first second now leads made path = by_test (touches changes path) refl
  where
    by_test : (b : Bool) → touches changes path ≡ b
        → (get now path ≡ get first path) ⊎ (get now path ≡ get second path)
    by_test false none = inl (made.others path none)
    by_test true touched =
        let found = touching changes path touched in
        subst (λ p. (get now p ≡ get first p) ⊎ (get now p ≡ get second p)) (sym found.3)
        (⊎_elim (λ same. inl same)
        (λ applied. inr (applies_once_by direction _ _ _ _ applied (leads.each found.0 found.1 found.2)))
        (made.each found.0 found.1 found.2))

between : (first second : State) (left : Files) → BetweenStates first second left
    → IsEither first.tree second.tree (tree_of left)
between first second left (inl stands) path = inl (ap (λ f. get f path) stands.tree)
between first second left (inr (inl stands)) path = inr (ap (λ f. get f path) stands.tree)
between first second left (inr (inr (direction, step, is_step, pending))) path =
    some_made (direction_of direction) step.changes first.tree second.tree (tree_of left) is_step.leads
    pending.partly.made path

module _ {S : Type 0} (store : Ghosts S) (new : S) where
  within_one : (earlier : Earlier) (held : State) → ((left : Files) → store.crash_states new left
      → IsSafe earlier held left) → (state : Snapshots) → Simulates held state
      → Leaves store new (λ left. IsTreeOf state None (tree_of left))
  within_one earlier held safe state holds left may path =
      ap (λ f. get f path) (safe_tree earlier held left (safe left may) ∙ holds.tree)

  pub within : (state : Snapshots) (next : Option Snapshots) (forgetting : Bool)
      → CrashStatesWithin store new state next forgetting
      → Leaves store new (λ left. IsTreeOf state next (tree_of left))
  within state None forgetting (earlier, held, holds, stands, safe) left may path =
      within_one (record { state = earlier; forgetting = forgetting }) held safe state holds left may path
  within state (Some next) forgetting (earlier, first, second, holds, follows, inl (stands, safe)) left may path =
      inl (within_one (record { state = earlier; forgetting = forgetting }) first safe state holds left may path)
  within state (Some next) forgetting (earlier, first, second, holds, follows, inr (inl (stands, safe))) left may path =
      inr (within_one _ second safe next follows left may path)
  within state (Some next) forgetting
      (earlier, first, second, holds, follows, inr (inr (direction, step, is_step, pending, may_be))) left may path =
      ⊎_elim
      (λ (is : IsSafe _ first left). inl (ap (λ f. get f path) (safe_tree _ first left is ∙ holds.tree)))
      (λ (are : BetweenStates first second left). ⊎_elim
      (λ same. inl (same ∙ ap (λ f. get f path) holds.tree)) (λ same. inr (same ∙ ap (λ f. get f path) follows.tree))
      (between first second left are path))
      (may_be left may)

-- ---- the journal of what is left

pub committed_beside : (files left : Files) (held : State) (state : Snapshots) → IsCommittedState files held
    → Simulates held state → undo_folder_of left ≡ undo_folder_of files → IsTree (tree_of left)
    → SimulatesInFiles left (record state { tree = tree_of left })
committed_beside files left held state stands holds same good = (
  record held { tree = tree_of left },
  record {
    tree = refl;
    good = good;
    journal = subst (λ folder. KeepsJournal folder held.journal None) (sym same) stands.journal;
  },
  record { tree = refl; past = holds.past; future = holds.future; used = holds.used },
)

-- a file that lies outside of the journal's folder is one of the tree
in_tree : (files : Files) (path : List ℕ) → lies_under path journal_folder ≡ false
    → get files path ≡ get (tree_of files) path
in_tree files path outside = sym (tree_file files path ∙ ap (λ b. cond (not b) (get files path) None) outside)

none_above : (files : Files) → IsTree (tree_of files) → NoFileAbove files
none_above files good = (in_tree files above_journal refl ∙ good.no_reuse, in_tree files journal_folder refl ∙ good.no_undo)

pub pending_beside : (direction : PendingDirection) (step : Recorded) (files left : Files) (held : State)
    → IsPending direction step held files → undo_folder_of left ≡ undo_folder_of files → IsTree (tree_of left)
    → HasPending direction step held.journal left
pending_beside direction step files left held pending same good = record {
  above = none_above left good;
  keeps = subst (λ folder. KeepsJournal folder held.journal
      (Some (record { entry = number_of step; direction = direction }))) (sym same) pending.journal;
  kept = subst (λ folder. IsKeptIn folder step) (sym same) pending.kept;
}
