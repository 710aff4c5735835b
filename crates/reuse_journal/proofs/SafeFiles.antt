-- What a loss of power may leave that is safe on a committed state: its tree, and the entries of its steps.
use Rattle.std.proofs.Common.{◌≡◌, ⊎_elim, true, sym, ap, ◌∙◌}
use Rattle.reuse_change.specs.Files.{Files, tree_of}
use Rattle.reuse_change.specs.Tree.{undo_folder_of}
use Rattle.reuse_journal.specs.Journal.{Recorded, State}
use Rattle.reuse_store.specs.declared.store.Store.{Ghosts}
use Rattle.reuse_journal.specs.Losses.{AllRecoverToTree, DifferByForgotten, Earlier, HasEntries, HaveTree, IsSafe}
use Rattle.reuse_journal.specs.Losses.{IsSafeBeside, RecoversToTree}
use Rattle.reuse_journal.specs.CommittedState.{IsCommittedState, IsStep, IsPending}
use Rattle.reuse_tree.specs.declared.journal.head.PendingDirection.{PendingDirection}
use Rattle.reuse_journal.proofs.JournalLemmas.{kept_moved}

-- states that differ by forgotten steps have one tree
pub one_tree : (held other : State) → DifferByForgotten held other → other.tree ≡ held.tree
one_tree held other differ =
    ap (λ (s : State). s.tree) differ.is_other ∙ sym (ap (λ (s : State). s.tree) differ.is_held)

-- and as many used numbers
pub one_count : (held other : State) → DifferByForgotten held other → other.journal.used ≡ held.journal.used
one_count held other differ =
    ap (λ (s : State). s.journal.used) differ.is_other ∙ sym (ap (λ (s : State). s.journal.used) differ.is_held)

module _ (earlier : Earlier) (held : State) (left : Files) where
  pub safe_tree : IsSafe earlier held left → tree_of left ≡ held.tree
  safe_tree = ⊎_elim
      (λ (safe : RecoversToTree earlier.state held left). safe.tree)
      (λ (beside : (earlier.forgetting ≡ true) × IsSafeBeside held left). beside.1.safe.tree
      ∙ one_tree held beside.1.other beside.1.differ)

  pub safe_entries : IsSafe earlier held left → HasEntries (undo_folder_of left) held.journal
  safe_entries = ⊎_elim
      (λ (safe : RecoversToTree earlier.state held left).
      ⊎_elim (λ (committed : IsCommittedState left held). (committed.journal.done, committed.journal.undone))
      (λ rest. ⊎_elim
      (λ (on : (next : State) × (direction : PendingDirection) × (step : Recorded) × IsStep direction step held next
      × IsPending direction step held left). let under = on.4 in (under.journal.done, under.journal.undone))
      (λ (to : (direction : PendingDirection) × (step : Recorded) × IsStep direction step earlier.state held
      × IsPending direction step earlier.state left).
      let under = to.3 in kept_moved
      (undo_folder_of left) earlier.state.journal held.journal _ to.0 to.1 under.journal under.kept (to.2).transition)
      rest)
      safe.opens)
      (λ (beside : (earlier.forgetting ≡ true) × IsSafeBeside held left). beside.1.entries)

-- where each is safe on the committed state, its tree is that of the files
pub sure_tree : {S : Type 0} (store : Ghosts S) (old : S) (earlier : Earlier) (held : State) → IsCommittedState
    (store.files old) held → AllRecoverToTree store earlier held old → HaveTree store old (tree_of (store.files old))
sure_tree store old earlier held committed safe left is =
    safe_tree earlier held left (safe left is) ∙ sym committed.tree
