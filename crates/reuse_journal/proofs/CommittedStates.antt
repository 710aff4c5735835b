-- How the committed state of files changes when a step is committed.
use Rattle.std.proofs.Common.{◌≡◌, ◌⊎◌, inl, inr, ⊎_elim, ℕ, ◌+◌, ◌<◌, List, Some, None, codes, refl, sym, subst, ◌∙◌}
use Rattle.reuse_change.specs.Path.{journal_folder}
use Rattle.reuse_change.specs.Files.{Files, AreFiles, tree_of}
use Rattle.reuse_journal.specs.Carried.{IsCarriedOut, IsStopped}
use Rattle.reuse_change.specs.Entry.{IsEntry, LeadsBy, SomeMade}
use Rattle.reuse_tree.specs.Head.{direction_of, IsGoodHead}
use Rattle.reuse_journal.specs.Journal.{Recorded, State}
use Rattle.reuse_journal.specs.JournalFiles.{entry_path, head_of, number_of, IsKeptIn}
use Rattle.reuse_journal.specs.Remembered.{IsSameBut}
use Rattle.reuse_journal.specs.CommittedState.{IsTree, IsCommittedState, IsStep, IsPending, BetweenStates}
use Rattle.reuse_change.specs.Tree.{undo_folder_of}
use Rattle.reuse_tree.specs.declared.journal.head.PendingDirection.{PendingDirection}
use Rattle.reuse_change.specs.declared.change.Change.{Change}
use Rattle.reuse_store.proofs.TreeLemmas.{tree_are_files}
use Rattle.reuse_change.proofs.Walk.{leads_once, none_outside}
use Rattle.reuse_journal.proofs.JournalLemmas.{entry_in_folder, same_but_in_folder, keeps_beside, keeps_pending}
use Rattle.reuse_journal.proofs.JournalLemmas.{keeps_settled, kept_stays}
use Rattle.reuse_store.proofs.MadeLemmas.{reach_ready}

-- the entry's file of the next number changes no committed state
pub after_entry : (files after : Files) (held : State) → IsCommittedState files held → held.journal.used < 999_999
    → IsSameBut (entry_path (held.journal.used + 1)) files after → IsCommittedState after held
after_entry files after held committed room same =
    let sets = same_but_in_folder files after (entry_path (held.journal.used + 1))
    (entry_in_folder (held.journal.used + 1)) same in
    record {
      tree = sets.1 ∙ committed.tree;
      good = committed.good;
      journal = keeps_beside (undo_folder_of files) (undo_folder_of after) held.journal committed.journal room sets.0;
    }

-- a tree stays one where changes of an entry lead on from it
pub still_tree : (direction : PendingDirection) (changes : List Change) (before after : Files) → IsEntry changes
    → LeadsBy (direction_of direction) changes before after → IsTree before → AreFiles after → IsTree after
still_tree direction changes before after good leads tree are = record {
  are_files = are;
  no_reuse = leads.others (codes ".reuse") (none_outside changes (codes ".reuse") good refl) ∙ tree.no_reuse;
  no_undo = leads.others journal_folder (none_outside changes journal_folder good refl) ∙ tree.no_undo;
}

-- where the pending head is put and some changes are made, the step is pending
pub becomes_pending : (files after : Files) (direction : PendingDirection) (step : Recorded) (first second : State)
    → IsCommittedState files first → IsKeptIn (undo_folder_of files) step → IsStep direction step first second
    → (pending : List ℕ)
    → IsGoodHead pending (head_of first.journal (Some (record { entry = number_of step; direction = direction })))
    → IsStopped (direction_of direction) step.changes pending files after → IsPending direction step first after
becomes_pending files after direction step first second committed kept is_step pending head out = record {
  good = committed.good;
  journal = keeps_pending (undo_folder_of files) (undo_folder_of after) first.journal
      (record { entry = number_of step; direction = direction }) pending committed.journal out.sets head;
  kept = kept_stays (undo_folder_of files) (undo_folder_of after) step pending kept out.sets;
  partly = record {
    made = subst (λ tree. SomeMade (direction_of direction) step.changes tree (tree_of after)) committed.tree out.tree;
    ready = reach_ready (direction_of direction) step.changes first.tree second.tree is_step.leads;
  };
}

module _ (files after : Files) (direction : PendingDirection) (step : Recorded) (first second : State)
    (committed : IsCommittedState files first) (kept : IsKeptIn (undo_folder_of files) step)
    (is_step : IsStep direction step first second) (good : IsEntry step.changes) (are : AreFiles after) where
  start : LeadsBy (direction_of direction) step.changes (tree_of files) second.tree
  start =
      subst (λ tree. LeadsBy (direction_of direction) step.changes tree second.tree) (sym committed.tree) is_step.leads

  -- once the step is committed, the committed state is the next
  pub carried : (settled : List ℕ) → IsCarriedOut (direction_of direction) step.changes settled files after
      → IsGoodHead settled (head_of second.journal None) → IsCommittedState after second
  carried settled out head =
      let tree : tree_of after ≡ second.tree =
      leads_once (direction_of direction) step.changes (tree_of files) (tree_of after) second.tree out.tree start in
      record {
        tree = tree;
        good = still_tree direction step.changes first.tree second.tree good is_step.leads committed.good
            (subst AreFiles tree (tree_are_files after are));
        journal = keeps_settled (undo_folder_of files) (undo_folder_of after) first.journal second.journal None
            direction step settled committed.journal kept is_step.transition out.sets head;
      }

  -- where that stops, the files are in doubt between the two
  pub stopped : (pending settled : List ℕ)
      → (after ≡ files) ⊎ IsStopped (direction_of direction) step.changes pending files after
      ⊎ IsCarriedOut (direction_of direction) step.changes settled files after
      → IsGoodHead pending (head_of first.journal (Some (record { entry = number_of step; direction = direction })))
      → IsGoodHead settled (head_of second.journal None) → BetweenStates first second after
  stopped pending settled case pending_head settled_head =
      ⊎_elim
      (λ (same : after ≡ files). inl (subst (λ f. IsCommittedState f first) (sym same) committed))
      (λ rest. ⊎_elim
      (λ (out : IsStopped (direction_of direction) step.changes pending files after). inr (inr (
        direction,
        step,
        is_step,
        becomes_pending files after direction step first second committed kept is_step pending pending_head out,
      )))
      (λ (out : IsCarriedOut (direction_of direction) step.changes settled files after). inr
      (inl (carried settled out settled_head)))
      rest)
      case
