-- A tree that no session has worked on holds the model's first state.
use Rattle.std.proofs.Common.{◌≡◌, ℕ, Bool, true, false, cond, not, List, [], Option, Some, None, IsSome, refl, sym}
use Rattle.std.proofs.Common.{subst, ◌∙◌}
use Rattle.std.specs.FinMap.{get}
use Rattle.std.proofs.lemmas.List.Elements.{All-nil}
use Rattle.reuse_change.specs.Path.{lies_under, journal_folder}
use Rattle.reuse_change.specs.Files.{Files, tree_of}
use Rattle.reuse_change.proofs.FileMaps.{same_files}
use Rattle.reuse_session.specs.session.Fresh.{IsFresh, first_state}
use Rattle.reuse_journal.specs.Journal.{Journal}
use Rattle.reuse_journal.specs.JournalFiles.{head_path, IsFree, IsKeptIn, HeadSays, head_of}
use Rattle.reuse_journal.specs.CommittedState.{IsCommittedState}
use Rattle.reuse_session.specs.session.Stops.{SimulatesInFiles}
use Rattle.reuse_change.specs.Tree.{undo_folder_of}
use Rattle.reuse_store.proofs.ApplyLemmas.{none_is_some}
use Rattle.reuse_store.proofs.TreeLemmas.{tree_file}
use Rattle.reuse_store.proofs.OfTree.{get-folder}

abbrev no_steps : Journal
no_steps = record { done = []; undone = []; used = 0 }

no_file : (file : Option (List ℕ)) → (IsSome file → ⊥) → file ≡ None
no_file None none = refl
no_file (Some bytes) none = absurd (none refl)

module _ (files : Files) (fresh : IsFresh files) where
  none_under : (path : List ℕ) → lies_under path journal_folder ≡ true → get files path ≡ None
  none_under path under = no_file (get files path) (λ some. fresh.no_journal path some under)

  all_tree : tree_of files ≡ files
  all_tree = same_files (tree_of files) files
      (λ path. tree_file files path ∙ of_test path (lies_under path journal_folder) refl)
    where
      of_test : (path : List ℕ) (b : Bool) → lies_under path journal_folder ≡ b
          → cond (not b) (get files path) None ≡ get files path
      of_test path true under = sym (none_under path under)
      of_test path false out = refl

  empty_folder : (path : List ℕ) → get (undo_folder_of files) path ≡ None
  empty_folder path = get-folder files path ∙ of_test (lies_under path journal_folder) refl
    where
      of_test : (b : Bool) → lies_under path journal_folder ≡ b → cond b (get files path) None ≡ None
      of_test true under = none_under path under
      of_test false out = refl

  stands : IsCommittedState files (record { tree = files; journal = no_steps })
  stands = record {
    tree = all_tree;
    good = fresh.tree;
    journal = record {
      head = subst (λ file. HeadSays file (head_of no_steps None)) (sym (empty_folder head_path)) refl;
      done = All-nil (IsKeptIn (undo_folder_of files));
      undone = All-nil (IsKeptIn (undo_folder_of files));
    };
  }

  pub fresh_holds : SimulatesInFiles files (first_state files)
  fresh_holds =
      (record { tree = files; journal = no_steps }, stands, record { tree = refl; past = tt; future = tt; used = refl })

  pub fresh_is_free : IsFree (undo_folder_of files)
  fresh_is_free path other is some under = none_is_some (get (undo_folder_of files) other) (empty_folder other) some
