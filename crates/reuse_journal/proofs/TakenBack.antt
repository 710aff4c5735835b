-- Where each change can be rolled back, there is a tree from which the step is pending.
use Rattle.std.proofs.Common.{◌≡◌, ◌⊎◌, inl, inr, ⊎_elim, ℕ, zero, suc, ◌+◌, ◌<◌, ◌≤◌, true, false, List, length, take}
use Rattle.std.proofs.Common.{Option, Some, None, IsSome, is_some, codes, refl, sym, ap, subst, ◌∙◌, arith}
use Rattle.std.specs.List.{All}
use Rattle.std.specs.FinMap.{get}
use Rattle.std.proofs.Math.Seq.{take-length}
use Rattle.reuse_change.specs.Path.{is_path, journal_folder}
use Rattle.reuse_change.specs.Files.{Files, AreFiles, Clashes, tree_of}
use Rattle.reuse_change.specs.declared.change.Change.{Change}
use Rattle.reuse_change.specs.declared.change.Change.TheVariants as change
use Rattle.reuse_change.specs.Change.{path_of, IsProper}
use Rattle.reuse_store.proofs.GoodFiles.{put_keeps, remove_keeps}
use Rattle.reuse_change.specs.declared.direction.Direction.{Direction}
use Rattle.reuse_change.specs.declared.direction.Direction.TheVariants.{Forward, Backward}
use Rattle.reuse_change.specs.Entry.{IsEntry, ArePartlyMade, IsReady, AppliesBy, CanBeMade, CanBeRolledBack, opposite}
use Rattle.reuse_change.specs.Entry.{makes}
use Rattle.reuse_json.specs.EntryText.{HavePaths}
use Rattle.reuse_tree.specs.Head.{direction_of}
use Rattle.reuse_journal.specs.History.{Memory}
use Rattle.reuse_journal.specs.Journal.{Journal, State}
use Rattle.reuse_journal.specs.JournalFiles.{entry_path, EntrySays}
use Rattle.reuse_journal.specs.Opening.{IsRead}
use Rattle.reuse_journal.specs.CommittedState.{IsTree, IsPending}
use Rattle.reuse_change.specs.Tree.{is_of_tree, undo_folder_of}
use Rattle.reuse_json.specs.declared.entry.Entry.{Entry}
use Rattle.reuse_tree.specs.declared.journal.head.Pending.{Pending}
use Rattle.reuse_store.proofs.TreeLemmas.{tree_are_files}
use Rattle.reuse_journal.proofs.JournalLemmas.{entry_good}
use Rattle.reuse_store.proofs.MadeLemmas.{at_place, back_none, back_more, ready_once, step_with, still_free, stood}
use Rattle.reuse_store.proofs.MadeLemmas.{with_file}
use Rattle.reuse_journal.proofs.OpeningLemmas.{recorded}
use Rattle.reuse_journal.proofs.PendingRecovery.{none_in_tree}
use Rattle.reuse_change.proofs.Walk.{none_outside}

-- where a change leaves a file, it makes it or one was there
there_or_made : (direction : Direction) (c : Change) (old new : Option (List ℕ)) → AppliesBy direction c old new
    → IsSome new → (makes direction c ≡ true) ⊎ IsSome old
there_or_made Forward (change.Make path bytes digest) old new applies some = inl refl
there_or_made Forward (change.Drop path bytes digest) old new applies some = inr (ap is_some applies.range.0)
there_or_made Forward (change.Splice path at before after rest seal) old new applies some =
    inr (ap is_some applies.range.2.whole)
there_or_made Backward (change.Make path bytes digest) old new applies some = inr (ap is_some applies.range.1)
there_or_made Backward (change.Drop path bytes digest) old new applies some = inl refl
there_or_made Backward (change.Splice path at before after rest seal) old new applies some =
    inr (ap is_some applies.range.3.whole)

-- a file that can be there
with_file_keeps : (tree : Files) (path : List ℕ) (file : Option (List ℕ)) → AreFiles tree → is_path path ≡ true
    → (IsSome file → ¬ (Clashes tree path)) → AreFiles (with_file tree path file)
unfolding with_file
with_file_keeps tree path None are good free = remove_keeps tree path are
with_file_keeps tree path (Some bytes) are good free = put_keeps tree path bytes are good (free refl)

module _ (direction : Direction) (changes : List Change) (good : IsEntry changes) (paths : HavePaths changes)
    (now : Files) (are : AreFiles now) (can : All (CanBeRolledBack direction now) changes) where
  -- the first so many are taken back
  abbrev Back : ℕ → Type 0
  Back count = (tree : Files) × AreFiles tree × ArePartlyMade direction (take count changes) tree now

  one_more_back : (count : ℕ) → count < length changes → Back count → Back (count + 1)
  one_more_back count lt so_far =
      let place = at_place changes count lt in
      let c = place.0 in
      let tree = so_far.0 in
      let this : CanBeRolledBack direction now c =
      subst (CanBeRolledBack direction now) (sym place.1) (can count c lt) in
      let held : get now (path_of c) ≡ get tree (path_of c) =
      stood direction changes good count lt c place.1 now tree so_far.2 in
      ⊎_elim
      (λ (ready : IsReady direction c (get now (path_of c))). (
        tree,
        so_far.1,
        back_more direction changes good count lt c place.1 now tree so_far.2 tree
            (inl (subst (IsReady direction c) held ready, refl)),
      ))
      (λ (made : CanBeMade (opposite direction) now c).
      let ready : IsReady (opposite direction) c (get tree (path_of c)) =
      subst (IsReady (opposite direction) c) held made.ready in
      let not_ready : IsReady direction c (get tree (path_of c)) → ⊥ = λ r. ready_once direction c
      (get tree (path_of c)) (subst IsProper (sym place.1) (good.proper count c lt)) r ready in
      let good_path : is_path (path_of c) ≡ true =
      subst (λ x. is_path (path_of x) ≡ true) (sym place.1) (paths count c lt) in
      let free : IsSome ready.0 → ¬ (Clashes tree (path_of c)) = λ some clash. ⊎_elim
      (λ (made_here : makes (opposite direction) c ≡ true).
      still_free direction changes good count lt c place.1 now tree so_far.2 (inr made) not_ready made_here clash)
      (λ (there : IsSome (get tree (path_of c))). so_far.1.apart (path_of c) there clash)
      (there_or_made (opposite direction) c (get tree (path_of c)) ready.0 ready.1 some) in (
        with_file tree (path_of c) ready.0,
        with_file_keeps tree (path_of c) ready.0 so_far.1 good_path free,
        back_more direction changes good count lt c place.1 now tree so_far.2 (with_file tree (path_of c) ready.0)
            (inr (step_with (opposite direction) c tree ready.0 ready.1)),
      ))
      this

  back_to : (count : ℕ) → count ≤ length changes → Back count
  back_to zero within = (now, are, back_none direction changes now)
  back_to (suc count) within =
      let next : count + 1 ≡ suc count = omega arith in
      subst Back next (one_more_back count (omega arith) (back_to count (omega arith)))

  pub start_of : (start : Files) × AreFiles start × ArePartlyMade direction changes start now
  start_of =
      let all = back_to (length changes) (omega arith) in
      (all.0, all.1, subst (λ front. ArePartlyMade direction front all.0 now) (take-length changes) all.2)

entry_paths : (file : Option (List ℕ)) (entry : Entry) → EntrySays file entry → HavePaths entry.changes
entry_paths None entry says = absurd says
entry_paths (Some text) entry says = says.paths

-- what the head has pending was so from a committed state
module _ (before : Files) (pending : Pending) (memory : Memory) (journal : Journal)
    (read : IsRead before (Some pending) memory journal) (entry : Entry)
    (says : EntrySays (get (undo_folder_of before) (entry_path pending.entry)) entry) (are : AreFiles before)
    (can : All (CanBeRolledBack (direction_of pending.direction) (tree_of before)) entry.changes) where
  pub was_pending : (first : State) × IsPending pending.direction (recorded pending.entry entry) first before
  was_pending =
      let file = get (undo_folder_of before) (entry_path pending.entry) in
      let good = entry_good file entry says in
      let start = start_of (direction_of pending.direction) entry.changes good (entry_paths file entry says)
      (tree_of before) (tree_are_files before are) can in
      let none : (path : List ℕ) → is_of_tree path ≡ false → get before path ≡ None → get start.0 path ≡ None =
      λ path out here. sym (start.2.made.others path (none_outside entry.changes path good out))
      ∙ none_in_tree before path here in
      let tree : IsTree start.0 = record {
        are_files = start.1;
        no_reuse = none (codes ".reuse") refl read.no_reuse;
        no_undo = none journal_folder refl read.no_undo;
      } in (
        record { tree = start.0; journal = journal },
        record { good = tree; journal = read.keeps; kept = says; partly = start.2 },
      )
