-- What rolling back leaves of the changes of a pending step that can be rolled back, and of the others.
use Rattle.std.proofs.Common.{◌≡◌, ◌⊎◌, inl, inr, ⊎_elim, ℕ, ◌<◌, Bool, true, false, not, List, [], ◌∷◌, Option, Some}
use Rattle.std.proofs.Common.{None, codes, length, get_or, refl, sym, ap, subst, ◌∙◌}
use Rattle.std.specs.FinMap.{get}
use Rattle.std.specs.List.{All}
use Rattle.std.proofs.lemmas.Bool.{false≢true}
use Rattle.reuse_change.specs.Path.{journal_folder}
use Rattle.reuse_change.specs.Change.{path_of, IsProper}
use Rattle.reuse_change.specs.Entry.{opposite, touches, AppliesBy, IsEntry, IsReady, SomeMade, ArePartlyMade, CanBeMade}
use Rattle.reuse_change.specs.Entry.{CanBeRolledBack}
use Rattle.reuse_change.specs.Files.{Files, AreFiles, tree_of}
use Rattle.reuse_tree.specs.Head.{direction_of, IsGoodHead}
use Rattle.reuse_change.specs.Listing.{ArePaths, is_among}
use Rattle.reuse_change.specs.Tree.{is_of_tree, undo_folder_of}
use Rattle.reuse_change.specs.declared.change.Change.{Change}
use Rattle.reuse_json.specs.declared.entry.Entry.{Entry}
use Rattle.reuse_tree.specs.declared.journal.head.Pending.{Pending}
use Rattle.reuse_store.proofs.MadeLemmas.{ready_once, applied}
use Rattle.reuse_store.proofs.TreeLemmas.{tree_are_files}
use Rattle.reuse_change.proofs.Walk.{none_outside}
use Rattle.reuse_journal.specs.Carried.{IsRolledBack, StopsBack}
use Rattle.reuse_journal.specs.History.{Memory}
use Rattle.reuse_journal.specs.Journal.{Journal}
use Rattle.reuse_journal.specs.JournalFiles.{head_path, entry_path, head_of, EntrySays, IsKeptIn, KeepsJournal}
use Rattle.reuse_journal.specs.Opening.{IsRead, IsStuckAt}
use Rattle.reuse_journal.specs.Recovery.{Picks, AreMade, AreStuck, AreFound, ArePart, HasPending, IsRecovered}
use Rattle.reuse_journal.specs.Recovery.{RecoversAt, RecoversTree, SomeRecovered, StopsRecovering, AnswersRecovery}
use Rattle.reuse_journal.specs.Recovery.{changes_besides}
use Rattle.reuse_journal.specs.Remembered.{IsSameBut}
use Rattle.reuse_journal.specs.CommittedState.{IsTree}
use Rattle.reuse_journal.proofs.JournalLemmas.{keeps_again}
use Rattle.reuse_journal.proofs.OpeningLemmas.{recorded}
use Rattle.reuse_journal.proofs.PartOfEntry.{all_left, left_all, none_left, none_more, part_of_entry}
use Rattle.reuse_journal.proofs.Recovering.{IsPicked, first_stuck, picked, picked_ascend}
use Rattle.reuse_journal.proofs.PendingRecovery.{is_entry, is_stuck, none_in_files, none_in_tree}

module _ (before : Files) (pending : Pending) (memory : Memory) (journal : Journal)
    (read : IsRead before (Some pending) memory journal) (entry : Entry)
    (says : EntrySays (get (undo_folder_of before) (entry_path pending.entry)) entry)
    (changed skipped : List (List ℕ))
    (found : AreFound (direction_of pending.direction) (tree_of before) entry.changes changed skipped)
  where
    pub good : IsEntry entry.changes
    good = is_entry before pending memory journal read entry says

    abbrev Stuck : Change → Type 0
    Stuck change = ¬ (CanBeRolledBack (direction_of pending.direction) (tree_of before) change)

    abbrev Free : Change → Type 0
    Free change = CanBeRolledBack (direction_of pending.direction) (tree_of before) change

    abbrev is_left : List ℕ → Bool
    is_left path = not (is_among skipped path)

    abbrev part : List Change
    part = changes_besides skipped entry.changes

    pub has_pending : HasPending pending.direction (recorded pending.entry entry) journal before
    has_pending = record { above = (read.no_reuse, read.no_undo); keeps = read.keeps; kept = says }

    pub skipped_ascend : ArePaths skipped
    skipped_ascend = picked_ascend Stuck Free entry.changes skipped found.stuck good.ascending

    -- each change can't be rolled back, and its path is skipped, or it can
    pub each_picked : All (IsPicked Stuck Free skipped) entry.changes
    each_picked = picked Stuck Free entry.changes skipped found.stuck good.ascending

    pub is_part : ArePart part
    is_part = part_of_entry is_left entry.changes good

    pub can_all : All Free part
    can_all = all_left (λ c. is_left (path_of c)) Free entry.changes
        (λ k d lt passes. free_there k d passes (each_picked k d lt))
      where
        free_there : (k : ℕ) (d : Change) → is_left (path_of (get_or entry.changes k d)) ≡ true
            → IsPicked Stuck Free skipped (get_or entry.changes k d) → Free (get_or entry.changes k d)
        free_there k d passes (inl stuck) = absurd (false≢true (sym (ap not stuck.1) ∙ passes))
        free_there k d passes (inr free) = free.0

    pub stuck_first : (path : List ℕ) (rest : List (List ℕ)) → skipped ≡ path ∷ rest → IsStuckAt before path
    stuck_first path rest is =
        is_stuck before pending memory journal read entry says path
        (first_stuck Free entry.changes path rest
        (subst (λ paths. Picks Stuck Free entry.changes paths) is found.stuck))

    -- what is rolled back can be
    can_be_made : (change : Change) → IsProper change → Free change → (file : Option (List ℕ))
        → AppliesBy (opposite (direction_of pending.direction)) change (get (tree_of before) (path_of change)) file
        → CanBeMade (opposite (direction_of pending.direction)) (tree_of before) change
    can_be_made change proper (inl ready) file back = absurd (ready_once (direction_of pending.direction) change
        (get (tree_of before) (path_of change)) proper ready (file, back))
    can_be_made change proper (inr can) file back = can

    module _ (after : Files) where
      -- ---- all is rolled back

      module _ (partly : ArePartlyMade (direction_of pending.direction) part (tree_of after) (tree_of before)) where
        recovers_at : (k : ℕ) (d : Change) → k < length entry.changes
            → IsPicked Stuck Free skipped (get_or entry.changes k d)
            → RecoversAt (direction_of pending.direction) (tree_of before) (tree_of after) (get_or entry.changes k d)
        recovers_at k d lt (inl stuck) =
            let c = get_or entry.changes k d in
            inr (inr (
              stuck.0,
              sym (partly.made.others (path_of c) (none_left is_left entry.changes (path_of c) (ap not stuck.1))),
            ))
        recovers_at k d lt (inr free) =
            let direction = direction_of pending.direction in
            let c = get_or entry.changes k d in
            let start = tree_of after in
            let tree = tree_of before in
            let ready = left_all (λ x. is_left (path_of x))
            (λ x. IsReady direction x (get start (path_of x))) entry.changes partly.ready k d lt (ap not free.1) in
            ⊎_elim
            (λ (same : get tree (path_of c) ≡ get start (path_of c)). inl
            (subst (IsReady direction c) (sym same) ready, sym same))
            (λ (applies : AppliesBy direction c (get start (path_of c)) (get tree (path_of c))).
            let back = applied direction c (get start (path_of c)) (get tree (path_of c)) applies in
            inr (inl (can_be_made c (good.proper k d lt) free.0 (get start (path_of c)) back, back)))
            (left_all (λ x. is_left (path_of x))
            (λ x. (get tree (path_of x) ≡ get start (path_of x)) ⊎ AppliesBy direction x (get start (path_of x))
            (get tree (path_of x))) entry.changes partly.made.each k d lt (ap not free.1))

        recovers : RecoversTree (direction_of pending.direction) entry.changes (tree_of before) (tree_of after)
        recovers = record {
          each = λ k d lt. recovers_at k d lt (each_picked k d lt);
          others = λ path none. sym (partly.made.others path (none_more is_left entry.changes path none));
        }

      -- ---- some is

      module _ (some : SomeMade (opposite (direction_of pending.direction)) part (tree_of before) (tree_of after)) where
        some_at : (k : ℕ) (d : Change) → k < length entry.changes
            → IsPicked Stuck Free skipped (get_or entry.changes k d)
            → (get (tree_of after) (path_of (get_or entry.changes k d)) ≡ get (tree_of before)
            (path_of (get_or entry.changes k d)))
            ⊎ (CanBeMade (opposite (direction_of pending.direction)) (tree_of before) (get_or entry.changes k d)
            × AppliesBy (opposite (direction_of pending.direction)) (get_or entry.changes k d) (get (tree_of before)
            (path_of (get_or entry.changes k d))) (get (tree_of after) (path_of (get_or entry.changes k d))))
        some_at k d lt (inl stuck) =
            let c = get_or entry.changes k d in
            inl (some.others (path_of c) (none_left is_left entry.changes (path_of c) (ap not stuck.1)))
        some_at k d lt (inr free) =
            let back = opposite (direction_of pending.direction) in
            let c = get_or entry.changes k d in
            let now = tree_of after in
            let tree = tree_of before in
            ⊎_elim
            (λ (same : get now (path_of c) ≡ get tree (path_of c)). inl same)
            (λ (applies : AppliesBy back c (get tree (path_of c)) (get now (path_of c))). inr
            (can_be_made c (good.proper k d lt) free.0 (get now (path_of c)) applies, applies))
            (left_all (λ x. is_left (path_of x)) (λ x. (get now (path_of x) ≡ get tree (path_of x)) ⊎ AppliesBy back x
            (get tree (path_of x)) (get now (path_of x))) entry.changes some.each k d lt (ap not free.1))

        some_recovered : SomeRecovered (direction_of pending.direction) entry.changes (tree_of before) (tree_of after)
        some_recovered = record {
          each = λ k d lt. some_at k d lt (each_picked k d lt);
          others = λ path none. some.others path (none_more is_left entry.changes path none);
        }

      -- ---- the files

      still : ((path : List ℕ) → touches entry.changes path ≡ false
          → get (tree_of after) path ≡ get (tree_of before) path) → (path : List ℕ) → is_of_tree path ≡ false
          → get before path ≡ None → get (tree_of after) path ≡ None
      still others path out none =
          others path (none_outside entry.changes path good out) ∙ none_in_tree before path none

      module _ (text : List ℕ) (are : AreFiles after) (good_text : IsGoodHead text (head_of journal None))
          (folder : IsSameBut head_path (undo_folder_of before) (undo_folder_of after)) where
        pub is_recovered : IsRolledBack (direction_of pending.direction) part text before after
            → IsRecovered pending.direction (recorded pending.entry entry) journal before after
        is_recovered rolled =
            let tree = recovers rolled.partly in
            let all : IsTree (tree_of after) = record {
              are_files = tree_are_files after are;
              no_reuse = still tree.others (codes ".reuse") refl read.no_reuse;
              no_undo = still tree.others journal_folder refl read.no_undo;
            } in
            record {
              tree = tree;
              stands = record {
                tree = refl;
                good = all;
                journal = keeps_again (undo_folder_of before)
                    (undo_folder_of after) journal pending text read.keeps rolled.sets good_text;
              };
              folder = folder;
            }

        pub stops_recovering : StopsBack (direction_of pending.direction) part text before after
            → StopsRecovering before after
        stops_recovering (inl halfway) =
            let tree = some_recovered halfway.0 in
            let step = recorded pending.entry entry in (
              pending.direction,
              step,
              journal,
              has_pending,
              inr (record {
                pending = record {
                  above = (
                    none_in_files after (codes ".reuse") refl (still tree.others (codes ".reuse") refl read.no_reuse),
                    none_in_files after journal_folder refl (still tree.others journal_folder refl read.no_undo),
                  );
                  keeps = subst (λ f. KeepsJournal f journal (Some pending)) (sym halfway.1) read.keeps;
                  kept = subst (λ f. IsKeptIn f step) (sym halfway.1) says;
                };
                tree = tree;
              }),
            )
        stops_recovering (inr rolled) =
            (pending.direction, recorded pending.entry entry, journal, has_pending, inl (is_recovered rolled))

    pub states : (skip_moved : Bool) (reported_changed reported_skipped : List (List ℕ)) → reported_changed ≡ changed
        → reported_skipped ≡ skipped → (skip_moved ≡ false → skipped ≡ [])
        → AnswersRecovery skip_moved pending.direction (recorded pending.entry entry) before
        (record { number = Some pending.entry; changed = reported_changed; skipped = reported_skipped })
    states skip_moved reported_changed reported_skipped of_changed of_skipped none = record {
      number = refl;
      changed =
          subst (AreMade (direction_of pending.direction) (tree_of before) entry.changes) (sym of_changed) found.made;
      skipped =
          subst (AreStuck (direction_of pending.direction) (tree_of before) entry.changes) (sym of_skipped) found.stuck;
      none = λ wants. of_skipped ∙ none wants;
    }
