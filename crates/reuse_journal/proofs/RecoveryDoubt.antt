-- What a loss of power may leave, where files that await recovery are recovered.
use Rattle.std.proofs.Common.{◌≡◌, ◌⊎◌, inl, inr, ⊎_elim, ℕ, Bool, true, false, not, List, get_or, Some, None, Result}
use Rattle.std.proofs.Common.{Ok, Err, IfErr, codes, refl, sym, ap, subst, ◌∙◌}
use Rattle.std.specs.FinMap.{get}
use Rattle.std.specs.List.{All}
use Rattle.std.proofs.lemmas.Bool.{false≢true}
use Rattle.std.proofs.lemmas.Result.{IfErr-weaker}
use Rattle.reuse_store.specs.Asked.{OnlyReads, Leaves}
use Rattle.reuse_change.specs.Change.{path_of}
use Rattle.reuse_change.specs.Entry.{IsEntry, IsReady, SomeMade, ArePartlyMade, CanBeRolledBack}
use Rattle.reuse_change.specs.Files.{Files, AreFiles, tree_of}
use Rattle.reuse_tree.specs.Head.{direction_of, IsGoodHead}
use Rattle.reuse_store.specs.Durable.{IsMidway}
use Rattle.reuse_change.specs.Listing.{is_among}
use Rattle.reuse_change.specs.Path.{lies_under, journal_folder}
use Rattle.reuse_change.specs.Tree.{is_of_tree, undo_folder_of, Sets}
use Rattle.reuse_store.specs.declared.cause.Cause.{Cause}
use Rattle.reuse_change.specs.declared.change.Change.{Change}
use Rattle.reuse_json.specs.declared.entry.Entry.{Entry}
use Rattle.reuse_tree.specs.declared.journal.head.Pending.{Pending}
use Rattle.reuse_tree.specs.declared.journal.head.PendingDirection.{PendingDirection}
use Rattle.reuse_store.specs.declared.store.Store.{Ghosts}
use Rattle.reuse_store.proofs.AskedLemmas.{reads_more}
use Rattle.reuse_store.proofs.MadeLemmas.{made_none}
use Rattle.reuse_change.proofs.Walk.{none_outside}
use Rattle.reuse_command.specs.Answer.{IsEarly, IsStop}
use Rattle.reuse_journal.specs.Carried.{IsRolledBack}
use Rattle.reuse_journal.specs.History.{Memory}
use Rattle.reuse_journal.specs.Journal.{Recorded, Journal, State}
use Rattle.reuse_journal.specs.JournalFiles.{head_path, entry_path, entry_in, head_of, number_of, EntrySays, IsKeptIn}
use Rattle.reuse_journal.specs.JournalFiles.{KeepsJournal}
use Rattle.reuse_journal.specs.Losses.{AreBetweenStates, AwaitsOrIs, AwaitsRecovery, Earlier, IsOrRecoversTo}
use Rattle.reuse_journal.specs.Losses.{StopsBackWithDoubt, SurvivesBetweenStates, SurvivesRecovery}
use Rattle.reuse_journal.specs.Opening.{IsRead, NoFileAbove}
use Rattle.reuse_journal.specs.Recovery.{AreFound, RecoversAt, RecoversTo, changes_besides}
use Rattle.reuse_journal.specs.Remembered.{IsSameBut}
use Rattle.reuse_journal.specs.CommittedState.{IsCommittedState, IsStep, IsTree, IsPending}
use Rattle.reuse_command.specs.declared.reply.Recovered.{Recovered}
use Rattle.reuse_command.specs.declared.reply.Refusal.{Refusal}
use Rattle.reuse_command.specs.declared.failure.Failure.TheVariants.{Interrupted}
use Rattle.reuse_command.specs.declared.reply.Refusal.TheVariants.{Failed}
use Rattle.reuse_command.proofs.OnlyReading.{early_is_no_stop}
use Rattle.reuse_journal.proofs.HeadPuts.{head_keeps_tree, head_sets}
use Rattle.reuse_journal.proofs.JournalLemmas.{entry_good, keeps_again}
use Rattle.reuse_journal.proofs.OneOpening.{IsOneStep, one_step}
use Rattle.reuse_journal.proofs.FilesBetweenStates.{none_pending}
use Rattle.reuse_journal.proofs.OpeningDoubt.{doubt_stays, some_made, committed_safe}
use Rattle.reuse_journal.proofs.OpeningLemmas.{recorded}
use Rattle.reuse_journal.proofs.RecoveredFiles.{each_picked, good as its_entry, is_recovered}
use Rattle.reuse_journal.proofs.RecoveredTrees.{ready_at, recovers_from, recovers_once, recovers_partly, recovers_still}
use Rattle.reuse_journal.proofs.RecoveredTrees.{some_more, some_part, stuck_at}
use Rattle.reuse_journal.proofs.PartOfEntry.{all_left}
use Rattle.reuse_journal.proofs.Recovering.{IsPicked}
use Rattle.reuse_journal.proofs.PendingRecovery.{none_in_files}

-- no file stands above the journal, where some changes are made on the tree of a committed state
no_file_above : (direction : PendingDirection) (step : Recorded) (held : State) (files : Files) → IsEntry step.changes
    → IsTree held.tree → SomeMade (direction_of direction) step.changes held.tree (tree_of files) → NoFileAbove files
no_file_above direction step held files good tree some = (
  none_at (codes ".reuse") refl refl tree.no_reuse,
  none_at journal_folder refl refl tree.no_undo,
)
  where
    none_at : (path : List ℕ) → lies_under path journal_folder ≡ false → is_of_tree path ≡ false
        → get held.tree path ≡ None → get files path ≡ None
    none_at path outside out none = none_in_files files path outside
        (some.others path (none_outside step.changes path good out) ∙ none)

kept_entry : (step : Recorded) (folder : Files) → IsKeptIn folder step → IsEntry step.changes
kept_entry step folder kept = entry_good (get folder (entry_path (number_of step))) (entry_in step) kept

-- ---- files of which recovering leads to a committed state

module _ (direction : PendingDirection) (step : Recorded) (held : State) where
  module _ (before : Files) (to : RecoversTo direction step held before) where
    entry_of : IsEntry step.changes
    entry_of = kept_entry step (undo_folder_of before) to.pending.kept

    pub some_on : SomeMade (direction_of direction) step.changes held.tree (tree_of before)
    some_on = recovers_from (direction_of direction) step.changes entry_of (tree_of before) held.tree to.tree

    -- it does so still where other changes of the step are made on its tree, beside the same journal
    still : (after : Files) → IsMidway (direction_of direction) step.changes held.tree (undo_folder_of before) after
        → RecoversTo direction step held after
    still after midway = record {
      good = to.good;
      pending = record {
        above = no_file_above direction step held after entry_of to.good midway.tree;
        keeps =
            subst (λ f. KeepsJournal f held.journal (Some (record { entry = number_of step; direction = direction })))
            (sym midway.folder) to.pending.keeps;
        kept = subst (λ f. IsKeptIn f step) (sym midway.folder) to.pending.kept;
      };
      tree = recovers_still (direction_of direction) step.changes entry_of
          (tree_of before) held.tree to.tree to.good.are_files
          (tree_of after) midway.tree;
    }

    module _ (text : List ℕ) (good_text : IsGoodHead text (head_of held.journal None)) where
      all_back : (done : Files) → tree_of done ≡ held.tree → undo_folder_of done ≡ undo_folder_of before
          → (after : Files) → after ≡ done → RecoversTo direction step held after
      all_back done tree folder after same = still after (record {
        tree = subst (SomeMade (direction_of direction) step.changes held.tree) (sym (ap tree_of same ∙ tree))
            (made_none (direction_of direction) step.changes held.tree);
        folder = ap undo_folder_of same ∙ folder;
      })

      settled : (done : Files) → tree_of done ≡ held.tree → undo_folder_of done ≡ undo_folder_of before
          → (after : Files) → Sets head_path (Some text) done after → IsCommittedState after held
      settled done tree folder after sets = record {
        tree = head_keeps_tree done after (Some text) sets ∙ tree;
        good = to.good;
        journal = keeps_again (undo_folder_of before) (undo_folder_of after) held.journal
            (record { entry = number_of step; direction = direction }) text to.pending.keeps
            (subst (λ f. Sets head_path (Some text) f (undo_folder_of after)) folder
            (head_sets done after (Some text) sets)) good_text;
      }

      module _ {S : Type 0} (store : Ghosts S) (new : S) where
        -- what may be left where it stops
        pub stops_on_the_way : StopsBackWithDoubt store (direction_of direction) step.changes text held.tree before new
            → AwaitsOrIs store direction step held new × Leaves store new (IsOrRecoversTo direction step held)
        stops_on_the_way (inl midway) = (
          inl (record { files = still (store.files new) midway.0; trees = λ left is. (midway.1 left is).tree }),
          λ left is. inr (still left (midway.1 left is)),
        )
        stops_on_the_way (inr (done, tree, folder, (now, each))) = (
          files_now now,
          λ left is. ⊎_elim
              (λ (e : left ≡ done). inr (all_back done tree folder left e))
              (λ (sets : Sets head_path (Some text) done left). inl (settled done tree folder left sets))
              (each left is),
        )
          where
            tree_left : (left : Files) → (left ≡ done) ⊎ Sets head_path (Some text) done left → tree_of left ≡ held.tree
            tree_left left (inl same) = ap tree_of same ∙ tree
            tree_left left (inr sets) = head_keeps_tree done left (Some text) sets ∙ tree

            files_now : (store.files new ≡ done) ⊎ Sets head_path (Some text) done (store.files new)
                → AwaitsOrIs store direction step held new
            files_now (inl same) = inl (record {
              files = all_back done tree folder (store.files new) same;
              trees = λ left is. subst (SomeMade (direction_of direction) step.changes held.tree)
                  (sym (tree_left left (each left is))) (made_none (direction_of direction) step.changes held.tree);
            })
            files_now (inr sets) = inr
                (settled done tree folder (store.files new) sets, λ left is. tree_left left (each left is))

  -- ---- what was only read

  pub awaits_still : {S : Type 0} (store : Ghosts S) (old new : S) → OnlyReads store old new → store.honest new
      → AwaitsRecovery store direction step held old → AwaitsRecovery store direction step held new
  awaits_still store old new reads honest awaits = record {
    files = subst (RecoversTo direction step held) (sym (reads.files honest)) awaits.files;
    trees = λ left is. awaits.trees left (reads.may left is);
  }

  no_stop : {S : Type 0} (store : Ghosts S) (old new : S) (refusal : Refusal) → IsEarly refusal
      → OnlyReads store old new → store.honest new → AwaitsRecovery store direction step held old
      → AwaitsOrIs store direction step held new
      × (IsStop refusal → Leaves store new (IsOrRecoversTo direction step held))
  no_stop store old new refusal early reads honest awaits = (
    inl (awaits_still store old new reads honest awaits),
    λ stop. absurd (early_is_no_stop refusal early stop),
  )

  pub refused_on_the_way : {S : Type 0} (store : Ghosts S) (old new : S) (result : Result Recovered Refusal)
      (refusal : Refusal) → result ≡ Err refusal → IsEarly refusal → OnlyReads store old new → store.honest new
      → AwaitsRecovery store direction step held old → SurvivesRecovery store direction step held result new
  refused_on_the_way store old new result refusal is early reads honest awaits = subst
      (λ r. SurvivesRecovery store direction step held r new) (sym is)
      (no_stop store old new refusal early reads honest awaits)

  -- where rolling back is refused or stops
  pub rolled_on_the_way : {S : Type 0} (store : Ghosts S) (old mid new : S) (result : Result Recovered Refusal)
      (refusal : Refusal) → result ≡ Err refusal → OnlyReads store old mid → store.honest new
      → AwaitsRecovery store direction step held old → (IsEarly refusal → OnlyReads store mid new)
      → ((cause : Cause) → refusal ≡ Failed (Interrupted cause)
      → AwaitsOrIs store direction step held new × Leaves store new (IsOrRecoversTo direction step held))
      → SurvivesRecovery store direction step held result new
  rolled_on_the_way store old mid new result (Failed (Interrupted cause)) is reads honest awaits early stops =
      let left = stops cause refl in subst (λ r. SurvivesRecovery store direction step held r new) (sym is)
      (left.0, λ stop. left.1)
  rolled_on_the_way store old mid new result refusal is reads honest awaits early stops =
      refused_on_the_way store old new result refusal is tt
      (reads_more store old mid new reads (early tt)) honest awaits

-- ---- the step of the entry that is pending

module _ (before : Files) (pending : Pending) (memory : Memory) (journal : Journal)
    (read : IsRead before (Some pending) memory journal) (entry : Entry)
    (says : EntrySays (get (undo_folder_of before) (entry_path pending.entry)) entry)
    (changed skipped : List (List ℕ))
    (found : AreFound (direction_of pending.direction) (tree_of before) entry.changes changed skipped)
    (direction : PendingDirection) (step : Recorded) (held : State) (to : RecoversTo direction step held before)
  where
    one : IsOneStep journal pending.direction (recorded pending.entry entry) held.journal direction step
    one = one_step (undo_folder_of before) journal held.journal pending.direction direction
        (recorded pending.entry entry) step read.keeps to.pending.keeps says to.pending.kept

    -- what is said of the one is said of the other
    of_it : (Says : PendingDirection → Recorded → Type 0) → Says pending.direction (recorded pending.entry entry)
        → Says direction step
    of_it Says is =
        subst (Says direction) one.steps (subst (λ w. Says w (recorded pending.entry entry)) one.directions is)

    its : (Says : PendingDirection → Recorded → Type 0) → Says direction step
        → Says pending.direction (recorded pending.entry entry)
    its Says is = subst (λ w. Says w (recorded pending.entry entry)) (sym one.directions)
        (subst (Says direction) (sym one.steps) is)

    its_to : RecoversTo pending.direction (recorded pending.entry entry) held before
    its_to = its (λ w s. RecoversTo w s held before) to

    abbrev is_left : List ℕ → Bool
    is_left path = not (is_among skipped path)

    abbrev part : List Change
    part = changes_besides skipped entry.changes

    abbrev Stuck : Change → Type 0
    Stuck change = ¬ (CanBeRolledBack (direction_of pending.direction) (tree_of before) change)

    abbrev Free : Change → Type 0
    Free change = CanBeRolledBack (direction_of pending.direction) (tree_of before) change

    entry_good_here : IsEntry entry.changes
    entry_good_here = its_entry before pending memory journal read entry says changed skipped found

    its_picked : All (IsPicked Stuck Free skipped) entry.changes
    its_picked = each_picked before pending memory journal read entry says changed skipped found

    ready_here : (change : Change) → is_left (path_of change) ≡ true → IsPicked Stuck Free skipped change
        → RecoversAt (direction_of pending.direction) (tree_of before) held.tree change
        → IsReady (direction_of pending.direction) change
        (get held.tree (path_of change))
    ready_here change passes (inl stuck) at = absurd (false≢true (sym (ap not stuck.1) ∙ passes))
    ready_here change passes (inr free) at = ready_at (direction_of pending.direction) entry.changes entry_good_here
        (tree_of before) held.tree its_to.tree change free.0 at

    stuck_here : (change : Change) → is_left (path_of change) ≡ false → IsPicked Stuck Free skipped change
        → RecoversAt (direction_of pending.direction) (tree_of before) held.tree change
        → IsReady (direction_of pending.direction) change
        (get held.tree (path_of change)) → ⊥
    stuck_here change out (inl stuck) at ready = stuck_at (direction_of pending.direction) entry.changes entry_good_here
        (tree_of before) held.tree its_to.tree change stuck.0 at ready
    stuck_here change out (inr free) at ready = absurd (false≢true (sym out ∙ ap not free.1))

    part_of : (tree : Files) → SomeMade (direction_of pending.direction) entry.changes held.tree tree
        → SomeMade (direction_of pending.direction) part held.tree tree
    part_of tree = some_part is_left (direction_of pending.direction) entry.changes held.tree tree
        (λ k d lt out. stuck_here (get_or entry.changes k d) out (its_picked k d lt) (its_to.tree.each k d lt))

    -- some of the changes that can be rolled back are made on the tree that recovering leads to
    pub partly_on : ArePartlyMade (direction_of pending.direction) part held.tree (tree_of before)
    partly_on = record {
      made = part_of (tree_of before) (some_on pending.direction (recorded pending.entry entry) held before its_to);
      ready = all_left (λ c. is_left (path_of c))
          (λ c. IsReady (direction_of pending.direction) c (get held.tree (path_of c))) entry.changes
          (λ k d lt passes. ready_here (get_or entry.changes k d) passes (its_picked k d lt) (its_to.tree.each k d lt));
    }

    pub some_left : (kept : Files) → SomeMade (direction_of direction) step.changes held.tree (tree_of kept)
        → SomeMade (direction_of pending.direction) part held.tree (tree_of kept)
    some_left kept some = part_of (tree_of kept)
        (its (λ w s. SomeMade (direction_of w) s.changes held.tree (tree_of kept)) some)

    midway_all : (left : Files) → IsMidway (direction_of pending.direction) part held.tree (undo_folder_of before) left
        → IsMidway (direction_of pending.direction) entry.changes held.tree (undo_folder_of before) left
    midway_all left midway = record {
      tree = some_more is_left (direction_of pending.direction) entry.changes held.tree
          (tree_of left) midway.tree;
      folder = midway.folder;
    }

    module _ {S : Type 0} (store : Ghosts S) (new : S) (text : List ℕ)
        (good_text : IsGoodHead text (head_of journal None)) where
      all_stops : StopsBackWithDoubt store (direction_of pending.direction) part text held.tree before new
          → StopsBackWithDoubt store (direction_of pending.direction) entry.changes text held.tree before new
      all_stops (inl midway) = inl
          (midway_all (store.files new) midway.0, λ left is. midway_all left (midway.1 left is))
      all_stops (inr last) = inr last

      pub part_stops : StopsBackWithDoubt store (direction_of pending.direction) part text held.tree before new
          → AwaitsOrIs store direction step held new × Leaves store new (IsOrRecoversTo direction step held)
      part_stops stops =
          of_it (λ w s. AwaitsOrIs store w s held new × Leaves store new (IsOrRecoversTo w s held))
          (stops_on_the_way pending.direction (recorded pending.entry entry) held before its_to text
          (subst (λ j. IsGoodHead text (head_of j None)) one.journals good_text) store new (all_stops stops))

      pub part_stands : AreFiles (store.files new)
          → IsSameBut head_path (undo_folder_of before) (undo_folder_of (store.files new)) → IsRolledBack
          (direction_of pending.direction) part text before (store.files new) → IsCommittedState (store.files new) held
      part_stands are folder rolled =
          let after = store.files new in
          let recovered = is_recovered before pending memory journal read entry says changed skipped found after text
          are good_text folder rolled in
          record {
            tree = recovers_once (direction_of pending.direction) entry.changes entry_good_here (tree_of before)
                (tree_of after) held.tree recovered.tree its_to.tree;
            good = to.good;
            journal = subst (λ j. KeepsJournal (undo_folder_of after) j None) one.journals recovered.stands.journal;
          }

-- ---- files in doubt

module _ (direction : PendingDirection) (step : Recorded) (held next : State) where
  -- of a step that is pending, recovering leads to the state from before it
  pub recovers_under : (files : Files) → IsPending direction step held files → RecoversTo direction step held files
  recovers_under files under =
      let good = kept_entry step (undo_folder_of files) under.kept in
      record {
        good = under.good;
        pending = record {
          above = no_file_above direction step held files good under.good under.partly.made;
          keeps = under.journal;
          kept = under.kept;
        };
        tree = recovers_partly (direction_of direction) step.changes good held.tree
            (tree_of files) under.good.are_files under.partly;
      }

  module _ (ready : All (λ c. IsReady (direction_of direction) c (get held.tree (path_of c))) step.changes) where
    under_again : (files : Files) → RecoversTo direction step held files → IsPending direction step held files
    under_again files to = record {
      good = to.good;
      journal = to.pending.keeps;
      kept = to.pending.kept;
      partly = record { made = some_on direction step held files to; ready = ready };
    }

    module _ {S : Type 0} (store : Ghosts S) (earlier : Earlier)
        (leads : IsStep direction step held next) (new : S) where
      doubt_left : AwaitsOrIs store direction step held new → Leaves store new (IsOrRecoversTo direction step held)
          → AreBetweenStates store earlier held next new
      doubt_left (inl awaits) each = inr (inr (
        direction,
        step,
        leads,
        under_again (store.files new) awaits.files,
        λ left is. inr (⊎_elim
            (λ (stands : IsCommittedState left held). inl stands)
            (λ (to : RecoversTo direction step held left). inr (inr (direction, step, leads, under_again left to)))
            (each left is)),
      ))
      doubt_left (inr (stands, have)) each = inl (
        stands,
        λ left is. inl (record {
          tree = have left is;
          opens = ⊎_elim
              (λ (here : IsCommittedState left held). inl here)
              (λ (to : RecoversTo direction step held left). inr
              (inl (next, direction, step, leads, under_again left to)))
              (each left is);
        }),
      )

      pub survives_in_doubt : (result : Result Recovered Refusal)
          → SurvivesRecovery store direction step held result new
          → IfErr result (λ refusal. IsEarly refusal → AreBetweenStates store earlier held next new)
          → SurvivesBetweenStates store earlier held next result new
      survives_in_doubt (Ok recovered) survived early = inl (
        survived.0,
        λ left is. committed_safe store earlier held next left
            (subst (λ files. IsCommittedState files held) (sym (survived.1 left is)) survived.0),
      )
      survives_in_doubt (Err (Failed (Interrupted cause))) survived early = doubt_left survived.0 (survived.1 tt)
      survives_in_doubt (Err refusal) survived early = early tt

-- what recovering files in doubt leaves
module _ {S : Type 0} (store : Ghosts S) (earlier : Earlier) (held next : State) (old new : S)
    (honest : store.honest new)
    (pending : Pending) (memory : Memory) (journal : Journal)
    (read : IsRead (store.files old) (Some pending) memory journal)
    (result : Result Recovered Refusal) (early : IfErr result (λ refusal. IsEarly refusal → OnlyReads store old new))
    (durable : (direction : PendingDirection) → (step : Recorded) → AwaitsRecovery store direction step held old
    → SurvivesRecovery store direction step held result new)
  where
    pub recovers_in_doubt : AreBetweenStates store earlier held next old
        → SurvivesBetweenStates store earlier held next result new
    recovers_in_doubt (inl stands) = absurd (none_pending (store.files old) held stands.0 pending memory journal read)
    recovers_in_doubt (inr (inl stands)) = absurd
        (none_pending (store.files old) next stands.0 pending memory journal read)
    recovers_in_doubt (inr (inr (direction, step, leads, under, each))) =
        survives_in_doubt direction step held next under.partly.ready store earlier leads new result
        (durable direction step
        (record {
          files = recovers_under direction step held next
              (store.files old) under;
          trees = λ left is. some_made store earlier held next direction step leads left
              (each left is);
        }))
        (IfErr-weaker result (λ refusal. IsEarly refusal → OnlyReads store old new)
        (λ refusal. IsEarly refusal → AreBetweenStates store earlier held next new)
        (λ refusal reads is. doubt_stays store earlier held next old new (reads is) honest
        (inr (inr (direction, step, leads, under, each)))) early)
