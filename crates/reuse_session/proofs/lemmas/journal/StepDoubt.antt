-- What a loss of power leaves of a step that is carried out.
use Rattle.std.proofs.Common.{◌≡◌, ◌⊎◌, inl, inr, ⊎_elim, ℕ, ◌+◌, ◌<◌, ◌≤◌, List, [], ◌∷◌, Option, Some, None, Result}
use Rattle.std.proofs.Common.{Ok, Err, refl, sym, ap, subst, ◌∙◌, arith}
use Rattle.std.specs.FinMap.{get}
use Rattle.std.specs.List.{All}
use Rattle.reuse_store.specs.Asked.{Leaves, IsSynced, OnlyReads}
use Rattle.reuse_change.specs.Entry.{IsEntry, LeadsBy, SomeMade, ArePartlyMade}
use Rattle.reuse_change.specs.Files.{Files, AreFiles, tree_of}
use Rattle.reuse_tree.specs.Head.{direction_of, listed_direction, IsGoodHead, IsSoundHead}
use Rattle.reuse_change.specs.Tree.{undo_folder_of, Sets}
use Rattle.reuse_tree.specs.declared.journal.head.Pending.{Pending}
use Rattle.reuse_tree.specs.declared.journal.head.PendingDirection.{PendingDirection}
use Rattle.reuse_tree.specs.declared.journal.head.PendingDirection.TheVariants.{Do, Undo, Redo}
use Rattle.reuse_store.specs.declared.store.Store.{Ghosts}
use Rattle.reuse_change.specs.declared.direction.Direction.{Direction}
use Rattle.reuse_change.specs.declared.direction.Direction.TheVariants as go
use Rattle.reuse_store.proofs.MadeLemmas.{made_none, made_all, reach_ready}
use Rattle.reuse_store.proofs.TreeLemmas.{tree_are_files}
use Rattle.reuse_change.proofs.Walk.{leads_once}
use Rattle.reuse_journal.specs.Carried.{SetsHead, IsStopped}
use Rattle.reuse_journal.specs.Journal.{Recorded, Journal, State, reply_of}
use Rattle.reuse_journal.specs.JournalFiles.{head_path, entry_path, entry_in, head_of, number_of, EntrySays, IsKeptIn}
use Rattle.reuse_journal.specs.JournalFiles.{KeepsJournal}
use Rattle.reuse_journal.specs.Losses.{IsSafe, IsSafeBeside, RecoversToTree, AllRecoverToTree, AreBetweenStates}
use Rattle.reuse_journal.specs.Losses.{StopsWithDoubt, Survives, Earlier}
use Rattle.reuse_command.specs.Answer.{IsEarly, IsStop}
use Rattle.reuse_journal.specs.Remembered.{IsSameBut}
use Rattle.reuse_command.specs.declared.reply.Response.{Response}
use Rattle.reuse_command.specs.declared.reply.Response.TheVariants.{NothingChanged}
use Rattle.reuse_command.specs.declared.reply.Refusal.{Refusal}
use Rattle.reuse_command.specs.declared.failure.Failure.TheVariants.{Interrupted}
use Rattle.reuse_command.specs.declared.reply.Refusal.TheVariants.{Failed}
use Rattle.reuse_journal.specs.CommittedState.{IsTree, IsCommittedState, IsStep, IsPending}
use Rattle.reuse_journal.proofs.JournalReading.{file_in_folder}
use Rattle.reuse_session.proofs.lemmas.session.Replaying.{first_of_all}
use Rattle.reuse_journal.proofs.HeadTransition.{each_listed}
use Rattle.reuse_journal.proofs.HeadPuts.{head_sets, head_keeps_tree, sets_again}
use Rattle.reuse_journal.proofs.JournalLemmas.{entry_in_folder, same_but_in_folder, keeps_beside_any, keeps_with_head}
use Rattle.reuse_journal.proofs.JournalLemmas.{kept_beside, keeps_settled, kept_stays}
use Rattle.reuse_journal.proofs.SafeFiles.{one_count, one_tree, safe_entries, safe_tree}
use Rattle.reuse_journal.proofs.CommittedStates.{after_entry, still_tree, becomes_pending}

-- a step that was done or undone is kept where all are
pub kept_next : (direction : Direction) (step : Recorded) (held second : State) (folder : Files)
    → IsStep (listed_direction direction) step held second
    → All (IsKeptIn folder) held.journal.done × All (IsKeptIn folder) held.journal.undone → IsKeptIn folder step
kept_next go.Backward step held second folder is_step all = let mutations = is_step.transition in
    first_of_all (IsKeptIn folder) held.journal.done mutations.0 step mutations.1 all.0
kept_next go.Forward step held second folder is_step all = let mutations = is_step.transition in
    first_of_all (IsKeptIn folder) held.journal.undone mutations.0 step mutations.1 all.1

-- the step is pending, and nothing of it is made
pub under_unmade : (direction : PendingDirection) (step : Recorded) (held next : State) (left : Files)
    → IsStep direction step held next → IsTree held.tree
    → KeepsJournal (undo_folder_of left) held.journal (Some (record { entry = number_of step; direction = direction }))
    → IsKeptIn (undo_folder_of left) step → tree_of left ≡ held.tree → IsPending direction step held left
under_unmade direction step held next left is_step good keeps kept tree = record {
  good = good;
  journal = keeps;
  kept = kept;
  partly = record {
    made = subst (λ t. SomeMade (direction_of direction) step.changes held.tree t) (sym tree)
        (made_none (direction_of direction) step.changes held.tree);
    ready = reach_ready (direction_of direction) step.changes held.tree next.tree is_step.leads;
  };
}

-- the entry of a new step is put beside what is safe
module _ (earlier held second : State) (step : Recorded) (was left : Files) (is_new : IsStep Do step held second)
    (room : held.journal.used < 999_999) (good : IsTree held.tree) (safe : RecoversToTree earlier held was)
    (file : Option (List ℕ)) (says : EntrySays file (entry_in step))
    (sets : Sets (entry_path (held.journal.used + 1)) file was left) where
  beside : IsSameBut (entry_path (held.journal.used + 1)) (undo_folder_of was) (undo_folder_of left)
      × (tree_of left ≡ tree_of was)
  beside = same_but_in_folder was left (entry_path (held.journal.used + 1))
      (entry_in_folder (held.journal.used + 1)) sets.elsewhere

  tree_then : tree_of left ≡ held.tree
  tree_then = beside.1 ∙ safe.tree

  kept_new : IsKeptIn (undo_folder_of left) step
  kept_new =
      let number : number_of step ≡ held.journal.used + 1 = is_new.transition.0 in
      subst (λ n. EntrySays (get (undo_folder_of left) (entry_path n)) (entry_in step)) (sym number)
      (subst (λ f. EntrySays f (entry_in step)) (sym (sym (file_in_folder left (entry_path (held.journal.used + 1))
      (entry_path (held.journal.used + 1)) refl refl) ∙ sets.here)) says)

  -- another step from the committed state is pending
  on_then : (next : State) (direction : PendingDirection) (other : Recorded) → IsStep direction other held next
      → IsPending direction other held was → RecoversToTree earlier held left
  on_then next direction other is_step under = record {
    tree = tree_then;
    opens = inr (inl (at_direction direction is_step under));
  }
    where
      keeps : (p : Pending) → KeepsJournal (undo_folder_of was) held.journal (Some p)
          → KeepsJournal (undo_folder_of left) held.journal (Some p)
      keeps p journal = keeps_beside_any (undo_folder_of was) (undo_folder_of left) held.journal (Some p)
          (held.journal.used + 1) journal (omega arith) (omega arith) beside.0

      at_direction : (w : PendingDirection) → IsStep w other held next → IsPending w other held was
          → (n : State) × (v : PendingDirection) × (s : Recorded) × IsStep v s held n × IsPending v s held left
      at_direction Do goes here =
          let same : number_of other ≡ number_of step = goes.transition.0 ∙ sym is_new.transition.0 in (
            second,
            Do,
            step,
            is_new,
            under_unmade Do step held second left is_new good
                (subst
                (λ n. KeepsJournal (undo_folder_of left) held.journal (Some (record { entry = n; direction = Do })))
                same (keeps (record { entry = number_of other; direction = Do }) here.journal)) kept_new tree_then,
          )
      at_direction Undo goes here =
          let journal = keeps (record { entry = number_of other; direction = Undo }) here.journal in (
            next,
            Undo,
            other,
            goes,
            under_unmade Undo other held next left goes good journal (kept_next go.Backward other held next
                (undo_folder_of left) goes (journal.done, journal.undone)) tree_then,
          )
      at_direction Redo goes here =
          let journal = keeps (record { entry = number_of other; direction = Redo }) here.journal in (
            next,
            Redo,
            other,
            goes,
            under_unmade Redo other held next left goes good journal (kept_next go.Forward other held next
                (undo_folder_of left) goes (journal.done, journal.undone)) tree_then,
          )

  -- the step that led to the committed state is pending
  to_then : (direction : PendingDirection) (other : Recorded) → IsStep direction other earlier held
      → IsPending direction other earlier was → RecoversToTree earlier held left
  to_then direction other is_step under = record {
    tree = tree_then;
    opens = inr (inr (at_direction direction is_step under));
  }
    where
      keeps : (p : Pending) → KeepsJournal (undo_folder_of was) earlier.journal (Some p)
          → earlier.journal.used < held.journal.used + 1 → KeepsJournal (undo_folder_of left) earlier.journal (Some p)
      keeps p journal low = keeps_beside_any (undo_folder_of was) (undo_folder_of left) earlier.journal (Some p)
          (held.journal.used + 1) journal low (omega arith) beside.0

      then_under : (w : PendingDirection) → IsPending w other earlier was → KeepsJournal
          (undo_folder_of left) earlier.journal (Some (record { entry = number_of other; direction = w }))
          → IsKeptIn (undo_folder_of left) other → IsPending w other earlier left
      then_under w here journal kept = record {
        good = here.good;
        journal = journal;
        kept = kept;
        partly = subst (ArePartlyMade (direction_of w) other.changes earlier.tree) (sym beside.1) here.partly;
      }

      at_direction : (w : PendingDirection) → IsStep w other earlier held → IsPending w other earlier was
          → (v : PendingDirection) × (s : Recorded) × IsStep v s earlier held × IsPending v s earlier left
      at_direction Do goes here =
          let used : held.journal.used ≡ earlier.journal.used + 1 = ap (λ (j : Journal). j.used) goes.transition.1 in
          let number : number_of other ≡ earlier.journal.used + 1 = goes.transition.0 in (
            Do,
            other,
            goes,
            then_under Do here (keeps (record { entry = number_of other; direction = Do }) here.journal (omega arith))
                (kept_beside (undo_folder_of was) (undo_folder_of left) other
                (held.journal.used + 1) {low = held.journal.used + 1} (omega arith, omega arith) (omega arith)
                (omega arith) beside.0 here.kept),
          )
      at_direction Undo goes here =
          let mutations = goes.transition in
          let used : held.journal.used ≡ earlier.journal.used = ap (λ (j : Journal). j.used) mutations.2 in
          let journal = keeps (record { entry = number_of other; direction = Undo }) here.journal (omega arith) in (
            Undo,
            other,
            goes,
            then_under Undo here journal
                (kept_next go.Backward other earlier held (undo_folder_of left) goes (journal.done, journal.undone)),
          )
      at_direction Redo goes here =
          let mutations = goes.transition in
          let used : held.journal.used ≡ earlier.journal.used = ap (λ (j : Journal). j.used) mutations.2 in
          let journal = keeps (record { entry = number_of other; direction = Redo }) here.journal (omega arith) in (
            Redo,
            other,
            goes,
            then_under Redo here journal
                (kept_next go.Forward other earlier held (undo_folder_of left) goes (journal.done, journal.undone)),
          )

  safe_on_with_entry : RecoversToTree earlier held left
  safe_on_with_entry =
      ⊎_elim (λ (committed : IsCommittedState was held).
      record { tree = tree_then; opens = inl (after_entry was left held committed room sets.elsewhere) })
      (λ rest. ⊎_elim
      (λ (on : (next : State) × (direction : PendingDirection) × (other : Recorded) × IsStep direction other held next
      × IsPending direction other held was). on_then on.0 on.1 on.2 on.3 on.4)
      (λ (to : (direction : PendingDirection) × (other : Recorded) × IsStep direction other earlier held
      × IsPending direction other earlier was). to_then to.0 to.1 to.2 to.3)
      rest)
      safe.opens

module _ (earlier : Earlier) (held second : State) (step : Recorded) (was left : Files)
    (is_new : IsStep Do step held second) (room : held.journal.used < 999_999) (good : IsTree held.tree)
    (sound : IsSoundHead (head_of held.journal None))
    (file : Option (List ℕ)) (says : EntrySays file (entry_in step))
    (sets : Sets (entry_path (held.journal.used + 1)) file was left) where
  -- beside it too: of the other history the step is as new
  beside_with_entry : IsSafeBeside held was → IsSafeBeside held left
  beside_with_entry beside =
      let other = beside.other in
      let tree = one_tree held other beside.differ in
      let used = one_count held other beside.differ in
      let is_new_there : IsStep Do step other (record {
        tree = second.tree;
        journal = record { done = step ∷ other.journal.done; undone = []; used = other.journal.used + 1 };
      }) = record {
        leads = subst (λ t. LeadsBy (direction_of Do) step.changes t second.tree) (sym tree) is_new.leads;
        transition = (is_new.transition.0 ∙ ap (λ n. n + 1) (sym used), refl);
      } in
      let folder = (same_but_in_folder was left (entry_path (held.journal.used + 1))
      (entry_in_folder (held.journal.used + 1)) sets.elsewhere).0 in
      let low = each_listed (λ n. (1 ≤ n) × (n < held.journal.used + 1)) held.journal None sound.given_out in
      record {
        other = other;
        differ = beside.differ;
        entries = (
          λ k d within. kept_beside (undo_folder_of was) (undo_folder_of left) _ (held.journal.used + 1)
              (low.0 k d within) (omega arith) (omega arith) folder (beside.entries.0 k d within),
          λ k d within. kept_beside (undo_folder_of was) (undo_folder_of left) _ (held.journal.used + 1)
              (low.1 k d within) (omega arith) (omega arith) folder (beside.entries.1 k d within),
        );
        earlier = beside.earlier;
        safe = safe_on_with_entry beside.earlier other (record {
          tree = second.tree;
          journal = record { done = step ∷ other.journal.done; undone = []; used = other.journal.used + 1 };
        }) step was left is_new_there
            (subst (λ n. n < 999_999) (sym used) room) (subst IsTree (sym tree) good) beside.safe file says
            (subst (λ n. Sets (entry_path (n + 1)) file was left) (sym used) sets);
      }

  pub safe_with_entry : IsSafe earlier held was → IsSafe earlier held left
  safe_with_entry (inl safe) =
      inl (safe_on_with_entry earlier.state held second step was left is_new room good safe file says sets)
  safe_with_entry (inr (forgetting, beside)) = inr (forgetting, beside_with_entry beside)

-- ---- what a call leaves then

-- a refusal before anything is pending
pub survives_early : {S : Type 0} (store : Ghosts S) (IsNext : State → Type 0) (earlier : Earlier) (held : State)
    (new : S) (refusal : Refusal) → IsEarly refusal → AllRecoverToTree store earlier held new
    → Survives store IsNext earlier held (Err refusal) new
survives_early store IsNext earlier held new (Failed (Interrupted cause)) early safe = absurd early
survives_early store IsNext earlier held new refusal early safe = safe

pub survives_stop : {S : Type 0} (store : Ghosts S) (IsNext : State → Type 0) (earlier : Earlier) (held next : State)
    (new : S) (refusal : Refusal) → (IsEarly refusal → AllRecoverToTree store earlier held new) → IsNext next
    → (IsStop refusal → AreBetweenStates store earlier held next new)
    → Survives store IsNext earlier held (Err refusal) new
survives_stop store IsNext earlier held next new (Failed (Interrupted cause)) early is doubt = (next, is, doubt tt)
survives_stop store IsNext earlier held next new refusal early is doubt = early tt

-- by another word for the next committed state
pub survives_weaker : {S : Type 0} (store : Ghosts S) (IsNext IsOther : State → Type 0) (earlier : Earlier)
    (held : State) (new : S) (result : Result Response Refusal) → ((next : State) → IsNext next → IsOther next)
    → Survives store IsNext earlier held result new
    → Survives store IsOther earlier held result new
survives_weaker store IsNext IsOther earlier held new (Ok (NothingChanged left)) weaker survives = survives
survives_weaker store IsNext IsOther earlier held new (Ok reply) weaker survives = survives
survives_weaker store IsNext IsOther earlier held new (Err (Failed (Interrupted cause))) weaker survives =
    (survives.0, weaker survives.0 survives.1, survives.2)
survives_weaker store IsNext IsOther earlier held new (Err refusal) weaker survives = survives

pub survives_replay : {S : Type 0} (store : Ghosts S) (IsNext : State → Type 0) (earlier : Earlier) (held : State)
    (new : S) (direction : Direction) (paths : List (List ℕ)) (reply : Response) → reply ≡ reply_of direction paths
    → IsSynced store new → Survives store IsNext earlier held (Ok reply) new
survives_replay store IsNext earlier held new go.Forward paths reply is synced =
    subst (λ r. Survives store IsNext earlier held (Ok r) new) (sym is) synced
survives_replay store IsNext earlier held new go.Backward paths reply is synced =
    subst (λ r. Survives store IsNext earlier held (Ok r) new) (sym is) synced

-- what was synced is safe on what stands there
pub synced_is_safe : {S : Type 0} (store : Ghosts S) (earlier : Earlier) (held : State) (new : S)
    → IsCommittedState (store.files new) held → IsSynced store new → AllRecoverToTree store earlier held new
synced_is_safe store earlier held new committed synced left is = inl (subst (RecoversToTree earlier.state held)
    (sym (synced left is)) (record { tree = committed.tree; opens = inl committed }))

-- what only read leaves it safe
pub reads_are_safe : {S : Type 0} (store : Ghosts S) (earlier : Earlier) (held : State) (old new : S)
    → OnlyReads store old new → AllRecoverToTree store earlier held old → AllRecoverToTree store earlier held new
reads_are_safe store earlier held old new reads safe left is = safe left (reads.may left is)

-- ---- a step that is carried out

module _ {S : Type 0} (store : Ghosts S) (old new : S) (direction : PendingDirection) (step : Recorded)
    (earlier : Earlier) (held second : State) (committed : IsCommittedState (store.files old) held)
    (kept : IsKeptIn (undo_folder_of (store.files old)) step) (is_step : IsStep direction step held second)
    (good : IsEntry step.changes) (are : AreFiles (store.files new))
    (pending settled : List ℕ) (pending_head : IsGoodHead pending
    (head_of held.journal (Some (record { entry = number_of step; direction = direction }))))
    (settled_head : IsGoodHead settled (head_of second.journal None)) where
  under : (after : Files) → IsStopped (direction_of direction) step.changes pending (store.files old) after
      → IsPending direction step held after
  under after out =
      becomes_pending (store.files old) after direction step held second committed kept is_step pending pending_head out

  -- the pending head is put on what is safe
  safe_with_head : (was left : Files) → IsSafe earlier held was → IsKeptIn (undo_folder_of was) step
      → Sets head_path (Some pending) was left → IsSafe earlier held left
  safe_with_head was left safe has sets =
      let tree : tree_of left ≡ held.tree =
      head_keeps_tree was left (Some pending) sets ∙ safe_tree earlier held was safe in
      let in_folder = head_sets was left (Some pending) sets in
      inl (record {
        tree = tree;
        opens = inr (inl (
          second,
          direction,
          step,
          is_step,
          under_unmade direction step held second left is_step committed.good
              (keeps_with_head (undo_folder_of was) (undo_folder_of left) held.journal
              (Some (record { entry = number_of step; direction = direction })) pending
              (safe_entries earlier held was safe) in_folder pending_head)
              (kept_stays (undo_folder_of was) (undo_folder_of left) step pending has in_folder) tree,
        ));
      })

  -- all changes are made, and the pending head stands or the last one
  module _ (done : Files) (leads : LeadsBy (direction_of direction) step.changes (tree_of (store.files old))
      (tree_of done)) (first : SetsHead pending (store.files old) done) (good_second : IsTree second.tree) where
    made_tree : tree_of done ≡ second.tree
    made_tree = leads_once (direction_of direction) step.changes (tree_of (store.files old))
        (tree_of done) second.tree leads (subst (λ tree. LeadsBy (direction_of direction) step.changes tree second.tree)
        (sym committed.tree) is_step.leads)

    made_under : IsPending direction step held done
    made_under = under done (record {
      tree = made_all (direction_of direction) step.changes (tree_of (store.files old)) (tree_of done) leads;
      sets = first;
    })

    made_committed : (after : Files) → Sets head_path (Some settled) done after → IsCommittedState after second
    made_committed after last = record {
      tree = head_keeps_tree done after (Some settled) last ∙ made_tree;
      good = good_second;
      journal = keeps_settled (undo_folder_of (store.files old)) (undo_folder_of after) held.journal second.journal None
          direction step settled committed.journal kept is_step.transition
          (sets_again head_path (Some pending) (Some settled) (undo_folder_of (store.files old)) (undo_folder_of done)
          (undo_folder_of done) (undo_folder_of after) first refl
          (head_sets done after (Some settled) last)) settled_head;
    }

    doubt_at_last : (store.files new ≡ done) ⊎ Sets head_path (Some settled) done (store.files new)
        → Leaves store new (λ left. (left ≡ done) ⊎ Sets head_path (Some settled) done left)
        → AreBetweenStates store earlier held second new
    doubt_at_last (inl same) lefts = inr (inr (
      direction,
      step,
      is_step,
      subst (IsPending direction step held) (sym same) made_under,
      λ left may. inr (⊎_elim (λ (is : left ≡ done). inr
          (inr (direction, step, is_step, subst (IsPending direction step held) (sym is) made_under)))
          (λ (last : Sets head_path (Some settled) done left). inr (inl (made_committed left last))) (lefts left may)),
    ))
    doubt_at_last (inr sets) lefts = inr (inl (
      made_committed (store.files new) sets,
      λ left may. ⊎_elim
          (λ (is : left ≡ done). inl (subst (RecoversToTree held second) (sym is)
          (record { tree = made_tree; opens = inr (inr (direction, step, is_step, made_under)) })))
          (λ (last : Sets head_path (Some settled) done left). let stands = made_committed left last in
          inl (record { tree = stands.tree; opens = inl stands }))
          (lefts left may),
    ))

  -- the tree behind the step is one
  second_is_tree : (done : Files)
      → LeadsBy (direction_of direction) step.changes (tree_of (store.files old)) (tree_of done)
      → (store.files new ≡ done) ⊎ Sets head_path (Some settled) done (store.files new) → IsTree second.tree
  second_is_tree done leads files =
      let to = leads_once (direction_of direction) step.changes (tree_of (store.files old))
      (tree_of done) second.tree leads (subst (λ tree. LeadsBy (direction_of direction) step.changes tree second.tree)
      (sym committed.tree) is_step.leads) in
      let now : tree_of (store.files new) ≡ second.tree = ⊎_elim (λ (same : store.files new ≡ done). ap tree_of same
      ∙ to) (λ (sets : Sets head_path (Some settled) done (store.files new)). head_keeps_tree done (store.files new)
      (Some settled) sets ∙ to) files in
      still_tree direction step.changes held.tree second.tree good is_step.leads committed.good
      (subst AreFiles now (tree_are_files (store.files new) are))

  -- where it stops the files are in doubt, and all that may be left
  pub stops_in_doubt : AllRecoverToTree store earlier held old
      → Leaves store old (λ left. IsKeptIn (undo_folder_of left) step) → StopsWithDoubt store
      (direction_of direction) step.changes pending settled old new → AreBetweenStates store earlier held second new
  stops_in_doubt safe has (inl (files, lefts)) =
      let safe_left : Leaves store new (IsSafe earlier held) = λ left is. ⊎_elim (λ was. safe left was)
      (λ (made : (was : Files) × store.crash_states old was × Sets head_path (Some pending) was left).
      safe_with_head made.0 left (safe made.0 made.1) (has made.0 made.1) made.2) (lefts left is) in
      ⊎_elim (λ (same : store.files new ≡ store.files old). inl
      (subst (λ f. IsCommittedState f held) (sym same) committed, safe_left))
      (λ (sets : Sets head_path (Some pending) (store.files old) (store.files new)).
      let tree = head_keeps_tree (store.files old) (store.files new) (Some pending) sets in
      let stops : IsStopped (direction_of direction) step.changes pending (store.files old) (store.files new) = record {
        tree = subst (λ t. SomeMade (direction_of direction) step.changes (tree_of (store.files old)) t) (sym tree)
            (made_none (direction_of direction) step.changes (tree_of (store.files old)));
        sets = head_sets (store.files old) (store.files new) (Some pending) sets;
      } in
      inr (inr (direction, step, is_step, under (store.files new) stops, λ left is. inl (safe_left left is))))
      files
  stops_in_doubt safe has (inr (inl (files, lefts))) =
      inr (inr (
        direction,
        step,
        is_step,
        under (store.files new) files,
        λ left is. inr (inr (inr (direction, step, is_step, under left (lefts left is)))),
      ))
  stops_in_doubt safe has (inr (inr (done, leads, first, last))) =
      doubt_at_last done leads first (second_is_tree done leads last.0) last.0 last.1
