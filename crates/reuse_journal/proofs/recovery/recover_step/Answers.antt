use Rattle.std.proofs.Common.{◌≡◌, inr, List, None, Some, Result, Ok, Err, IfErr, OnOk, sym, ap, subst, ◌∙◌}
use Rattle.std.specs.FinMap.{get}
use Rattle.std.specs.List.{All}
use Rattle.std.proofs.lemmas.Result.{on_ok_weaker}
use Rattle.reuse_store.specs.Asked.{IsSynced, Leaves, OnlyReads}
use Rattle.reuse_change.specs.Entry.{ArePartlyMade, CanBeRolledBack, IsEntry, SomeMade}
use Rattle.reuse_change.specs.Files.{Clashes, Files, tree_of}
use Rattle.reuse_tree.specs.Head.{direction_of, IsGoodHead}
use Rattle.reuse_change.specs.Listing.{ArePaths}
use Rattle.reuse_change.specs.Tree.{undo_folder_of}
use Rattle.reuse_change.specs.declared.change.Change.{Change}
use Rattle.reuse_store.specs.declared.cause.Cause.{Cause}
use Rattle.reuse_tree.specs.declared.journal.head.PendingDirection.{PendingDirection}
use Rattle.reuse_change.specs.declared.direction.Direction.{Direction}
use Rattle.reuse_store.proofs.AskedLemmas.{reads_more}
use Rattle.reuse_command.specs.Answer.{IsNoClash}
use Rattle.reuse_journal.specs.Carried.{IsRolledBack, StopsBack}
use Rattle.reuse_journal.specs.History.{head_listing}
use Rattle.reuse_journal.specs.Journal.{Journal, Recorded, State}
use Rattle.reuse_journal.specs.JournalFiles.{head_path, entry_path, head_of, EntrySays}
use Rattle.reuse_journal.specs.Losses.{AwaitsOrIs, AwaitsRecovery, IsOrRecoversTo, StopsBackWithDoubt}
use Rattle.reuse_journal.specs.Opening.{IsRead}
use Rattle.reuse_journal.specs.Recovery.{AreFound, ArePart, changes_besides}
use Rattle.reuse_journal.specs.Remembered.{IsSameBut}
use Rattle.reuse_journal.specs.CommittedState.{IsCommittedState}
use Rattle.reuse_command.specs.declared.failure.Failure.TheVariants.{Interrupted, Memory}
use Rattle.reuse_command.specs.declared.reply.Refusal.TheVariants.{Failed}
use Rattle.reuse_command.proofs.OnlyReading.{is_refused, passed_on, put_early, read_early, tested_early}
use Rattle.reuse_journal.proofs.OpeningLemmas.{recorded}
use Rattle.reuse_journal.proofs.RecoveredFiles.{can_all, has_pending, is_part, is_recovered, skipped_ascend}
use Rattle.reuse_journal.proofs.RecoveredFiles.{stops_recovering, stuck_first, states}
use Rattle.reuse_journal.proofs.RecoveryDoubt.{part_stands, part_stops, partly_on, refused_on_the_way}
use Rattle.reuse_journal.proofs.RecoveryDoubt.{rolled_on_the_way, some_left}
use Rattle.reuse_journal.proofs.PendingRecovery.{at_same, head_fits, is_entry, pending_readable, settled_good}
use Rattle.reuse_journal.proofs.recovery.recover_step.Given.{Over}
use Rattle.reuse_journal.proofs.recovery.recover_step.Goals.{After-find_each, In_ok-found, After-roll_back_part}
use Rattle.reuse_journal.proofs.recovery.recover_step.Goals as goal

-- the pending step's entry can be read
pub returns-in_err-entry-clause-no_bad : goal.returns-in_err-entry-clause-no_bad
returns-in_err-entry-clause-no_bad g c honest journal read path e =
    let readable = pending_readable (g.S.Store.files c.args.store.now) c.args.pending c.args.history.now journal read in
    (c.read_entry.ensures.bad honest path (passed_on c.from_residual.result c.read_entry.result
    c.from_residual.ensures.1 c.in_err-entry.was e)).1 readable.0 readable.1

-- what is known once each path was looked at
module _ (g : Over) (c : In_ok-found g) (honest : g.S.Store.honest c.find_each.new.store) (journal : Journal)
    (read : IsRead (g.S.Store.files c.args.store.now) (Some c.args.pending) c.args.history.now journal) where
  says : EntrySays
      (get (undo_folder_of (g.S.Store.files c.args.store.now)) (entry_path c.args.pending.entry)) c.in_ok-entry.entry
  says = c.in_ok-entry.ensures.ok (c.find_each.ensures.reads.was_honest honest)

  found : AreFound (direction_of c.args.pending.direction) (tree_of (g.S.Store.files c.args.store.now))
      c.in_ok-entry.entry.changes c.in_ok-found.found.changed.items c.in_ok-found.found.skipped.items
  found =
      let files = g.S.Store.files in
      let entry = c.in_ok-entry.entry in
      let good = is_entry (files c.args.store.now) c.args.pending c.args.history.now journal read entry says in
      at_same (λ f w cs. AreFound w (tree_of f) cs c.in_ok-found.found.changed.items c.in_ok-found.found.skipped.items)
      (files c.read_entry.new.store) (files c.args.store.now) c.direction-direction.result
      (direction_of c.args.pending.direction) c.as_slice.result.now entry.changes
      (c.read_entry.ensures.reads.files (c.find_each.ensures.reads.was_honest honest)) c.direction-direction.ensures
      c.as_slice.ensures
      (c.in_ok-found.ensures.found honest (subst IsEntry (sym c.as_slice.ensures) good))

-- the first that is stuck is refused
pub returns-in_err-refuse_first-clause-moved : goal.returns-in_err-refuse_first-clause-moved
returns-in_err-refuse_first-clause-moved g c honest journal read path e =
    let at = (goal.at.returns-in_err-refuse_first-clause-moved g c).In_ok-found in
    let first = c.refuse_first.ensures.moved path (passed_on c.from_residual-in_err-refuse_first.result
    c.refuse_first.result c.from_residual-in_err-refuse_first.ensures.1 c.in_err-refuse_first.was e) in (
      first.0,
      stuck_first (g.S.Store.files c.args.store.now) c.args.pending c.args.history.now journal read c.in_ok-entry.entry
          (says g at honest journal read) c.in_ok-found.found.changed.items c.in_ok-found.found.skipped.items
          (found g at honest journal read)
          path first.1.0 (sym c.as_slice-2.ensures.value ∙ first.1.1),
    )

-- what is known once those that can be rolled back are rolled back, whichever way that went
module _ (g : Over) (c : After-roll_back_part g) (at : In_ok-found g)
    (honest : g.S.Store.honest c.roll_back_part.new.store) (journal : Journal)
    (read : IsRead (g.S.Store.files c.args.store.now) (Some c.args.pending) c.args.history.now journal)
    (its_says : EntrySays
    (get (undo_folder_of (g.S.Store.files c.args.store.now)) (entry_path c.args.pending.entry)) c.in_ok-entry.entry)
    (its_found : AreFound (direction_of c.args.pending.direction) (tree_of (g.S.Store.files c.args.store.now))
    c.in_ok-entry.entry.changes c.in_ok-found.found.changed.items c.in_ok-found.found.skipped.items)
  where
    same : g.S.Store.files c.find_each.new.store ≡ g.S.Store.files c.args.store.now
    same =
        let looked = c.roll_back_part.ensures.later.was_honest honest in
        c.find_each.ensures.reads.files looked
        ∙ c.read_entry.ensures.reads.files (c.find_each.ensures.reads.was_honest looked)

    part_is : c.as_slice-5.result.now ≡ changes_besides c.in_ok-found.found.skipped.items c.in_ok-entry.entry.changes
    part_is =
        let ascend = skipped_ascend (g.S.Store.files c.args.store.now) c.args.pending c.args.history.now journal read
        c.in_ok-entry.entry its_says c.in_ok-found.found.changed.items c.in_ok-found.found.skipped.items its_found in
        c.as_slice-5.ensures.value
        ∙ c.changes_besides-part.ensures (subst ArePaths (sym c.as_slice-3.ensures.value) ascend)
        ∙ ap (λ paths. changes_besides paths c.into_vec.result.items) c.as_slice-3.ensures.value
        ∙ ap (changes_besides c.in_ok-found.found.skipped.items) c.into_vec.ensures

    -- what rolling back says of what it was given is said of the step's changes that can be rolled back
    of_step : (Says : Files → Direction → List Change → Type 0)
        → Says (g.S.Store.files c.find_each.new.store) c.direction-direction.result c.as_slice-5.result.now
        → Says (g.S.Store.files c.args.store.now) (direction_of c.args.pending.direction)
        (changes_besides c.in_ok-found.found.skipped.items c.in_ok-entry.entry.changes)
    of_step Says = at_same Says (g.S.Store.files c.find_each.new.store) (g.S.Store.files c.args.store.now)
        c.direction-direction.result (direction_of c.args.pending.direction) c.as_slice-5.result.now (changes_besides
        c.in_ok-found.found.skipped.items c.in_ok-entry.entry.changes) same c.direction-direction.ensures part_is

    given_to : (Says : Files → Direction → List Change → Type 0)
        → Says (g.S.Store.files c.args.store.now) (direction_of c.args.pending.direction)
        (changes_besides c.in_ok-found.found.skipped.items c.in_ok-entry.entry.changes)
        → Says (g.S.Store.files c.find_each.new.store) c.direction-direction.result c.as_slice-5.result.now
    given_to Says = at_same Says (g.S.Store.files c.args.store.now) (g.S.Store.files c.find_each.new.store)
        (direction_of c.args.pending.direction) c.direction-direction.result
        (changes_besides c.in_ok-found.found.skipped.items c.in_ok-entry.entry.changes) c.as_slice-5.result.now
        (sym same) (sym c.direction-direction.ensures) (sym part_is)

    part : ArePart c.as_slice-5.result.now
    part = subst ArePart (sym part_is)
        (is_part (g.S.Store.files c.args.store.now) c.args.pending c.args.history.now journal read c.in_ok-entry.entry
        its_says c.in_ok-found.found.changed.items c.in_ok-found.found.skipped.items its_found)

    can : All (CanBeRolledBack c.direction-direction.result (tree_of (g.S.Store.files c.find_each.new.store)))
        c.as_slice-5.result.now
    can = given_to (λ f w cs. All (CanBeRolledBack w (tree_of f)) cs)
        (can_all (g.S.Store.files c.args.store.now) c.args.pending c.args.history.now journal read c.in_ok-entry.entry
        its_says c.in_ok-found.found.changed.items c.in_ok-found.found.skipped.items its_found)

    good_text : IsGoodHead c.as_slice-4.result.now (head_of journal None)
    good_text =
        settled_good (undo_folder_of (g.S.Store.files c.args.store.now)) journal
        (Some c.args.pending) c.args.history.now c.as_slice-4.result.now read.keeps read.remembers
        (λ sound. subst (λ t. IsGoodHead t (head_listing c.args.history.now None)) (sym c.as_slice-4.ensures.value)
        (c.in_ok-settled.ensures.good sound))

    folder : IsSameBut head_path (undo_folder_of (g.S.Store.files c.args.store.now))
        (undo_folder_of (g.S.Store.files c.roll_back_part.new.store))
    folder = subst
        (λ f. IsSameBut head_path (undo_folder_of f) (undo_folder_of (g.S.Store.files c.roll_back_part.new.store))) same
        (c.roll_back_part.ensures.folder honest part)

    never_clashes : Clashes (g.S.Store.files c.find_each.new.store) head_path → ⊥
    never_clashes clash =
        let looked = c.roll_back_part.ensures.later.was_honest honest in
        let are = g.met.S.Store.are_files c.args.store.now
        (c.read_entry.ensures.reads.was_honest (c.find_each.ensures.reads.was_honest looked)) in
        head_fits (g.S.Store.files c.args.store.now) journal c.args.pending are read.keeps
        (subst (λ f. Clashes f head_path) same clash)

pub returns-in_err-roll_back_part-clause-folder : goal.returns-in_err-roll_back_part-clause-folder
returns-in_err-roll_back_part-clause-folder g c honest journal read =
    let at = goal.at.returns-in_err-roll_back_part-clause-folder g c in
    let looked = c.roll_back_part.ensures.later.was_honest honest in
    folder g at.After-roll_back_part at.In_ok-found honest journal read (says g at.In_ok-found looked journal read)
    (found g at.In_ok-found looked journal read)

pub returns-clause-folder : goal.returns-clause-folder
returns-clause-folder g c honest journal read =
    let at = goal.at.returns-clause-folder g c in
    let looked = c.roll_back_part.ensures.later.was_honest honest in
    folder g at.After-roll_back_part at.In_ok-found honest journal read (says g at.In_ok-found looked journal read)
    (found g at.In_ok-found looked journal read)

pub returns-in_err-roll_back_part-clause-moved : goal.returns-in_err-roll_back_part-clause-moved
returns-in_err-roll_back_part-clause-moved g c honest journal read path e =
    let at = goal.at.returns-in_err-roll_back_part-clause-moved g c in
    let looked = c.roll_back_part.ensures.later.was_honest honest in
    let it = says g at.In_ok-found looked journal read in
    let them = found g at.In_ok-found looked journal read in
    absurd (c.roll_back_part.ensures.never_moved honest (part g at.After-roll_back_part at.In_ok-found honest journal
    read it them) (can g at.After-roll_back_part at.In_ok-found honest journal read it them) path
    (passed_on c.from_residual-in_err-roll_back_part.result c.roll_back_part.result
    c.from_residual-in_err-roll_back_part.ensures.1 c.in_err-roll_back_part.was e))

pub returns-in_err-roll_back_part-clause-interrupted : goal.returns-in_err-roll_back_part-clause-interrupted
returns-in_err-roll_back_part-clause-interrupted g c honest journal read cause e =
    let at = goal.at.returns-in_err-roll_back_part-clause-interrupted g c in
    let looked = c.roll_back_part.ensures.later.was_honest honest in
    let it = says g at.In_ok-found looked journal read in
    let them = found g at.In_ok-found looked journal read in
    let new = g.S.Store.files c.roll_back_part.new.store in
    let text = c.as_slice-4.result.now in
    let stops = c.roll_back_part.ensures.back honest
    (part g at.After-roll_back_part at.In_ok-found honest journal read it them) cause
    (passed_on c.from_residual-in_err-roll_back_part.result c.roll_back_part.result
    c.from_residual-in_err-roll_back_part.ensures.1 c.in_err-roll_back_part.was e) in
    stops_recovering (g.S.Store.files c.args.store.now) c.args.pending c.args.history.now journal read
    c.in_ok-entry.entry it c.in_ok-found.found.changed.items c.in_ok-found.found.skipped.items them
    new text (g.met.S.Store.are_files c.roll_back_part.new.store honest)
    (good_text g at.After-roll_back_part at.In_ok-found honest journal read it them)
    (folder g at.After-roll_back_part at.In_ok-found honest journal read it them)
    (of_step g at.After-roll_back_part at.In_ok-found honest journal read it them
    (λ f w cs. StopsBack w cs text f new) stops)

pub returns-in_err-roll_back_part-clause-clash : goal.returns-in_err-roll_back_part-clause-clash
returns-in_err-roll_back_part-clause-clash g c honest journal read =
    let at = goal.at.returns-in_err-roll_back_part-clause-clash g c in
    let looked = c.roll_back_part.ensures.later.was_honest honest in
    let it = says g at.In_ok-found looked journal read in
    let them = found g at.In_ok-found looked journal read in
    let none = c.in_err-roll_back_part.ensures.clash honest
    (part g at.After-roll_back_part at.In_ok-found honest journal read it them)
    (never_clashes g at.After-roll_back_part at.In_ok-found honest journal read it them) in
    subst (λ r. IfErr r IsNoClash)
    (sym (is_refused c.from_residual-in_err-roll_back_part.result c.from_residual-in_err-roll_back_part.ensures.1)) none

pub returns-clause-recovered : goal.returns-clause-recovered
returns-clause-recovered g c honest journal read =
    let at = goal.at.returns-clause-recovered g c in
    let looked = c.roll_back_part.ensures.later.was_honest honest in
    let it = says g at.In_ok-found looked journal read in
    let them = found g at.In_ok-found looked journal read in
    let files = g.S.Store.files c.args.store.now in
    let new = g.S.Store.files c.roll_back_part.new.store in
    let entry = c.in_ok-entry.entry in
    let text = c.as_slice-4.result.now in
    let changed = c.in_ok-found.found.changed.items in
    let skipped = c.in_ok-found.found.skipped.items in
    let rolled = c.in_ok-roll_back_part.ensures.done honest
    (part g at.After-roll_back_part at.In_ok-found honest journal read it them) in
    inr (
      c.args.pending.direction,
      recorded c.args.pending.entry entry,
      journal,
      has_pending files c.args.pending c.args.history.now journal read entry it changed skipped them,
      states files c.args.pending c.args.history.now journal read entry it changed skipped them c.args.skip_moved
          c.new-2.result c.new-3.result c.new-2.ensures c.new-3.ensures
          (λ wants. sym c.as_slice-2.ensures.value ∙ c.in_ok-refuse_first.ensures.none wants),
      is_recovered files c.args.pending c.args.history.now journal read entry it changed skipped them new text
          (g.met.S.Store.are_files c.roll_back_part.new.store honest)
          (good_text g at.After-roll_back_part at.In_ok-found honest journal read it them)
          (folder g at.After-roll_back_part at.In_ok-found honest journal read it them)
          (of_step g at.After-roll_back_part at.In_ok-found honest journal read it them
          (λ f w cs. IsRolledBack w cs text f new) rolled),
    )

-- ---- what a loss of power may leave

pub returns-in_err-entry-clause-durable : goal.returns-in_err-entry-clause-durable
returns-in_err-entry-clause-durable g c honest journal read direction step held awaits =
    refused_on_the_way direction step held g.S.Store c.args.store.now c.read_entry.new.store c.from_residual.result
    c.in_err-entry.field-0.0 (is_refused c.from_residual.result c.from_residual.ensures.1)
    (read_early c.in_err-entry.field-0.0 c.in_err-entry.ensures.refusal) c.read_entry.ensures.reads honest awaits

-- each path was looked at, and nothing else asked for
looked_at : (g : Over) (c : After-find_each g) → OnlyReads g.S.Store c.args.store.now c.find_each.new.store
looked_at g c = reads_more g.S.Store c.args.store.now c.read_entry.new.store c.find_each.new.store
    c.read_entry.ensures.reads c.find_each.ensures.reads

pub returns-in_err-found-clause-durable : goal.returns-in_err-found-clause-durable
returns-in_err-found-clause-durable g c honest journal read direction step held awaits =
    let at = (goal.at.returns-in_err-found-clause-durable g c).After-find_each in
    refused_on_the_way direction step held g.S.Store c.args.store.now c.find_each.new.store
    c.from_residual-in_err-found.result c.in_err-found.field-0.0
    (is_refused c.from_residual-in_err-found.result c.from_residual-in_err-found.ensures.1)
    (put_early c.in_err-found.field-0.0 c.in_err-found.ensures.refusal) (looked_at g at) honest awaits

pub returns-in_err-refuse_first-clause-durable : goal.returns-in_err-refuse_first-clause-durable
returns-in_err-refuse_first-clause-durable g c honest journal read direction step held awaits =
    let at = (goal.at.returns-in_err-refuse_first-clause-durable g c).After-find_each in
    refused_on_the_way direction step held g.S.Store c.args.store.now c.find_each.new.store
    c.from_residual-in_err-refuse_first.result c.in_err-refuse_first.field-0.0
    (is_refused c.from_residual-in_err-refuse_first.result c.from_residual-in_err-refuse_first.ensures.1)
    (tested_early c.in_err-refuse_first.field-0.0 c.in_err-refuse_first.ensures.refusal)
    (looked_at g at) honest awaits

pub returns-in_err-settled-clause-durable : goal.returns-in_err-settled-clause-durable
returns-in_err-settled-clause-durable g c honest journal read direction step held awaits =
    let at = (goal.at.returns-in_err-settled-clause-durable g c).After-find_each in
    refused_on_the_way direction step held g.S.Store c.args.store.now c.find_each.new.store
    c.from_residual-in_err-settled.result (Failed Memory)
    (is_refused c.from_residual-in_err-settled.result c.from_residual-in_err-settled.ensures.1) tt
    (looked_at g at) honest awaits

pub returns-in_err-path-clause-durable : goal.returns-in_err-path-clause-durable
returns-in_err-path-clause-durable g c honest journal read direction step held awaits =
    let at = (goal.at.returns-in_err-path-clause-durable g c).After-find_each in
    refused_on_the_way direction step held g.S.Store c.args.store.now c.find_each.new.store
    c.from_residual-in_err-path.result
    (Failed Memory)
    (is_refused c.from_residual-in_err-path.result c.from_residual-in_err-path.ensures.1) tt
    (looked_at g at) honest awaits

-- what is known of files that await recovery, once those that can be rolled back are rolled back
module _ (g : Over) (c : After-roll_back_part g) (at : In_ok-found g)
    (honest : g.S.Store.honest c.roll_back_part.new.store) (journal : Journal)
    (read : IsRead (g.S.Store.files c.args.store.now) (Some c.args.pending) c.args.history.now journal)
    (its_says : EntrySays
    (get (undo_folder_of (g.S.Store.files c.args.store.now)) (entry_path c.args.pending.entry)) c.in_ok-entry.entry)
    (its_found : AreFound (direction_of c.args.pending.direction)
    (tree_of (g.S.Store.files c.args.store.now)) c.in_ok-entry.entry.changes c.in_ok-found.found.changed.items
    c.in_ok-found.found.skipped.items)
    (direction : PendingDirection) (step : Recorded) (held : State)
    (awaits : AwaitsRecovery g.S.Store direction step held c.args.store.now)
  where
    partly_there : ArePartlyMade c.direction-direction.result c.as_slice-5.result.now held.tree
        (tree_of (g.S.Store.files c.find_each.new.store))
    partly_there =
        given_to g c at honest journal read its_says its_found (λ f w cs. ArePartlyMade w cs held.tree (tree_of f))
        (partly_on
        (g.S.Store.files c.args.store.now) c.args.pending c.args.history.now journal read c.in_ok-entry.entry its_says
        c.in_ok-found.found.changed.items c.in_ok-found.found.skipped.items its_found direction step held awaits.files)

    sure_there : Leaves g.S.Store c.find_each.new.store
        (λ kept. SomeMade c.direction-direction.result c.as_slice-5.result.now held.tree (tree_of kept))
    sure_there kept is =
        given_to g c at honest journal read its_says its_found (λ f w cs. SomeMade w cs held.tree (tree_of kept))
        (some_left
        (g.S.Store.files c.args.store.now) c.args.pending c.args.history.now journal read c.in_ok-entry.entry its_says
        c.in_ok-found.found.changed.items c.in_ok-found.found.skipped.items its_found direction step held awaits.files
        kept (awaits.trees kept (c.read_entry.ensures.reads.may kept (c.find_each.ensures.reads.may kept is))))

    synced_there : OnOk c.roll_back_part.result (IsSynced g.S.Store c.roll_back_part.new.store)
    synced_there = c.roll_back_part.ensures.durable honest
        (part g c at honest journal read its_says its_found) held.tree partly_there sure_there

    stands_there : OnOk c.roll_back_part.result (IsCommittedState (g.S.Store.files c.roll_back_part.new.store) held)
    stands_there =
        on_ok_weaker c.roll_back_part.result
        (λ rolled. part_stands
        (g.S.Store.files c.args.store.now) c.args.pending c.args.history.now journal read c.in_ok-entry.entry its_says
        c.in_ok-found.found.changed.items c.in_ok-found.found.skipped.items its_found direction step held awaits.files
        g.S.Store c.roll_back_part.new.store c.as_slice-4.result.now
        (good_text g c at honest journal read its_says its_found)
        (g.met.S.Store.are_files c.roll_back_part.new.store honest)
        (folder g c at honest journal read its_says its_found)
        (of_step g c at honest journal read its_says its_found
        (λ f w cs. IsRolledBack w cs c.as_slice-4.result.now f
        (g.S.Store.files c.roll_back_part.new.store)) rolled))
        (c.roll_back_part.ensures.done honest (part g c at honest journal read its_says its_found))

    stops_there : (cause : Cause) → c.roll_back_part.result ≡ Err (Failed (Interrupted cause))
        → AwaitsOrIs g.S.Store direction step held c.roll_back_part.new.store
        × Leaves g.S.Store c.roll_back_part.new.store
        (IsOrRecoversTo direction step held)
    stops_there cause e =
        part_stops
        (g.S.Store.files c.args.store.now) c.args.pending c.args.history.now journal read c.in_ok-entry.entry its_says
        c.in_ok-found.found.changed.items c.in_ok-found.found.skipped.items its_found direction step held awaits.files
        g.S.Store c.roll_back_part.new.store c.as_slice-4.result.now
        (good_text g c at honest journal read its_says its_found)
        (of_step g c at honest journal read its_says its_found
        (λ f w cs. StopsBackWithDoubt g.S.Store w cs c.as_slice-4.result.now held.tree f c.roll_back_part.new.store)
        (c.roll_back_part.ensures.left honest
        (part g c at honest journal read its_says its_found) held.tree partly_there sure_there cause e))

on_ok_at : {A E : Type 0} (P : Type 0) (result : Result A E) (x : A) → result ≡ Ok x → OnOk result P → P
on_ok_at P result x was is = subst (λ r. OnOk r P) was is

pub returns-in_err-roll_back_part-clause-durable : goal.returns-in_err-roll_back_part-clause-durable
returns-in_err-roll_back_part-clause-durable g c honest journal read direction step held awaits =
    let at = goal.at.returns-in_err-roll_back_part-clause-durable g c in
    let looked = c.roll_back_part.ensures.later.was_honest honest in
    let it = says g at.In_ok-found looked journal read in
    let them = found g at.In_ok-found looked journal read in
    let result = c.from_residual-in_err-roll_back_part.result in
    let given = c.from_residual-in_err-roll_back_part.ensures.1 in
    let refusal = c.in_err-roll_back_part.field-0.0 in
    rolled_on_the_way direction step held g.S.Store c.args.store.now c.find_each.new.store
    c.roll_back_part.new.store result
    refusal (is_refused result given) (looked_at g at.After-find_each) honest awaits
    c.in_err-roll_back_part.ensures.early
    (λ cause e.
    stops_there g at.After-roll_back_part at.In_ok-found honest journal read it them direction step held awaits
    cause (c.in_err-roll_back_part.was ∙ ap (λ x. Err x) e))

pub returns-clause-durable : goal.returns-clause-durable
returns-clause-durable g c honest journal read direction step held awaits =
    let at = goal.at.returns-clause-durable g c in
    let looked = c.roll_back_part.ensures.later.was_honest honest in
    let it = says g at.In_ok-found looked journal read in
    let them = found g at.In_ok-found looked journal read in
    let was = c.in_ok-roll_back_part.was in (
      on_ok_at _ c.roll_back_part.result _ was
          (stands_there g at.After-roll_back_part at.In_ok-found honest journal read it them direction
          step held awaits),
      on_ok_at _ c.roll_back_part.result _ was
          (synced_there g at.After-roll_back_part at.In_ok-found honest journal read it them direction
          step held awaits),
    )
