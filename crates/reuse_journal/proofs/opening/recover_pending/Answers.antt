use Rattle.std.proofs.Common.{◌≡◌, ◌⊎◌, inr, MatchResult, List, refl, arith, length, Some, None, Err, IfErr, OnOk, sym}
use Rattle.std.proofs.Common.{ap, subst, ◌∙◌}
use Rattle.std.specs.FinMap.{get}
use Rattle.std.specs.List.{All}
use Rattle.std.proofs.lemmas.Result.{err_from_is_err_and, IfErr-weaker, on_ok_weaker}
use Rattle.reuse_store.specs.Asked.{OnlyReads, Leaves}
use Rattle.reuse_store.proofs.AskedLemmas.{reads_more}
use Rattle.reuse_change.specs.Files.{AreFiles, Clashes, Files, tree_of}
use Rattle.reuse_command.specs.Answer.{IsEarly, IsFailure}
use Rattle.reuse_journal.specs.Carried.{IsRolledBack, StopsRollingBack}
use Rattle.reuse_change.specs.Entry.{IsEntry, SomeMade, ArePartlyMade, CanBeRolledBack, IsFirstWithout}
use Rattle.reuse_tree.specs.Head.{direction_of, IsGoodHead}
use Rattle.reuse_journal.specs.History.{head_listing}
use Rattle.reuse_journal.specs.JournalFiles.{head_path, entry_path, head_of, number_of, EntrySays}
use Rattle.reuse_journal.specs.Losses.{AreBetweenStates, AllRecoverToTree, Earlier, StopsBackWithDoubt}
use Rattle.reuse_journal.specs.Opening.{IsRead}
use Rattle.reuse_journal.specs.Remembered.{IsSameBut}
use Rattle.reuse_journal.specs.CommittedState.{IsCommittedState, IsPending}
use Rattle.reuse_change.specs.Tree.{undo_folder_of}
use Rattle.reuse_change.specs.declared.change.Change.{Change}
use Rattle.reuse_change.specs.declared.direction.Direction.{Direction}
use Rattle.reuse_command.specs.declared.failure.Failure.TheVariants.{Memory}
use Rattle.reuse_command.specs.declared.reply.Refusal.TheVariants.{Failed}
use Rattle.reuse_journal.specs.Journal.{Journal, Recorded, State}
use Rattle.reuse_journal.proofs.PendingRecovery.{is_entry, is_settled, is_stuck, of_step as its_changes, partly_made}
use Rattle.reuse_journal.proofs.PendingRecovery.{recovers, stands, settled_good, settled_sound, head_fits, at_same}
use Rattle.reuse_journal.proofs.PendingRecovery.{pending_readable, stays_pending, read_failure}
use Rattle.reuse_journal.proofs.FilesBetweenStates.{read_pending}
use Rattle.reuse_journal.proofs.OpeningDoubt.{doubt_stays, each_in_doubt, files_in_doubt, refused_in_doubt, some_made}
use Rattle.reuse_journal.proofs.OpeningDoubt.{stops_in_doubt, survives}
use Rattle.reuse_journal.proofs.OpeningLemmas.{recorded}
use Rattle.reuse_journal.proofs.TakenBack.{was_pending}
use Rattle.reuse_journal.proofs.JournalReading.{file_in_folder}
use Rattle.reuse_command.proofs.OnlyReading.{early_files, passed_on}
use Rattle.reuse_journal.proofs.opening.recover_pending.Given.{Over}
use Rattle.reuse_journal.proofs.opening.recover_pending.Goals.{After-roll_back}
use Rattle.reuse_journal.proofs.opening.recover_pending.Goals as goal

pub returns-in_err-entry-clause-survives : goal.returns-in_err-entry-clause-survives
returns-in_err-entry-clause-survives g c honest journal read earlier held next doubt =
    let p = err_from_is_err_and c.from_residual.result c.from_residual.ensures.1 in
    refused_in_doubt g.S.Store earlier held next c.args.store.now c.read_entry.new.store c.read_entry.ensures.reads
    honest c.from_residual.result p.0 _ p.1 doubt

pub returns-in_err-entry-clause-recovers : goal.returns-in_err-entry-clause-recovers
returns-in_err-entry-clause-recovers g c honest journal read step first number under =
    let files = g.S.Store.files in
    let p = err_from_is_err_and c.from_residual.result c.from_residual.ensures.1 in
    let refusal = c.in_err-entry.field-0.0 in
    let readable = pending_readable (files c.args.store.now) c.args.pending c.args.history.now journal read in
    let failure = read_failure refusal c.in_err-entry.ensures.refusal (λ path e.
    (c.read_entry.ensures.bad honest path (c.in_err-entry.was ∙ ap (λ x. Err x) e)).1 readable.0 readable.1) in
    stays_pending c.from_residual.result p.0 refusal c.args.pending.direction step first (files c.args.store.now)
    (files c.read_entry.new.store) p.1 p.2 failure (c.read_entry.ensures.reads.files honest) under

pub returns-in_err-entry-clause-no_bad : goal.returns-in_err-entry-clause-no_bad
returns-in_err-entry-clause-no_bad g c honest journal read path e =
    let readable = pending_readable (g.S.Store.files c.args.store.now) c.args.pending c.args.history.now journal read in
    (c.read_entry.ensures.bad honest path (passed_on c.from_residual.result c.read_entry.result
    c.from_residual.ensures.1 c.in_err-entry.was e)).1 readable.0 readable.1

pub returns-in_err-settled-clause-survives : goal.returns-in_err-settled-clause-survives
returns-in_err-settled-clause-survives g c honest journal read earlier held next doubt =
    let p = err_from_is_err_and c.from_residual-in_err-settled.result c.from_residual-in_err-settled.ensures.1 in
    refused_in_doubt g.S.Store earlier held next c.args.store.now c.read_entry.new.store c.read_entry.ensures.reads
    honest c.from_residual-in_err-settled.result p.0 _ p.1 doubt

pub returns-in_err-settled-clause-recovers : goal.returns-in_err-settled-clause-recovers
returns-in_err-settled-clause-recovers g c honest journal read step first number under =
    let files = g.S.Store.files in
    let p = err_from_is_err_and c.from_residual-in_err-settled.result c.from_residual-in_err-settled.ensures.1 in
    stays_pending c.from_residual-in_err-settled.result p.0 (Failed Memory) c.args.pending.direction step first
    (files c.args.store.now) (files c.read_entry.new.store) p.1 p.2 tt (c.read_entry.ensures.reads.files honest) under

pub returns-in_err-path-clause-survives : goal.returns-in_err-path-clause-survives
returns-in_err-path-clause-survives g c honest journal read earlier held next doubt =
    let p = err_from_is_err_and c.from_residual-in_err-path.result c.from_residual-in_err-path.ensures.1 in
    refused_in_doubt g.S.Store earlier held next c.args.store.now c.read_entry.new.store c.read_entry.ensures.reads
    honest c.from_residual-in_err-path.result p.0 _ p.1 doubt

pub returns-in_err-path-clause-recovers : goal.returns-in_err-path-clause-recovers
returns-in_err-path-clause-recovers g c honest journal read step first number under =
    let files = g.S.Store.files in
    let p = err_from_is_err_and c.from_residual-in_err-path.result c.from_residual-in_err-path.ensures.1 in
    stays_pending c.from_residual-in_err-path.result p.0 (Failed Memory) c.args.pending.direction step first
    (files c.args.store.now) (files c.read_entry.new.store) p.1 p.2 tt (c.read_entry.ensures.reads.files honest) under

-- what is known once the pending step is rolled back, or isn't
module _ (g : Over) (c : After-roll_back g) (honest : g.S.Store.honest c.roll_back.new.store) (journal : Journal)
    (read : IsRead (g.S.Store.files c.args.store.now) (Some c.args.pending) c.args.history.now journal) where
  same : g.S.Store.files c.read_entry.new.store ≡ g.S.Store.files c.args.store.now
  same = c.read_entry.ensures.reads.files (c.roll_back.ensures.later.was_honest honest)

  says : EntrySays
      (get (undo_folder_of (g.S.Store.files c.args.store.now)) (entry_path c.args.pending.entry)) c.in_ok-entry.entry
  says = c.in_ok-entry.ensures.ok (c.roll_back.ensures.later.was_honest honest)

  good : IsEntry c.as_slice-changes.result.now
  good = subst IsEntry (sym c.as_slice-changes.ensures) (is_entry
      (g.S.Store.files c.args.store.now) c.args.pending c.args.history.now journal read c.in_ok-entry.entry says)

  are_files : AreFiles (g.S.Store.files c.args.store.now)
  are_files = g.met.S.Store.are_files c.args.store.now
      (c.read_entry.ensures.reads.was_honest (c.roll_back.ensures.later.was_honest honest))

  good_text : IsGoodHead c.as_slice.result.now (head_of journal None)
  good_text =
      settled_good (undo_folder_of (g.S.Store.files c.args.store.now)) journal
      (Some c.args.pending) c.args.history.now c.as_slice.result.now read.keeps read.remembers
      (λ sound. subst (λ t. IsGoodHead t (head_listing c.args.history.now None)) (sym c.as_slice.ensures.value)
      (c.in_ok-settled.ensures.good sound))

  -- what rolling back says of the files, the way and the changes that it was given is said of those of the step
  of_step : (Says : Files → Direction → List Change → Type 0)
      → Says (g.S.Store.files c.read_entry.new.store) c.direction.result c.as_slice-changes.result.now
      → Says (g.S.Store.files c.args.store.now) (direction_of c.args.pending.direction) c.in_ok-entry.entry.changes
  of_step Says = at_same Says (g.S.Store.files c.read_entry.new.store)
      (g.S.Store.files c.args.store.now) c.direction.result (direction_of c.args.pending.direction)
      c.as_slice-changes.result.now c.in_ok-entry.entry.changes same c.direction.ensures c.as_slice-changes.ensures

  given_to : (Says : Files → Direction → List Change → Type 0)
      → Says (g.S.Store.files c.args.store.now) (direction_of c.args.pending.direction) c.in_ok-entry.entry.changes
      → Says (g.S.Store.files c.read_entry.new.store) c.direction.result c.as_slice-changes.result.now
  given_to Says = at_same Says (g.S.Store.files c.args.store.now) (g.S.Store.files c.read_entry.new.store)
      (direction_of c.args.pending.direction) c.direction.result c.in_ok-entry.entry.changes
      c.as_slice-changes.result.now (sym same) (sym c.direction.ensures) (sym c.as_slice-changes.ensures)

  -- a step that was pending is taken back, or stays pending where that fails
  stands_or_stays : (step : Recorded) (first : State) → number_of step ≡ c.args.pending.entry
      → IsPending c.args.pending.direction step first (g.S.Store.files c.args.store.now)
      → MatchResult c.roll_back.result (λ done. IsCommittedState (g.S.Store.files c.roll_back.new.store) first)
      (λ refusal. IsFailure refusal × (IsCommittedState (g.S.Store.files c.roll_back.new.store) first
      ⊎ IsPending c.args.pending.direction step first (g.S.Store.files c.roll_back.new.store)))
  stands_or_stays step first number under =
      let old = g.S.Store.files c.args.store.now in
      let new = g.S.Store.files c.roll_back.new.store in
      let entry = c.in_ok-entry.entry in
      let text = c.as_slice.result.now in
      let result = c.roll_back.result in
      let partly = given_to (λ f w cs. ArePartlyMade w cs first.tree (tree_of f))
      (partly_made old c.args.pending c.args.history.now journal read entry says step first number under) in
      recovers old c.args.pending c.args.history.now journal read entry says step first number under result
      new text good_text
      (of_step (λ f w cs. OnOk result (IsRolledBack w cs text f new)) (c.roll_back.ensures.done honest good))
      (λ cause e. of_step (λ f w cs. StopsRollingBack w cs text first.tree f new)
      (c.roll_back.ensures.stopped honest good first.tree partly cause e))
      (subst (λ f. IfErr result (λ refusal. IsEarly refusal → new ≡ f)) same
      (early_files g.S.Store c.read_entry.new.store c.roll_back.new.store result c.roll_back.ensures.early honest))
      (λ path e. c.roll_back.ensures.recovers honest good first.tree under.good.are_files partly path e)
      c.roll_back.ensures.refusal

  -- what may be left is safe on the committed state from before the step, or is still in doubt
  survived : (earlier : Earlier) (held next : State) → AreBetweenStates g.S.Store earlier held next c.args.store.now
      → MatchResult c.roll_back.result (λ done. IsCommittedState (g.S.Store.files c.roll_back.new.store) held
      × AllRecoverToTree g.S.Store earlier held c.roll_back.new.store)
      (λ refusal. AreBetweenStates g.S.Store earlier held next c.roll_back.new.store)
  survived earlier held next doubt =
      let store = g.S.Store in
      let old = c.args.store.now in
      let mid = c.read_entry.new.store in
      let new = c.roll_back.new.store in
      let files = store.files old in
      let pending = c.args.pending in
      let memory = c.args.history.now in
      let entry = c.in_ok-entry.entry in
      let text = c.as_slice.result.now in
      let result = c.roll_back.result in
      let at =
      read_pending held next files pending memory journal read (files_in_doubt store earlier held next old doubt) in
      let changes = its_changes files pending memory journal read entry says at.step held at.number at.under in
      let partly = given_to (λ f w cs. ArePartlyMade w cs held.tree (tree_of f))
      (partly_made files pending memory journal read entry says at.step held at.number at.under) in
      let each = each_in_doubt store earlier held next old pending memory journal read doubt in
      let sure : Leaves store mid
      (λ kept. SomeMade c.direction.result c.as_slice-changes.result.now held.tree (tree_of kept)) =
      λ kept is. given_to (λ f w cs. SomeMade w cs held.tree (tree_of kept))
      (subst (λ cs. SomeMade (direction_of pending.direction) cs held.tree (tree_of kept)) changes
      (some_made store earlier held next pending.direction at.step at.leads kept
      (each kept (c.read_entry.ensures.reads.may kept is)))) in
      survives store earlier held next result new (λ refusal. IsFailure refusal
      × (IsCommittedState (store.files new) held ⊎ IsPending pending.direction at.step held (store.files new)))
      (stands_or_stays at.step held at.number at.under) (c.roll_back.ensures.durable honest good held.tree partly sure)
      (IfErr-weaker result (λ refusal. IsEarly refusal → OnlyReads store mid new)
      (λ refusal. IsEarly refusal → AreBetweenStates store earlier held next new)
      (λ refusal reads early. doubt_stays store earlier held next old new
      (reads_more store old mid new c.read_entry.ensures.reads (reads early)) honest doubt) c.roll_back.ensures.early)
      (λ cause e. stops_in_doubt store earlier held next pending.direction at.step at.leads files at.under text
      (λ after tree sets. stands files pending memory journal read entry says at.step held at.number at.under after text
      good_text tree sets) new
      (subst (λ cs. StopsBackWithDoubt store (direction_of pending.direction) cs text held.tree files new) (sym changes)
      (of_step (λ f w cs. StopsBackWithDoubt store w cs text held.tree f new)
      (c.roll_back.ensures.left honest good held.tree partly sure cause e))))

pub returns-clause-survives : goal.returns-clause-survives
returns-clause-survives g c honest journal read =
    survived g (goal.at.returns-clause-survives g c).After-roll_back honest journal read

pub returns-clause-done : goal.returns-clause-done
returns-clause-done g c honest journal read =
    let at = (goal.at.returns-clause-done g c).After-roll_back in
    let old = g.S.Store.files c.args.store.now in
    let new = g.S.Store.files c.roll_back.new.store in
    let text = c.as_slice.result.now in
    on_ok_weaker c.roll_back.result
    (is_settled old c.args.pending c.args.history.now journal read c.in_ok-entry.entry (says g at honest journal read)
    new text (g.met.S.Store.are_files c.roll_back.new.store honest) (good_text g at honest journal read))
    (of_step g at honest journal read (λ f w cs. OnOk c.roll_back.result (IsRolledBack w cs text f new))
    (c.roll_back.ensures.done honest (good g at honest journal read)))

pub returns-clause-moved : goal.returns-clause-moved
returns-clause-moved g c honest journal read path e =
    let at = (goal.at.returns-clause-moved g c).After-roll_back in
    is_stuck (g.S.Store.files c.args.store.now) c.args.pending c.args.history.now journal read c.in_ok-entry.entry
    (says g at honest journal read) path
    (of_step g at honest journal read (λ f w cs. IsFirstWithout (CanBeRolledBack w (tree_of f)) cs path)
    (c.roll_back.ensures.moved honest (good g at honest journal read) path e))

pub returns-clause-recovers : goal.returns-clause-recovers
returns-clause-recovers g c honest journal read =
    stands_or_stays g (goal.at.returns-clause-recovers g c).After-roll_back honest journal read

pub returns-clause-early : goal.returns-clause-early
returns-clause-early g c =
    let store = g.S.Store in
    let old = c.args.store.now in
    let mid = c.read_entry.new.store in
    let new = c.roll_back.new.store in
    IfErr-weaker c.roll_back.result (λ refusal. IsEarly refusal → OnlyReads store mid new)
    (λ refusal. IsEarly refusal → OnlyReads store old new)
    (λ refusal reads early. reads_more store old mid new c.read_entry.ensures.reads (reads early))
    c.roll_back.ensures.early

pub returns-clause-interrupted : goal.returns-clause-interrupted
returns-clause-interrupted g c honest journal read cause e =
    let at = (goal.at.returns-clause-interrupted g c).After-roll_back in
    let new = g.S.Store.files c.roll_back.new.store in
    let step = recorded c.args.pending.entry c.in_ok-entry.entry in
    let can = of_step g at honest journal read (λ f w cs. All (CanBeRolledBack w (tree_of f)) cs)
    (c.roll_back.ensures.tested honest (good g at honest journal read) cause e) in
    let was = was_pending (g.S.Store.files c.args.store.now) c.args.pending c.args.history.now journal read
    c.in_ok-entry.entry (says g at honest journal read) (are_files g at honest journal read) can in
    let left = stands_or_stays g at honest journal read step was.0 refl was.1 in
    let stays = subst (λ r. MatchResult r (λ _. IsCommittedState new was.0) (λ refusal. IsFailure refusal
    × (IsCommittedState new was.0 ⊎ IsPending c.args.pending.direction step was.0 new))) e left in
    (was.0, c.args.pending.direction, step, was.1, stays.1)

pub returns-clause-mutations : goal.returns-clause-mutations
returns-clause-mutations g c honest =
    inr (
      c.in_ok-entry.entry,
      c.in_ok-entry.ensures.ok (c.roll_back.ensures.later.was_honest honest),
      omega (
        arith,
        c.roll_back.ensures.mutations,
        ap length c.as_slice-changes.ensures,
        c.read_entry.ensures.reads.mutations,
      ),
    )

pub returns-clause-folder : goal.returns-clause-folder
returns-clause-folder g c honest journal read =
    let at = (goal.at.returns-clause-folder g c).After-roll_back in
    subst (λ f. IsSameBut head_path (undo_folder_of f) (undo_folder_of (g.S.Store.files c.roll_back.new.store)))
    (same g at honest journal read) (c.roll_back.ensures.folder honest (good g at honest journal read))

pub returns-clause-texts : goal.returns-clause-texts
returns-clause-texts g c honest journal read =
    let new = g.S.Store.files c.roll_back.new.store in
    on_ok_weaker c.roll_back.result
    (λ (rolled : IsRolledBack c.direction.result c.as_slice-changes.result.now c.as_slice.result.now
    (g.S.Store.files c.read_entry.new.store) new). file_in_folder new head_path head_path refl refl ∙ rolled.sets.here
    ∙ ap (λ text. Some text) (c.as_slice.ensures.value ∙ c.in_ok-settled.ensures.text))
    (c.roll_back.ensures.done honest (good g (goal.at.returns-clause-texts g c).After-roll_back honest journal read))

pub returns-clause-clash : goal.returns-clause-clash
returns-clause-clash g c honest journal read =
    let at = (goal.at.returns-clause-clash g c).After-roll_back in
    c.roll_back.ensures.clash honest (good g at honest journal read)
    (λ clash. head_fits (g.S.Store.files c.args.store.now) journal c.args.pending (are_files g at honest journal read)
    read.keeps (subst (λ f. Clashes f head_path) (same g at honest journal read) clash))

pub returns-clause-written : goal.returns-clause-written
returns-clause-written g c honest journal read =
    let sound = settled_sound (undo_folder_of (g.S.Store.files c.args.store.now)) journal
    (Some c.args.pending) c.args.history.now read.keeps read.remembers in
    omega (
      arith,
      c.roll_back.ensures.written (good g (goal.at.returns-clause-written g c).After-roll_back honest journal read),
      ap length c.as_slice.ensures.value,
      c.in_ok-settled.ensures.bound sound,
      c.read_entry.ensures.reads.written,
    )
