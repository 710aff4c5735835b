use Rattle.std.proofs.Common.{◌≡◌, ◌+◌, ◌<◌, ◌≤◌, List, length, map, drop, get_or, arith, sym, ap, subst, ◌∙◌}
use Rattle.std.specs.List.{All}
use Rattle.std.specs.FinMap.{get}
use Rattle.std.proofs.lemmas.List.{drop_all, length-map}
use Rattle.reuse_notice.specs.Sets.{set_of}
use Rattle.reuse_change.specs.Entry.{paths_of}
use Rattle.reuse_change.specs.Listing.{ArePaths}
use Rattle.reuse_change.specs.Tree.{undo_folder_of}
use Rattle.reuse_json.specs.declared.entry.Entry.{Entry}
use Rattle.reuse_store.proofs.AskedLemmas.{reads_more}
use Rattle.reuse_journal.specs.Journal.{Recorded}
use Rattle.reuse_journal.specs.JournalFiles.{entry_path, entry_in, number_of, EntrySays, IsKeptIn}
use Rattle.reuse_session.specs.session.RevertCalls.{left_of}
use Rattle.reuse_session.proofs.lemmas.session.LaterSteps.{left_by, left_ascend, touched_are, step_at, says_at}
use Rattle.reuse_session.proofs.lemmas.session.LaterSteps.{IsStepAt}
use Rattle.reuse_command.proofs.OnlyReading.{passed_on}
use Rattle.reuse_change.specs.Files.{Files}
use Rattle.std.specs.Prelude.{ℕ}
use Rattle.reuse_session.proofs.session.later_steps.touched_paths.Goals as goal

-- the step whose entry is read
there : (folder : Files) (steps : List Recorded) (later : List ℕ) (index : ℕ) → later ≡ map number_of steps
    → index < length later → All (IsKeptIn folder) steps → IsStepAt folder steps index (get_or later index 0)
there folder steps later index are low kept =
    subst (λ ns. index < length ns → IsStepAt folder steps index (get_or ns index 0)) (sym are)
    (λ lt. step_at folder steps index 0 lt kept) low

pub returns-in_err-left-clause-good : goal.returns-in_err-left-clause-good
returns-in_err-left-clause-good g c honest steps are kept path e =
    let store = g.S.Store in
    let folder = undo_folder_of (store.files c.args.store.now) in
    let n = get_or c.args.later.now c.loop-number.number-index 0 in
    let at = there folder steps c.args.later.now c.loop-number.number-index are c.loop-number-test.true kept in
    let before =
    ap undo_folder_of (c.loop-number.invariant.reads.files (c.without_touched.ensures.reads.was_honest honest)) in
    let says : EntrySays (get folder (entry_path n)) (entry_in at.step) =
    subst (λ m. EntrySays (get folder (entry_path m)) (entry_in at.step)) at.numbered at.kept in
    c.without_touched.ensures.bad honest path (passed_on c.from_residual-in_err-left.result c.without_touched.result
    c.from_residual-in_err-left.ensures.1 c.in_err-left.was e) (entry_in at.step)
    (subst (λ f. EntrySays (get f (entry_path n)) (entry_in at.step)) (sym before) says)

pub loop-number-preserved : goal.loop-number-preserved
loop-number-preserved g c = record {
  reads = reads_more g.S.Store _ _ _ c.loop-number.invariant.reads c.without_touched.ensures.reads;
  left = λ honest steps are kept.
      let store = g.S.Store in
      let folder = undo_folder_of (store.files c.args.store.now) in
      let i = c.loop-number.number-index in
      let n = get_or c.args.later.now c.loop-number.number-index 0 in
      let was = c.without_touched.ensures.reads.was_honest honest in
      let at = there folder steps c.args.later.now i are c.loop-number-test.true kept in
      let before = ap undo_folder_of (c.loop-number.invariant.reads.files was) in
      let read = c.in_ok-left.ensures.left honest in
      let is : read.0 ≡ entry_in at.step = says_at folder at.step n read.0 at.numbered at.kept
      (subst (λ f. EntrySays (get f (entry_path n)) read.0) before read.1) in
      ap (left_by (drop (i + 1) steps))
      (read.2 ∙ ap (λ (e : Entry). left_of c.loop-number.left.items (paths_of e.changes)) is)
      ∙ ap (λ l. left_by l c.loop-number.left.items) (sym at.here) ∙ c.loop-number.invariant.left was steps are kept;
}

pub returns-clause-touched : goal.returns-clause-touched
returns-clause-touched g c honest entry steps are kept =
    let i = c.loop-number.number-index in
    let paths = paths_of c.args.changes.now in
    let count : length steps ≤ c.loop-number.number-index =
    omega (arith, c.loop-number-test.false, ap length are, length-map steps number_of) in
    let left : c.loop-number.left.items ≡ left_by steps (paths_of c.args.changes.now) =
    ap (λ l. left_by l c.loop-number.left.items) (sym (drop_all i steps count))
    ∙ c.loop-number.invariant.left honest steps are kept in
    let shown : c.deref.result.now ≡ left_by steps (paths_of c.args.changes.now) = c.deref.ensures.value ∙ left in
    let sorted : ArePaths c.deref.result.now = subst ArePaths (sym shown) (left_ascend steps paths entry.ascending) in
    c.new.ensures ∙ ap set_of (c.left_of.ensures sorted)
    ∙ ap (λ ps. set_of (left_of ps c.deref.result.now)) (c.into_vec-paths.ensures ∙ c.in_ok-paths_of-2.ensures)
    ∙ ap (λ l. set_of (left_of (paths_of c.args.changes.now) l)) shown
    ∙ touched_are steps paths entry.ascending
