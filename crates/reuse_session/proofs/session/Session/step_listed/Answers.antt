use Rattle.std.proofs.Common.{◌≡◌, Err, ap, sym, subst, ◌∙◌}
use Rattle.std.specs.List.{All}
use Rattle.reuse_change.specs.Files.{tree_of}
use Rattle.reuse_command.specs.Answer.{DidNotFail}
use Rattle.reuse_session.specs.session.Calls.{LeavesReplay}
use Rattle.reuse_change.specs.Entry.{IsEntry, CanBeMade, IsFirstStuck}
use Rattle.reuse_tree.specs.Head.{direction_of, listed_direction}
use Rattle.reuse_journal.specs.Journal.{Recorded, State, Replays, ahead, reply_of}
use Rattle.reuse_journal.specs.JournalFiles.{entry_in, IsKeptIn}
use Rattle.reuse_journal.specs.Losses.{AllRecoverToTree, Survives, Earlier}
use Rattle.reuse_journal.specs.CommittedState.{IsStep}
use Rattle.reuse_session.specs.session.Session.{store_of, IsReplay, SimulatesState}
use Rattle.reuse_tree.specs.declared.journal.head.Pending.{Pending}
use Rattle.reuse_session.proofs.lemmas.session.Following.{names_path}
use Rattle.reuse_store.specs.Asked.{OnlyReads, Leaves}
use Rattle.reuse_change.specs.Tree.{undo_folder_of}
use Rattle.reuse_store.proofs.AskedLemmas.{reads_more}
use Rattle.reuse_command.proofs.OnlyReading.{is_refused, read_early, tested_early}
use Rattle.reuse_session.proofs.lemmas.journal.StepDoubt.{kept_next, reads_are_safe, survives_early, survives_stop}
use Rattle.reuse_session.proofs.lemmas.journal.StepDoubt.{survives_replay}
use Rattle.reuse_journal.proofs.SafeFiles.{safe_entries}
use Rattle.reuse_session.proofs.lemmas.journal.StepAnswers.{still_stands, read_reported, failed_untold}
use Rattle.reuse_session.proofs.lemmas.session.Replaying.{Prepared, is_replay, same_direction, next_of, next_says}
use Rattle.reuse_session.proofs.lemmas.session.Replaying.{next_changes, stuck, ready, step_leaves, stop_leaves}
use Rattle.reuse_session.proofs.session.Session.step_listed.Given.{Over}
use Rattle.reuse_session.proofs.session.Session.step_listed.Goals.{After-of_listed}
use Rattle.reuse_session.proofs.session.Session.step_listed.Goals as goal

-- the entry can't be read
pub returns-in_err-entry-clause-exact : goal.returns-in_err-entry-clause-exact
returns-in_err-entry-clause-exact g c honest held stands reported =
    let next = next_of c.args.direction g.S.Store.files c.args.self.now held c.args.listed c.requires.0
    c.in_ok-moved.moved stands c.requires.1 (c.in_ok-moved.ensures c.requires.0 c.requires.1) in
    let is = is_refused c.from_residual-in_err-entry.result c.from_residual-in_err-entry.ensures.1 in
    absurd (read_reported c.in_err-entry.field-0.0 c.in_err-entry.ensures.refusal (subst DidNotFail is reported)
    (λ path e. (c.read_entry.ensures.bad honest path (c.in_err-entry.was ∙ ap (λ x. Err x) e)).1 (entry_in next.step)
    (next_says next c.number-number.result c.number-number.ensures)))

-- a change can't be made
pub returns-in_err-paths-clause-exact : goal.returns-in_err-paths-clause-exact
returns-in_err-paths-clause-exact g c honest held stands reported =
    let store = g.S.Store in
    let session = c.args.self.now in
    let direction = c.args.direction in
    let read = c.prepare.ensures.reads.was_honest honest in
    let unread = c.read_entry.ensures.reads.files read in
    let next = next_of direction store.files session held c.args.listed c.requires.0 c.in_ok-moved.moved stands
    c.requires.1 (c.in_ok-moved.ensures c.requires.0 c.requires.1) in
    let changes : next.step.changes ≡ c.as_slice-changes.result.now =
    next_changes next c.number-number.result c.number-number.ensures c.in_ok-entry.entry (c.in_ok-entry.ensures.ok read)
    ∙ sym c.as_slice-changes.ensures in
    let is = is_refused c.from_residual-in_err-paths.result c.from_residual-in_err-paths.ensures.1 in
    let reported_as =
    names_path c.in_err-paths.field-0.0 c.in_err-paths.ensures.refusal (subst DidNotFail is reported) in
    let first : IsFirstStuck direction held.tree c.as_slice-changes.result.now reported_as.0 =
    subst (λ t. IsFirstStuck direction t c.as_slice-changes.result.now reported_as.0)
    (ap tree_of unread ∙ stands.committed.tree)
    (c.prepare.ensures.moved honest (subst IsEntry (sym c.as_slice-changes.ensures) c.in_ok-entry.ensures.good)
    reported_as.0 (c.in_err-paths.was ∙ ap (λ x. Err x) reported_as.1)) in (
      held,
      still_stands store.files session c.prepare.new.store held (c.prepare.ensures.reads.files honest ∙ unread) stands,
      subst (λ r. Replays direction (ahead direction held.journal) held r held) (sym
          (is ∙ ap (λ x. Err x) reported_as.1)) (stuck next c.as_slice-changes.result.now reported_as.0 changes first),
    )

-- what is known once the changes of the entry were tested
module _ (g : Over) (c : After-of_listed g) where
  good : IsEntry c.as_slice-changes.result.now
  good = subst IsEntry (sym c.as_slice-changes.ensures) c.in_ok-entry.ensures.good

  abbrev pending_of : Pending
  pending_of = record { entry = c.number-number.result; direction = c.of_listed.result }

  only_read : OnlyReads g.S.Store (store_of c.args.self.now) c.prepare.new.store
  only_read = reads_more g.S.Store (store_of c.args.self.now) c.read_entry.new.store c.prepare.new.store
      c.read_entry.ensures.reads c.prepare.ensures.reads

  can_be_made : g.S.Store.honest c.prepare.new.store → All (CanBeMade (direction_of c.of_listed.result)
      (tree_of (g.S.Store.files c.prepare.new.store))) c.as_slice-changes.result.now
  can_be_made honest =
      subst (λ w. All (CanBeMade w (tree_of (g.S.Store.files c.prepare.new.store))) c.as_slice-changes.result.now)
      (sym (ap direction_of c.of_listed.ensures ∙ same_direction c.args.direction))
      (subst (λ f. All (CanBeMade c.args.direction (tree_of f)) c.as_slice-changes.result.now)
      (sym (c.prepare.ensures.reads.files honest)) (c.in_ok-paths.ensures.ready honest good))

  prepared_step : g.S.Store.honest c.prepare.new.store → (held : State)
      → SimulatesState g.S.Store.files c.args.self.now held
      → Prepared g.S.Store.files c.args.direction (record c.args.self.now { store = c.prepare.new.store })
      c.as_slice-changes.result.now pending_of c.in_ok-moved.moved held
  prepared_step =
      ready g.S.Store c.args.direction c.args.self.now c.args.listed c.requires.0 c.requires.1 c.in_ok-moved.moved
      (c.in_ok-moved.ensures c.requires.0 c.requires.1)
      c.read_entry.new.store c.prepare.new.store c.read_entry.ensures.reads c.prepare.ensures.reads
      c.number-number.result c.number-number.ensures
      c.in_ok-entry.entry c.in_ok-entry.ensures.ok c.as_slice-changes.result.now c.as_slice-changes.ensures good
      c.in_ok-paths.ensures.ready
      pending_of c.number-number.ensures c.of_listed.ensures

pub step-requires : goal.step-requires
step-requires g c honest =
    let tested = (goal.at.step-requires g c).After-of_listed in
    record { entry = good g tested; each = can_be_made g tested honest }

-- the step is carried out
pub returns-in_err-step-clause-exact : goal.returns-in_err-step-clause-exact
returns-in_err-step-clause-exact g c honest held stands reported =
    absurd (failed_untold c.in_err-step.field-0.0 c.from_residual-in_err-step.result
    c.from_residual-in_err-step.ensures.1 c.in_err-step.ensures.kinds reported)

pub returns-in_err-step-clause-leaves : goal.returns-in_err-step-clause-leaves
returns-in_err-step-clause-leaves g c =
    let tested = (goal.at.returns-in_err-step-clause-leaves g c).After-of_listed in
    let was_honest = c.step.ensures.call.later.was_honest in
    subst (λ r. LeavesReplay g.S.Store c.args.direction r c.args.self.now c.step.new.self)
    (sym (is_refused c.from_residual-in_err-step.result c.from_residual-in_err-step.ensures.1))
    (stop_leaves g.S.Store c.args.direction c.args.self.now c.step.new.self c.prepare.new.store
    (only_read g tested) was_honest c.as_slice-changes.result.now (pending_of g tested) c.in_ok-moved.moved
    (good g tested) (prepared_step g tested) c.step.ensures.folder c.step.ensures.written c.step.ensures.asks
    c.in_err-step.field-0.0 c.in_err-step.ensures.refused c.in_err-step.ensures.mutations c.in_err-step.ensures.late
    (λ honest. c.in_err-step.ensures.clash honest (good g tested) (can_be_made g tested (was_honest honest))))

pub returns-clause-exact : goal.returns-clause-exact
returns-clause-exact g c honest held stands reported =
    let here = prepared_step g (goal.at.returns-clause-exact g c).After-of_listed
    (c.step.ensures.call.later.was_honest honest) held stands in (
      here.second,
      c.in_ok-step.ensures.mutations honest held here.second here.stands here.is,
      here.replays c.reply_of.result (c.reply_of.ensures ∙ ap (reply_of c.args.direction) c.in_ok-paths.ensures.paths),
    )

pub returns-clause-leaves : goal.returns-clause-leaves
returns-clause-leaves g c =
    let tested = (goal.at.returns-clause-leaves g c).After-of_listed in
    step_leaves g.S.Store c.args.direction c.args.self.now c.step.new.self c.prepare.new.store (only_read g tested)
    c.step.ensures.call.later.was_honest c.as_slice-changes.result.now (pending_of g tested) c.in_ok-moved.moved
    (good g tested) (prepared_step g tested) c.step.ensures.folder c.step.ensures.written c.step.ensures.asks
    c.reply_of.result c.in_ok-step.ensures.texts

-- ---- after a loss of power

-- what was tested only read
module _ (g : Over) (c : After-of_listed g) (earlier : Earlier) (held : State)
    (safe : AllRecoverToTree g.S.Store earlier held (store_of c.args.self.now)) where
  safe_then : AllRecoverToTree g.S.Store earlier held c.prepare.new.store
  safe_then = reads_are_safe g.S.Store earlier held (store_of c.args.self.now) c.prepare.new.store (only_read g c) safe

  kept_then : (step : Recorded) (second : State) → IsStep (listed_direction c.args.direction) step held second
      → Leaves g.S.Store c.prepare.new.store (λ left. IsKeptIn (undo_folder_of left) step)
  kept_then step second goes left is = kept_next c.args.direction step held second (undo_folder_of left) goes
      (safe_entries earlier held left (safe_then left is))

pub returns-in_err-entry-clause-survives : goal.returns-in_err-entry-clause-survives
returns-in_err-entry-clause-survives g c honest earlier held stands safe =
    let store = c.read_entry.new.store in
    subst (λ r. Survives g.S.Store (IsReplay c.args.direction held) earlier held r store)
    (sym (is_refused c.from_residual-in_err-entry.result c.from_residual-in_err-entry.ensures.1))
    (survives_early g.S.Store (IsReplay c.args.direction held) earlier held store c.in_err-entry.field-0.0
    (read_early c.in_err-entry.field-0.0 c.in_err-entry.ensures.refusal)
    (reads_are_safe g.S.Store earlier held (store_of c.args.self.now) store c.read_entry.ensures.reads safe))

pub returns-in_err-paths-clause-survives : goal.returns-in_err-paths-clause-survives
returns-in_err-paths-clause-survives g c honest earlier held stands safe =
    let store = c.prepare.new.store in
    subst (λ r. Survives g.S.Store (IsReplay c.args.direction held) earlier held r store)
    (sym (is_refused c.from_residual-in_err-paths.result c.from_residual-in_err-paths.ensures.1))
    (survives_early g.S.Store (IsReplay c.args.direction held) earlier held store c.in_err-paths.field-0.0
    (tested_early c.in_err-paths.field-0.0 c.in_err-paths.ensures.refusal)
    (reads_are_safe g.S.Store earlier held (store_of c.args.self.now) store (reads_more g.S.Store
    (store_of c.args.self.now) c.read_entry.new.store store c.read_entry.ensures.reads c.prepare.ensures.reads) safe))

pub returns-in_err-step-clause-survives : goal.returns-in_err-step-clause-survives
returns-in_err-step-clause-survives g c honest earlier held stands safe =
    let at = (goal.at.returns-in_err-step-clause-survives g c).After-of_listed in
    let here = prepared_step g at (c.step.ensures.call.later.was_honest honest) held stands in
    let then = safe_then g at earlier held safe in
    let IsNext = IsReplay c.args.direction held in
    subst (λ r. Survives g.S.Store IsNext earlier held r (store_of c.step.new.self))
    (sym (is_refused c.from_residual-in_err-step.result c.from_residual-in_err-step.ensures.1))
    (survives_stop g.S.Store IsNext earlier held here.second (store_of c.step.new.self) c.in_err-step.field-0.0
    (λ early. subst (λ s. AllRecoverToTree g.S.Store earlier held (store_of s))
    (sym (c.in_err-step.ensures.refused early)) then)
    (is_replay g.S.Store.files c.args.direction (record c.args.self.now { store = c.prepare.new.store })
    c.as_slice-changes.result.now (pending_of g at) c.in_ok-moved.moved held here)
    (c.in_err-step.ensures.survives honest earlier held here.second here.stands here.is
    then (kept_then g at earlier held safe here.is.step here.second here.goes)))

pub returns-clause-survives : goal.returns-clause-survives
returns-clause-survives g c honest earlier held stands safe =
    let at = (goal.at.returns-clause-survives g c).After-of_listed in
    let here = prepared_step g at (c.step.ensures.call.later.was_honest honest) held stands in
    survives_replay g.S.Store (IsReplay c.args.direction held) earlier held
    (store_of c.step.new.self) c.args.direction _ c.reply_of.result c.reply_of.ensures
    (c.in_ok-step.ensures.survives honest earlier held here.second here.stands here.is
    (safe_then g at earlier held safe) (kept_then g at earlier held safe here.is.step here.second here.goes))
