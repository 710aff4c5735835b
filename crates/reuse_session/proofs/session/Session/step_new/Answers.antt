use Rattle.std.proofs.Common.{◌≡◌, ◌+◌, Ok, Err, length, arith, ap, sym, subst, ◌∙◌}
use Rattle.reuse_store.specs.Asked.{Leaves, IsSynced}
use Rattle.reuse_change.specs.Tree.{undo_folder_of}
use Rattle.reuse_tree.specs.declared.journal.head.PendingDirection.TheVariants as directions
use Rattle.reuse_session.specs.session.Calls.{LeavesRun}
use Rattle.reuse_journal.specs.Journal.{State}
use Rattle.reuse_journal.specs.JournalFiles.{IsKeptIn}
use Rattle.reuse_journal.specs.Losses.{AllRecoverToTree, Survives, Earlier}
use Rattle.reuse_change.specs.Entry.{paths_of}
use Rattle.reuse_plan.specs.PathOutcomes.{left_paths}
use Rattle.reuse_session.specs.session.Session.{store_of, IsRun, SimulatesState}
use Rattle.reuse_command.specs.declared.reply.Response.TheVariants.{Changed}
use Rattle.reuse_command.proofs.OnlyReading.{is_refused}
use Rattle.reuse_session.proofs.lemmas.session.Recording.{EntryPut, EntryListed, Recording, put_early, can_go}
use Rattle.reuse_session.proofs.lemmas.session.Recording.{unput_leaves, recording, record_leaves, halt_leaves}
use Rattle.reuse_session.proofs.lemmas.session.RunDoubt.{has_entry, put_is_safe}
use Rattle.reuse_journal.proofs.SafeFiles.{sure_tree}
use Rattle.reuse_session.proofs.lemmas.journal.StepDoubt.{survives_early, survives_stop, synced_is_safe}
use Rattle.reuse_session.proofs.lemmas.journal.StepAnswers.{failed_untold, put_fails}
use Rattle.reuse_session.proofs.session.Session.step_new.Given.{Over}
use Rattle.reuse_session.proofs.session.Session.step_new.Goals.{After-put_entry, After-step}
use Rattle.reuse_session.proofs.session.Session.step_new.Goals as goal

entry_put : (g : Over) (c : After-put_entry g)
    → EntryPut g.S.Store c.args.self.now c.args.command.now c.args.when c.args.changes.items c.put_entry.new.store
    c.used-number.result (record { changes = c.new.result; command = c.name-command.result; when = c.args.when })
entry_put g c = record {
  room = c.requires.room;
  planned = c.requires.planned;
  is_number = c.used-number.ensures;
  is_entry = λ i. record { changes = c.new.ensures i; command = c.name-command.ensures i; when = c.args.when };
  was_honest = c.put_entry.ensures.later.was_honest;
  beside = c.put_entry.ensures.others;
  asks = c.put_entry.ensures.mutations;
  at_most = c.put_entry.ensures.written;
}

entry_listed : (g : Over) (c : After-step g)
    → EntryListed g.S.Store c.args.self.now c.args.command.now c.args.when c.args.changes.items c.put_entry.new.store
    c.used-number.result (record { changes = c.new.result; command = c.name-command.result; when = c.args.when })
    (record {
      number = c.used-number.result + 1;
      when = c.args.when;
      command = c.name-command.result;
      count = c.len.result;
    }) c.in_ok-moved.moved c.as_slice.result.now
entry_listed g c =
    let count : c.len.result ≡ length c.args.changes.items = omega (arith, c.len.ensures, c.args.changes.ok.0) in
    record {
      says_known = c.in_ok-put_entry.ensures.ok;
      is_listed = λ i. record {
        number = c.used-number.result + 1;
        when = c.args.when;
        command = c.name-command.ensures i;
        count = count i;
      };
      is_moved = c.in_ok-moved.ensures;
      is_made = c.as_slice.ensures;
    }

pub returns-in_err-put_entry-clause-exact : goal.returns-in_err-put_entry-clause-exact
returns-in_err-put_entry-clause-exact g c honest held stands reported =
    absurd (failed_untold c.in_err-put_entry.field-0.0 c.from_residual-in_err-put_entry.result
    c.from_residual-in_err-put_entry.ensures.1
    (put_fails c.in_err-put_entry.field-0.0 c.in_err-put_entry.ensures.refusal) reported)

pub returns-in_err-put_entry-clause-leaves : goal.returns-in_err-put_entry-clause-leaves
returns-in_err-put_entry-clause-leaves g c =
    let session = c.args.self.now in
    let is = is_refused c.from_residual-in_err-put_entry.result c.from_residual-in_err-put_entry.ensures.1 in
    subst (λ r. LeavesRun g.S.Store c.args.command.now c.args.when r session
    (record session { store = c.put_entry.new.store })) (sym is)
    (unput_leaves (entry_put g (goal.at.returns-in_err-put_entry-clause-leaves g c).After-put_entry)
    c.in_err-put_entry.field-0.0 c.in_err-put_entry.ensures.refusal
    (λ honest e. c.put_entry.ensures.clash honest (c.in_err-put_entry.was ∙ ap (λ x. Err x) e)))

-- each change can be made beside the entry
pub step-requires : goal.step-requires
step-requires g c honest =
    can_go (entry_put g (goal.at.step-requires g c).After-put_entry) c.as_slice.result.now c.as_slice.ensures honest

pub returns-in_err-step-clause-exact : goal.returns-in_err-step-clause-exact
returns-in_err-step-clause-exact g c honest held stands reported =
    absurd (failed_untold c.in_err-step.field-0.0 c.from_residual-in_err-step.result
    c.from_residual-in_err-step.ensures.1 c.in_err-step.ensures.kinds reported)

pub returns-in_err-step-clause-leaves : goal.returns-in_err-step-clause-leaves
returns-in_err-step-clause-leaves g c =
    let at = goal.at.returns-in_err-step-clause-leaves g c in
    subst (λ r. LeavesRun g.S.Store c.args.command.now c.args.when r c.args.self.now c.step.new.self)
    (sym (is_refused c.from_residual-in_err-step.result c.from_residual-in_err-step.ensures.1))
    (halt_leaves (entry_put g at.After-put_entry) (entry_listed g at.After-step) c.step.new.self
    c.step.ensures.call.later.was_honest c.step.ensures.folder c.step.ensures.written c.step.ensures.asks
    c.in_err-step.field-0.0 c.in_ok-put_entry.ensures.counted c.in_err-step.ensures.refused
    c.in_err-step.ensures.mutations c.in_err-step.ensures.late c.in_err-step.ensures.clash)

pub returns-clause-exact : goal.returns-clause-exact
returns-clause-exact g c honest held stands reported =
    let at = goal.at.returns-clause-exact g c in
    let made = recording (entry_put g at.After-put_entry) (entry_listed g at.After-step)
    (c.step.ensures.call.later.was_honest honest) held stands in (
      made.second,
      c.in_ok-step.ensures.mutations honest held made.second made.stands made.is,
      (
        c.in_ok-paths.ensures ∙ ap paths_of c.deref.ensures.value ∙ made.paths,
        made.run,
        c.requires.left (c.put_entry.ensures.later.was_honest (c.step.ensures.call.later.was_honest honest))
            ∙ ap (left_paths c.args.command.now) stands.committed.tree,
      ),
    )

pub returns-clause-leaves : goal.returns-clause-leaves
returns-clause-leaves g c =
    let at = goal.at.returns-clause-leaves g c in
    subst
    (λ ps. LeavesRun g.S.Store c.args.command.now c.args.when (Ok (Changed ps c.args.left)) c.args.self.now
    c.step.new.self)
    (sym (c.in_ok-paths.ensures ∙ ap paths_of c.deref.ensures.value))
    (record_leaves (entry_put g at.After-put_entry) (entry_listed g at.After-step) c.step.new.self
    c.step.ensures.call.later.was_honest c.step.ensures.folder c.step.ensures.written c.step.ensures.asks c.args.left
    c.in_ok-put_entry.ensures.counted c.in_ok-put_entry.ensures.text c.in_ok-step.ensures.texts)

-- ---- after a loss of power

pub returns-in_err-put_entry-clause-survives : goal.returns-in_err-put_entry-clause-survives
returns-in_err-put_entry-clause-survives g c honest earlier held stands safe =
    let put = entry_put g (goal.at.returns-in_err-put_entry-clause-survives g c).After-put_entry in
    let refusal = c.in_err-put_entry.field-0.0 in
    let store = c.put_entry.new.store in
    subst (λ r. Survives g.S.Store (IsRun c.args.command.now c.args.when held) earlier held r store)
    (sym (is_refused c.from_residual-in_err-put_entry.result c.from_residual-in_err-put_entry.ensures.1))
    (survives_early g.S.Store (IsRun c.args.command.now c.args.when held) earlier held store refusal
    (put_early refusal c.in_err-put_entry.ensures.refusal)
    (put_is_safe put honest earlier held stands safe c.put_entry.ensures.left))

-- behind the entry what may be left is what is there
module _ (g : Over) (c : After-step g)
    (put : EntryPut g.S.Store c.args.self.now c.args.command.now c.args.when c.args.changes.items c.put_entry.new.store
    c.used-number.result (record { changes = c.new.result; command = c.name-command.result; when = c.args.when }))
    (honest : g.S.Store.honest (store_of c.step.new.self)) (earlier : Earlier) (held : State)
    (stands : SimulatesState g.S.Store.files c.args.self.now held)
    (safe : AllRecoverToTree g.S.Store earlier held (store_of c.args.self.now)) where
  made : Recording g.S.Store.files c.args.command.now c.args.when
      (record c.args.self.now { store = c.put_entry.new.store }) c.args.changes.items c.as_slice.result.now
      (record { entry = c.used-number.result + 1; direction = directions.Do }) c.in_ok-moved.moved held
  made = recording put (entry_listed g c) (c.step.ensures.call.later.was_honest honest) held stands

  synced : IsSynced g.S.Store c.put_entry.new.store
  synced =
      c.in_ok-put_entry.ensures.durable (c.step.ensures.call.later.was_honest honest)
      (sure_tree g.S.Store (store_of c.args.self.now) earlier held stands.committed safe)

  safe_then : AllRecoverToTree g.S.Store earlier held c.put_entry.new.store
  safe_then = synced_is_safe g.S.Store earlier held c.put_entry.new.store made.stands.committed synced

  kept_then : Leaves g.S.Store c.put_entry.new.store (λ left. IsKeptIn (undo_folder_of left) made.is.step)
  kept_then = has_entry g.S.Store c.put_entry.new.store made.is.step made.is.kept synced

pub returns-in_err-step-clause-survives : goal.returns-in_err-step-clause-survives
returns-in_err-step-clause-survives g c honest earlier held stands safe =
    let at = (goal.at.returns-in_err-step-clause-survives g c).After-step in
    let put = entry_put g (goal.at.returns-in_err-step-clause-survives g c).After-put_entry in
    let here = made g at put honest earlier held stands safe in
    let then = safe_then g at put honest earlier held stands safe in
    let refusal = c.in_err-step.field-0.0 in
    subst
    (λ r. Survives g.S.Store (IsRun c.args.command.now c.args.when held) earlier held r (store_of c.step.new.self))
    (sym (is_refused c.from_residual-in_err-step.result c.from_residual-in_err-step.ensures.1))
    (survives_stop g.S.Store (IsRun c.args.command.now c.args.when held) earlier held here.second
    (store_of c.step.new.self) refusal
    (λ early. subst (λ s. AllRecoverToTree g.S.Store earlier held (store_of s))
    (sym (c.in_err-step.ensures.refused early)) then) here.run
    (c.in_err-step.ensures.survives honest earlier held here.second here.stands here.is
    then (kept_then g at put honest earlier held stands safe)))

pub returns-clause-survives : goal.returns-clause-survives
returns-clause-survives g c honest earlier held stands safe =
    let at = (goal.at.returns-clause-survives g c).After-step in
    let put = entry_put g (goal.at.returns-clause-survives g c).After-put_entry in
    let here = made g at put honest earlier held stands safe in
    c.in_ok-step.ensures.survives honest earlier held here.second here.stands here.is
    (safe_then g at put honest earlier held stands safe) (kept_then g at put honest earlier held stands safe)
