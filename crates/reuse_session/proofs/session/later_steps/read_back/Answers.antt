use Rattle.std.proofs.Common.{◌≡◌, List, true, sym, ap, subst, ◌∙◌}
use Rattle.std.specs.Prelude.{filter}
use Rattle.std.specs.List.{All}
use Rattle.reuse_change.specs.Entry.{paths_of, IsEntry}
use Rattle.reuse_change.specs.Files.{Files}
use Rattle.reuse_change.specs.Tree.{undo_folder_of}
use Rattle.reuse_change.specs.declared.change.Change.{Change}
use Rattle.reuse_json.specs.declared.entry.Entry.{Entry}
use Rattle.reuse_journal.specs.JournalFiles.{entry_in, IsKeptIn}
use Rattle.reuse_session.specs.session.RevertCalls.{done_after, touched_by}
use Rattle.reuse_journal.specs.Numbered.{lists}
use Rattle.reuse_journal.proofs.JournalLemmas.{same_entry}
use Rattle.reuse_session.proofs.lemmas.session.LaterSteps.{numbers_are, later_kept}
use Rattle.reuse_command.proofs.OnlyReading.{passed_on}
use Rattle.reuse_session.proofs.lemmas.session.StepsByNumber.{done_step, says_step}
use Rattle.reuse_session.proofs.session.later_steps.read_back.Goals as goal

pub returns-in_err-entry-clause-good : goal.returns-in_err-entry-clause-good
returns-in_err-entry-clause-good g c honest journal remembers keeps path e =
    let folder = undo_folder_of (g.S.Store.files c.args.store.now) in
    let listed : lists c.args.history.now.done c.args.number ≡ true = sym c.is_done.ensures ∙ c.if-not-is_done.false in
    let at = done_step c.args.history.now journal c.args.number remembers listed in
    (c.read_entry.ensures.bad honest path (passed_on c.from_residual-in_err-entry.result c.read_entry.result
    c.from_residual-in_err-entry.ensures.1 c.in_err-entry.was e)).1
    (entry_in at.0) (says_step folder journal keeps true at.0 c.args.number at.1 at.2)

pub returns-in_err-touched-clause-good : goal.returns-in_err-touched-clause-good
returns-in_err-touched-clause-good g c honest journal remembers keeps path e =
    let folder = undo_folder_of (g.S.Store.files c.args.store.now) in
    let before = c.read_entry.ensures.reads.files (c.touched_paths.ensures.reads.was_honest honest) in
    c.touched_paths.ensures.good honest (done_after c.args.number journal.done)
    (c.deref.ensures.value ∙ c.in_ok-later.ensures ∙ numbers_are c.args.history.now journal c.args.number remembers)
    (subst (λ (f : Files). All (IsKeptIn (undo_folder_of f)) (done_after c.args.number journal.done)) (sym before)
    (later_kept folder journal c.args.number keeps))
    path (passed_on c.from_residual-in_err-touched.result c.touched_paths.result
    c.from_residual-in_err-touched.ensures.1 c.in_err-touched.was e)

pub returns-clause-back : goal.returns-clause-back
returns-clause-back g c honest journal remembers keeps =
    let folder = undo_folder_of (g.S.Store.files c.args.store.now) in
    let was = c.touched_paths.ensures.reads.was_honest honest in
    let before = c.read_entry.ensures.reads.files was in
    let listed : lists c.args.history.now.done c.args.number ≡ true = sym c.is_done.ensures ∙ c.if-not-is_done.false in
    let at = done_step c.args.history.now journal c.args.number remembers listed in
    let is : c.in_ok-entry.entry ≡ entry_in at.0 = same_entry _ c.in_ok-entry.entry (entry_in at.0)
    (c.in_ok-entry.ensures.ok was) (says_step folder journal keeps true at.0 c.args.number at.1 at.2) in
    record {
      step = at.0;
      is_done = at.1;
      numbered = at.2;
      changes = c.new.ensures ∙ ap (λ (e : Entry). e.changes) is;
      touched =
          c.in_ok-touched.ensures.touched honest (subst IsEntry (sym c.as_slice.ensures) c.in_ok-entry.ensures.good)
          (done_after c.args.number journal.done)
          (c.deref.ensures.value ∙ c.in_ok-later.ensures
          ∙ numbers_are c.args.history.now journal c.args.number remembers)
          (subst (λ (f : Files). All (IsKeptIn (undo_folder_of f)) (done_after c.args.number journal.done)) (sym before)
          (later_kept folder journal c.args.number keeps))
          ∙ ap (λ (cs : List Change). filter (touched_by (done_after c.args.number journal.done)) (paths_of cs))
          (c.as_slice.ensures ∙ ap (λ (e : Entry). e.changes) is);
    }
