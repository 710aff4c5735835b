use Rattle.std.proofs.Common.{◌≡◌, ◌∙◌, List, Some, Ok, Err, ap, refl, sym, subst}
use Rattle.reuse_change.specs.Files.{tree_of}
use Rattle.reuse_change.specs.declared.change.Change.{Change}
use Rattle.reuse_command.specs.Answer.{DidNotFail}
use Rattle.reuse_change.specs.Entry.{IsEntry}
use Rattle.reuse_journal.specs.History.{remember_moved}
use Rattle.reuse_journal.specs.Journal.{Recorded, changes_ahead}
use Rattle.reuse_journal.specs.JournalFiles.{entry_in}
use Rattle.reuse_session.specs.session.Previews.{PreviewsReplay}
use Rattle.reuse_session.specs.session.Session.{memory_of}
use Rattle.reuse_command.specs.declared.path_outcome.Previewed.{Previewed}
use Rattle.reuse_command.specs.declared.reply.Response.{Response}
use Rattle.reuse_command.proofs.OnlyReading.{is_refused}
use Rattle.reuse_session.proofs.lemmas.session.Previewing.{any_reported, replay_as_previewed}
use Rattle.reuse_session.proofs.lemmas.journal.StepAnswers.{read_reported}
use Rattle.reuse_session.proofs.lemmas.session.Replaying.{next_of, next_says, next_changes}
use Rattle.reuse_session.proofs.session.Session.preview_listed.Goals as goal

-- the entry can't be read
pub returns-in_err-entry-clause-exact : goal.returns-in_err-entry-clause-exact
returns-in_err-entry-clause-exact g c honest held stands reported =
    let direction = c.args.direction in
    let next = next_of direction g.S.Store.files c.args.self.now held c.args.listed c.requires.0
    (remember_moved direction c.requires.0 c.args.listed (memory_of c.args.self.now)) stands c.requires.1 refl in
    let is = is_refused c.from_residual.result c.from_residual.ensures.1 in
    absurd (read_reported c.in_err-entry.field-0.0 c.in_err-entry.ensures.refusal
    (any_reported Previewed Response c.in_err-entry.field-0.0 (subst DidNotFail is reported))
    (λ path e. (c.read_entry.ensures.bad honest path (c.in_err-entry.was ∙ ap (λ x. Err x) e)).1 (entry_in next.step)
    (next_says next c.number.result c.number.ensures)))

-- it is read
pub returns-clause-exact : goal.returns-clause-exact
returns-clause-exact g c honest held stands reported =
    let store = g.S.Store in
    let direction = c.args.direction in
    let read = c.replay_path_outcomes.ensures.reads.was_honest honest in
    let unread = c.read_entry.ensures.reads.files read in
    let next = next_of direction store.files c.args.self.now held c.args.listed c.requires.0
    (remember_moved direction c.requires.0 c.args.listed (memory_of c.args.self.now)) stands c.requires.1 refl in
    let made = c.as_slice.result.now in
    let changes : next.step.changes ≡ made = next_changes next c.number.result c.number.ensures c.in_ok-entry.entry
    (c.in_ok-entry.ensures.ok read) ∙ sym c.as_slice.ensures in
    let good : IsEntry made = subst IsEntry (sym c.as_slice.ensures) c.in_ok-entry.ensures.good in
    subst (λ steps. PreviewsReplay direction steps held.tree (Ok c.in_ok-path_outcomes.path_outcomes)) (sym next.list)
    (replay_as_previewed direction next.step next.steps made held.tree (tree_of (store.files c.read_entry.new.store))
    (Ok c.in_ok-path_outcomes.path_outcomes) changes (ap tree_of unread ∙ stands.committed.tree)
    (c.in_ok-path_outcomes.ensures.path_outcomes honest good) tt reported)

pub returns-clause-changes : goal.returns-clause-changes
returns-clause-changes g c honest held stands =
    let direction = c.args.direction in
    let read = c.replay_path_outcomes.ensures.reads.was_honest honest in
    let next = next_of direction g.S.Store.files c.args.self.now held c.args.listed c.requires.0
    (remember_moved direction c.requires.0 c.args.listed (memory_of c.args.self.now)) stands c.requires.1 refl in
    ap (λ (steps : List Recorded). changes_ahead steps) next.list ∙ ap (λ (made : List Change). Some made)
    (next_changes next c.number.result c.number.ensures c.in_ok-entry.entry (c.in_ok-entry.ensures.ok read))
