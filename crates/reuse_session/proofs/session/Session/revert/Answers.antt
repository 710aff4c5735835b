use Rattle.std.proofs.Common.{◌≡◌, Err, IfErr, refl, sym, ap, ap₂, subst, ◌∙◌}
use Rattle.reuse_command.specs.Answer.{IsNoClash, DidNotFail}
use Rattle.reuse_change.specs.Entry.{paths_of}
use Rattle.reuse_session.specs.session.RevertCalls.{IsAfterRevert, Reverts, RevertFollows, as_run}
use Rattle.reuse_journal.specs.Losses.{Survives}
use Rattle.reuse_session.specs.session.Session.{store_of, IsRun}
use Rattle.reuse_command.specs.declared.command.Command.{Command}
use Rattle.reuse_command.specs.declared.command.Command.TheVariants.{Revert}
use Rattle.reuse_command.specs.declared.reply.Refusal.TheVariants.{JournalFull}
use Rattle.reuse_command.proofs.OnlyReading.{is_refused}
use Rattle.reuse_session.proofs.lemmas.session.Recording.{after_reading}
use Rattle.reuse_session.proofs.lemmas.session.RevertAnswers.{reported_run, reverts_step, revert_follows, absent_step}
use Rattle.reuse_session.proofs.lemmas.session.RevertAnswers.{absent_follows, no_step_back, run_leaves, full_revert}
use Rattle.reuse_session.proofs.lemmas.session.RevertAnswers.{unclashed_back}
use Rattle.reuse_session.proofs.lemmas.journal.StepDoubt.{reads_are_safe, survives_weaker}
use Rattle.reuse_session.proofs.lemmas.journal.StepAnswers.{still_stands}
use Rattle.reuse_session.proofs.session.Session.revert.Goals as goal

-- there is nothing to be taken back
pub returns-in_err-changes-clause-exact : goal.returns-in_err-changes-clause-exact
returns-in_err-changes-clause-exact g c honest held stands reported =
    let refusal = c.in_err-changes.field-0.0 in
    let is = is_refused c.from_residual.result c.from_residual.ensures.1 in
    let none = no_step_back c.args.number refusal c.in_err-changes.ensures.refusal (subst DidNotFail is reported)
    (λ path e. c.read_back.ensures.good honest held.journal stands.remembers stands.committed.journal path
    (c.in_err-changes.was ∙ ap (λ x. Err x) e)) in (
      held,
      still_stands g.S.Store.files c.args.self.now c.read_back.new.store held
          (c.read_back.ensures.reads.files honest) stands,
      subst (λ r. Reverts c.args.number c.args.skip_moved c.args.when held r held) (sym (is ∙ ap (λ x. Err x) none)) (
        refl,
        absent_step g.S.Store.files c.args.self.now held stands c.args.number
            (c.read_back.ensures.absent.0 (c.in_err-changes.was ∙ ap (λ x. Err x) none)),
        refl,
      ),
    )

pub returns-in_err-changes-clause-machine : goal.returns-in_err-changes-clause-machine
returns-in_err-changes-clause-machine g c honest state stands_at reported =
    let held = stands_at.held in
    let stands = stands_at.stands in
    let refusal = c.in_err-changes.field-0.0 in
    let is = is_refused c.from_residual.result c.from_residual.ensures.1 in
    let none = no_step_back c.args.number refusal c.in_err-changes.ensures.refusal (subst DidNotFail is reported)
    (λ path e. c.read_back.ensures.good honest held.journal stands.remembers stands.committed.journal path
    (c.in_err-changes.was ∙ ap (λ x. Err x) e)) in
    subst (λ r. RevertFollows g.S.Store.files c.args.number c.args.skip_moved c.args.when state r
    (record c.args.self.now { store = c.read_back.new.store })) (sym (is ∙ ap (λ x. Err x) none))
    (absent_follows g.S.Store.files (record c.args.self.now { store = c.read_back.new.store }) state (record {
      held = held;
      stands = still_stands g.S.Store.files c.args.self.now c.read_back.new.store held
          (c.read_back.ensures.reads.files honest) stands;
      holds = stands_at.holds;
    }) c.args.number c.args.skip_moved c.args.when
    (c.read_back.ensures.absent.0 (c.in_err-changes.was ∙ ap (λ x. Err x) none)))

-- it is run
pub returns-clause-exact : goal.returns-clause-exact
returns-clause-exact g c honest held stands reported =
    let files = g.S.Store.files in
    let session = c.args.self.now in
    let same = c.reverted_by.ensures.same in
    let was = c.run-answer.ensures.call.later.was_honest honest in
    let still = still_stands files session c.read_back.new.store held (c.read_back.ensures.reads.files was) stands in
    let ran =
    c.run-answer.ensures.exact honest held still (subst DidNotFail same (reported_run c.reverted_by.result reported)) in (
      ran.0,
      ran.1,
      reverts_step held ran.0 c.args.number c.args.skip_moved c.args.when c.in_ok-changes.changes
          c.in_ok-changes.touched
          (c.in_ok-changes.ensures.back was held.journal stands.remembers stands.committed.journal)
          c.in_ok-paths.paths (c.in_ok-paths.ensures ∙ ap paths_of c.as_slice.ensures.changes) c.run-answer.result
          c.run-answer.ensures.kinds c.reverted_by.result same c.reverted_by.ensures.skipped ran.2,
    )

pub returns-clause-machine : goal.returns-clause-machine
returns-clause-machine g c honest state stands_at reported =
    let files = g.S.Store.files in
    let session = c.args.self.now in
    let held = stands_at.held in
    let stands = stands_at.stands in
    let same = c.reverted_by.ensures.same in
    let was = c.run-answer.ensures.call.later.was_honest honest in
    let still = still_stands files session c.read_back.new.store held (c.read_back.ensures.reads.files was) stands in
    let ran =
    c.run-answer.ensures.exact honest held still (subst DidNotFail same (reported_run c.reverted_by.result reported)) in
    revert_follows held ran.0 c.args.number c.args.skip_moved c.args.when c.in_ok-changes.changes
    c.in_ok-changes.touched
    (c.in_ok-changes.ensures.back was held.journal stands.remembers stands.committed.journal)
    c.in_ok-paths.paths (c.in_ok-paths.ensures ∙ ap paths_of c.as_slice.ensures.changes) c.run-answer.result
    c.run-answer.ensures.kinds c.reverted_by.result same c.reverted_by.ensures.skipped ran.2
    files session c.run-answer.new.self state stands_at refl ran.1

pub returns-clause-leaves : goal.returns-clause-leaves
returns-clause-leaves g c =
    let store = g.S.Store in
    let session = c.args.self.now in
    let was = c.run-answer.ensures.call.later.was_honest in
    let says = c.in_ok-changes.ensures.says in
    run_leaves store c.args.number c.args.skip_moved c.args.when c.reverted_by.result c.run-answer.result session
    c.run-answer.new.self says.0 c.in_ok-changes.changes c.in_ok-changes.touched
    (λ honest. says.1 (was honest)) says.2
    (λ honest held stands. c.in_ok-changes.ensures.back
    (was honest) held.journal stands.remembers stands.committed.journal) (c.reverted_by.ensures.same)
    (after_reading store session c.run-answer.new.self c.read_back.new.store c.read_back.ensures.reads
    c.run-answer.ensures.call.later.was_honest
    (Revert c.in_ok-changes.changes c.in_ok-changes.touched c.args.skip_moved) c.args.when c.run-answer.result
    c.run-answer.ensures.leaves)

-- ---- after a loss of power

pub returns-clause-survives : goal.returns-clause-survives
returns-clause-survives g c honest earlier held stands safe =
    let files = g.S.Store.files in
    let session = c.args.self.now in
    let was = c.run-answer.ensures.call.later.was_honest honest in
    let still = still_stands files session c.read_back.new.store held (c.read_back.ensures.reads.files was) stands in
    let back = c.in_ok-changes.ensures.back was held.journal stands.remembers stands.committed.journal in
    let IsNext = IsAfterRevert c.args.number c.args.skip_moved c.args.when held in
    subst (λ r. Survives g.S.Store IsNext earlier held r (store_of c.run-answer.new.self)) (sym (c.reverted_by.ensures.same))
    (survives_weaker g.S.Store (IsRun (Revert c.in_ok-changes.changes c.in_ok-changes.touched c.args.skip_moved)
    c.args.when held) IsNext earlier held (store_of c.run-answer.new.self) c.run-answer.result
    (λ next is. (
      back.step,
      back.is_done,
      back.numbered,
      subst (λ (command : Command). IsRun command c.args.when held next)
          (ap₂ (λ cs ts. Revert cs ts c.args.skip_moved) back.changes back.touched) is,
    ))
    (c.run-answer.ensures.survives honest earlier held still
    (reads_are_safe g.S.Store earlier held (store_of session) c.read_back.new.store c.read_back.ensures.reads safe)))

-- ---- a full journal

pub returns-clause-full : goal.returns-clause-full
returns-clause-full g c honest full =
    let is : as_run c.reverted_by.result ≡ Err JournalFull =
    c.reverted_by.ensures.same ∙ c.run-answer.ensures.full.1 (c.if-self.false, full) in
    full_revert c.reverted_by.result is

pub returns-in_err-changes-clause-full : goal.returns-in_err-changes-clause-full
returns-in_err-changes-clause-full g c honest full =
    let refusal = c.in_err-changes.field-0.0 in
    subst (λ r. IfErr r IsNoClash) (sym (is_refused c.from_residual.result c.from_residual.ensures.1))
    (unclashed_back c.args.number refusal c.in_err-changes.ensures.refusal
    (λ e. c.read_back.ensures.fails.clash honest (c.in_err-changes.was ∙ ap (λ x. Err x) e)))
