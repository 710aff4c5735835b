use Rattle.std.proofs.Common.{Err, sym, ap, ap₂, subst, ◌∙◌}
use Rattle.reuse_command.specs.Answer.{DidNotFail}
use Rattle.reuse_session.specs.session.RevertCalls.{GivesRevert, GivesRevertAt}
use Rattle.reuse_command.specs.declared.command.Command.TheVariants.{Revert}
use Rattle.reuse_session.proofs.lemmas.session.LaterSteps.{later_as_machine}
use Rattle.reuse_command.proofs.OnlyReading.{is_refused}
use Rattle.reuse_session.proofs.lemmas.session.RevertAnswers.{absent_step, no_step_back}
use Rattle.reuse_session.proofs.lemmas.session.StepsByNumber.{led_to_tree, unkept}
use Rattle.reuse_session.proofs.session.Session.revert_command.Goals as goal

pub returns-in_err-changes-clause-exact : goal.returns-in_err-changes-clause-exact
returns-in_err-changes-clause-exact g c honest held stands reported =
    let refusal = c.in_err-changes.field-0.0 in
    let is = is_refused c.from_residual.result c.from_residual.ensures.1 in
    let none = no_step_back c.args.number refusal c.in_err-changes.ensures.refusal (subst DidNotFail is reported)
    (λ path e. c.read_back.ensures.good honest held.journal stands.remembers stands.committed.journal path
    (c.in_err-changes.was ∙ ap (λ x. Err x) e)) in
    subst (GivesRevert c.args.number c.args.skip_moved held) (sym is) (
      none,
      absent_step g.S.Store.files c.args.self.now held stands c.args.number
          (c.read_back.ensures.absent.0 (c.in_err-changes.was ∙ ap (λ x. Err x) none)),
    )

pub returns-in_err-changes-clause-machine : goal.returns-in_err-changes-clause-machine
returns-in_err-changes-clause-machine g c honest state stands_at reported =
    let held = stands_at.held in
    let stands = stands_at.stands in
    let refusal = c.in_err-changes.field-0.0 in
    let is = is_refused c.from_residual.result c.from_residual.ensures.1 in
    let none = no_step_back c.args.number refusal c.in_err-changes.ensures.refusal (subst DidNotFail is reported)
    (λ path e. c.read_back.ensures.good honest held.journal stands.remembers stands.committed.journal path
    (c.in_err-changes.was ∙ ap (λ x. Err x) e)) in
    subst (GivesRevertAt c.args.number c.args.skip_moved state) (sym is) (
      none,
      unkept c.args.number held.journal.done state.past stands_at.holds.past
          (absent_step g.S.Store.files c.args.self.now held stands c.args.number
          (c.read_back.ensures.absent.0 (c.in_err-changes.was ∙ ap (λ x. Err x) none))),
    )

pub returns-clause-machine : goal.returns-clause-machine
returns-clause-machine g c honest state stands_at reported =
    let held = stands_at.held in
    let stands = stands_at.stands in
    let back = c.in_ok-changes.ensures.back honest held.journal stands.remembers stands.committed.journal in (
      back.step.changes,
      led_to_tree held state stands_at.holds back.step c.args.number back.is_done back.numbered,
      ap₂ (λ cs ts. Revert cs ts c.args.skip_moved) back.changes
          (back.touched ∙ later_as_machine held state stands_at.holds c.args.number back.step.changes),
    )
