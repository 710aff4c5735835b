use Rattle.std.proofs.Common.{Err, List, inl, inr, ap, sym, subst, ◌∙◌}
use Rattle.reuse_command.specs.Answer.{DidNotFail}
use Rattle.reuse_session.specs.session.Previews.{run_path_outcomes_on}
use Rattle.reuse_session.specs.session.Requests.{ReadsOnlyWithCause}
use Rattle.reuse_session.specs.session.RevertCalls.{GivesRevert}
use Rattle.reuse_command.specs.declared.command.Command.{Command}
use Rattle.reuse_command.specs.declared.path_outcome.PathOutcome.{PathOutcome}
use Rattle.reuse_session.proofs.lemmas.session.Peeking.{reads_with_cause_on, reads_with_cause_err}
use Rattle.reuse_session.proofs.lemmas.session.Peeking.{preview_reads_with_cause, show_reads_with_cause, still_stands}
use Rattle.reuse_session.proofs.lemmas.session.Peeking.{reported_again}
use Rattle.reuse_session.proofs.session.Session.preview_revert.Goals as goal

pub returns-in-Ok-clause-exact : goal.returns-in-Ok-clause-exact
returns-in-Ok-clause-exact g c honest held stands reported =
    let was_honest = c.preview-path_outcomes.ensures.reads_only.reads.was_honest honest in
    let mid = c.revert_command.new.self in
    let given = c.revert_command.ensures in
    let reads_with_cause = show_reads_with_cause g.S.Store c.revert_command.result c.args.self.now mid given.broken.1
    given.reads_only.reads given.reads_only.kept given.reads_only.fails given.call in
    let back = subst (GivesRevert c.args.number c.args.skip_moved held) c.in-Ok.is
    (given.exact was_honest held stands (subst DidNotFail (sym c.in-Ok.is) tt)) in
    let still =
    still_stands g.S.Store c.revert_command.result c.args.self.now mid held reads_with_cause was_honest stands in
    inr (
      back.0,
      back.1,
      back.2,
      c.preview-path_outcomes.ensures.answers honest held still reported ∙ ap (run_path_outcomes_on held) back.3,
    )

pub returns-in-Ok-clause-reads_only : goal.returns-in-Ok-clause-reads_only
returns-in-Ok-clause-reads_only g c =
    let given = c.revert_command.ensures in
    let reads_with_cause =
    show_reads_with_cause g.S.Store c.revert_command.result c.args.self.now c.revert_command.new.self given.broken.1
    given.reads_only.reads given.reads_only.kept given.reads_only.fails given.call in
    reads_with_cause_on g.S.Store c.revert_command.result c.preview-path_outcomes.result c.args.self.now
    c.revert_command.new.self c.preview-path_outcomes.new.self reads_with_cause
    (preview_reads_with_cause g.S.Store c.preview-path_outcomes.result c.revert_command.new.self
    c.preview-path_outcomes.new.self c.preview-path_outcomes.ensures.reads_only c.preview-path_outcomes.ensures.refusal)

pub returns-in-Ok-clause-broken : goal.returns-in-Ok-clause-broken
returns-in-Ok-clause-broken g c =
    let same = c.revert_command.ensures.reads_only.kept.1 in
    let broken = c.preview-path_outcomes.ensures.broken in
    (λ is. sym same ∙ broken.0 is, λ is. broken.1 (same ∙ is))

pub returns-in-Err-clause-exact : goal.returns-in-Err-clause-exact
returns-in-Err-clause-exact g c honest held stands reported =
    let none = subst (GivesRevert c.args.number c.args.skip_moved held) c.in-Err.is
    (c.revert_command.ensures.exact honest held stands
    (subst DidNotFail (sym c.in-Err.is) (reported_again (List PathOutcome) Command c.in-Err.refusal reported))) in
    inl (ap (λ r. Err r) none.0, none.1)

pub returns-in-Err-clause-reads_only : goal.returns-in-Err-clause-reads_only
returns-in-Err-clause-reads_only g c =
    let given = c.revert_command.ensures in
    let reads_with_cause =
    show_reads_with_cause g.S.Store c.revert_command.result c.args.self.now c.revert_command.new.self given.broken.1
    given.reads_only.reads given.reads_only.kept given.reads_only.fails given.call in
    reads_with_cause_err g.S.Store c.in-Err.refusal c.args.self.now c.revert_command.new.self
    (subst (λ r. ReadsOnlyWithCause g.S.Store r c.args.self.now c.revert_command.new.self) c.in-Err.is reads_with_cause)
