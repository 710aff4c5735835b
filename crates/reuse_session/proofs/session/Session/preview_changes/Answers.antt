use Rattle.std.proofs.Common.{◌≡◌, ◌∙◌, true, false, None, Err, IfOk, OnOk, refl, sym, subst}
use Rattle.reuse_plan.specs.Counted.{IsCounted}
use Rattle.reuse_plan.specs.PathOutcomes.{path_outcomes_of, first_refusal}
use Rattle.reuse_plan.specs.Outcome.{edits_of, outcome_of}
use Rattle.reuse_plan.specs.Plan.{IsPlan, Records}
use Rattle.reuse_command.specs.declared.path_outcome.Previewed.{Previewed}
use Rattle.reuse_command.specs.declared.reply.Refusal.TheVariants.{JournalFull}
use Rattle.reuse_session.proofs.lemmas.session.Following.{is_full_alike}
use Rattle.reuse_session.proofs.lemmas.session.Previewing.{alone_path_outcomes, alone_refusal, alone_reported}
use Rattle.reuse_session.proofs.lemmas.session.Previewing.{run_as_previewed, run_as_previewed_on}
use Rattle.reuse_session.proofs.lemmas.session.Running.{full_alike}
use Rattle.reuse_session.proofs.session.Session.preview_changes.Goals as goal

pub returns-then-is_full-clause-machine : goal.returns-then-is_full-clause-machine
returns-then-is_full-clause-machine g c honest state stands_at reported =
    run_as_previewed c.args.command.now stands_at.held.tree state true (Err JournalFull) stands_at.holds.tree
    (is_full_alike stands_at.held state stands_at.holds ∙ full_alike g.S.Store.files c.args.self.now stands_at.held
    stands_at.stands ∙ sym c.is_full.ensures ∙ c.if-is_full.true) refl reported

pub returns-clause-exact : goal.returns-clause-exact
returns-clause-exact g c honest held stands =
    subst (λ t. IfOk c.plan_preview.result
    (λ (previewed : Previewed). previewed.path_outcomes ≡ path_outcomes_of c.args.command.now t)) stands.committed.tree
    (c.plan_preview.ensures.path_outcomes honest)

pub returns-clause-machine : goal.returns-clause-machine
returns-clause-machine g c honest state stands_at reported =
    let answer = c.plan_preview.result in
    let tree = stands_at.held.tree in
    run_as_previewed c.args.command.now tree state false _ stands_at.holds.tree
    (is_full_alike stands_at.held state stands_at.holds ∙ full_alike g.S.Store.files c.args.self.now stands_at.held
    stands_at.stands ∙ sym c.is_full.ensures ∙ c.if-is_full.false) (
      alone_path_outcomes answer (λ path_outcomes. path_outcomes ≡ path_outcomes_of c.args.command.now tree)
          (returns-clause-exact g c honest stands_at.held stands_at.stands),
      alone_refusal answer _ c.plan_preview.ensures.refusal,
    ) (alone_reported answer reported)

pub returns-then-is_full-clause-answers : goal.returns-then-is_full-clause-answers
returns-then-is_full-clause-answers g c honest held stands reported =
    run_as_previewed_on c.args.command.now held true (Err JournalFull)
    (full_alike g.S.Store.files c.args.self.now held stands ∙ sym c.is_full.ensures ∙ c.if-is_full.true) refl reported

pub returns-clause-answers : goal.returns-clause-answers
returns-clause-answers g c honest held stands reported =
    let answer = c.plan_preview.result in
    run_as_previewed_on c.args.command.now held false _
    (full_alike g.S.Store.files c.args.self.now held stands ∙ sym c.is_full.ensures ∙ c.if-is_full.false) (
      alone_path_outcomes answer (λ path_outcomes. path_outcomes ≡ path_outcomes_of c.args.command.now held.tree)
          (returns-clause-exact g c honest held stands),
      alone_refusal answer _ c.plan_preview.ensures.refusal,
    ) (alone_reported answer reported)

pub returns-clause-plan : goal.returns-clause-plan
returns-clause-plan g c honest held stands =
    subst (λ t. IfOk c.plan_preview.result (λ (previewed : Previewed). first_refusal previewed.path_outcomes ≡ None
    → IsPlan (outcome_of c.args.command.now t) t previewed.changes)) stands.committed.tree
    (c.plan_preview.ensures.changes honest)

pub returns-clause-recorded : goal.returns-clause-recorded
returns-clause-recorded g c honest held stands =
    subst (λ t. IfOk c.plan_preview.result (λ (previewed : Previewed). first_refusal previewed.path_outcomes ≡ None
    → Records t (edits_of c.args.command.now t) previewed.changes)) stands.committed.tree
    (c.plan_preview.ensures.recorded honest)

pub returns-clause-counts : goal.returns-clause-counts
returns-clause-counts g c honest held stands =
    subst (λ t. OnOk c.plan_preview.result (IsCounted c.args.command.now t c.plan_preview.new.counts))
    stands.committed.tree (c.plan_preview.ensures.counts honest)
