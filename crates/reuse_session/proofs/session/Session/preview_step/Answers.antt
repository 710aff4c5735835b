use Rattle.std.proofs.Common.{Err, ap, sym, subst}
use Rattle.reuse_session.specs.session.Previews.{path_outcomes_alone, PreviewsReplay}
use Rattle.reuse_session.specs.session.Session.{memory_of}
use Rattle.reuse_journal.proofs.MemoryLemmas.{none_ahead}
use Rattle.reuse_session.proofs.lemmas.session.Previewing.{replay_as_previewed_to}
use Rattle.reuse_edit.proofs.Results.{none_unless_some}
use Rattle.reuse_session.proofs.session.Session.preview_step.Goals as goal

pub returns-in_default-clause-exact : goal.returns-in_default-clause-exact
returns-in_default-clause-exact g c honest held stands reported =
    let direction = c.args.direction in
    let none = c.next.ensures.none (none_unless_some c.next.result c.in_default.not-Some) in
    subst (λ steps. PreviewsReplay direction steps held.tree (Err c.end_of.result))
    (sym ((none_ahead direction (memory_of c.args.self.now) held.journal stands.remembers).0 none))
    (ap (λ r. Err r) c.end_of.ensures)

pub returns-in_default-clause-machine : goal.returns-in_default-clause-machine
returns-in_default-clause-machine g c honest state stands_at reported =
    replay_as_previewed_to stands_at.held state stands_at.holds c.args.direction _
    (returns-in_default-clause-exact g c honest stands_at.held stands_at.stands reported)

pub returns-clause-machine : goal.returns-clause-machine
returns-clause-machine g c honest state stands_at reported =
    replay_as_previewed_to stands_at.held state stands_at.holds c.args.direction
    (path_outcomes_alone c.preview_listed.result)
    (c.preview_listed.ensures.exact honest stands_at.held stands_at.stands reported)
