use Rattle.std.proofs.Common.{◌∙◌}
use Rattle.reuse_session.specs.session.Session.{memory_of}
use Rattle.reuse_session.proofs.lemmas.session.Following.{log_follows}
use Rattle.reuse_journal.proofs.MemoryLemmas.{rows_of_memory}
use Rattle.reuse_session.proofs.session.Session.log.Goals as goal

pub returns-clause-exact : goal.returns-clause-exact
returns-clause-exact g c held stands =
    c.in_ok-rows.ensures ∙ rows_of_memory (memory_of c.args.self.now) held.journal stands.remembers

pub returns-clause-machine : goal.returns-clause-machine
returns-clause-machine g c state stands =
    c.in_ok-rows.ensures ∙ rows_of_memory (memory_of c.args.self.now) stands.held.journal stands.stands.remembers
    ∙ log_follows stands.held state stands.holds
