use Rattle.reuse_session.proofs.lemmas.session.FoundPoints.{stopped_starts}
use Rattle.reuse_session.proofs.loss_laws.what_is_found_is_a_start.Goals as goal

pub returns : goal.returns
returns g c = λ store first second state next holds reaches doubt.
    stopped_starts g.S.Store store first second state next holds reaches doubt
