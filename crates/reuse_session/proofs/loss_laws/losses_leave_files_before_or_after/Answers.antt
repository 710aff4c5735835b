use Rattle.reuse_session.proofs.lemmas.session.PathLosses.{within}
use Rattle.reuse_session.proofs.loss_laws.losses_leave_files_before_or_after.Goals as goal

pub returns : goal.returns
returns g c = λ store state next forgetting is. within g.S.Store store state next forgetting is
