use Rattle.reuse_amend.proofs.JoinedLemmas.{parts_joined}
use Rattle.reuse_amend.proofs.InPlaceLemmas.{in_place}
use Rattle.reuse_amend.proofs.amend_laws.notices_are_changed_in_place.Goals as goal

pub returns : goal.returns
returns c = record { parts = parts_joined; changed = in_place }
