use Rattle.reuse_notice.proofs.PlaceLemmas.{none_exactly, place_exactly, one_fault}
use Rattle.reuse_notice.proofs.laws.faults_are_the_grammars.Goals as goal

pub returns : goal.returns
returns c = record { none = none_exactly; place = place_exactly; one = one_fault }
