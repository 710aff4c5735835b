use Rattle.reuse_folder.proofs.PathLossLemmas.{left_as_it_was, left_by_paths}
use Rattle.reuse_folder.proofs.laws.losses_stay_at_their_paths.Goals as goal

pub returns : goal.returns
returns c = record {
  paths = λ start initial supposed calls left supposes may.
      left_by_paths start initial supposed supposes calls left may;
  unsynced = λ start supposed calls path outside never. left_as_it_was start supposed path outside calls never;
}
