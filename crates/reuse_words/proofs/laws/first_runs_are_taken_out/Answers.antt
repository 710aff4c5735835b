use Rattle.reuse_words.proofs.RunLawLemmas.{found_without, unfound_stays}
use Rattle.reuse_words.proofs.laws.first_runs_are_taken_out.Goals as goal

pub returns : goal.returns
returns c = record { found = found_without; stays = unfound_stays }
