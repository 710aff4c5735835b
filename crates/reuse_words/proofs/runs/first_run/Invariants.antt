use Rattle.std.proofs.Common.{◌≡◌, ◌+◌, length}
use Rattle.std.specs.Option.{option_map}
use Rattle.reuse_words.specs.Runs.{first_run}
use Rattle.reuse_words.proofs.RunLemmas.{later_by}
use Rattle.reuse_words.proofs.runs.first_run.Given as goal

abbrev pub invariant-loop-rest : goal.invariant-loop-rest
invariant-loop-rest l = record {
  found : option_map (later_by l.start) (first_run l.words l.rest) ≡ first_run l.words l.rows;
  passed : l.start + length l.rest ≡ length l.rows;
}

abbrev pub decreases-loop-rest : goal.decreases-loop-rest
decreases-loop-rest l = length l.rest
