use Rattle.std.proofs.Common.{◌≡◌, ◌+◌, length}
use Rattle.std.specs.Option.{option_map}
use Rattle.reuse_words.specs.Runs.{run_count}
use Rattle.reuse_words.proofs.runs.run_count.Given as goal

abbrev pub invariant-loop-left : goal.invariant-loop-left
invariant-loop-left l = record {
  counted : option_map (λ more. l.count + more) (run_count l.left l.rest) ≡ run_count l.words l.rows;
  passed : l.count + length l.rest ≡ length l.rows;
}

abbrev pub decreases-loop-left : goal.decreases-loop-left
decreases-loop-left l = length l.rest
