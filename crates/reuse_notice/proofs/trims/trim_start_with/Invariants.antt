use Rattle.std.proofs.Common.{◌≡◌, ℕ, Bool, length}
use Rattle.reuse_notice.specs.Tags.{drop_front}
use Rattle.reuse_notice.specs.Trims.{IsTest}
use Rattle.reuse_notice.proofs.trims.trim_start_with.Given as goal

abbrev pub invariant-loop-rest : goal.invariant-loop-rest
invariant-loop-rest g l =
    (test : ℕ → Bool) → IsTest (goal.F-post g l.passes) test → drop_front test l.rest ≡ drop_front test l.bytes

abbrev pub decreases-loop-rest : goal.decreases-loop-rest
decreases-loop-rest g l = length l.rest
