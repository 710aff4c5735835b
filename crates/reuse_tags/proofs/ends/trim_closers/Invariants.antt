use Rattle.std.proofs.Common.{◌≡◌, ◌-◌, length}
use Rattle.reuse_tags.specs.Ends.{without_closers, ended}
use Rattle.reuse_tags.proofs.ends.trim_closers.Given as goal

abbrev pub invariant-loop-count : goal.invariant-loop-count
invariant-loop-count l = without_closers (length l.text - l._count) l.rest ≡ ended l.text
