use Rattle.std.proofs.Common.{◌≡◌, ◌-◌}
use Rattle.reuse_amend.specs.NoticeParts.{years_tail}
use Rattle.reuse_amend.proofs.notice_parts.find_tail.Given as goal

abbrev pub invariant-loop-count : goal.invariant-loop-count
invariant-loop-count l = years_tail (l.limit - l._count) l.rest ≡ years_tail l.limit l.text
