use Rattle.std.proofs.Common.{◌≡◌, drop}
use Rattle.std.specs.Prelude.{find}
use Rattle.reuse_notice.specs.Prefixes.{longest_first}
use Rattle.reuse_amend.specs.NoticeParts.{is_begun_by, wide_prefix_of}
use Rattle.reuse_amend.proofs.notice_parts.find_prefix.Given as goal

abbrev pub invariant-loop-prefix : goal.invariant-loop-prefix
invariant-loop-prefix l = find (is_begun_by l.text) (drop l.prefix-index longest_first) ≡ wide_prefix_of l.text
