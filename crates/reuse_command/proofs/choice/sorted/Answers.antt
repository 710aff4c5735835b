use Rattle.std.proofs.Common.{nat_eq, ◌∙◌}
use Rattle.std.specs.Cmp.Lexicographic.{pointwise}
use Rattle.std.proofs.lemmas.List.Filters.{dedup_is}
use Rattle.reuse_notice.proofs.SetLemmas.{deduped-set}
use Rattle.reuse_command.proofs.choice.sorted.Goals as goal

pub returns : goal.returns
returns c =
    dedup_is (pointwise nat_eq) c.sort_unstable.new.self.items c.dedup.new.self.items c.dedup.ensures.filtered
    ∙ deduped-set c.args.paths.items c.sort_unstable.new.self.items c.sort_unstable.ensures.permutation
    c.sort_unstable.ensures.sorted
