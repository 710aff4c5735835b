use Rattle.std.proofs.Common.{nat_eq, ap, ◌∙◌}
use Rattle.std.specs.Cmp.Lexicographic.{pointwise}
use Rattle.std.proofs.lemmas.List.Filters.{dedup_is}
use Rattle.reuse_notice.specs.Sets.{set_of}
use Rattle.reuse_notice.proofs.SetLemmas.{deduped-set}
use Rattle.reuse_plan.proofs.download.sorted_ids.Goals as goal

pub returns : goal.returns
returns c =
    dedup_is (pointwise nat_eq) c.sort_unstable.new.self.items c.dedup.new.self.items c.dedup.ensures.filtered
    ∙ deduped-set c.in_ok-sorted.sorted.items c.sort_unstable.new.self.items c.sort_unstable.ensures.permutation
    c.sort_unstable.ensures.sorted
    ∙ ap set_of c.in_ok-sorted.ensures
