use Rattle.std.proofs.Common.{◌∙◌, sym, subst, nat_eq}
use Rattle.std.specs.Cmp.Lexicographic.{pointwise}
use Rattle.std.proofs.lemmas.List.Filters.{dedup_is}
use Rattle.reuse_notice.specs.Sets.{IsSorted}
use Rattle.reuse_notice.proofs.SetLemmas.{deduped-sorted, deduped-set}
use Rattle.reuse_notice.proofs.text_lists.TextSet.new.Goals as goal

pub invariant_of-result : goal.invariant_of-result
invariant_of-result c =
    subst IsSorted
    (sym (dedup_is (pointwise nat_eq) c.sort_unstable.new.self.items c.dedup.new.self.items c.dedup.ensures.filtered))
    (deduped-sorted c.sort_unstable.new.self.items c.sort_unstable.ensures.sorted)

pub returns : goal.returns
returns c =
    dedup_is (pointwise nat_eq) c.sort_unstable.new.self.items c.dedup.new.self.items c.dedup.ensures.filtered
    ∙ deduped-set c.args.texts.items c.sort_unstable.new.self.items c.sort_unstable.ensures.permutation
    c.sort_unstable.ensures.sorted
