use Rattle.std.proofs.Common.{◌∙◌, not, sym, ap}
use Rattle.reuse_plan.proofs.PlaceLemmas.{not_zero}
use Rattle.reuse_plan.proofs.select.stands_alone.Goals as goal

pub returns-then-not-is_empty-clause-alone : goal.returns-then-not-is_empty-clause-alone
returns-then-not-is_empty-clause-alone g c honest some =
    ap not (sym (some (not_zero _ (sym c.is_empty.ensures ∙ c.if-not-is_empty.true))))

pub returns-clause-alone : goal.returns-clause-alone
returns-clause-alone g c honest some = ap not (c.in_ok-is_folder_alone.ensures.folder honest)
