use Rattle.std.proofs.Common.{◌≡◌, List, ℕ, take}
use Rattle.reuse_notice.specs.MergeSteps.{is_among, has_text}
use Rattle.reuse_notice.proofs.merging.gather_texts.Given as goal

abbrev pub invariant-loop-text : goal.invariant-loop-text
invariant-loop-text l = (text : List ℕ) → has_text l.set text ≡ is_among (take l.text-index l.texts) text
