use Rattle.std.proofs.Common.{◌≡◌, List, ℕ, take}
use Rattle.reuse_notice.specs.Merging.{class_of}
use Rattle.reuse_notice.specs.MergeSteps.{summary, class_at}
use Rattle.reuse_notice.proofs.merging.gather_classes.Given as goal

abbrev pub invariant-loop-text : goal.invariant-loop-text
invariant-loop-text l =
    (holder : List ℕ) → class_at l.classes holder ≡ summary l.command (class_of (take l.text-index l.notices) holder)
