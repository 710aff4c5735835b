use Rattle.std.proofs.Common.{◌≡◌, ◌++◌, length, map}
use Rattle.std.specs.List.{list_any}
use Rattle.reuse_style.specs.Search.{holds}
use Rattle.reuse_header.proofs.closer.line_holds.Given as goal

abbrev pub invariant-loop-rest : goal.invariant-loop-rest
invariant-loop-rest l =
    list_any (holds l.text) (map (λ value. l.lead ++ (l.tag ++ value)) l.rest) ≡ list_any (holds l.text)
    (map (λ value. l.lead ++ (l.tag ++ value)) l.values)

abbrev pub decreases-loop-rest : goal.decreases-loop-rest
decreases-loop-rest l = length l.rest
