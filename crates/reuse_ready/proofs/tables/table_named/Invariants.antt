use Rattle.std.proofs.Common.{◌≡◌, ℕ, List, length, map}
use Rattle.std.specs.Prelude.{find}
use Rattle.std.specs.Str.{bytes_eq}
use Rattle.reuse_ready.proofs.tables.table_named.Given as goal

abbrev pub invariant-loop-comments : goal.invariant-loop-comments
invariant-loop-comments l = find (λ (comment : List ℕ × List ℕ). bytes_eq comment.0 l.name)
    (map (λ comment. (comment.0.now, comment.1.now)) l.comments) ≡ find
    (λ (comment : List ℕ × List ℕ). bytes_eq comment.0 l.name)
    (map (λ comment. (comment.0.now, comment.1.now)) l.initial.comments)

abbrev pub decreases-loop-comments : goal.decreases-loop-comments
decreases-loop-comments l = length l.comments
