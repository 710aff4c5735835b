-- What is left of both goes, and comes.
use Rattle.std.proofs.Common.{◌++◌, ap, ◌∙◌}
use Rattle.reuse_diff.specs.TextLines.{texts_of}
use Rattle.reuse_diff.specs.Hunks.{old_lines, new_lines}
use Rattle.reuse_diff.proofs.LineLists.{goes, comes}
use Rattle.reuse_diff.proofs.compare.push_compared.Goals as goal

pub returns-clause-old : goal.returns-clause-old
returns-clause-old c =
    goes (old_lines c.loop-old_at.pieces.items) (old_lines c.push_all.new.pieces.items)
    (old_lines c.push_all-2.new.pieces.items) (texts_of c.split_at-2.result.1.now)
    (texts_of c.split_at-3.result.1.now) c.in_ok-push_all.ensures.old c.in_ok-push_all-2.ensures.old
    ∙ ap (λ lines. old_lines c.loop-old_at.pieces.items ++ texts_of lines) c.split_at-2.ensures.back
    ∙ c.loop-old_at.invariant.old

pub returns-clause-new : goal.returns-clause-new
returns-clause-new c =
    comes (new_lines c.loop-old_at.pieces.items) (new_lines c.push_all.new.pieces.items)
    (new_lines c.push_all-2.new.pieces.items) (texts_of c.split_at-2.result.1.now)
    (texts_of c.split_at-3.result.1.now) c.in_ok-push_all.ensures.new c.in_ok-push_all-2.ensures.new
    ∙ ap (λ lines. new_lines c.loop-old_at.pieces.items ++ texts_of lines) c.split_at-3.ensures.back
    ∙ c.loop-old_at.invariant.new
