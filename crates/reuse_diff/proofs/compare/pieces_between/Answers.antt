-- The lines of both are those at the start, those in between, and those at the end.
use Rattle.std.proofs.Common.{◌≡◌, ◌-◌, ◌++◌, drop, length, arith, sym, ap, ap₂, ◌∙◌}
use Rattle.reuse_diff.specs.declared.hunk.Sign.TheVariants.{Kept}
use Rattle.reuse_diff.specs.TextLines.{texts_of}
use Rattle.reuse_diff.specs.Hunks.{old_lines, new_lines, pieces_with, same_front}
use Rattle.reuse_diff.proofs.LineLists.{in_three, in_three-both, added_in_three}
use Rattle.reuse_diff.proofs.CommonLines.{keeps_ends-added, end_behind}
use Rattle.reuse_diff.proofs.compare.pieces_between.Goals as goal

pub returns-clause-old : goal.returns-clause-old
returns-clause-old c =
    added_in_three (old_lines c.new-pieces.result.items) (old_lines c.push_all.new.pieces.items)
    (old_lines c.push_compared.new.pieces.items) (old_lines c.push_all-2.new.pieces.items)
    (texts_of c.split_at.result.0.now) (texts_of c.split_at-3.result.0.now) (texts_of c.split_at-3.result.1.now)
    (ap old_lines c.new-pieces.ensures.items) c.in_ok-push_all.ensures.old c.in_ok-push_compared.ensures.old
    c.in_ok-push_all-2.ensures.old
    ∙ rw (c.split_at-3.ensures.front, c.split_at-3.ensures.back, c.split_at.ensures.front, c.split_at.ensures.back)
    (in_three c.args.old.now c.common_above-above.result
    (length (drop c.common_above-above.result c.args.old.now) - c.common_below-below.result))

pub returns-clause-new : goal.returns-clause-new
returns-clause-new c =
    added_in_three (new_lines c.new-pieces.result.items) (new_lines c.push_all.new.pieces.items)
    (new_lines c.push_compared.new.pieces.items) (new_lines c.push_all-2.new.pieces.items)
    (texts_of c.split_at.result.0.now) (texts_of c.split_at-4.result.0.now) (texts_of c.split_at-3.result.1.now)
    (ap new_lines c.new-pieces.ensures.items) c.in_ok-push_all.ensures.new c.in_ok-push_compared.ensures.new
    c.in_ok-push_all-2.ensures.new
    ∙ rw (
      c.split_at-4.ensures.front,
      c.split_at-3.ensures.back,
      c.split_at.ensures.front,
      c.split_at.ensures.back,
      c.split_at-2.ensures.back,
    )
    (in_three-both c.args.old.now c.args.new.now c.common_above-above.result c.common_below-below.result
    c.common_above-above.ensures.same
    (rw (c.split_at.ensures.back, c.split_at-2.ensures.back) at c.common_below-below.ensures.same))

pub returns-clause-ends : goal.returns-clause-ends
returns-clause-ends c =
    let three = c.push_all-2.new.pieces.items in
    let above = c.split_at.result.0.now in
    let below = c.split_at-3.result.1.now in
    let count : length above ≡ c.common_above-above.result = omega arith in
    let many : length below ≡ c.common_below-below.result = omega arith in
    keeps_ends-added above below c.push_all.new.pieces.items c.push_compared.new.pieces.items three
    (c.in_ok-push_all.ensures.pieces ∙ ap (λ ps. ps ++ pieces_with Kept above) c.new-pieces.ensures.items)
    c.in_ok-push_compared.ensures.front c.in_ok-push_all-2.ensures.pieces
    (count ∙ c.common_above-above.ensures.all ∙ sym (ap₂ same_front (returns-clause-old c) (returns-clause-new c)))
    (end_behind c.args.old.now c.args.new.now c.common_above-above.result (length below) (length above)
    (old_lines three) (new_lines three) (returns-clause-old c) (returns-clause-new c) count
    (many ∙ rw (c.split_at.ensures.back, c.split_at-2.ensures.back) at c.common_below-below.ensures.all))
