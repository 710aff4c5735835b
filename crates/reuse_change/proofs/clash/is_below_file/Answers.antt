use Rattle.std.proofs.Common.{◌∙◌, sym, arith}
use Rattle.reuse_change.proofs.ClashLemmas.{part_found, no_part}
use Rattle.reuse_change.proofs.clash.is_below_file.Goals as goal

pub returns-then-is_among : goal.returns-then-is_among
returns-then-is_among c sorted =
    sym (part_found c.args.paths.now c.args.path.now c.loop-i.i c.loop-i-test.true c.if-byte-eq47.true
    (sym (c.is_among.ensures sorted) ∙ c.if-is_among.true))

pub returns : goal.returns
returns c sorted =
    sym (no_part c.args.paths.now c.args.path.now
    (λ k low slash. c.loop-i.invariant sorted k (omega (arith, low, c.loop-i-test.false)) slash))
