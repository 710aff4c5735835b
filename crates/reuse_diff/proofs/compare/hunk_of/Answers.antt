-- A piece that changes is between those that are left out.
use Rattle.std.proofs.Common.{arith, ◌<◌, length}
use Rattle.std.specs.List.{prefix_len}
use Rattle.std.proofs.lemmas.List.Sums.{prefix_len-le-length}
use Rattle.reuse_diff.specs.Hunks.{is_kept}
use Rattle.reuse_diff.proofs.EndLemmas.{ends_apart}
use Rattle.reuse_diff.proofs.PieceLemmas.{hunk_of-part}
use Rattle.reuse_diff.proofs.compare.hunk_of.Goals as goal

pub part-requires : goal.part-requires
part-requires c =
    let some : prefix_len is_kept c.args.pieces.now < length c.args.pieces.now =
    omega (arith, prefix_len-le-length is_kept c.args.pieces.now) in
    omega (arith, ends_apart is_kept c.args.pieces.now some)

pub returns-clause-some : goal.returns-clause-some
returns-clause-some c =
    let some : prefix_len is_kept c.args.pieces.now < length c.args.pieces.now =
    omega (arith, prefix_len-le-length is_kept c.args.pieces.now) in
    hunk_of-part c.args.pieces.now c.in_ok-part.field-0 c.hidden.result c.hidden-2.result some (cc)
    (cc) c.in_ok-part.ensures.number c.in_ok-part.ensures.pieces
