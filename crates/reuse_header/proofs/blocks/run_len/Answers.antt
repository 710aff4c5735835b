use Rattle.std.proofs.Common.{arith, nat_eq}
use Rattle.std.specs.List.{starts_with}
use Rattle.std.proofs.lemmas.List.Sums.{prefix_len-le-length}
use Rattle.reuse_header.specs.Open.{open_left}
use Rattle.reuse_header.proofs.blocks.run_len.Goals as goal

pub overflow_add-result : goal.overflow_add-result
overflow_add-result c =
    let within =
    prefix_len-le-length (λ content. starts_with nat_eq content c.args.marker.now) (open_left c.args.lines) in
    omega (arith, within, c.marked_count.ensures, c.requires)
