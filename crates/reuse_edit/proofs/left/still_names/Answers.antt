use Rattle.std.proofs.Common.{rules}
use Rattle.reuse_header.proofs.NeighbourLemmas.{text-test}
use Rattle.reuse_edit.proofs.left.still_names.Goals as goal

pub returns-then-leaves : goal.returns-then-leaves
returns-then-leaves c =
    let is = text-test c.args.bytes.now c.is_text.result c.is_text.ensures in search (rules, is)
