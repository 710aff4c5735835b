use Rattle.std.proofs.Common.{arith}
use Rattle.reuse_arguments.proofs.HeaderTextLemmas.{front_in}
use Rattle.reuse_arguments.proofs.header_texts.front_of.Goals as goal

pub returns : goal.returns
returns g c = front_in 65_537 (g.R.Read.remaining c.args.reader) c.read_front.result (omega arith) c.read_front.ensures.front
