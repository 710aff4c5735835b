use Rattle.reuse_header.proofs.NeighbourLemmas.{text-test}
use Rattle.reuse_header.proofs.neighbour.is_text_file.Goals as goal

pub returns : goal.returns
returns c = text-test c.args.file.now c.is_text.result c.is_text.ensures
