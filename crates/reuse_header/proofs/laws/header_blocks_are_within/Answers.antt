use Rattle.reuse_text.specs.Text.{after_mark}
use Rattle.reuse_header.proofs.AnnotationLemmas.{headers_within}
use Rattle.reuse_header.proofs.laws.header_blocks_are_within.Goals as goal

pub returns : goal.returns
returns c = λ style file. headers_within style file (c.lines_are_one.ensures.joined (after_mark file))
