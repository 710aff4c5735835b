use Rattle.reuse_text.specs.Text.{after_mark}
use Rattle.reuse_header.proofs.CutLemmas.{span_cuts, none_cuts}
use Rattle.reuse_header.proofs.laws.header_spans_cut_files.Goals as goal

pub returns : goal.returns
returns c = record {
  found = λ style file span e. span_cuts style file span (c.lines_are_one.ensures.joined (after_mark file)) e;
  none = λ style file e. none_cuts style file e;
}
