use Rattle.std.proofs.Common.{refl}
use Rattle.reuse_style.specs.Styles.{table_style}
use Rattle.reuse_header.proofs.PrefixLawLemmas.{prefix_cut, plain_prefix}
use Rattle.reuse_header.proofs.laws.prefix_lines_stand_in_front.Goals as goal

pub returns : goal.returns
returns c = record {
  cut = prefix_cut;
  plain = plain_prefix;
  table = λ style lines. plain_prefix (table_style style) lines refl refl;
}
