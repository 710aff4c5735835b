use Rattle.reuse_style.specs.Names.{kind_in}
use Rattle.reuse_style.proofs.style_table.StyleTable.kind_in.Goals as goal

pub returns : goal.returns
unfolding kind_in
returns c path is = cc (
  is,
  c.ending.ensures,
  c.joined.ensures,
  c.joined-2.ensures,
  c.or.ensures,
  c.unwrap_or.ensures,
)
