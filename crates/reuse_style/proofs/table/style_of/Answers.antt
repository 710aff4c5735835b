use Rattle.reuse_style.proofs.table.style_of.Goals as goal

pub returns : goal.returns
returns c = cc (
  c.table_kind_of.ensures,
  c.table_kind_of-2.ensures,
  c.last_part-part.ensures,
  c.ending.ensures,
  c.or.ensures,
  c.unwrap_or.ensures,
  c.as_bytes.ensures.value,
)
