use Rattle.reuse_style.specs.Names.{lookup}
use Rattle.reuse_style.proofs.NameLemmas.{joined_none}
use Rattle.reuse_style.proofs.style_table.StyleTable.joined.Goals as goal

pub returns-in-None : goal.returns-in-None
returns-in-None c = joined_none (lookup c.args.self.now.entries) _ _ c.in-None.ensures c.table_kind_of.ensures
