use Rattle.std.proofs.Common.{sym, ap, ◌∙◌}
use Rattle.std.specs.Option.{option_copied}
use Rattle.reuse_style.specs.Kinds.{kind_by, kinds_by, part_of}
use Rattle.reuse_style.proofs.style_table.StyleTable.kind_by.Goals as goal

pub returns-in-None : goal.returns-in-None
returns-in-None c =
    c.kind_in.ensures c.args.name.now (c.last_part.ensures ∙ ap part_of c.as_bytes.ensures.value)
    ∙ ap (λ rule. kind_by (kinds_by c.args.self.now) c.args.name.now (option_copied rule)) (sym c.in-None.is)
