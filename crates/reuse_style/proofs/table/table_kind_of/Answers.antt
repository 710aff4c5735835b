use Rattle.std.proofs.Common.{None, Some, ap, ◌∙◌}
use Rattle.reuse_style.specs.declared.style.Kind.{Kind}
use Rattle.reuse_style.proofs.NameLemmas.{listed_lookup}
use Rattle.reuse_style.proofs.table.table_kind_of.Goals as goal

pub returns-in-None : goal.returns-in-None
returns-in-None c = listed_lookup c.args.name.now None c.in-None.ensures

pub returns-in-Some : goal.returns-in-Some
returns-in-Some c = ap (λ (kind : Kind). Some kind) c.kind.ensures
    ∙ listed_lookup c.args.name.now (Some c.in-Some.kind) c.in-Some.ensures
