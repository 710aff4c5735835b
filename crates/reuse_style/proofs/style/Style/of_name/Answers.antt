use Rattle.std.proofs.Common.{None, Some, ap, ◌∙◌}
use Rattle.reuse_style.specs.Marks.{GoodStyle}
use Rattle.reuse_style.proofs.SameLemmas.{named}
use Rattle.reuse_style.proofs.style.Style.of_name.Goals as goal

pub returns-in-None : goal.returns-in-None
returns-in-None c = named c.args.name.now None c.in-None.ensures

pub returns-in-Some : goal.returns-in-Some
returns-in-Some c = ap (λ (style : GoodStyle). Some style) c.style.ensures
    ∙ named c.args.name.now (Some c.in-Some.style) c.in-Some.ensures
