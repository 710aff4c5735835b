use Rattle.std.proofs.Common.{ap, ◌∙◌}
use Rattle.reuse_style.specs.Marks.{GoodStyle}
use Rattle.reuse_style.proofs.SameLemmas.{same_style}
use Rattle.reuse_style.proofs.own_style.OwnStyle.lent.Goals as goal

pub returns : goal.returns
returns c =
    same_style _ _
    (c.new.ensures.name ∙ c.as_str.ensures.value ∙ ap (λ (style : GoodStyle). style.name) c.self.view_is)
    (c.new.ensures.marks ∙ c.lent.ensures ∙ ap (λ (style : GoodStyle). style.marks) c.self.view_is)
