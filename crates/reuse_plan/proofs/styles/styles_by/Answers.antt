use Rattle.std.proofs.Common.{◌∙◌, ap, sym, subst}
use Rattle.reuse_style.specs.Names.{lookup}
use Rattle.reuse_style.specs.StyleFile.{styles_of, IsRefused}
use Rattle.reuse_edit.specs.Answered.{IsRefusalOf}
use Rattle.reuse_plan.specs.TreeStyles.{styles_given, styles_read}
use Rattle.reuse_plan.proofs.OwnFiles.{kinds_ok, styles_refused_is}
use Rattle.reuse_plan.proofs.styles.styles_by.Goals as goal

pub returns-in-Ok-clause-styles : goal.returns-in-Ok-clause-styles
returns-in-Ok-clause-styles c =
    let own = c.args.own.now in
    ap (λ file. styles_given file own.comments) (sym c.lent.ensures)
    ∙ ap (styles_read own.comments) c.in-Ok.ensures.names
    ∙ ap (kinds_ok (lookup c.in-Ok.styles.entries)) (sym c.in-Ok.ensures.comments)

pub returns-in-Err-clause-refusal : goal.returns-in-Err-clause-refusal
returns-in-Err-clause-refusal c =
    let own = c.args.own.now in
    subst (λ r. IsRefusalOf (styles_given own.styles own.comments) r) (sym c.of_styles.ensures)
    (styles_refused_is own.comments _ c.in-Err.refusal
    (subst (λ f. IsRefused (styles_of own.comments.styles f) c.in-Err.refusal)
    c.lent.ensures c.in-Err.ensures.refused))
