use Rattle.std.proofs.Common.{◌∙◌, ap, sym, subst}
use Rattle.reuse_style.specs.CommentFile.{comments_of, IsCommentsRefused}
use Rattle.reuse_edit.specs.Answered.{IsRefusalOf}
use Rattle.reuse_plan.specs.TreeStyles.{comments_read}
use Rattle.reuse_plan.proofs.OwnFiles.{comments_refused_is}
use Rattle.reuse_plan.proofs.styles.comments_by.Goals as goal

pub returns-in-Ok-clause-comments : goal.returns-in-Ok-clause-comments
returns-in-Ok-clause-comments c = ap comments_of (sym c.lent.ensures) ∙ c.in-Ok.ensures.ok

pub returns-in-Err-clause-refusal : goal.returns-in-Err-clause-refusal
returns-in-Err-clause-refusal c =
    subst (λ r. IsRefusalOf (comments_read (comments_of c.args.file.now)) r) (sym c.of_comments.ensures)
    (comments_refused_is _ c.in-Err.refusal (subst (λ f. IsCommentsRefused (comments_of f) c.in-Err.refusal)
    c.lent.ensures c.in-Err.ensures.refused))
