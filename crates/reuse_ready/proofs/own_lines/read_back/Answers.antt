use Rattle.std.proofs.Common.{◌≡◌, ◌∙◌, Result, Ok, sym, ap, subst, map}
use Rattle.std.specs.Prelude.{IfOk, IfErr}
use Rattle.reuse_style.specs.declared.comments_refusal.CommentsRefusal.{CommentsRefusal}
use Rattle.reuse_style.specs.CommentFile.{comments_of}
use Rattle.reuse_style.specs.Rules.{CommentRules}
use Rattle.reuse_ready.specs.Additions.{if_read}
use Rattle.reuse_ready.specs.Refused.{IsAdditionRefused}
use Rattle.reuse_ready.proofs.own_lines.read_back.Goals as goal

pub returns-in-Ok-clause-read : goal.returns-in-Ok-clause-read
returns-in-Ok-clause-read c = λ added.
    subst (λ (r : Result CommentRules CommentsRefusal). IfOk c.read_names_back.result
    (λ _. if_read added (map (λ name. name.now) c.args.names.now) c.args.styles.now r ≡ Ok added))
    (sym (ap comments_of (sym c.lent.ensures) ∙ c.in-Ok.ensures.ok)) (c.read_names_back.ensures.read added)

pub returns-in-Ok-clause-refusal : goal.returns-in-Ok-clause-refusal
returns-in-Ok-clause-refusal c = λ added.
    subst (λ (r : Result CommentRules CommentsRefusal). IfErr c.read_names_back.result
    (IsAdditionRefused (if_read added (map (λ name. name.now) c.args.names.now) c.args.styles.now r)))
    (sym (ap comments_of (sym c.lent.ensures) ∙ c.in-Ok.ensures.ok)) (c.read_names_back.ensures.refusal added)
