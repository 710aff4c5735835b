use Rattle.std.proofs.Common.{◌≡◌, ap, sym, subst, ◌∙◌, Ok, IfOk, IfErr}
use Rattle.std.specs.Option.{option_copied}
use Rattle.reuse_style.specs.CommentFile.{comments_of, IsCommentsRefused}
use Rattle.reuse_style.specs.Rules.{CommentRules}
use Rattle.reuse_style.proofs.CommentLemmas.{comments_none, comments_some}
use Rattle.reuse_style.proofs.comment_rules.CommentRules.read.Goals as goal

pub returns-in_default-clause-ok : goal.returns-in_default-clause-ok
returns-in_default-clause-ok c =
    ap (λ o. comments_of (option_copied o)) c.in_default.is ∙ comments_none
    ∙ ap (λ (own : CommentRules). Ok own) (sym c.none.ensures)

pub returns-clause-ok : goal.returns-clause-ok
returns-clause-ok c =
    let e = ap (λ o. comments_of (option_copied o)) c.in-Some.is ∙ comments_some c.in-Some.bytes.now in
    subst (λ answer. IfOk c.read_comments.result (λ own. answer ≡ Ok own)) (sym e) c.read_comments.ensures.ok

pub returns-clause-refused : goal.returns-clause-refused
returns-clause-refused c =
    let e = ap (λ o. comments_of (option_copied o)) c.in-Some.is ∙ comments_some c.in-Some.bytes.now in
    subst (λ answer. IfErr c.read_comments.result (λ refusal. IsCommentsRefused answer refusal)) (sym e)
    c.read_comments.ensures.refused
