use Rattle.std.proofs.Common.{ℕ, List, Bor, map, ap, ap₂, ◌∙◌, subst, IfErr}
use Rattle.reuse_style.specs.declared.comment_texts.CommentTexts.{CommentTexts as LentTexts}
use Rattle.reuse_style.specs.CommentFile.{NamedComments, comments_by, IsCommentsRefused}
use Rattle.reuse_style.specs.CommentViews.{texts_view}
use Rattle.reuse_style.specs.RuleViews.{rule_view}
use Rattle.reuse_style.proofs.CommentLemmas.{seen_or_none}
use Rattle.reuse_style.proofs.comment_rules.comments_stated.Goals as goal

seen : Bor (List ℕ) × LentTexts → NamedComments
seen t = (t.0.now, texts_view t.1)

pub returns-clause-refused : goal.returns-clause-refused
unfolding seen
returns-clause-refused c =
    let named = ap (map seen) c.as_slice.ensures.value
    ∙ seen_or_none seen c.args.stated.styles c.new.result c.unwrap_or-named.result c.new.ensures.items
    c.unwrap_or-named.ensures in
    let rules = ap (map rule_view) c.as_slice-2.ensures.value
    ∙ seen_or_none rule_view c.args.stated.rules c.new-2.result c.unwrap_or-rules.result c.new-2.ensures.items
    c.unwrap_or-rules.ensures in
    subst (λ answer. IfErr c.comments_by.result (IsCommentsRefused answer)) (ap₂ comments_by named rules)
    c.comments_by.ensures.refused
