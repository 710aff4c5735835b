use Rattle.std.proofs.Common.{◌≡◌, ◌∙◌, ℕ, List, Bor, map, sym, subst, Ok, Err, IfOk}
use Rattle.std.proofs.lemmas.Result.{IfErr-weaker, err_from_is_err_and}
use Rattle.reuse_style.specs.declared.comment_texts.CommentTexts.{CommentTexts as LentTexts}
use Rattle.reuse_style.specs.declared.comments_refusal.CommentsRefusal.{CommentsRefusal}
use Rattle.reuse_style.specs.CommentFile.{NamedComments, checked_rules, comments_by, IsCommentsRefused}
use Rattle.reuse_style.specs.CommentViews.{texts_view}
use Rattle.reuse_style.specs.RuleViews.{rule_view}
use Rattle.reuse_style.proofs.CommentLemmas.{by_answer, by_bad_styles, by_refused, refused_if, shaped_map}
use Rattle.reuse_style.proofs.comment_rules.comments_by.Goals as goal

seen : Bor (List ℕ) × LentTexts → NamedComments
seen t = (t.0.now, texts_view t.1)

pub returns-then-not-are_styles-clause-refused : goal.returns-then-not-are_styles-clause-refused
unfolding seen
returns-then-not-are_styles-clause-refused c =
    by_bad_styles (map seen c.args.named.now) (map rule_view c.args.texts.now)
    (sym (shaped_map seen c.args.named.now) ∙ sym c.if-not-are_styles.ensures)

pub returns-in_err-comments-clause-refused : goal.returns-in_err-comments-clause-refused
unfolding seen
returns-in_err-comments-clause-refused c =
    let p = err_from_is_err_and c.from_residual-in_err-comments.result c.from_residual-in_err-comments.ensures.1 in
    let ruled = rw c.in-Some.is at c.in_ok-rules.ensures in
    rw (p.1, p.2) (by_refused (map seen c.args.named.now) (map rule_view c.args.texts.now) _
    (sym (shaped_map seen c.args.named.now) ∙ sym c.if-not-are_styles.ensures) ruled.0 c.in_err-comments.ensures.refused)

pub returns-clause-ok : goal.returns-clause-ok
unfolding seen
returns-clause-ok c =
    let ruled = rw c.in-Some.is at c.in_ok-rules.ensures in
    let e = by_answer (map seen c.args.named.now) (map rule_view c.args.texts.now) c.in_ok-comments.comments
    c.in-Some.rules.items (sym (shaped_map seen c.args.named.now) ∙ sym c.if-not-are_styles.ensures) ruled.0 ruled.1
    c.in_ok-comments.ensures.ok in
    subst (λ answer. IfOk c.beside.result (λ own. answer ≡ Ok own)) (sym e) c.beside.ensures.ok

pub returns-clause-refused : goal.returns-clause-refused
unfolding seen
returns-clause-refused c =
    let ruled = rw c.in-Some.is at c.in_ok-rules.ensures in
    let e = by_answer (map seen c.args.named.now) (map rule_view c.args.texts.now) c.in_ok-comments.comments
    c.in-Some.rules.items (sym (shaped_map seen c.args.named.now) ∙ sym c.if-not-are_styles.ensures) ruled.0 ruled.1
    c.in_ok-comments.ensures.ok in
    IfErr-weaker c.beside.result
    (λ (refusal : CommentsRefusal). checked_rules c.in-Some.rules.items (Ok c.in_ok-comments.comments) ≡ Err refusal)
    (λ (refusal : CommentsRefusal).
    IsCommentsRefused (comments_by (map seen c.args.named.now) (map rule_view c.args.texts.now)) refusal)
    (λ refusal is. refused_if _ refusal (e ∙ is)) c.beside.ensures.refused
