use Rattle.std.proofs.Common.{ℕ, List, Bor}
use Rattle.std.proofs.lemmas.Result.{err_from_is_err_and}
use Rattle.reuse_style.specs.declared.comment_texts.CommentTexts.{CommentTexts as LentTexts}
use Rattle.reuse_style.specs.CommentViews.{texts_view}
use Rattle.reuse_style.proofs.CommentLemmas.{styles_start, styles_next, styles_refused, styles_end}
use Rattle.reuse_style.proofs.comment_table.good_styles.Goals as goal

pub loop-name-init : goal.loop-name-init
loop-name-init c = styles_start _ _ c.new-styles.ensures.items

pub returns-in_err-style-clause-refused : goal.returns-in_err-style-clause-refused
returns-in_err-style-clause-refused c =
    let p = err_from_is_err_and c.from_residual.result c.from_residual.ensures.1 in
    rw (p.1, p.2) (styles_refused (λ (t : Bor (List ℕ) × LentTexts). (t.0.now, texts_view t.1)) _ c.args.named.now
    c.loop-name.name-index _ c.loop-name-item.result _ c.loop-name-test.true c.loop-name-item.is
    c.loop-name.invariant c.in_err-style.ensures.refused)

pub loop-name-preserved : goal.loop-name-preserved
loop-name-preserved c =
    styles_next (λ (t : Bor (List ℕ) × LentTexts). (t.0.now, texts_view t.1)) _ _ c.args.named.now
    c.loop-name.name-index _ c.loop-name-item.result _ c.loop-name-test.true c.loop-name-item.is
    c.loop-name.invariant c.in_ok-style.ensures.good c.in_ok-style.ensures.style c.in-Ok.ensures.items

pub returns-clause-ok : goal.returns-clause-ok
returns-clause-ok c = styles_end (λ (t : Bor (List ℕ) × LentTexts). (t.0.now, texts_view t.1)) _ c.args.named.now
    c.loop-name.name-index c.loop-name-test.false c.loop-name.invariant
