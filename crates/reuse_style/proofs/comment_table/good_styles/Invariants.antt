use Rattle.std.proofs.Common.{drop, map}
use Rattle.reuse_style.specs.CommentViews.{texts_view}
use Rattle.reuse_style.proofs.CommentLemmas.{AtStyles}
use Rattle.reuse_style.proofs.comment_table.good_styles.Given as goal

abbrev pub invariant-loop-name : goal.invariant-loop-name
invariant-loop-name l =
    AtStyles l.styles.items (map (λ t. (t.0.now, texts_view t.1)) (drop l.name-index l.named))
    (map (λ t. (t.0.now, texts_view t.1)) l.named)
