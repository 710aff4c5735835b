use Rattle.std.proofs.Common.{◌≡◌, ◌++◌, map, length}
use Rattle.std.specs.Option.{option_map}
use Rattle.toml.specs.View.{table_view, members_view}
use Rattle.reuse_style.specs.CommentFile.{comments_in_table}
use Rattle.reuse_style.specs.CommentViews.{texts_view}
use Rattle.reuse_style.proofs.comment_texts.comments_in_table.Given as goal

abbrev pub invariant-loop-name : goal.invariant-loop-name
invariant-loop-name l =
    comments_in_table (table_view l.comments) ≡ option_map (λ named. map (λ t. (t.0.now, texts_view t.1)) l.named.items
    ++ named) (comments_in_table (members_view l.entries))

abbrev pub decreases-loop-name : goal.decreases-loop-name
decreases-loop-name l = length l.entries
