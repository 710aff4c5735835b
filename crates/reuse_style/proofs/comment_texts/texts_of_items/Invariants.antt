use Rattle.std.proofs.Common.{◌≡◌, ◌++◌, map, length}
use Rattle.std.specs.Option.{option_map}
use Rattle.toml.specs.View.{items_view}
use Rattle.reuse_style.specs.CommentFile.{texts_of_items}
use Rattle.reuse_style.proofs.comment_texts.texts_of_items.Given as goal

abbrev pub invariant-loop-items : goal.invariant-loop-items
invariant-loop-items l =
    texts_of_items (items_view l.initial.items) ≡ option_map (λ texts. map (λ text. text.now) l.texts.items ++ texts)
    (texts_of_items (items_view l.items))

abbrev pub decreases-loop-items : goal.decreases-loop-items
decreases-loop-items l = length l.items
