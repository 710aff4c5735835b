use Rattle.std.proofs.Common.{◌≡◌, ◌++◌, take, map}
use Rattle.std.specs.List.{flat_map}
use Rattle.reuse_ready.specs.Ready.{comment_text}
use Rattle.reuse_ready.proofs.texts.push_comments.Given as goal

abbrev pub invariant-loop-comment : goal.invariant-loop-comment
invariant-loop-comment l =
    l.text ≡ l.fn.text ++ flat_map comment_text
    (map (λ comment. (comment.0.now, comment.1.now)) (take l.comment-index l.comments))
