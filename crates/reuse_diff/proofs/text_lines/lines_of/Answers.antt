-- What is left of the text gets one line shorter.
use Rattle.std.proofs.Common.{arith, length, take, drop, ap}
use Rattle.std.proofs.lemmas.List.{take-append-drop}
use Rattle.reuse_diff.specs.TextLines.{texts_of}
use Rattle.reuse_diff.proofs.LineLists.{so_far-more, texts_of-push, line_split}
use Rattle.reuse_diff.proofs.text_lines.lines_of.Goals as goal

pub loop-rest-preserved : goal.loop-rest-preserved
loop-rest-preserved c =
    let far = so_far-more c.args.text.now (texts_of c.loop-rest.lines.items) c.loop-rest.rest.now
    (take c.line_len.result c.loop-rest.rest.now) (drop c.line_len.result c.loop-rest.rest.now)
    c.loop-rest.invariant (λ nil. absurd (omega (arith, ap length nil)))
    (take-append-drop c.line_len.result c.loop-rest.rest.now)
    (line_split c.line_len.result c.loop-rest.rest.now c.line_len.ensures.line) in
    rw (c.in_ok-push.ensures.items, c.split_at.ensures.back, texts_of-push, c.split_at.ensures.front) far
