use Rattle.std.specs.Prelude.{unwrap_or}
use Rattle.reuse_text.specs.Text.{line_bytes}
use Rattle.reuse_text.specs.Lines.{line_view, lines_left}
use Rattle.reuse_tags.proofs.EverywhereLemmas.{made-more}
use Rattle.reuse_tags.proofs.everywhere.amend_everywhere.Goals as goal

pub lines-preserved : goal.lines-preserved
lines-preserved c =
    made-more c.args.amendments.now c.lines.ignored c.ignores_next-ignored.result (line_view c.in-Some.line)
    (lines_left c.lines.lines) (lines_left c.next.new.self)
    (unwrap_or c.in-Ok.made (line_bytes (line_view c.in-Some.line).1)) c.lines.amended c.push_line.new.amended _
    c.in-Some.ensures.steps c.ignores_next-ignored.ensures c.in-Ok.ensures c.in_ok-push_line.ensures c.lines.invariant
