use Rattle.reuse_tree.proofs.TrimmedHeads.{trimmed_ok, trimmed_only}
use Rattle.reuse_tree.proofs.journal.head_text.read_head.Goals as goal

pub returns-clause-ok : goal.returns-clause-ok
returns-clause-ok c =
    let read = c.in_ok-value.ensures.ok in
    trimmed_ok c.head_of.result c.args.text.now read.0 read.1 (rw (← read.2) c.head_of.ensures)

pub returns-clause-only : goal.returns-clause-only
returns-clause-only c =
    let read = c.in_ok-value.ensures.ok in
    trimmed_only c.head_of.result c.args.text.now read.0 read.1 (rw (← read.2) c.head_of.ensures)
