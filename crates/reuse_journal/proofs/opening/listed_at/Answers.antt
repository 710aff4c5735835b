use Rattle.std.proofs.Common.{Err, ap, ◌∙◌}
use Rattle.reuse_journal.proofs.opening.listed_at.Goals as goal

pub returns-in-Err-BadJournal-clause-ok : goal.returns-in-Err-BadJournal-clause-ok
returns-in-Err-BadJournal-clause-ok g c honest readable =
    let was = c.in-Err-BadJournal.is ∙ ap (λ refusal. Err refusal) c.in-Err-BadJournal.field-0-is in
    (c.read_entry.ensures.bad honest _ was).1 readable.0 readable.1
