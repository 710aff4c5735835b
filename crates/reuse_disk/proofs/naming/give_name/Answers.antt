use Rattle.std.proofs.Common.{◌≡◌, ◌∙◌, None, sym, true≢false}
use Rattle.reuse_disk.proofs.DueLemmas.{none_of}
use Rattle.reuse_disk.proofs.naming.give_name.Goals as goal
use Rattle.reuse_disk.proofs.naming.give_name.Goals.{then-is_some, else-is_some}

pub returns-else-is_in_journal-clause-guarded : goal.returns-else-is_in_journal-clause-guarded
returns-else-is_in_journal-clause-guarded g c due is as_due = c.take_name.ensures.guarded due (is ∙ none) as_due
  where
    none : c.args.seen ≡ None
    none = elim c.if-is_some.branch [
      | then-is_some w ↦ absurd (true≢false (sym w.if-is_some.true ∙ sym w.value-is ∙ c.if-is_in_journal.false))
      | else-is_some w ↦ none_of c.args.seen (sym c.is_some.ensures ∙ w.if-is_some.false)
    ]
