use Rattle.reuse_record.proofs.Record.note.Given as goal

abbrev pub ghost-new : goal.ghost-new
ghost-new g a = g.next
