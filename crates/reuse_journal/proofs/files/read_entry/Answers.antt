use Rattle.std.proofs.Common.{ap, refl, ◌∙◌}
use Rattle.std.specs.FinMap.{get}
use Rattle.reuse_store.specs.Store.{reading_of}
use Rattle.reuse_journal.specs.JournalFiles.{entry_path}
use Rattle.reuse_change.specs.Tree.{undo_folder_of}
use Rattle.reuse_journal.proofs.JournalReading.{file_in_folder}
use Rattle.reuse_journal.proofs.files.read_entry.Goals as goal

pub returns-clause-ok : goal.returns-clause-ok
returns-clause-ok g c honest =
    let files = g.S.Store.files c.args.store.now in
    c.entry_in.ensures.ok (get (undo_folder_of files) (entry_path c.args.number))
    (c.in_ok-reading.ensures.reading honest ∙ ap (λ file. reading_of file 268_435_456)
    (file_in_folder files c.in_ok-path.path (entry_path c.args.number) c.in_ok-path.ensures refl))

pub returns-clause-bad : goal.returns-clause-bad
returns-clause-bad g c honest place bad =
    let files = g.S.Store.files c.args.store.now in
    let named = c.entry_in.ensures.bad (get (undo_folder_of files) (entry_path c.args.number))
    (c.in_ok-reading.ensures.reading honest ∙ ap (λ file. reading_of file 268_435_456)
    (file_in_folder files c.in_ok-path.path (entry_path c.args.number) c.in_ok-path.ensures refl)) place bad in
    (named.0 ∙ c.in_ok-path.ensures, named.1)
