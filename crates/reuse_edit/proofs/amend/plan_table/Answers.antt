use Rattle.reuse_text.specs.declared.TheConstants.{LONGEST_FILE}
use Rattle.reuse_change.specs.Files.{tree_of}
use Rattle.reuse_store.proofs.TreeLemmas.{read_there}
use Rattle.reuse_edit.proofs.amend.plan_table.Goals as goal

pub returns-clause-edit : goal.returns-clause-edit
returns-clause-edit g c honest bytes here =
    let files = g.S.Store.files c.args.store.now in
    c.plan_table_text.ensures.edit (tree_of files) bytes here (read_there files c.args.path.now bytes LONGEST_FILE
    c.in_ok-reading.reading here (c.in_ok-reading.ensures.reading honest))
