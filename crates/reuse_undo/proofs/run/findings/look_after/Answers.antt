use Rattle.reuse_undo.proofs.run.findings.look_after.Goals as goal

pub returns : goal.returns
returns g c =
    (c.look_at.new.folder, (c.look_at.ensures.reads, c.look_at.ensures.noted), c.unrecognised_by-folder.ensures)
