use Rattle.reuse_undo.proofs.run.locked.folder_at.Goals as goal

pub returns-clause-holds : goal.returns-clause-holds
returns-clause-holds g c =
    record { files = c.at.ensures.files; honest = c.at.ensures.honest; lost = c.at.ensures.lost }
