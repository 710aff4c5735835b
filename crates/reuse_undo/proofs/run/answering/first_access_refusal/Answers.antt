use Rattle.std.proofs.Common.{◌∙◌, ap}
use Rattle.reuse_undo.proofs.run.answering.first_access_refusal.Goals as goal
use Rattle.reuse_undo.proofs.run.answering.first_access_refusal.Goals.{in-Ok, in-Err}

pub returns : goal.returns
returns g c = (
  c.preview-folder.result.0,
  c.preview-folder.ensures,
  elim c.match-path_outcomes.branch [
    | in-Ok w ↦ ap (λ folder. folder.folder.unsynced) w.folder-is ∙ w.access_refusal_among-access_refusal.ensures
    | in-Err w ↦ ap (λ folder. folder.folder.unsynced) w.folder-is
  ],
)
