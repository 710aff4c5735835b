use Rattle.std.proofs.Common.{◌∙◌, Ok, Err, ap}
use Rattle.std.proofs.lemmas.Result.{err_from_is_err_and}
use Rattle.reuse_change.specs.Files.{tree_of}
use Rattle.reuse_change.specs.Listing.{listed_paths}
use Rattle.reuse_store.proofs.AskedLemmas.{reads_none}
use Rattle.reuse_command.specs.Choice.{is_passed_over}
use Rattle.reuse_command.specs.Answer.{IsEarlyFailure}
use Rattle.reuse_edit.proofs.AbsentFiles.{reported_as}
use Rattle.reuse_command.proofs.Asking.{reported, short, failed, look_faults}
use Rattle.reuse_plan.proofs.select.list_selected.Goals as goal

pub returns-clause-listed : goal.returns-clause-listed
returns-clause-listed g c honest =
    let tree = tree_of (g.S.Store.files c.args.store.now) in
    let folders = c.deref.ensures.value ∙ c.in_ok-folders.ensures.folders in
    c.in_ok-tree_paths.ensures.paths honest
    ∙ ap (λ fs. listed_paths tree fs (is_passed_over c.args.scope.now c.args.given.now)) folders

pub returns-clause-asks : goal.returns-clause-asks
returns-clause-asks g c = reported g.S.Store IsEarlyFailure _ _ (Ok _) tt tt c.tree_paths.ensures.reads

pub returns-in_err-folders-clause-asks : goal.returns-in_err-folders-clause-asks
returns-in_err-folders-clause-asks g c =
    let p = err_from_is_err_and c.from_residual.result c.from_residual.ensures.1 in
    short g.S.Store IsEarlyFailure _ _ _ (p.1 ∙ ap (λ r. Err r) (p.2 ∙ c.in_err-folders.ensures.memory)) tt
    (reads_none g.S.Store _)

pub returns-in_err-tree_paths-clause-asks : goal.returns-in_err-tree_paths-clause-asks
returns-in_err-tree_paths-clause-asks g c = failed g.S.Store IsEarlyFailure _ _ c.in_err-tree_paths.field-0.0 _
    (reported_as c.from_residual-in_err-tree_paths.result _ c.from_residual-in_err-tree_paths.ensures.1)
    (look_faults c.in_err-tree_paths.field-0.0) c.in_err-tree_paths.ensures.fails c.in_err-tree_paths.ensures.reads
