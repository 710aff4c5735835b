use Rattle.std.proofs.Common.{◌∙◌, false, Err, sym, ap, subst}
use Rattle.std.proofs.lemmas.Result.{err_from_is_err_and}
use Rattle.reuse_change.specs.Files.{tree_of}
use Rattle.reuse_change.specs.Listing.{listed_paths}
use Rattle.reuse_store.proofs.AskedLemmas.{reads_none}
use Rattle.reuse_store.proofs.TreeLemmas.{tree_are_files}
use Rattle.reuse_command.specs.Answer.{IsEarlyFailure}
use Rattle.reuse_plan.specs.Shown.{with_neighbours}
use Rattle.reuse_edit.specs.Pair.{ShowsPair}
use Rattle.reuse_edit.proofs.AbsentFiles.{reported_as}
use Rattle.reuse_command.proofs.Asking.{reported, short, failed, look_faults}
use Rattle.reuse_plan.proofs.ShownLemmas.{shows_alone}
use Rattle.reuse_plan.proofs.tree_paths.pair_paths.Goals as goal

pub returns-clause-paths : goal.returns-clause-paths
returns-clause-paths g c honest =
    let before = c.tree_paths.ensures.reads.was_honest honest in
    let files = g.S.Store.files c.args.store.now in
    let folders = c.deref.ensures.value ∙ c.in_ok-folders.ensures.both ∙ ap with_neighbours c.from_ref.ensures.value in
    subst (λ ps. ShowsPair ps (tree_of files) c.args.path.now)
    (sym
    (c.in_ok-tree_paths.ensures.paths honest ∙ ap (λ fs. listed_paths (tree_of files) fs (λ folder. false)) folders))
    (shows_alone (tree_of files)
    (tree_are_files files (g.met.S.Store.are_files c.args.store.now before)) c.args.path.now)

pub returns-clause-asks : goal.returns-clause-asks
returns-clause-asks g c = reported g.S.Store IsEarlyFailure _ _ _ tt tt c.tree_paths.ensures.reads

pub returns-in_err-folders-clause-asks : goal.returns-in_err-folders-clause-asks
returns-in_err-folders-clause-asks g c =
    let p = err_from_is_err_and c.from_residual.result c.from_residual.ensures.1 in
    short g.S.Store IsEarlyFailure _ _ _ (p.1 ∙ ap (λ r. Err r) (p.2 ∙ c.in_err-folders.ensures.memory)) tt
    (reads_none g.S.Store _)

pub returns-in_err-tree_paths-clause-asks : goal.returns-in_err-tree_paths-clause-asks
returns-in_err-tree_paths-clause-asks g c = failed g.S.Store IsEarlyFailure _ _ c.in_err-tree_paths.field-0.0 _
    (reported_as c.from_residual-in_err-tree_paths.result _ c.from_residual-in_err-tree_paths.ensures.1)
    (look_faults c.in_err-tree_paths.field-0.0) c.in_err-tree_paths.ensures.fails c.in_err-tree_paths.ensures.reads
