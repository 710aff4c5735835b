use Rattle.std.proofs.Common.{◌∷◌, [], ap, sym, subst, false, ◌∙◌}
use Rattle.std.proofs.lemmas.Result.{IfOk-weaker}
use Rattle.reuse_change.specs.Files.{tree_of}
use Rattle.reuse_change.specs.Listing.{listed_paths}
use Rattle.reuse_plan.specs.Shown.{ShowsLicences}
use Rattle.reuse_plan.proofs.ShownLemmas.{shows_licences}
use Rattle.reuse_plan.proofs.download.licence_paths.Goals as goal

pub returns-clause-paths : goal.returns-clause-paths
returns-clause-paths g c honest =
    let tree = tree_of (g.S.Store.files c.args.store.now) in
    let folders = c.from_ref.ensures.value ∙ ap (λ p. p ∷ []) c.in_ok-licences.ensures in
    IfOk-weaker c.tree_paths.result _ _ (λ paths is. subst (λ ps. ShowsLicences ps tree)
    (sym (is ∙ ap (λ fs. listed_paths tree fs (λ place. false)) folders)) (shows_licences tree))
    (c.tree_paths.ensures.paths honest)
