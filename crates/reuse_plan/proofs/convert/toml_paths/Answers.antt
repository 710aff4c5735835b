use Rattle.std.proofs.Common.{inl, ◌∷◌, [], ap, refl, sym, subst, false, ◌∙◌}
use Rattle.std.proofs.lemmas.Result.{IfOk-weaker}
use Rattle.reuse_change.specs.Files.{tree_of}
use Rattle.reuse_change.specs.Listing.{listed_paths}
use Rattle.reuse_edit.specs.Tables.{toml_path}
use Rattle.reuse_plan.specs.Shown.{Shows}
use Rattle.reuse_plan.proofs.ShownLemmas.{shows_near}
use Rattle.reuse_plan.proofs.convert.toml_paths.Goals as goal

pub returns-clause-paths : goal.returns-clause-paths
returns-clause-paths g c honest =
    let tree = tree_of (g.S.Store.files c.args.store.now) in
    let folders = c.from_ref.ensures.value ∙ ap (λ p. p ∷ []) c.in_ok-toml.ensures in
    IfOk-weaker c.tree_paths.result _ _ (λ paths is. subst (λ ps. Shows ps tree toml_path)
    (sym (is ∙ ap (λ fs. listed_paths tree fs (λ place. false)) folders))
    (shows_near toml_path refl tree toml_path (inl refl))) (c.tree_paths.ensures.paths honest)
