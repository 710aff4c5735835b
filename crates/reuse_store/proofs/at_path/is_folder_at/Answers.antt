use Rattle.std.proofs.Common.{false, ap, ◌∙◌}
use Rattle.reuse_change.specs.Listing.{is_folder_of, listed_paths}
use Rattle.reuse_change.proofs.NeedLemmas.{folder_listed}
use Rattle.reuse_store.proofs.at_path.is_folder_at.Goals as goal

pub returns-clause-folder : goal.returns-clause-folder
returns-clause-folder g c honest =
    let files = g.S.Store.files c.args.store.now in
    let path = c.args.path.now in
    c.has_one_under.ensures
    ∙ ap (λ paths. is_folder_of paths path) (c.deref.ensures.value ∙ c.in_ok-paths.ensures.paths honest
    ∙ ap (λ folders. listed_paths files folders (λ folder. false)) c.from_ref.ensures.value)
    ∙ folder_listed files path
