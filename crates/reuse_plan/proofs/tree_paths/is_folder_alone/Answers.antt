use Rattle.std.proofs.Common.{◌∙◌, ◌∷◌, [], false, sym, ap, subst}
use Rattle.reuse_command.specs.Reading.{keys, tree_of}
use Rattle.std.specs.Ordering.{nat_cmp}
use Rattle.std.specs.Cmp.Lexicographic.{slice_cmp}
use Rattle.std.proofs.lemmas.List.Kept.{IsStrictlySortedBy-filter}
use Rattle.reuse_change.specs.Listing.{ArePaths, is_folder_of, is_wanted, listed_paths}
use Rattle.reuse_change.proofs.NeedLemmas.{folder_listed}
use Rattle.reuse_store.proofs.TreeLemmas.{keys_ascend}
use Rattle.reuse_plan.proofs.tree_paths.is_folder_alone.Goals as goal

pub returns-clause-folder : goal.returns-clause-folder
returns-clause-folder g c honest =
    let tree = tree_of (g.S.Store.files c.args.store.now) in
    let path = c.args.path.now in
    let are = c.deref.ensures.value ∙ c.in_ok-paths.ensures.paths honest
    ∙ ap (λ folders. listed_paths tree folders (λ folder. false)) c.from_ref.ensures.value in
    let sorted : ArePaths c.deref.result.now = subst ArePaths (sym are) (IsStrictlySortedBy-filter (slice_cmp nat_cmp)
    (is_wanted (path ∷ []) (λ folder. false)) (keys tree) (keys_ascend tree)) in
    c.in_ok-is_folder.ensures sorted ∙ ap (λ paths. is_folder_of paths path) are ∙ folder_listed tree path
