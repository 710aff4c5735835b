use Rattle.std.proofs.Common.{◌∙◌, ap, not, filter, rules}
use Rattle.std.proofs.lemmas.Fn.{filter_same}
use Rattle.reuse_change.specs.Path.{lies_under, journal_folder}
use Rattle.reuse_plan.proofs.ShownLemmas.{listed_of_tree}
use Rattle.reuse_plan.proofs.tree_paths.tree_paths.Goals as goal

pub returns-clause-paths : goal.returns-clause-paths
returns-clause-paths g c honest =
    filter_same _ (λ path. not (lies_under path journal_folder)) _
    (λ x b f' k. search rules) _ _ c.retain.ensures.filtered
    ∙ ap (filter (λ path. not (lies_under path journal_folder))) (c.in_ok-paths.ensures.paths honest)
    ∙ listed_of_tree (g.S.Store.files c.args.store.now) c.args.folders.now (g.P.Pruning.prunes c.args.pruning.now)
