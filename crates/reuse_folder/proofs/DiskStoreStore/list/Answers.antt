use Rattle.std.proofs.Common.{◌≡◌, ◌≢◌, MatchResult, sym, subst}
use Rattle.reuse_change.specs.Listing.{listed_paths}
use Rattle.reuse_store.specs.declared.fault.StoreFault.TheVariants.{Clash}
use Rattle.reuse_store.specs.declared.record.StoreCalls.{StoreCalls}
use Rattle.reuse_folder.specs.Honesty.{files_of, IsHonest}
use Rattle.reuse_folder.proofs.PrunedFolders.{listing_kept, listing_paths}
use Rattle.reuse_folder.proofs.DiskStoreStore.list.Goals as goal

pub returns-clause-kept : goal.returns-clause-kept
returns-clause-kept g c honest =
    let was = c.args.self.now.calls in
    let prunes = g.P.Pruning.prunes c.args.pruning.now in
    subst (λ (noted : StoreCalls). MatchResult c.map_err-answer.result
    (λ paths. paths.items ≡ listed_paths (files_of was.start was.calls) c.args.folders.now prunes
    → IsHonest noted.start noted.calls)
    (λ fault. fault ≢ Clash → IsHonest noted.start noted.calls)) (sym c.note_listing.ensures)
    (listing_kept was.start was.calls c.args.folders.now prunes (λ paths. paths.items) c.map_err-answer.result honest)

pub returns-clause-paths : goal.returns-clause-paths
returns-clause-paths g c honest =
    let was = c.args.self.now.calls in
    listing_paths was.start was.calls c.args.folders.now (g.P.Pruning.prunes c.args.pruning.now)
    (λ paths. paths.items) c.map_err-answer.result
    (subst (λ (noted : StoreCalls). IsHonest noted.start noted.calls) c.note_listing.ensures honest)
