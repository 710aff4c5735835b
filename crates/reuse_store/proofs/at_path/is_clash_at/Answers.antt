use Rattle.std.proofs.Common.{◌≡◌, IfOk, sym, ap, subst, ◌∙◌}
use Rattle.std.specs.FinMap.{keys}
use Rattle.reuse_change.specs.Listing.{is_folder}
use Rattle.reuse_change.proofs.ClashLemmas.{clash_below, clash_folder}
use Rattle.reuse_store.proofs.at_path.is_clash_at.Goals as goal

pub returns-then-branch-clause-clash : goal.returns-then-branch-clause-clash
returns-then-branch-clause-clash g c honest =
    clash_below (keys (g.S.Store.files c.args.store.now)) c.args.path.now
    (sym (c.in_ok-is_below_file_at.ensures.below honest) ∙ c.if-branch.true)

pub returns-clause-clash : goal.returns-clause-clash
returns-clause-clash g c honest =
    let before = c.is_folder_at.ensures.reads.was_honest honest in
    subst (λ b. IfOk c.is_folder_at.result (λ clash. clash ≡ b))
    (ap (λ files. is_folder files c.args.path.now) (c.is_below_file_at.ensures.reads.files before)
    ∙ clash_folder (keys (g.S.Store.files c.args.store.now)) c.args.path.now
    (sym (c.in_ok-is_below_file_at.ensures.below before) ∙ c.if-branch.false))
    (c.is_folder_at.ensures.folder honest)
