use Rattle.std.proofs.Common.{subst}
use Rattle.std.specs.Option.{option_copied}
use Rattle.reuse_change.proofs.Applying.{not_both}
use Rattle.reuse_change.specs.Entry.{IsReady}
use Rattle.reuse_store.proofs.apply_change.is_ready.Goals as goal

pub returns-in-Backward-clause-stuck : goal.returns-in-Backward-clause-stuck
returns-in-Backward-clause-stuck c proper ready =
    let back = subst (λ w. IsReady w c.args.change.now (option_copied c.args.file)) c.in-Backward.is ready in
    let after = c.state-in-Backward.ensures.after.1
    (back, λ before. not_both c.args.change.now (option_copied c.args.file) proper before back) in
    rw after at c.eq-in-Backward.ensures
