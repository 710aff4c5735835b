use Rattle.std.proofs.Common.{sym, subst}
use Rattle.reuse_command.specs.declared.request.Request.{Request}
use Rattle.reuse_undo.specs.run.DryRuns.{IsAnsweredWith}
use Rattle.reuse_undo.proofs.run.line.planned.ask_with_changes.Goals as goal

pub returns-in-Preview : goal.returns-in-Preview
returns-in-Preview g c =
    let with = c.call_with_changes in
    subst (λ (r : Request). IsAnsweredWith g.S.Store r with.result.0 with.result.1 c.args.session.now with.new.session)
    (sym c.in-Preview.is) with.ensures
