use Rattle.std.proofs.lemmas.Result.{IfOk-weaker}
use Rattle.reuse_disk.specs.Noted.{IsListed, IsNoted}
use Rattle.reuse_disk.specs.Synced.{AreSynced}
use Rattle.reuse_disk.proofs.syncs.Unsynced.sync.Goals as goal

pub returns-in-Ok-clause-synced : goal.returns-in-Ok-clause-synced
returns-in-Ok-clause-synced g c kept opened honest =
    let s = g.S.System in
    let first = s.synced c.args.system.now in
    let last = c.sync_all-synced.new.system in
    IfOk-weaker c.sync_all-synced.result
    (λ done. AreSynced (IsListed c.note_changes.new.self) (s.folders last) (s.holds last) first (s.synced last))
    (λ done. AreSynced (IsNoted c.args.self.now) (s.folders last) (s.holds last) first (s.synced last))
    (λ done synced path noted. synced path (c.in_ok-note_changes.ensures.listed kept path noted))
    (c.sync_all-synced.ensures.synced opened honest)
