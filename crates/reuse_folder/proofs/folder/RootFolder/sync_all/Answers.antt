use Rattle.std.proofs.Common.{◌∙◌, ◌≤◌, arith, false, length}
use Rattle.reuse_system.specs.TempFiles.{key_of}
use Rattle.reuse_disk.specs.Written.{is_kept, IsSyncedIf}
use Rattle.reuse_system.specs.declared.place.Identity.{Identity}
use Rattle.reuse_folder.specs.Rounds.{AreApart, AreTempFile, StandsTempFile}
use Rattle.reuse_folder.proofs.RoundEnds.{never_ok}
use Rattle.reuse_folder.proofs.RoundLemmas.{numbered_twice, synced_alike, synced_more, unsynced_alike}
use Rattle.reuse_folder.proofs.folder.RootFolder.sync_all.Given.{Over}
use Rattle.reuse_folder.proofs.folder.RootFolder.sync_all.Goals.{After-sync_temp_file}
use Rattle.reuse_folder.proofs.folder.RootFolder.sync_all.Goals as goal

-- the file that is synced stands aside, unsynced so far
stands : (g : Over) (c : After-sync_temp_file g) (new_files : Identity)
    → length c.args.temp_files.now ≤ length c.args.writes.now → AreApart c.args.temp_files.now
    → AreTempFile new_files false (g.S.System.holds c.args.self.now.system) 0 (length c.args.temp_files.now)
    c.args.writes.now c.args.temp_files.now
    → StandsTempFile new_files (length c.args.temp_files.now) false (g.S.System.holds c.loop-at.self.system)
    c.loop-at.at c.in-Some.write.now c.index-temp_files-at.result
stands g c new_files few apart temp_file =
    (c.loop-at.invariant.synced new_files few apart temp_file).0.1 c.loop-at.at c.in-Some.write.now
    c.index-temp_files-at.result (omega arith) c.loop-at-test.true c.in-Some.ensures.lookup.1 c.index-temp_files-at.is

pub returns-in_err-sync_temp_file-clause-synced : goal.returns-in_err-sync_temp_file-clause-synced
returns-in_err-sync_temp_file-clause-synced g c new_files few apart temp_file =
    let at = (goal.at.returns-in_err-sync_temp_file-clause-synced g c).After-sync_temp_file in
    let b = g.S.System.holds c.loop-at.self.system in
    let d = g.S.System.holds c.sync_temp_file.new.self.system in
    let count = length c.args.temp_files.now in (
      never_ok c.from_residual.result
          (λ done. AreTempFile new_files (is_kept c.args.self.now.unsynced.syncs) d 0 count c.args.writes.now
          c.args.temp_files.now) c.from_residual.ensures.0,
      numbered_twice new_files count _ b d (c.loop-at.invariant.synced new_files few apart temp_file).1
          (unsynced_alike new_files count b d c.loop-at.at c.in-Some.write.now c.index-temp_files-at.result
          c.in_err-sync_temp_file.ensures.synced (stands g at new_files few apart temp_file)),
    )

pub loop-at-preserved : goal.loop-at-preserved
loop-at-preserved g c =
    record {
      synced = λ new_files few apart temp_file.
          let d = g.S.System.holds c.sync_temp_file.new.self.system in
          let b = g.S.System.holds c.loop-at.self.system in
          let is = is_kept c.args.self.now.unsynced.syncs in
          let write = c.in-Some.write.now in
          let one = c.index-temp_files-at.result in
          let so_far = c.loop-at.invariant.synced new_files few apart temp_file in
          let synced : IsSyncedIf is (key_of one.temp_file) b d =
          rw c.loop-at.invariant.syncs at c.in_ok-sync_temp_file.ensures.synced in (
            synced_more new_files is c.args.writes.now c.args.temp_files.now b d c.loop-at.at write one apart
                c.loop-at-test.true c.in-Some.ensures.lookup.1 c.index-temp_files-at.is synced so_far.0,
            numbered_twice new_files (length c.args.temp_files.now) _ b d so_far.1
                (synced_alike new_files (length c.args.temp_files.now) is b d c.loop-at.at write one synced
                (stands g (goal.at.loop-at-preserved g c).After-sync_temp_file new_files few apart temp_file)),
          );
      syncs = c.sync_temp_file.ensures.syncs ∙ c.loop-at.invariant.syncs;
      stays = λ note has. c.sync_temp_file.ensures.stay_noted note (c.loop-at.invariant.stays note has);
      still = c.sync_temp_file.ensures.still ∙ c.loop-at.invariant.still;
      earlier = λ honest. c.loop-at.invariant.earlier (c.sync_temp_file.ensures.earlier honest);
      changes = c.sync_temp_file.ensures.changes ∙ c.loop-at.invariant.changes;
    }
