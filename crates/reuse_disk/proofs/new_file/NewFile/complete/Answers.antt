use Rattle.reuse_change.specs.Parts.{joined}
use Rattle.reuse_system.specs.TempFiles.{key_of}
use Rattle.reuse_disk.specs.Written.{is_kept}
use Rattle.reuse_disk.proofs.FilledLemmas.{filled_then}
use Rattle.reuse_disk.proofs.new_file.NewFile.complete.Goals as goal

pub returns-clause-filled : goal.returns-clause-filled
returns-clause-filled g c = filled_then (key_of c.args.temp_file.now) (key_of c.fill.new.temp_file)
    (joined c.args.content.parts) (is_kept c.args.unsynced.now.syncs) (g.S.System.holds c.args.system.now)
    (g.S.System.holds c.fill.new.system) (g.S.System.holds c.sync_data.new.system) c.sync_data.result
    c.in_ok-fill.ensures.same.key c.in_ok-fill.ensures.filled c.sync_data.ensures.synced
