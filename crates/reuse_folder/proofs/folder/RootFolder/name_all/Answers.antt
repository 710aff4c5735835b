use Rattle.std.proofs.Common.{◌∙◌, List, ap, false, length}
use Rattle.reuse_change.specs.Layout.{journal_folder}
use Rattle.reuse_system.specs.Folders.{folder_at}
use Rattle.reuse_disk.specs.Written.{is_kept}
use Rattle.reuse_folder.specs.Rounds.{AreTempFile, AreNamed}
use Rattle.reuse_folder.proofs.BatchLemmas.{none_made}
use Rattle.reuse_folder.proofs.RoundEnds.{alike_then, all_new, temp_file_begins, named_behind, numbered_alike}
use Rattle.reuse_folder.proofs.SeenLemmas.{lose_none, lose_only, lose_then, new_at}
use Rattle.reuse_folder.proofs.BarrierLemmas.{above_all_later, have_none, have_only, have_then}
use Rattle.reuse_folder.specs.Disk.{disk_of}
use Rattle.reuse_folder.proofs.TreeLemmas.{new_on}
use Rattle.reuse_folder.specs.Seen.{AreKnown}
use Rattle.reuse_folder.specs.declared.folder.seen.ReadPath.{ReadPath}
use Rattle.reuse_folder.proofs.folder.RootFolder.name_all.Goals as goal

pub returns-in-Err-clause-named : goal.returns-in-Err-clause-named
returns-in-Err-clause-named g c honest home some few places apart temp_file =
    let s = g.S.System in
    let new_files = c.args.new_file.now.folder.identity in
    let temp_files = c.args.temp_files.now in
    let writes = c.args.writes.now in
    let first = disk_of s c.args.self.now.system in
    let last = disk_of s c.remove_all.new.system in
    let synced = s.holds c.sync_all.new.self.system in
    let alike = alike_then new_files first.files synced last.files
    (numbered_alike new_files (length temp_files) first.files synced
    (c.sync_all.ensures.synced new_files few apart temp_file).1)
    (c.remove_all.ensures.others new_files (all_new new_files temp_files places)) in
    rw c.at_first.ensures (none_made new_files (is_kept c.args.self.now.unsynced.syncs) writes first last
    (temp_file_begins new_files false first.files writes temp_files some few temp_file)
    (new_on first last new_files (c.remove_all.ensures.still ∙ c.sync_all.ensures.still)
    (g.met.S.System.is_tree c.remove_all.new.system honest) home alike))

pub returns-clause-named : goal.returns-clause-named
returns-clause-named g c honest home some few places apart temp_file =
    let s = g.S.System in
    let is = is_kept c.args.self.now.unsynced.syncs in
    let new_files = c.args.new_file.now.folder.identity in
    let writes = c.args.writes.now in
    let temp_files = c.args.temp_files.now in
    let first = disk_of s c.args.self.now.system in
    let synced = disk_of s c.sync_all.new.self.system in
    let last = disk_of s c.name_each.new.self.system in
    let all : AreTempFile new_files is synced.files 0 (length temp_files) writes temp_files =
    (c.in_default.ensures.synced new_files few apart temp_file).0 in
    let alike = (c.sync_all.ensures.synced new_files few apart temp_file).1 in
    let named : AreTempFile new_files is synced.files 0 (length temp_files) writes temp_files
    → AreNamed new_files is writes temp_files synced last c.name_each.result =
    rw c.sync_all.ensures.syncs at (c.name_each.ensures.named honest
    (ap (λ f. folder_at f journal_folder) c.sync_all.ensures.still ∙ home.0, home.1) few places apart) in
    let tree = new_on first synced new_files c.sync_all.ensures.still
    (g.met.S.System.is_tree c.sync_all.new.self.system (c.name_each.ensures.names.earlier honest)) home
    (numbered_alike new_files (length temp_files) first.files synced.files alike) in
    named_behind new_files is writes temp_files first synced last c.name_each.result
    (temp_file_begins new_files false first.files writes temp_files some few temp_file) some alike tree.1 (named all)

pub returns-in-Err-clause-names : goal.returns-in-Err-clause-names
returns-in-Err-clause-names g c =
    let writes = c.args.writes.now in
    let b = g.S.System.changes c.sync_all.new.self.system in
    let d = g.S.System.changes c.remove_all.new.system in
    let unsynced = c.sync_all.new.self.unsynced in
    let only = λ (reads : List ReadPath) (known : AreKnown reads writes c.args.temp_files.now).
    c.remove_all.ensures.changes (λ k one short. new_at reads writes c.args.temp_files.now k one known short) in
    record {
      syncs = c.sync_all.ensures.syncs;
      stays = c.sync_all.ensures.stay_noted;
      noted = λ reads known above.
          have_then unsynced writes _ b d (have_none unsynced writes _ b c.sync_all.ensures.changes)
          (have_only unsynced writes b d (only reads known));
      keeps_edits = λ reads known.
          lose_then reads writes _ b d (lose_none reads writes _ b c.sync_all.ensures.changes)
          (lose_only reads writes b d (only reads known));
      earlier = λ honest. c.sync_all.ensures.earlier (c.remove_all.ensures.earlier honest);
    }

pub returns-clause-names : goal.returns-clause-names
returns-clause-names g c =
    let names = c.name_each.ensures.names in
    record {
      syncs = names.syncs ∙ c.sync_all.ensures.syncs;
      stays = λ note has. names.stays note (c.sync_all.ensures.stay_noted note has);
      noted = λ reads known above. rw c.sync_all.ensures.changes at (names.noted reads known
          (above_all_later c.args.self.now.unsynced c.sync_all.new.self.unsynced c.args.writes.now _
          c.sync_all.ensures.stay_noted above));
      keeps_edits = λ reads known. rw c.sync_all.ensures.changes at (names.keeps_edits reads known);
      earlier = λ honest. c.sync_all.ensures.earlier (names.earlier honest);
    }
