use Rattle.std.proofs.Common.{rules, ◌≡◌, ◌≢◌, ◌∷◌, [], length, is_ok, true, IfErr, None, Some, Ok, Err, refl, sym}
use Rattle.std.proofs.Common.{subst}
use Rattle.reuse_store.specs.declared.file_write.FileWrite.{FileWrite}
use Rattle.reuse_system.specs.declared.syncs.Syncs.TheVariants.{Kept}
use Rattle.reuse_disk.specs.Written.{is_kept, LeavesNone}
use Rattle.reuse_folder.specs.FolderWrites.{IsGone}
use Rattle.reuse_folder.specs.Rounds.{AreNamed, IsRoundOf}
use Rattle.reuse_folder.specs.Seen.{AreKnown, LoseNoEdits}
use Rattle.reuse_folder.specs.declared.folder.batch.Stop.{Stop}
use Rattle.reuse_folder.proofs.BatchLemmas.{begins, none_made}
use Rattle.reuse_folder.proofs.PutLemmas.{of_ok}
use Rattle.reuse_folder.proofs.RoundEnds.{naming_done, naming_stopped, removal_made, removal_stopped}
use Rattle.reuse_folder.proofs.SeenLemmas.{lose_at, lose_only, lose_one, lose_then}
use Rattle.reuse_folder.specs.Barriers.{AreNotedAbove, HaveNoted}
use Rattle.reuse_folder.proofs.BarrierLemmas.{have_one, have_only, have_then}
use Rattle.reuse_folder.specs.Batches.{BeginsWithFile}
use Rattle.reuse_folder.specs.Disk.{disk_of}
use Rattle.reuse_folder.proofs.folder.RootFolder.write_some.Given.{Over}
use Rattle.reuse_folder.proofs.folder.RootFolder.write_some.Goals.{After-name_all-named, After-remove_expected}
use Rattle.reuse_folder.proofs.folder.RootFolder.write_some.Goals as goal

-- the first write is a removal
lose_removed : (g : Over) (c : After-remove_expected g) → LoseNoEdits c.args.seen.now.reads.items c.args.writes.now
    (g.S.System.changes c.args.self.now.system) (g.S.System.changes c.remove_expected.new.self.system)
lose_removed g c =
    let reads = c.args.seen.now.reads.items in
    let write = c.index-writes-0.result in
    let a = g.S.System.changes c.args.self.now.system in
    let b = g.S.System.changes c.remove_expected.new.self.system in
    lose_at reads c.args.writes.now 0 write a b c.requires
    (subst (λ (w : FileWrite). LoseNoEdits reads (w ∷ []) a b) c.index-writes-0.is
    (lose_one reads write write.path.now c.next_at-expected.result a b _ _ refl c.next_at-expected.ensures.expected
    c.remove_expected.ensures.keeps_edits))

-- new files were written, and given their names
module _ (g : Over) (c : After-name_all-named g) where
  round_of : IsRoundOf (g.S.System.honest c.write_temp_file.new.self.system) c.args.writes.now
      c.args.self.now.new_file (g.S.System.holds c.args.self.now.system)
      (g.S.System.holds c.write_temp_file.new.self.system) (Ok c.in-Ok.field-0)
  round_of = c.in-Ok.ensures.round

  starts : BeginsWithFile c.args.writes.now
  starts =
      let some : c.index-writes-0.result.file ≢ None = search rules in
      begins c.args.writes.now c.index-writes-0.result c.requires c.index-writes-0.is some

  named : g.S.System.honest c.name_all-named.new.self.system
      → AreNamed c.in-Ok.field-0.new_file.folder.identity (is_kept c.args.self.now.unsynced.syncs) c.args.writes.now
      c.in-Ok.field-0.temp_files.items (disk_of g.S.System c.write_temp_file.new.self.system)
      (disk_of g.S.System c.name_all-named.new.self.system) c.name_all-named.result
  named honest =
      let begun = round_of in
      let written = begun.2.written (c.name_all-named.ensures.names.earlier honest) in
      let slice : c.deref.result.now ≡ c.in-Ok.field-0.temp_files.items = c.deref.ensures.value in
      rw (slice, c.write_temp_file.ensures.syncs) at c.name_all-named.ensures.named honest
      (c.in-Ok.ensures.home (c.name_all-named.ensures.names.earlier honest)) begun.1 begun.2.few
      begun.2.places written.apart written.temp_file

  known : AreKnown c.args.seen.now.reads.items c.args.writes.now c.deref.result.now
  known = subst (λ l. AreKnown c.args.seen.now.reads.items c.args.writes.now l) (sym c.deref.ensures.value)
      c.in-Ok.ensures.known

  lose_naming : LoseNoEdits c.args.seen.now.reads.items c.args.writes.now (g.S.System.changes c.args.self.now.system)
      (g.S.System.changes c.name_all-named.new.self.system)
  lose_naming =
      let reads = c.args.seen.now.reads.items in
      lose_then reads c.args.writes.now _ (g.S.System.changes c.write_temp_file.new.self.system) _
      (lose_only reads c.args.writes.now _ _ c.write_temp_file.ensures.changes)
      (c.name_all-named.ensures.names.keeps_edits reads known)

  noted_naming : c.args.self.now.unsynced.syncs ≡ Kept → HaveNoted c.name_all-named.new.self.unsynced c.args.writes.now
      (g.S.System.changes c.args.self.now.system) (g.S.System.changes c.name_all-named.new.self.system)
  noted_naming kept =
      let writes = c.args.writes.now in
      let above : AreNotedAbove c.write_temp_file.new.self.unsynced writes (length c.deref.result.now) =
      subst (λ l. AreNotedAbove c.write_temp_file.new.self.unsynced writes (length l)) (sym c.deref.ensures.value)
      (c.in-Ok.ensures.above kept) in
      have_then _ writes _ (g.S.System.changes c.write_temp_file.new.self.system) _
      (have_only _ writes _ _ c.write_temp_file.ensures.changes)
      (c.name_all-named.ensures.names.noted c.args.seen.now.reads.items known above)

pub returns-in_err-map_err-clause-made : goal.returns-in_err-map_err-clause-made
returns-in_err-map_err-clause-made g c honest =
    let none : c.index-writes-0.result.file ≡ None = search rules in
    let at_first : IfErr c.from_residual.result (λ (stop : Stop). stop.made ≡ 0) = search rules in
    removal_stopped (is_kept c.args.self.now.unsynced.syncs) c.args.writes.now c.index-writes-0.result
    c.args.self.now.new_file c.remove_expected.new.self.new_file (disk_of g.S.System c.args.self.now.system)
    (disk_of g.S.System c.remove_expected.new.self.system) c.from_residual.result c.requires c.index-writes-0.is none
    c.from_residual.ensures.0 at_first (c.remove_expected.ensures.place honest)
    (c.remove_expected.ensures.others honest)

pub returns-in_err-map_err-clause-keeps_edits : goal.returns-in_err-map_err-clause-keeps_edits
returns-in_err-map_err-clause-keeps_edits g c =
    lose_removed g (goal.at.returns-in_err-map_err-clause-keeps_edits g c).After-remove_expected

pub returns-then-is_none-clause-made : goal.returns-then-is_none-clause-made
returns-then-is_none-clause-made g c honest =
    let write = c.index-writes-0.result in
    let first = disk_of g.S.System c.args.self.now.system in
    let last = disk_of g.S.System c.remove_expected.new.self.system in
    let none : write.file ≡ None = search rules in
    let done : is_ok c.remove_expected.result ≡ true = search rules in
    removal_made (is_kept c.args.self.now.unsynced.syncs) c.args.writes.now write c.args.self.now.new_file
    c.remove_expected.new.self.new_file first last c.requires c.index-writes-0.is none
    c.remove_expected.ensures.new_file (c.remove_expected.ensures.place honest)
    (of_ok c.remove_expected.result (IsGone last.folders last.files write.path.now)
    (c.remove_expected.ensures.gone honest) done)
    (of_ok c.remove_expected.result (LeavesNone (λ at. Unit {0}) first.files last.files)
    c.remove_expected.ensures.none_left done)
    (c.remove_expected.ensures.others honest)

pub returns-then-is_none-clause-keeps_edits : goal.returns-then-is_none-clause-keeps_edits
returns-then-is_none-clause-keeps_edits g c =
    lose_removed g (goal.at.returns-then-is_none-clause-keeps_edits g c).After-remove_expected

pub returns-in_err-named-in-Ok-clause-made : goal.returns-in_err-named-in-Ok-clause-made
returns-in_err-named-in-Ok-clause-made g c honest =
    let s = g.S.System in
    let at = (goal.at.returns-in_err-named-in-Ok-clause-made g c).After-name_all-named in
    let round = c.in-Ok.field-0 in
    let stop = c.in_err-named-in-Ok.field-0.0 in
    let was : c.name_all-named.result ≡ Err stop = c.in_err-named-in-Ok.was in
    let same : c.from_residual-in_err-named-in-Ok.result ≡ Err stop = search rules in
    let mid = c.write_temp_file.new.self.system in
    naming_stopped (s.honest mid) (is_kept c.args.self.now.unsynced.syncs) c.args.writes.now c.args.self.now.new_file
    (Some c.name_all-named.new.new_file) (disk_of s c.args.self.now.system) (disk_of s mid)
    (disk_of s c.name_all-named.new.self.system) round stop c.from_residual-in_err-named-in-Ok.result
    (c.name_all-named.ensures.names.earlier honest) (starts g at) same (round_of g at)
    (c.write_temp_file.ensures.tree (c.name_all-named.ensures.names.earlier honest)) (subst
    (AreNamed round.new_file.folder.identity (is_kept c.args.self.now.unsynced.syncs) c.args.writes.now
    round.temp_files.items (disk_of s mid) (disk_of s c.name_all-named.new.self.system)) was (named g at honest))

pub returns-in_err-named-in-Ok-clause-keeps_edits : goal.returns-in_err-named-in-Ok-clause-keeps_edits
returns-in_err-named-in-Ok-clause-keeps_edits g c =
    lose_naming g (goal.at.returns-in_err-named-in-Ok-clause-keeps_edits g c).After-name_all-named

pub returns-in_ok-named-in-Ok-clause-made : goal.returns-in_ok-named-in-Ok-clause-made
returns-in_ok-named-in-Ok-clause-made g c honest =
    let s = g.S.System in
    let at = (goal.at.returns-in_ok-named-in-Ok-clause-made g c).After-name_all-named in
    let round = c.in-Ok.field-0 in
    let is = is_kept c.args.self.now.unsynced.syncs in
    let mid = disk_of s c.write_temp_file.new.self.system in
    let last = disk_of s c.name_all-named.new.self.system in
    let was : c.name_all-named.result ≡ Ok tt = c.in_ok-named-in-Ok.was in
    let count : c.len.result ≡ length round.temp_files.items = search rules in
    rw count (naming_done (s.honest c.write_temp_file.new.self.system) is c.args.writes.now c.args.self.now.new_file
    (disk_of s c.args.self.now.system) mid last round c.name_all-named.new.new_file
    (c.name_all-named.ensures.names.earlier honest) (starts g at) (round_of g at)
    (c.write_temp_file.ensures.tree (c.name_all-named.ensures.names.earlier honest)) c.name_all-named.ensures.folder
    (subst (AreNamed round.new_file.folder.identity is c.args.writes.now round.temp_files.items mid last) was
    (named g at honest)))

pub returns-in_ok-named-in-Ok-clause-keeps_edits : goal.returns-in_ok-named-in-Ok-clause-keeps_edits
returns-in_ok-named-in-Ok-clause-keeps_edits g c =
    lose_naming g (goal.at.returns-in_ok-named-in-Ok-clause-keeps_edits g c).After-name_all-named

pub returns-in-Err-clause-made : goal.returns-in-Err-clause-made
returns-in-Err-clause-made g c honest =
    let s = g.S.System in
    let is = is_kept c.args.self.now.unsynced.syncs in
    let writes = c.args.writes.now in
    let write = c.index-writes-0.result in
    let first = c.args.self.now.system in
    let some : write.file ≢ None = search rules in
    let starts = begins writes write c.requires c.index-writes-0.is some in
    let round = c.in-Err.ensures.round in (
      round.0,
      round.1,
      rw c.at_first.ensures (none_made round.0 is writes (disk_of s first)
          (disk_of s c.write_temp_file.new.self.system) starts (round.2, c.write_temp_file.ensures.tree honest)),
    )

pub returns-in-Err-clause-keeps_edits : goal.returns-in-Err-clause-keeps_edits
returns-in-Err-clause-keeps_edits g c =
    lose_only c.args.seen.now.reads.items c.args.writes.now _ _ c.write_temp_file.ensures.changes

pub returns-in_err-map_err-clause-noted : goal.returns-in_err-map_err-clause-noted
returns-in_err-map_err-clause-noted g c kept =
    have_one _ c.args.writes.now 0 c.index-writes-0.result _ _ c.requires c.index-writes-0.is
    (c.remove_expected.ensures.noted kept)

pub returns-then-is_none-clause-noted : goal.returns-then-is_none-clause-noted
returns-then-is_none-clause-noted g c kept =
    have_one _ c.args.writes.now 0 c.index-writes-0.result _ _ c.requires c.index-writes-0.is
    (c.remove_expected.ensures.noted kept)

pub returns-in_err-named-in-Ok-clause-noted : goal.returns-in_err-named-in-Ok-clause-noted
returns-in_err-named-in-Ok-clause-noted g c =
    noted_naming g (goal.at.returns-in_err-named-in-Ok-clause-noted g c).After-name_all-named

pub returns-in_ok-named-in-Ok-clause-noted : goal.returns-in_ok-named-in-Ok-clause-noted
returns-in_ok-named-in-Ok-clause-noted g c =
    noted_naming g (goal.at.returns-in_ok-named-in-Ok-clause-noted g c).After-name_all-named

pub returns-in-Err-clause-noted : goal.returns-in-Err-clause-noted
returns-in-Err-clause-noted g c kept = have_only _ c.args.writes.now _ _ c.write_temp_file.ensures.changes
