use Rattle.std.proofs.Common.{◌≡◌, ◌≢◌, ◌∙◌, ◌∷◌, ◌≤◌, [], ℕ, List, true, false, length, None, Some, arith, subst, refl}
use Rattle.reuse_change.specs.Layout.{journal_folder}
use Rattle.reuse_change.specs.declared.parts.Pieces.{Pieces}
use Rattle.reuse_system.specs.Folders.{folder_at}
use Rattle.reuse_store.specs.declared.file_write.FileWrite.{FileWrite}
use Rattle.reuse_disk.specs.Written.{is_kept}
use Rattle.reuse_folder.specs.Barriers.{AreNotedAbove, HaveNoted, NamesKnown}
use Rattle.reuse_folder.specs.Disk.{disk_of}
use Rattle.reuse_folder.specs.NewFileFolder.{IsJournal}
use Rattle.reuse_folder.proofs.TreeLemmas.{home_at, new_on, write_at}
use Rattle.reuse_folder.specs.Rounds.{AreApart, AreTempFile, HavePlaces, IsNamed, StandsTempFile}
use Rattle.reuse_folder.specs.Seen.{AreKnown, IsKnownTempFile, LoseNoEdits}
use Rattle.reuse_folder.specs.declared.folder.seen.ReadPath.{ReadPath}
use Rattle.reuse_folder.proofs.BatchLemmas.{disks_more, made_to, write_before}
use Rattle.reuse_folder.proofs.NamedLemmas.{gone_more}
use Rattle.reuse_folder.proofs.RoundEnds.{new_behind}
use Rattle.reuse_folder.proofs.SeenLemmas.{known_here, lose_at, lose_only, lose_then}
use Rattle.reuse_folder.proofs.SeenLemmas.{new_behind as known_behind}
use Rattle.reuse_folder.proofs.BarrierLemmas.{above_later, have_more, have_only, have_then}
use Rattle.reuse_folder.proofs.folder.RootFolder.name_each.Given.{Over}
use Rattle.reuse_folder.proofs.folder.RootFolder.name_each.Goals.{After-name_one}
use Rattle.reuse_folder.proofs.folder.RootFolder.name_each.Goals as goal

some_file : (file : _) (parts : Pieces) → file ≡ Some parts → file ≢ None
some_file file parts is none = cc

-- the file of the next write stood aside, and was to be named
module _ (g : Over) (c : After-name_one g) where
  stands : g.S.System.honest c.name_one.new.self.system
      → IsJournal (folder_at (g.S.System.folders c.args.self.now.system) journal_folder)
      c.args.new_file.now.folder.identity → length c.args.temp_files.now ≤ length c.args.writes.now
      → HavePlaces c.args.new_file.now.folder.identity c.args.temp_files.now → AreApart c.args.temp_files.now
      → AreTempFile c.args.new_file.now.folder.identity (is_kept c.args.self.now.unsynced.syncs)
      (g.S.System.holds c.args.self.now.system) 0 (length c.args.temp_files.now) c.args.writes.now
      c.args.temp_files.now
      → StandsTempFile c.args.new_file.now.folder.identity (length c.args.temp_files.now)
      (is_kept c.args.self.now.unsynced.syncs) (g.S.System.holds c.loop-made.self.system) c.loop-made.made
      c.index-writes-made.result c.in-Some.new.now
  stands honest home few places apart temp_file =
      let inner = c.in-Some.ensures.lookup.3.0 in
      (c.loop-made.invariant.named (c.name_one.ensures.earlier honest) home few places apart temp_file).1
      c.loop-made.made
      c.index-writes-made.result c.in-Some.new.now (omega arith) inner c.index-writes-made.is
      c.in-Some.ensures.lookup.1

  -- what is known of it, and so of the writes up to this one
  module _ (reads : List ReadPath) (known : AreKnown reads c.args.writes.now c.args.temp_files.now) where
    here : IsKnownTempFile reads c.index-writes-made.result.path.now c.in-Some.new.now
    here = known_here reads c.args.writes.now c.args.temp_files.now c.loop-made.made c.index-writes-made.result
        c.in-Some.new.now known c.in-Some.ensures.lookup.3.0 c.index-writes-made.is c.in-Some.ensures.lookup.1

    lose_so_far : LoseNoEdits reads c.args.writes.now (g.S.System.changes c.args.self.now.system)
        (g.S.System.changes c.name_one.new.self.system)
    lose_so_far =
        let writes = c.args.writes.now in
        let b = g.S.System.changes c.loop-made.self.system in
        let d = g.S.System.changes c.name_one.new.self.system in
        lose_then reads writes _ b d (c.loop-made.invariant.names.keeps_edits reads known)
        (lose_at reads writes c.loop-made.made c.index-writes-made.result b d c.loop-made-test.true
        (subst (λ (w : FileWrite). LoseNoEdits reads (w ∷ []) b d) c.index-writes-made.is
        (c.name_one.ensures.keeps_edits reads here)))

    noted_so_far : AreNotedAbove c.args.self.now.unsynced c.args.writes.now (length c.args.temp_files.now)
        → HaveNoted c.name_one.new.self.unsynced c.args.writes.now (g.S.System.changes c.args.self.now.system)
        (g.S.System.changes c.name_one.new.self.system)
    noted_so_far above =
        let write = c.index-writes-made.result in
        let old = c.loop-made.self.unsynced in
        have_more old c.name_one.new.self.unsynced c.args.writes.now c.loop-made.made write _
        (g.S.System.changes c.loop-made.self.system) _ c.loop-made-test.true c.index-writes-made.is
        c.name_one.ensures.stay_noted (c.loop-made.invariant.names.noted reads known above)
        (c.name_one.ensures.noted reads here
        (above_later c.args.self.now.unsynced old write.path.now c.loop-made.invariant.names.stays
        (above c.loop-made.made write c.in-Some.ensures.lookup.3.0 c.index-writes-made.is)))

names_so_far : (g : Over) (c : After-name_one g) → NamesKnown g.S.System c.args.self.now.system
    c.name_one.new.self.system c.args.self.now.unsynced c.name_one.new.self.unsynced c.args.writes.now
    c.args.temp_files.now
names_so_far g c =
    record {
      syncs = c.name_one.ensures.syncs ∙ c.loop-made.invariant.names.syncs;
      stays = λ note has. c.name_one.ensures.stay_noted note (c.loop-made.invariant.names.stays note has);
      noted = noted_so_far g c;
      keeps_edits = lose_so_far g c;
      earlier = λ honest. c.loop-made.invariant.names.earlier (c.name_one.ensures.earlier honest);
    }

pub returns-in-Err-clause-named : goal.returns-in-Err-clause-named
returns-in-Err-clause-named g c honest home few places apart temp_file =
    let s = g.S.System in
    let late = c.remove_all.ensures.earlier honest in
    let at = (goal.at.returns-in-Err-clause-named g c).After-name_one in
    let so_far = c.loop-made.invariant in
    let new_files = c.args.new_file.now.folder.identity in
    let is = is_kept c.args.self.now.unsynced.syncs in
    let k = c.loop-made.made in
    let write = c.index-writes-made.result in
    let before = disk_of s c.loop-made.self.system in
    let now = disk_of s c.name_one.new.self.system in
    let last = disk_of s c.remove_all.new.system in
    let one_stands = stands g at late home few places apart temp_file in
    let here = home_at (s.folders c.args.self.now.system) before.folders new_files so_far.still home in
    let there = home_at before.folders now.folders new_files c.name_one.ensures.still here in
    let named : (count number : ℕ) → StandsTempFile new_files count is before.files number write c.in-Some.new.now
    → IsNamed new_files count is number write c.in-Some.new.now before now false =
    rw (so_far.folder, so_far.names.syncs) at (c.in-Err.ensures.named late) in
    made_to new_files is c.args.writes.now k write _ before last c.loop-made-test.true c.index-writes-made.is
    (so_far.named (c.name_one.ensures.earlier late) home few places apart temp_file).0
    (write_before new_files is write.path.now write.file before now last
    (some_file write.file one_stands.parts one_stands.is_file) c.remove_all.ensures.still
    (write_at before now new_files is false write.path.now write.file
    (some_file write.file one_stands.parts one_stands.is_file) c.name_one.ensures.path c.name_one.ensures.still
    (g.met.S.System.is_tree c.name_one.new.self.system late) here (named _ k one_stands).put)
    (new_on now last new_files c.remove_all.ensures.still (g.met.S.System.is_tree c.remove_all.new.system honest) there
    (c.remove_all.ensures.others new_files (new_behind new_files c.args.temp_files.now k places))))

pub loop-made-preserved : goal.loop-made-preserved
loop-made-preserved g c =
    let s = g.S.System in
    let at = (goal.at.loop-made-preserved g c).After-name_one in
    let inner = c.in-Some.ensures.lookup.3.0 in
    let so_far = c.loop-made.invariant in
    record {
      folder = c.name_one.ensures.folder ∙ so_far.folder;
      few = omega (arith, inner);
      still = c.name_one.ensures.still ∙ so_far.still;
      named = λ honest home few places apart temp_file.
          let made = so_far.named (c.name_one.ensures.earlier honest) home few places apart temp_file in
          let new_files = c.args.new_file.now.folder.identity in
          let k = c.loop-made.made in
          let is = is_kept c.args.self.now.unsynced.syncs in
          let one = c.in-Some.new.now in
          let write = c.index-writes-made.result in
          let now = disk_of s c.name_one.new.self.system in
          let before = disk_of s c.loop-made.self.system in
          let named : (count number : ℕ) → StandsTempFile new_files count is before.files number write one
          → IsNamed new_files count is number write one before now true =
          rw (so_far.folder, so_far.names.syncs) at (c.in_default-name_one.ensures.named honest) in
          let one_stands = stands g at honest home few places apart temp_file in
          let done = named _ k one_stands in
          let here = home_at (s.folders c.args.self.now.system) before.folders new_files so_far.still home in (
            disks_more new_files is c.args.writes.now k write _ before now c.loop-made-test.true
                c.index-writes-made.is made.0
                (write_at before now new_files is true write.path.now write.file
                (some_file write.file one_stands.parts one_stands.is_file) c.name_one.ensures.path
                c.name_one.ensures.still (g.met.S.System.is_tree c.name_one.new.self.system honest) here done.put),
            (λ j later other low less later_is other_is.
                done.stay refl j later other (λ (same : k ≡ j). omega (arith, low, same))
                (apart k j one other (omega (arith, low)) less c.in-Some.ensures.lookup.1 other_is)
                (made.1 j later other (omega (arith, low)) less later_is other_is)),
            gone_more new_files k (s.holds c.args.self.now.system) before.files now.files made.2 (done.left refl)
                (done.tidy refl),
          );
      names = names_so_far g at;
    }

pub returns-in-Err-clause-names : goal.returns-in-Err-clause-names
returns-in-Err-clause-names g c =
    let so_far = names_so_far g (goal.at.returns-in-Err-clause-names g c).After-name_one in
    let new = c.name_one.new.self.unsynced in
    let writes = c.args.writes.now in
    let d = g.S.System.changes c.name_one.new.self.system in
    let e = g.S.System.changes c.remove_all.new.system in
    let only = λ (reads : List ReadPath) (known : AreKnown reads writes c.args.temp_files.now).
    c.remove_all.ensures.changes (known_behind reads writes c.args.temp_files.now c.loop-made.made known) in
    record {
      syncs = so_far.syncs;
      stays = so_far.stays;
      noted = λ reads known above.
          have_then new writes _ d e (so_far.noted reads known above) (have_only new writes d e (only reads known));
      keeps_edits = λ reads known.
          lose_then reads writes _ d e (so_far.keeps_edits reads known) (lose_only reads writes d e (only reads known));
      earlier = λ honest. so_far.earlier (c.remove_all.ensures.earlier honest);
    }
