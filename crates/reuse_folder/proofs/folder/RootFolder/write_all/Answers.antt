use Rattle.std.proofs.Common.{rules, ◌≡◌, ◌∙◌, ◌≤◌, ◌+◌, ◌-◌, length, drop, true≢false, Ok, Err, refl, sym, subst}
use Rattle.std.proofs.lemmas.List.{take_rest}
use Rattle.reuse_system.specs.declared.syncs.Syncs.TheVariants.{Kept}
use Rattle.reuse_disk.specs.Written.{is_kept}
use Rattle.reuse_folder.specs.Rounds.{IsRound}
use Rattle.reuse_folder.specs.Seen.{LoseNoEdits}
use Rattle.reuse_folder.proofs.BatchLemmas.{all_made, disks_add, made_add}
use Rattle.reuse_folder.proofs.RoundEnds.{some_folder, tidy_twice}
use Rattle.reuse_folder.proofs.SeenLemmas.{lose_part, lose_then}
use Rattle.reuse_folder.specs.Barriers.{HaveNoted}
use Rattle.reuse_folder.proofs.BarrierLemmas.{have_behind, have_later, have_then}
use Rattle.reuse_folder.specs.Disk.{disk_of}
use Rattle.reuse_folder.proofs.folder.RootFolder.write_all.Given.{Over}
use Rattle.reuse_folder.proofs.folder.RootFolder.write_all.Goals.{After-write_some}
use Rattle.reuse_folder.proofs.folder.RootFolder.write_all.Goals as goal

-- some more writes were made: no edit is lost by that, and their folders are noted
module _ (g : Over) (c : After-write_some g) where
  lose_so_far : LoseNoEdits c.args.self.now.reads.items c.args.writes.now (g.S.System.changes c.args.self.now.system)
      (g.S.System.changes c.write_some.new.self.system)
  lose_so_far =
      let reads = c.args.self.now.reads.items in
      let writes = c.args.writes.now in
      let k = c.loop-made.made in
      let b = g.S.System.changes c.loop-made.self.system in
      let d = g.S.System.changes c.write_some.new.self.system in
      lose_then reads writes _ b d c.loop-made.invariant.keeps_edits
      (subst (λ r. LoseNoEdits r.items writes b d) c.loop-made.invariant.reads
      (lose_part c.loop-made.seen.reads.items writes k (length writes - k) b d c.write_some.ensures.keeps_edits))

  noted_so_far : c.args.self.now.unsynced.syncs ≡ Kept → HaveNoted c.write_some.new.self.unsynced c.args.writes.now
      (g.S.System.changes c.args.self.now.system) (g.S.System.changes c.write_some.new.self.system)
  noted_so_far kept =
      let writes = c.args.writes.now in
      let k = c.loop-made.made in
      let b = g.S.System.changes c.loop-made.self.system in
      let d = g.S.System.changes c.write_some.new.self.system in
      let new = c.write_some.new.self.unsynced in
      let one : HaveNoted new (drop k writes) b d =
      rw (take_rest writes k) at (c.write_some.ensures.noted (c.loop-made.invariant.syncs ∙ kept)) in
      have_then new writes _ b d
      (have_later c.loop-made.self.unsynced new writes _ b c.write_some.ensures.stay_noted
      (c.loop-made.invariant.noted kept)) (have_behind new writes k b d one)

pub loop-made-preserved : goal.loop-made-preserved
loop-made-preserved g c =
    let s = g.S.System in
    let at = (goal.at.loop-made-preserved g c).After-write_some in
    let so_far = c.loop-made.invariant in
    let k = c.loop-made.made in
    let count = c.in-Ok.count in
    let more : (k + count) ≤ length c.args.writes.now = search rules in
    record {
      few = more;
      reads = c.write_some.ensures.reads ∙ so_far.reads;
      syncs = c.write_some.ensures.syncs ∙ so_far.syncs;
      stays = λ note has. c.write_some.ensures.stay_noted note (so_far.stays note has);
      earlier = λ honest. so_far.earlier (c.write_some.ensures.earlier honest);
      made = λ honest new_files was.
          let writes = c.args.writes.now in
          let is = is_kept c.args.self.now.unsynced.syncs in
          let before = disk_of s c.loop-made.self.system in
          let now = disk_of s c.write_some.new.self.system in
          let round : IsRound is (drop k writes) c.loop-made.self.new_file c.write_some.new.self.new_file before now
          (Ok count) =
          rw (so_far.syncs, take_rest writes k) at (c.in-Ok.ensures.made honest) in
          let one = round new_files was in
          let all = so_far.made (c.write_some.ensures.earlier honest) new_files one.0 in (
            all.0,
            disks_add new_files is writes k count (disk_of s c.args.self.now.system) before now all.1 one.1,
            λ done.
                tidy_twice new_files (s.holds c.args.self.now.system) before.files now.files (all.2 refl) (one.2 refl),
          );
      noted = λ kept. noted_so_far g at kept;
      keeps_edits = lose_so_far g at;
    }

pub returns-in-Err-clause-made : goal.returns-in-Err-clause-made
returns-in-Err-clause-made g c honest =
    let s = g.S.System in
    let k = c.loop-made.made in
    let so_far = c.loop-made.invariant in
    let writes = c.args.writes.now in
    let before = disk_of s c.loop-made.self.system in
    let is = is_kept c.args.self.now.unsynced.syncs in
    let now = disk_of s c.write_some.new.self.system in
    let stop = c.in-Err.stop in
    let round : IsRound is (drop k writes) c.loop-made.self.new_file c.write_some.new.self.new_file before now
    (Err stop) =
    rw (so_far.syncs, take_rest writes k) at (c.in-Err.ensures.made honest) in
    let all = so_far.made (c.write_some.ensures.earlier honest) round.0 round.1 in (
      record {
        new_files = round.0;
        made = k + stop.made;
        are_made = made_add round.0 is writes k stop.made (disk_of s c.args.self.now.system) before now all.1 round.2;
        all = λ bad. absurd (true≢false (sym bad));
        tidy = λ bad. absurd (true≢false (sym bad));
      },
      refl,
    )

pub returns-in-Err-clause-keeps_edits : goal.returns-in-Err-clause-keeps_edits
returns-in-Err-clause-keeps_edits g c = lose_so_far g (goal.at.returns-in-Err-clause-keeps_edits g c).After-write_some

pub returns-clause-made : goal.returns-clause-made
returns-clause-made g c honest =
    let s = g.S.System in
    let so_far = c.loop-made.invariant in
    let is = is_kept c.args.self.now.unsynced.syncs in
    let writes = c.args.writes.now in
    let first = c.args.self.now.system in
    let last = c.loop-made.self.system in
    let folder = some_folder c.loop-made.self.new_file in
    let all = so_far.made honest folder.0 folder.1 in (
      record {
        new_files = folder.0;
        made = length writes;
        are_made = all_made folder.0 is writes c.loop-made.made (disk_of s first)
            (disk_of s last) c.loop-made-test.false all.1;
        all = λ done. refl;
        tidy = all.2;
      },
      refl,
    )

pub returns-in-Err-clause-noted : goal.returns-in-Err-clause-noted
returns-in-Err-clause-noted g c = noted_so_far g (goal.at.returns-in-Err-clause-noted g c).After-write_some

pub returns-clause-noted : goal.returns-clause-noted
returns-clause-noted g c = c.loop-made.invariant.noted
