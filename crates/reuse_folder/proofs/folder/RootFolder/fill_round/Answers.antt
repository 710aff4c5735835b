use Rattle.std.proofs.Common.{rules, ◌≡◌, ◌∙◌, ◌∷◌, ◌++◌, ◌+◌, ◌≤◌, ◌<◌, ◌^◌, [], true, false, IsTrue, is_ok, length}
use Rattle.std.proofs.Common.{get_or, None, ap, arith, subst, sym, refl}
use Rattle.std.proofs.lemmas.List.{length_push}
use Rattle.reuse_change.specs.Parts.{joined}
use Rattle.reuse_system.specs.SystemLaws.{IsAlikeBut, IsAlikeUnless}
use Rattle.reuse_system.specs.declared.handle.OpenFolder.{OpenFolder}
use Rattle.reuse_disk.proofs.EditLemmas.{only_then}
use Rattle.reuse_folder.specs.Disk.{disk_of}
use Rattle.reuse_folder.specs.NewFileFolder.{KeepsTree}
use Rattle.reuse_folder.proofs.TreeLemmas.{keeps_none, keeps_then}
use Rattle.reuse_folder.specs.Rounds.{new_place, AreApart, AreTempFile, AreBegun, HavePlaces, IsAdded, IsNumbered}
use Rattle.reuse_folder.specs.Seen.{AreKnown, IsKnownTempFile, IsNewFile}
use Rattle.reuse_folder.proofs.PutLemmas.{of_ok}
use Rattle.reuse_folder.proofs.RoundLemmas.{apart_added, temp_file_added, begun_done, begun_freed, numbered_added}
use Rattle.reuse_folder.proofs.RoundLemmas.{places_added}
use Rattle.reuse_folder.proofs.SeenLemmas.{temp_file_more}
use Rattle.reuse_folder.specs.Barriers.{AreNotedAbove}
use Rattle.reuse_folder.proofs.BarrierLemmas.{above_all_later, above_more}
use Rattle.reuse_folder.proofs.folder.RootFolder.fill_round.Given.{Over}
use Rattle.reuse_folder.proofs.folder.RootFolder.fill_round.Goals.{After-add_temp_file}
use Rattle.reuse_folder.proofs.folder.RootFolder.fill_round.Goals as goal

-- a new file was written, or wasn't: each path leads to the file that it led to
keeps_so_far : (g : Over) (c : After-add_temp_file g) → g.S.System.honest c.add_temp_file.new.self.system
    → KeepsTree c.args.round.now.new_file.folder.identity (disk_of g.S.System c.args.self.now.system)
    (disk_of g.S.System c.add_temp_file.new.self.system)
keeps_so_far g c honest =
    let s = g.S.System in
    let so_far = c.loop-write.invariant in
    let before = disk_of s c.loop-write.self.system in
    let now = disk_of s c.add_temp_file.new.self.system in
    keeps_then c.args.round.now.new_file.folder.identity (disk_of s c.args.self.now.system) before now
    (so_far.tree (c.add_temp_file.ensures.earlier honest))
    (subst (λ (f : OpenFolder). KeepsTree f.identity before now) so_far.folder (c.add_temp_file.ensures.tree honest))

pub returns-in_default-clause-tree : goal.returns-in_default-clause-tree
returns-in_default-clause-tree g c = c.loop-write.invariant.tree

pub returns-then-number-eq0-clause-tree : goal.returns-then-number-eq0-clause-tree
returns-then-number-eq0-clause-tree g c =
    keeps_so_far g (goal.at.returns-then-number-eq0-clause-tree g c).After-add_temp_file

pub returns-in-Err-clause-tree : goal.returns-in-Err-clause-tree
returns-in-Err-clause-tree g c honest =
    let s = g.S.System in
    let new_files = c.args.round.now.new_file.folder.identity in
    let now = disk_of s c.add_temp_file.new.self.system in
    let last = disk_of s c.check_free.new.system in
    keeps_then new_files (disk_of s c.args.self.now.system) now last
    (keeps_so_far g (goal.at.returns-in-Err-clause-tree g c).After-add_temp_file
    (c.check_free.ensures.reads.earlier honest))
    (keeps_none new_files now last c.check_free.ensures.reads.still c.check_free.ensures.reads.kept)

pub returns-clause-tree : goal.returns-clause-tree
returns-clause-tree g c = c.loop-write.invariant.tree

pub returns-in_default-clause-begun : goal.returns-in_default-clause-begun
returns-in_default-clause-begun g c =
    let s = g.S.System in
    let so_far = c.loop-write.invariant in
    let now = c.loop-write.self.system in
    let few : length c.loop-write.round.temp_files.items ≤ length c.args.writes.now =
    omega (arith, so_far.count, c.loop-write-test.true) in
    begun_done (s.honest now × IsTrue true) c.args.round.now.new_file.folder.identity c.args.writes.now
    c.loop-write.round.temp_files.items (s.holds c.args.self.now.system)
    (s.holds now) few so_far.places so_far.temp_file
    so_far.apart so_far.alike

pub returns-then-number-eq0-clause-changes : goal.returns-then-number-eq0-clause-changes
returns-then-number-eq0-clause-changes g c =
    only_then IsNewFile _ _ _ c.loop-write.invariant.changes c.add_temp_file.ensures.changes

pub returns-in-Err-clause-changes : goal.returns-in-Err-clause-changes
returns-in-Err-clause-changes g c =
    only_then IsNewFile _ _ _ c.loop-write.invariant.changes
    (rw c.check_free.ensures.reads.changes c.add_temp_file.ensures.changes)

pub returns-in-Err-clause-begun : goal.returns-in-Err-clause-begun
returns-in-Err-clause-begun g c =
    let s = g.S.System in
    let so_far = c.loop-write.invariant in
    let new_files = c.args.round.now.new_file.folder.identity in
    let writes = c.args.writes.now in
    let temp_files = c.loop-write.round.temp_files.items in
    let first = s.holds c.args.self.now.system in
    let before = s.holds c.loop-write.self.system in
    let last = c.check_free.new.system in
    let same : c.add_temp_file.new.round.temp_files.items ≡ temp_files = c.in-Err.ensures.added in
    let number : c.len-number.result ≡ length temp_files = search rules in
    let short : c.len-number.result < 2 ^ 64 = search rules in
    let folder = c.add_temp_file.ensures.folder ∙ so_far.folder in
    let place = new_place new_files (length temp_files) in
    let free = ap (λ (f : OpenFolder). new_place f.identity (length temp_files)) folder in
    let others : IsAlikeBut place before (s.holds c.add_temp_file.new.self.system) =
    subst (λ (f : OpenFolder). IsAlikeBut (new_place f.identity (length temp_files)) before
    (s.holds c.add_temp_file.new.self.system)) so_far.folder c.add_temp_file.ensures.others in
    let alike : IsAlikeBut place before (s.holds last) =
    subst (IsAlikeBut place before) (sym c.check_free.ensures.reads.kept) others in
    let few : length temp_files ≤ length writes = omega (arith, so_far.count, c.loop-write-test.true) in
    subst (λ l. AreBegun (s.honest last × IsTrue (is_ok c.check_free.result)) new_files writes l first (s.holds last))
    (sym same)
    (begun_freed
    (s.honest last × IsTrue (is_ok c.check_free.result)) new_files writes temp_files first before (s.holds last)
    (λ well. rw (folder, number) at (of_ok c.check_free.result
    (s.holds last (new_place c.add_temp_file.new.round.new_file.folder.identity c.len-number.result) ≡ None)
    (c.check_free.ensures.free well.0) well.1))
    few (rw number at short) so_far.places so_far.temp_file so_far.apart so_far.alike alike)

pub loop-write-preserved : goal.loop-write-preserved
loop-write-preserved g c =
    let s = g.S.System in
    let so_far = c.loop-write.invariant in
    let new_files = c.args.round.now.new_file.folder.identity in
    let writes = c.args.writes.now in
    let temp_files = c.loop-write.round.temp_files.items in
    let n = length temp_files in
    let first = s.holds c.args.self.now.system in
    let before = s.holds c.loop-write.self.system in
    let now = s.holds c.add_temp_file.new.self.system in
    let items = c.add_temp_file.new.round.temp_files.items in
    let write = c.write-item.result in
    let bytes = joined c.in-Some.parts in
    let added : IsAdded new_files now bytes temp_files items true = subst (λ (f : OpenFolder).
    IsAdded f.identity now bytes temp_files items true) so_far.folder c.in_default-add_temp_file.ensures.added in
    let others : IsAlikeBut (new_place new_files n) before now = subst
    (λ (f : OpenFolder). IsAlikeBut (new_place f.identity n) before now) so_far.folder c.add_temp_file.ensures.others
    in
    let one = added.0 in
    let is = added.1 in
    let count : length (temp_files ++ (one ∷ [])) ≡ (n + 1) = length_push temp_files one in
    let short : n < length writes = omega (arith, so_far.count, c.loop-write-test.true) in
    let at : write ≡ get_or writes n write = c.write-item.is ∙ ap (λ m. get_or writes m write) (sym so_far.count) in
    let known = c.in_default-add_temp_file.ensures.known in
    let temp_file : AreTempFile new_files false now 0 (n + 1) writes (temp_files ++ (one ∷ [])) =
    temp_file_added new_files writes temp_files before now n write c.in-Some.parts one refl short at c.in-Some.is
    added.2 others added.3 so_far.temp_file in
    let alike : IsAlikeUnless (IsNumbered new_files (n + 1)) first now =
    numbered_added new_files n first before now added.2.0 so_far.alike others in
    let path_known : IsKnownTempFile c.args.seen.now.reads.items write.path.now known.0 = rw so_far.reads at known.2 in
    record {
      folder = c.add_temp_file.ensures.folder ∙ so_far.folder;
      count = ap length is ∙ count ∙ ap (λ m. m + 1) so_far.count;
      places = subst (HavePlaces new_files) (sym is) (places_added new_files temp_files one added.2 so_far.places);
      temp_file = subst (λ l. AreTempFile new_files false now 0 (length l) writes l) (sym is)
          (subst (λ m. AreTempFile new_files false now 0 m writes (temp_files ++ (one ∷ []))) (sym count) temp_file);
      apart = subst AreApart (sym is) (apart_added new_files writes temp_files before now n bytes one refl short added.2
          others added.3 so_far.temp_file so_far.apart);
      alike = subst (λ l. IsAlikeUnless (IsNumbered new_files (length l)) first now) (sym is)
          (subst (λ m. IsAlikeUnless (IsNumbered new_files m) first now) (sym count) alike);
      syncs = c.add_temp_file.ensures.syncs ∙ so_far.syncs;
      stay_noted = λ folder noted. c.add_temp_file.ensures.stay_noted folder (so_far.stay_noted folder noted);
      above = λ kept. subst (λ l. AreNotedAbove c.add_temp_file.new.self.unsynced writes (length l)) (sym is)
          (subst (λ m. AreNotedAbove c.add_temp_file.new.self.unsynced writes m) (sym count)
          (above_more c.loop-write.self.unsynced c.add_temp_file.new.self.unsynced writes n write short at
          c.add_temp_file.ensures.stay_noted (so_far.above kept)
          (c.in_default-add_temp_file.ensures.above (so_far.syncs ∙ kept))));
      earlier = λ honest. so_far.earlier (c.add_temp_file.ensures.earlier honest);
      tree = keeps_so_far g (goal.at.loop-write-preserved g c).After-add_temp_file;
      changes = only_then IsNewFile _ _ _ so_far.changes c.add_temp_file.ensures.changes;
      known = subst (AreKnown c.args.seen.now.reads.items writes) (sym known.1)
          (temp_file_more c.args.seen.now.reads.items writes temp_files known.0 c.loop-write.write-index write
          so_far.known so_far.count c.loop-write-test.true c.write-item.is path_known);
      reads = c.add_temp_file.ensures.reads ∙ so_far.reads;
    }

pub returns-clause-begun : goal.returns-clause-begun
returns-clause-begun g c =
    let s = g.S.System in
    let so_far = c.loop-write.invariant in
    let now = c.loop-write.self.system in
    let few : length c.loop-write.round.temp_files.items ≤ length c.args.writes.now =
    omega (arith, so_far.count, c.loop-write.auto.write-index-end) in
    begun_done (s.honest now × IsTrue true) c.args.round.now.new_file.folder.identity c.args.writes.now
    c.loop-write.round.temp_files.items (s.holds c.args.self.now.system)
    (s.holds now) few so_far.places so_far.temp_file
    so_far.apart so_far.alike

pub returns-in_default-clause-stay_noted : goal.returns-in_default-clause-stay_noted
returns-in_default-clause-stay_noted g c = c.loop-write.invariant.stay_noted

pub returns-in_default-clause-above : goal.returns-in_default-clause-above
returns-in_default-clause-above g c = c.loop-write.invariant.above

pub returns-then-number-eq0-clause-stay_noted : goal.returns-then-number-eq0-clause-stay_noted
returns-then-number-eq0-clause-stay_noted g c folder noted =
    c.add_temp_file.ensures.stay_noted folder (c.loop-write.invariant.stay_noted folder noted)

pub returns-in-Err-clause-stay_noted : goal.returns-in-Err-clause-stay_noted
returns-in-Err-clause-stay_noted g c folder noted =
    c.add_temp_file.ensures.stay_noted folder (c.loop-write.invariant.stay_noted folder noted)

pub returns-in-Err-clause-above : goal.returns-in-Err-clause-above
returns-in-Err-clause-above g c kept =
    let writes = c.args.writes.now in
    let temp_files = c.loop-write.round.temp_files.items in
    let same : c.add_temp_file.new.round.temp_files.items ≡ temp_files = c.in-Err.ensures.added in
    let new = c.add_temp_file.new.self.unsynced in
    subst (λ l. AreNotedAbove new writes (length l)) (sym same)
    (above_all_later c.loop-write.self.unsynced new writes (length temp_files)
    c.add_temp_file.ensures.stay_noted (c.loop-write.invariant.above kept))

pub returns-clause-stay_noted : goal.returns-clause-stay_noted
returns-clause-stay_noted g c = c.loop-write.invariant.stay_noted

pub returns-clause-above : goal.returns-clause-above
returns-clause-above g c = c.loop-write.invariant.above
