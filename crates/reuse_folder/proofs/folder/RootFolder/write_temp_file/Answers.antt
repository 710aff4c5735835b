use Rattle.std.proofs.Common.{◌<◌, ◌∙◌, length, subst, sym}
use Rattle.reuse_change.specs.Layout.{journal_folder}
use Rattle.reuse_system.specs.Folders.{folder_at}
use Rattle.std.specs.List.{All}
use Rattle.reuse_system.specs.TempFiles.{place_of, IsNewIn}
use Rattle.reuse_system.specs.SystemLaws.{IsAlikeUnless}
use Rattle.reuse_system.specs.declared.handle.OpenFolder.{OpenFolder}
use Rattle.reuse_disk.specs.OpenFolders.{AreOpened}
use Rattle.reuse_disk.specs.Written.{LeavesNone}
use Rattle.reuse_disk.proofs.EditLemmas.{only_then}
use Rattle.reuse_folder.specs.Disk.{disk_of, IsSameTree}
use Rattle.reuse_folder.specs.FolderWrites.{IsFolderOf}
use Rattle.reuse_folder.specs.NewFileFolder.{IsJournal}
use Rattle.reuse_folder.proofs.TreeLemmas.{home_at, new_on}
use Rattle.reuse_folder.specs.Rounds.{AreBegun}
use Rattle.reuse_folder.specs.Seen.{IsNewFile}
use Rattle.reuse_folder.proofs.RoundEnds.{alike_then, all_new, begun_after, round_not_begun}
use Rattle.reuse_folder.proofs.SeenLemmas.{new_at, only_new}
use Rattle.reuse_folder.proofs.folder.RootFolder.write_temp_file.Given.{Over}
use Rattle.reuse_folder.proofs.folder.RootFolder.write_temp_file.Goals.{After-fill_round}
use Rattle.reuse_folder.proofs.folder.RootFolder.write_temp_file.Goals as goal

pub returns-in_err-check_guard-clause-round : goal.returns-in_err-check_guard-clause-round
returns-in_err-check_guard-clause-round g c =
    let s = g.S.System in
    let system = c.args.self.now.system in
    round_not_begun (s.honest system) c.args.writes.now c.args.self.now.new_file
    (s.holds system) c.from_residual.result c.from_residual.ensures.0

pub returns-in_err-take_new_file-clause-changes : goal.returns-in_err-take_new_file-clause-changes
returns-in_err-take_new_file-clause-changes g c = let cleared = c.take_new_file.ensures.cleared in
    only_new cleared.folder _ _ cleared.changed

pub returns-in-Ok-clause-round : goal.returns-in-Ok-clause-round
returns-in-Ok-clause-round g c =
    let s = g.S.System in
    let first = s.holds c.args.self.now.system in
    let between = s.holds c.take_new_file.new.self.system in
    let last = c.fill_round.new.self.system in
    let temp_files = c.fill_round.new.round.temp_files.items in
    let folder = c.in_ok-take_new_file.field-0.folder in
    let cleared = c.in_ok-take_new_file.ensures.cleared in
    let was : IsFolderOf c.args.self.now.new_file folder.identity = rw cleared.is_folder cleared.was in
    let alike : IsAlikeUnless (IsNewIn folder.identity) first between = rw cleared.is_folder cleared.others in
    let none_left : LeavesNone (IsNewIn folder.identity) first between = rw cleared.is_folder cleared.none_left in
    subst (λ (f : OpenFolder). IsFolderOf c.args.self.now.new_file f.identity × (0 < length temp_files) × AreBegun
    (s.honest last) f.identity c.args.writes.now temp_files first (s.holds last)) (sym c.fill_round.ensures.folder) (
      was,
      c.in-Ok.ensures.some c.requires,
      begun_after (s.honest last) folder.identity c.args.writes.now temp_files first between
          (s.holds last) alike none_left c.in-Ok.ensures.begun,
    )

-- the round was filled, or as much of it as could be
filled_tree : (g : Over) (c : After-fill_round g) → g.S.System.honest c.fill_round.new.self.system
    → IsJournal (folder_at (g.S.System.folders c.fill_round.new.self.system) journal_folder)
    c.in_ok-take_new_file.field-0.folder.identity
    × IsSameTree (disk_of g.S.System c.args.self.now.system) (disk_of g.S.System c.fill_round.new.self.system)
filled_tree g c honest =
    let was = c.fill_round.ensures.earlier honest in
    let filled = c.fill_round.ensures.tree honest (c.in_ok-take_new_file.ensures.home was) in
    (filled.0, λ path of_tree. filled.1 path of_tree ∙ c.take_new_file.ensures.tree was path of_tree)

pub returns-in-Ok-clause-tree : goal.returns-in-Ok-clause-tree
returns-in-Ok-clause-tree g c honest =
    (filled_tree g (goal.at.returns-in-Ok-clause-tree g c).After-fill_round honest).1

pub returns-in-Ok-clause-home : goal.returns-in-Ok-clause-home
returns-in-Ok-clause-home g c honest =
    let filled = filled_tree g (goal.at.returns-in-Ok-clause-home g c).After-fill_round honest in
    subst (λ (f : OpenFolder). IsJournal (folder_at (g.S.System.folders c.fill_round.new.self.system) journal_folder)
    f.identity) (sym c.fill_round.ensures.folder) filled.0

pub returns-in-Err-clause-tree : goal.returns-in-Err-clause-tree
returns-in-Err-clause-tree g c honest path of_tree =
    let s = g.S.System in
    let filled = filled_tree g (goal.at.returns-in-Err-clause-tree g c).After-fill_round
    (c.remove_all.ensures.earlier honest) in
    let new_files = c.in_ok-take_new_file.field-0.folder.identity in
    let all = subst (λ l. All (λ one. IsNewIn new_files (place_of one.temp_file)) l) (sym c.deref.ensures.value)
    (all_new new_files c.fill_round.new.round.temp_files.items c.fill_round.ensures.begun.places) in
    (new_on (disk_of s c.fill_round.new.self.system) (disk_of s c.remove_all.new.system) new_files
    c.remove_all.ensures.still (g.met.S.System.is_tree c.remove_all.new.system honest) filled.0
    (c.remove_all.ensures.others new_files all)).1 path of_tree
    ∙ filled.1 path of_tree

pub invariant_of-self-in-Err : goal.invariant_of-self-in-Err
invariant_of-self-in-Err g c =
    let s = g.S.System in
    let at = (goal.at.invariant_of-self-in-Err g c).After-fill_round in
    let filled = c.fill_round.new.self in
    record {
      opened = λ honest. subst (λ folders. AreOpened folders filled.open_folders) (sym c.remove_all.ensures.still)
          (filled.opened (c.remove_all.ensures.earlier honest));
      home = λ honest.
          home_at (s.folders filled.system) (s.folders c.remove_all.new.system)
          c.fill_round.new.round.new_file.folder.identity c.remove_all.ensures.still
          (subst (λ (f : OpenFolder). IsJournal (folder_at (s.folders filled.system) journal_folder) f.identity)
          (sym c.fill_round.ensures.folder) (filled_tree g at (c.remove_all.ensures.earlier honest)).0);
    }

pub returns-in-Ok-clause-changes : goal.returns-in-Ok-clause-changes
returns-in-Ok-clause-changes g c = let cleared = c.take_new_file.ensures.cleared in
    only_then IsNewFile _ _ _ (only_new cleared.folder _ _ cleared.changed) c.fill_round.ensures.changes

pub returns-in-Err-clause-round : goal.returns-in-Err-clause-round
returns-in-Err-clause-round g c =
    let s = g.S.System in
    let first = s.holds c.args.self.now.system in
    let between = s.holds c.take_new_file.new.self.system in
    let filled = s.holds c.fill_round.new.self.system in
    let last = s.holds c.remove_all.new.system in
    let new_files = c.in_ok-take_new_file.field-0.folder.identity in
    let cleared = c.in_ok-take_new_file.ensures.cleared in
    let was : IsFolderOf c.args.self.now.new_file new_files = rw cleared.is_folder cleared.was in
    let alike : IsAlikeUnless (IsNewIn new_files) first between = rw cleared.is_folder cleared.others in
    let begun = c.fill_round.ensures.begun in
    let all = subst (λ l. All (λ one. IsNewIn new_files (place_of one.temp_file)) l) (sym c.deref.ensures.value)
    (all_new new_files c.fill_round.new.round.temp_files.items begun.places) in (
      new_files,
      was,
      alike_then new_files first between last alike
          (alike_then new_files between filled last begun.others (c.remove_all.ensures.others new_files all)),
    )

pub returns-in-Err-clause-changes : goal.returns-in-Err-clause-changes
returns-in-Err-clause-changes g c =
    let cleared = c.take_new_file.ensures.cleared in
    let temp_files = c.fill_round.new.round.temp_files.items in
    let known = c.fill_round.ensures.known in
    let all = subst (λ l. All (λ one. IsNewFile (place_of one.temp_file)) l) (sym c.deref.ensures.value)
    (λ k one short. new_at c.args.seen.now.reads.items c.args.writes.now temp_files k one known short) in
    only_then IsNewFile _ _ _ (only_new cleared.folder _ _ cleared.changed)
    (only_then IsNewFile _ _ _ c.fill_round.ensures.changes (c.remove_all.ensures.changes all))
