use Rattle.std.proofs.Common.{rules, ◌≡◌, ◌≢◌, ◌∙◌, subst, sym, true, Some}
use Rattle.reuse_change.specs.Layout.{above_journal, journal_folder}
use Rattle.reuse_change.specs.Path.{is_path}
use Rattle.reuse_system.specs.Names.{IsSplit}
use Rattle.reuse_system.specs.FileStates.{place_in}
use Rattle.reuse_system.specs.Folders.{folder_at}
use Rattle.reuse_system.specs.NameTree.{IsNameTree}
use Rattle.reuse_disk.specs.KeptPaths.{KeepsPaths}
use Rattle.reuse_disk.specs.OpenFolders.{AreOpenedIf}
use Rattle.reuse_disk.proofs.JournalStays.{journal_stays}
use Rattle.reuse_disk.proofs.MadeFolders.{root_stays}
use Rattle.reuse_disk.proofs.SameFiles.{kept_none, kept_then, same_files}
use Rattle.reuse_disk.proofs.empty_folders.remove_folders.Given.{Over}
use Rattle.reuse_disk.proofs.empty_folders.remove_folders.Goals.{After-enter_seen, After-remove_folder-removed}
use Rattle.reuse_disk.proofs.empty_folders.remove_folders.Goals as goal

-- entering folders changes nothing
entered : (g : Over) (c : After-enter_seen g)
    → AreOpenedIf (g.S.System.honest c.args.system.now) (g.S.System.folders c.args.system.now) c.args.open_folders.now
    → g.S.System.honest c.enter_seen.new.system
    → KeepsPaths (g.S.System.holds c.enter_seen.new.system) (g.S.System.folders c.args.system.now)
    (g.S.System.folders c.enter_seen.new.system)
entered g c right honest =
    let s = g.S.System in
    let reads = c.enter_seen.ensures.enters.reads in
    rw (reads.kept, reads.still) (c.loop-folder.invariant.6 right (reads.earlier honest))

-- a folder was removed, or was to be
removed : (g : Over) (c : After-remove_folder-removed g)
    → AreOpenedIf (g.S.System.honest c.args.system.now) (g.S.System.folders c.args.system.now) c.args.open_folders.now
    → g.S.System.honest c.remove_folder-removed.new.self
    → KeepsPaths (g.S.System.holds c.remove_folder-removed.new.self) (g.S.System.folders c.args.system.now)
    (g.S.System.folders c.remove_folder-removed.new.self)
removed g c right honest =
    let s = g.S.System in
    let before = c.enter_seen.new.system in
    let now = c.remove_folder-removed.new.self in
    let was : s.honest before = c.remove_folder-removed.ensures.earlier honest in
    let reads = c.enter_seen.ensures.enters.reads in
    let first : KeepsPaths (s.holds before) (s.folders c.args.system.now) (s.folders before) =
    rw (reads.kept, reads.still) (c.loop-folder.invariant.6 right (reads.earlier was)) in
    let path = c.in-Some.folder.now in
    let above = c.folder_and_name.result.0.now in
    let name = c.folder_and_name.result.1.now in
    let at = c.in_ok-current.field-0.now.identity in
    let good : is_path path ≡ true = c.text.ensures.path in
    let split : IsSplit path above name = search rules in
    let apart : path ≢ above_journal = search rules in
    let other : path ≢ journal_folder = search rules in
    let lies : folder_at (s.folders before) above ≡ Some at =
    c.in_ok-enter_seen.ensures.entered (c.loop-folder.invariant.4 right) was ∙ c.in_ok-current.ensures in
    let alike = c.remove_folder-removed.ensures.removed.others in
    let kept = c.remove_folder-removed.ensures.kept in
    let old_tree = g.met.S.System.is_tree before was in
    let new_tree : IsNameTree (s.folders now) (s.holds before) =
    subst (IsNameTree (s.folders now)) kept (g.met.S.System.is_tree now honest) in
    let second : KeepsPaths (s.holds before) (s.folders before) (s.folders now) = record {
      files = same_files (s.holds before) (place_in at name) (s.folders before) (s.folders now) alike old_tree new_tree;
      journal = journal_stays (s.folders before) (s.folders now) (s.holds before) old_tree at path above name alike good
          split lies apart other;
    } in
    subst (λ held. KeepsPaths held (s.folders c.args.system.now) (s.folders now)) (sym kept)
    (kept_then (s.folders c.args.system.now) (s.folders before) (s.folders now) (s.holds before) first second)

pub loop-folder-preserved : goal.loop-folder-preserved
loop-folder-preserved g c =
    let s = g.S.System in
    let before = c.enter_seen.new.system in
    let now = c.remove_folder-removed.new.self in
    let folders = s.folders now in (
      tt,
      tt,
      c.remove_folder-removed.ensures.kept ∙ c.enter_seen.ensures.enters.reads.kept ∙ c.loop-folder.invariant.2,
      (λ honest. c.loop-folder.invariant.3
          (c.enter_seen.ensures.enters.reads.earlier (c.remove_folder-removed.ensures.earlier honest))),
      (λ right honest. c.close.ensures folders
          (root_stays (s.folders before) folders c.enter_seen.new.self _
          c.remove_folder-removed.ensures.removed.others
          (c.enter_seen.ensures.enters.opened (c.loop-folder.invariant.4 right)
          (c.remove_folder-removed.ensures.earlier honest)).0)),
      c.remove_folder-removed.ensures.changes ∙ c.enter_seen.ensures.enters.reads.changes ∙ c.loop-folder.invariant.5,
      removed g (goal.at.loop-folder-preserved g c).After-remove_folder-removed,
    )

pub returns-in_err-removed-clause-opened : goal.returns-in_err-removed-clause-opened
returns-in_err-removed-clause-opened g c right honest =
    let s = g.S.System in
    let before = c.enter_seen.new.system in
    let now = c.remove_folder-removed.new.self in
    let folders = s.folders now in
    c.close.ensures folders
    (root_stays (s.folders before) folders c.enter_seen.new.self _
    c.remove_folder-removed.ensures.removed.others
    (c.enter_seen.ensures.enters.opened (c.loop-folder.invariant.4 right)
    (c.remove_folder-removed.ensures.earlier honest)).0)

pub returns-then-eq-clause-paths : goal.returns-then-eq-clause-paths
returns-then-eq-clause-paths g c = c.loop-folder.invariant.6

pub returns-clause-paths : goal.returns-clause-paths
returns-clause-paths g c = c.loop-folder.invariant.6

pub returns-in_err-enter_seen-clause-paths : goal.returns-in_err-enter_seen-clause-paths
returns-in_err-enter_seen-clause-paths g c =
    entered g (goal.at.returns-in_err-enter_seen-clause-paths g c).After-enter_seen

pub returns-in_err-current-clause-paths : goal.returns-in_err-current-clause-paths
returns-in_err-current-clause-paths g c =
    entered g (goal.at.returns-in_err-current-clause-paths g c).After-enter_seen

pub returns-in_err-removed-clause-paths : goal.returns-in_err-removed-clause-paths
returns-in_err-removed-clause-paths g c =
    removed g (goal.at.returns-in_err-removed-clause-paths g c).After-remove_folder-removed
