use Rattle.std.proofs.Common.{subst, sym}
use Rattle.reuse_system.specs.FileStates.{place_in}
use Rattle.reuse_system.specs.NameTree.{IsNameTree}
use Rattle.reuse_disk.specs.KeptPaths.{KeepsPaths}
use Rattle.reuse_disk.proofs.MadeFolders.{at_grown}
use Rattle.reuse_disk.proofs.SameFiles.{same_files}
use Rattle.reuse_change.specs.Layout.{journal_folder}
use Rattle.reuse_disk.proofs.open_folders.OpenFolders.open_or_make.Given.{Over}
use Rattle.reuse_disk.proofs.open_folders.OpenFolders.open_or_make.Goals.{After-make_folder}
use Rattle.reuse_disk.proofs.open_folders.OpenFolders.open_or_make.Goals as goal

-- a folder was made, or was to be
made : (g : Over) (c : After-make_folder g) → g.S.System.honest c.make_folder.new.self
    → KeepsPaths (g.S.System.holds c.make_folder.new.self) (g.S.System.folders c.args.system.now)
    (g.S.System.folders c.make_folder.new.self)
made g c honest =
    let s = g.S.System in
    let before = c.open_below.new.self in
    let now = c.make_folder.new.self in
    let is_made = c.make_folder.ensures.made in
    let kept = c.make_folder.ensures.kept in
    let old_tree = g.met.S.System.is_tree before (c.make_folder.ensures.earlier honest) in
    let new_tree : IsNameTree (s.folders now) (s.holds before) =
    subst (IsNameTree (s.folders now)) kept (g.met.S.System.is_tree now honest) in
    let step : KeepsPaths (s.holds before) (s.folders before) (s.folders now) = record {
      files = same_files (s.holds before) (place_in c.in_ok-above.above.now.identity c.args.name.now)
          (s.folders before) (s.folders now) is_made.others old_tree new_tree;
      journal = at_grown (s.folders before) (s.folders now) is_made.grown journal_folder;
    } in
    subst (λ held. KeepsPaths held (s.folders c.args.system.now) (s.folders now)) (sym kept)
    (subst (λ folders. KeepsPaths (s.holds before) folders (s.folders now)) c.open_below.ensures.still step)

pub returns-in_err-make_folder-in-Other-Nothing-clause-paths : goal.returns-in_err-make_folder-in-Other-Nothing-clause-paths
returns-in_err-make_folder-in-Other-Nothing-clause-paths g c =
    made g (goal.at.returns-in_err-make_folder-in-Other-Nothing-clause-paths g c).After-make_folder

pub returns-then-is_of_root-clause-paths : goal.returns-then-is_of_root-clause-paths
returns-then-is_of_root-clause-paths g c honest =
    let reads = c.open_made_by_root.ensures.reads in
    rw (reads.kept, reads.still) (made g (goal.at.returns-then-is_of_root-clause-paths g c).After-make_folder
    (reads.earlier honest))

pub returns-else-is_of_root-clause-paths : goal.returns-else-is_of_root-clause-paths
returns-else-is_of_root-clause-paths g c honest =
    let last = c.open_below-in-Other-Nothing.ensures in
    rw (last.kept, last.still) (made g (goal.at.returns-else-is_of_root-clause-paths g c).After-make_folder
    (last.earlier honest))
