use Rattle.std.proofs.Common.{rules, ◌≡◌, ◌∙◌, ap, subst, refl}
use Rattle.reuse_change.specs.Layout.{journal_folder}
use Rattle.reuse_system.specs.FileStates.{FileState}
use Rattle.reuse_system.specs.Folders.{file_at, folder_at, HaveSameFiles}
use Rattle.reuse_system.specs.SystemLaws.{IsAlikeUnless}
use Rattle.reuse_system.specs.TempFiles.{IsNewIn}
use Rattle.reuse_disk.proofs.EditLemmas.{only_none, only_then}
use Rattle.reuse_folder.specs.Disk.{disk_of, IsSameTree}
use Rattle.reuse_folder.specs.NewFileFolder.{IsJournal}
use Rattle.reuse_folder.proofs.FolderLemmas.{nothing_cleared, cleared_at_error}
use Rattle.reuse_folder.proofs.TreeLemmas.{grown_tree}
use Rattle.reuse_folder.proofs.folder.RootFolder.open_new_file.Given.{Over}
use Rattle.reuse_folder.proofs.folder.RootFolder.open_new_file.Goals.{After-clear, After-enter_seen}
use Rattle.reuse_folder.proofs.folder.RootFolder.open_new_file.Goals as goal

pub returns-in_err-make-clause-cleared : goal.returns-in_err-make-clause-cleared
returns-in_err-make-clause-cleared g c = rw c.make.ensures.kept
    (nothing_cleared _ _ _ c.from_residual.result c.from_residual.ensures.0 c.make.ensures.changes)

-- the journal's folder was made and entered
module _ (g : Over) (c : After-enter_seen g) where
  entered_kept : g.S.System.holds c.enter_seen.new.system ≡ g.S.System.holds c.args.self.now.system
  entered_kept = c.enter_seen.ensures.enters.reads.kept ∙ c.make.ensures.kept

  entered_only : g.S.System.changes c.enter_seen.new.system ≡ g.S.System.changes c.args.self.now.system
  entered_only = c.enter_seen.ensures.enters.reads.changes ∙ c.make.ensures.changes

pub returns-in_err-enter_seen-clause-cleared : goal.returns-in_err-enter_seen-clause-cleared
returns-in_err-enter_seen-clause-cleared g c =
    let at = (goal.at.returns-in_err-enter_seen-clause-cleared g c).After-enter_seen in
    rw (entered_kept g at) (nothing_cleared _ _ _ c.from_residual-in_err-enter_seen.result
    c.from_residual-in_err-enter_seen.ensures.0 (entered_only g at))

pub returns-in_err-current-clause-cleared : goal.returns-in_err-current-clause-cleared
returns-in_err-current-clause-cleared g c =
    let at = (goal.at.returns-in_err-current-clause-cleared g c).After-enter_seen in
    rw (entered_kept g at) (nothing_cleared _ _ _
    c.from_residual-in_err-current.result c.from_residual-in_err-current.ensures.0 (entered_only g at))

pub returns-in_err-folder-clause-cleared : goal.returns-in_err-folder-clause-cleared
returns-in_err-folder-clause-cleared g c =
    let at = (goal.at.returns-in_err-folder-clause-cleared g c).After-enter_seen in
    rw (entered_kept g at) (nothing_cleared _ _ _
    c.from_residual-in_err-folder.result c.from_residual-in_err-folder.ensures.0 (entered_only g at))

pub returns-in_err-names-clause-cleared : goal.returns-in_err-names-clause-cleared
returns-in_err-names-clause-cleared g c =
    let at = (goal.at.returns-in_err-names-clause-cleared g c).After-enter_seen in
    rw (entered_kept g at) (nothing_cleared _ _ _
    c.from_residual-in_err-names.result c.from_residual-in_err-names.ensures.0 (entered_only g at))

pub returns-in_err-current-2-clause-cleared : goal.returns-in_err-current-2-clause-cleared
returns-in_err-current-2-clause-cleared g c =
    let at = (goal.at.returns-in_err-current-2-clause-cleared g c).After-enter_seen in
    rw (entered_kept g at) (nothing_cleared _ _ _
    c.from_residual-in_err-current-2.result c.from_residual-in_err-current-2.ensures.0 (entered_only g at))

pub returns-then-not-is_in-clause-cleared : goal.returns-then-not-is_in-clause-cleared
returns-then-not-is_in-clause-cleared g c =
    let at = (goal.at.returns-then-not-is_in-clause-cleared g c).After-enter_seen in
    rw (entered_kept g at) (nothing_cleared _ _ _ _ refl (entered_only g at))

-- the folder of new files was cleared
module _ (g : Over) (c : After-clear g) where
  abbrev old : FileState
  old = g.S.System.holds c.args.self.now.system

  cleared_kept : g.S.System.holds c.enter_seen.new.system ≡ old
  cleared_kept = c.enter_seen.ensures.enters.reads.kept ∙ c.make.ensures.kept

  cleared_alike : IsAlikeUnless (IsNewIn c.in_folder-new_file.result.folder.identity) old
      (g.S.System.holds c.clear.new.system)
  cleared_alike = rw (← cleared_kept) c.clear.ensures.others

  home : g.S.System.honest c.clear.new.system
      → IsJournal (folder_at (g.S.System.folders c.clear.new.system) journal_folder)
      c.in_folder-new_file.result.folder.identity
  home honest = search rules

  paths : g.S.System.honest c.clear.new.system
      → HaveSameFiles (g.S.System.folders c.args.self.now.system) (g.S.System.folders c.clear.new.system) old
  paths honest path =
      let s = g.S.System in
      let was = c.enter_seen.ensures.enters.reads.earlier (c.clear.ensures.earlier honest) in
      ap (λ f. file_at f old path) (c.clear.ensures.still ∙ c.enter_seen.ensures.enters.reads.still)
      ∙ subst (λ h. HaveSameFiles (s.folders c.args.self.now.system) (s.folders c.make.new.system) h)
      c.make.ensures.kept (c.make.ensures.paths was).files path

  tree : g.S.System.honest c.clear.new.system
      → IsSameTree (disk_of g.S.System c.args.self.now.system) (disk_of g.S.System c.clear.new.system)
  tree honest =
      let s = g.S.System in
      let is = home honest in
      grown_tree (s.folders c.args.self.now.system) (s.folders c.clear.new.system) old (s.holds c.clear.new.system)
      (g.met.S.System.is_tree c.clear.new.system honest) c.in_folder-new_file.result.folder.identity is.1 is.0
      (paths honest) cleared_alike

pub returns-in_err-clear-clause-tree : goal.returns-in_err-clear-clause-tree
returns-in_err-clear-clause-tree g c honest =
    tree g (goal.at.returns-in_err-clear-clause-tree g c).After-clear honest

pub returns-clause-tree : goal.returns-clause-tree
returns-clause-tree g c honest = tree g (goal.at.returns-clause-tree g c).After-clear honest

pub returns-in_err-clear-clause-cleared : goal.returns-in_err-clear-clause-cleared
returns-in_err-clear-clause-cleared g c =
    let s = g.S.System in
    let at = (goal.at.returns-in_err-clear-clause-cleared g c).After-enter_seen in
    let first = s.changes c.args.self.now.system in
    let made = s.changes c.enter_seen.new.system in
    let last = s.changes c.clear.new.system in
    let IsOne = IsNewIn c.in_folder-new_file.result.folder.identity in
    rw (← entered_kept g at)
    (cleared_at_error c.in_folder-new_file.result.folder.identity _ _ _ _ c.from_residual-in_err-clear.result
    c.from_residual-in_err-clear.ensures.0
    (only_then IsOne first made last (only_none IsOne first
    made (entered_only g at)) c.clear.ensures.changes) c.clear.ensures.others)
