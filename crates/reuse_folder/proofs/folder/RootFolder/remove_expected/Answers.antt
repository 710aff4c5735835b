use Rattle.std.proofs.Common.{rules, ◌≡◌, inl, refl, ap, subst, sym, Some, ◌∙◌, IsTrue}
use Rattle.reuse_change.specs.Path.{is_path}
use Rattle.reuse_folder.specs.FolderReads.{LiesIn}
use Rattle.reuse_disk.specs.OpenFolders.{current_of}
use Rattle.reuse_folder.specs.Seen.{LosesNoEdit}
use Rattle.reuse_folder.specs.FolderWrites.{IsGone, IsRemovedIn}
use Rattle.reuse_system.specs.Folders.{folder_above}
use Rattle.reuse_system.specs.Names.{IsNameOf}
use Rattle.reuse_folder.proofs.FolderLemmas.{nothing_removed, removed_at}
use Rattle.reuse_folder.proofs.ReadLemmas.{always, gone_if, gone_reported, no_file_of, removed_in}
use Rattle.reuse_folder.proofs.EditLemmas.{any_due, loses_none, loses_removed}
use Rattle.reuse_system.specs.FileStates.{place_in}
use Rattle.reuse_disk.specs.Written.{LeavesNone}
use Rattle.reuse_folder.proofs.PutLemmas.{none_by_removal}
use Rattle.reuse_system.specs.Names.{IsSplit}
use Rattle.reuse_disk.specs.Noted.{Has}
use Rattle.reuse_folder.proofs.BarrierLemmas.{above_of, has_none, has_noted}
use Rattle.reuse_folder.proofs.TreeLemmas.{removed_on, same_disk}
use Rattle.reuse_folder.proofs.folder.RootFolder.remove_expected.Given.{Over}
use Rattle.reuse_folder.proofs.folder.RootFolder.remove_expected.Goals.{After-look_unless_seen, After-remove_seen}
use Rattle.reuse_folder.proofs.folder.RootFolder.remove_expected.Goals as goal

-- it was only looked at
lose_nothing : (g : Over) (c : After-look_unless_seen g)
    → LosesNoEdit c.args.path.now c.args.expected (g.S.System.changes c.args.self.now.system)
    (g.S.System.changes c.look_unless_seen.new.self.system) (g.S.System.holds c.args.self.now.system)
    (g.S.System.holds c.look_unless_seen.new.self.system)
lose_nothing g c = loses_none c.args.path.now c.args.expected c.args.self.now.ownership.process _ _ _ _
    c.look_unless_seen.ensures.reads.changes c.look_unless_seen.ensures.reads.kept

-- the path lies in the folder that was entered
lies : (g : Over) (c : After-remove_seen g) → g.S.System.honest c.remove_seen.new.system
    → folder_above (g.S.System.folders c.look_unless_seen.new.self.system) c.args.path.now
    ≡ current_of c.look_unless_seen.new.self.open_folders
lies g c honest =
    subst (LiesIn (g.S.System.folders c.look_unless_seen.new.self.system) c.args.path.now
    (current_of c.look_unless_seen.new.self.open_folders)) c.in-File.is
    (c.in_ok-status.ensures.lies (c.remove_seen.ensures.earlier honest))

pub returns-in_err-status-clause-keeps_edits : goal.returns-in_err-status-clause-keeps_edits
returns-in_err-status-clause-keeps_edits g c =
    lose_nothing g (goal.at.returns-in_err-status-clause-keeps_edits g c).After-look_unless_seen

pub returns-in_err-seen-in-File-clause-keeps_edits : goal.returns-in_err-seen-in-File-clause-keeps_edits
returns-in_err-seen-in-File-clause-keeps_edits g c =
    lose_nothing g (goal.at.returns-in_err-seen-in-File-clause-keeps_edits g c).After-look_unless_seen

pub returns-in_err-note-in-File-clause-keeps_edits : goal.returns-in_err-note-in-File-clause-keeps_edits
returns-in_err-note-in-File-clause-keeps_edits g c =
    lose_nothing g (goal.at.returns-in_err-note-in-File-clause-keeps_edits g c).After-look_unless_seen

pub returns-in_err-current-in-File-clause-keeps_edits : goal.returns-in_err-current-in-File-clause-keeps_edits
returns-in_err-current-in-File-clause-keeps_edits g c =
    lose_nothing g (goal.at.returns-in_err-current-in-File-clause-keeps_edits g c).After-look_unless_seen

pub returns-in_err-status-clause-removed : goal.returns-in_err-status-clause-removed
returns-in_err-status-clause-removed g c = rw c.look_unless_seen.ensures.reads.kept (nothing_removed _ _)

pub returns-in_err-seen-in-File-clause-removed : goal.returns-in_err-seen-in-File-clause-removed
returns-in_err-seen-in-File-clause-removed g c = rw c.look_unless_seen.ensures.reads.kept (nothing_removed _ _)

pub returns-in_err-note-in-File-clause-removed : goal.returns-in_err-note-in-File-clause-removed
returns-in_err-note-in-File-clause-removed g c = rw c.look_unless_seen.ensures.reads.kept (nothing_removed _ _)

pub returns-in_err-current-in-File-clause-removed : goal.returns-in_err-current-in-File-clause-removed
returns-in_err-current-in-File-clause-removed g c = rw c.look_unless_seen.ensures.reads.kept (nothing_removed _ _)

pub returns-in_ok-current-in-File-clause-removed : goal.returns-in_ok-current-in-File-clause-removed
returns-in_ok-current-in-File-clause-removed g c =
    let name = c.folder_and_name.result.1.now in
    let named : IsNameOf c.args.path.now name = search rules in
    rw (← c.look_unless_seen.ensures.reads.kept)
    (removed_at c.args.path.now name c.in_ok-current-in-File.field-0.now.identity
    _ _ c.remove_seen.result named c.remove_seen.ensures.removed)

pub returns-in_ok-current-in-File-clause-place : goal.returns-in_ok-current-in-File-clause-place
returns-in_ok-current-in-File-clause-place g c honest =
    let s = g.S.System in
    let path = c.args.path.now in
    let named : IsNameOf path c.folder_and_name.result.1.now = search rules in
    let seen = c.look_unless_seen.new.self.system in
    let b = s.holds c.remove_seen.new.system in
    let removed = removed_in (s.folders seen) path c.folder_and_name.result.1.now
    (current_of c.look_unless_seen.new.self.open_folders) c.in_ok-current-in-File.field-0.now.identity (s.holds seen) b
    c.remove_seen.result named
    (lies g (goal.at.returns-in_ok-current-in-File-clause-place g c).After-remove_seen honest)
    c.in_ok-current-in-File.ensures c.remove_seen.ensures.removed in
    subst
    (λ held. IsRemovedIn (s.folders c.remove_seen.new.system) path held b) c.look_unless_seen.ensures.reads.kept
    (subst (λ reported. IsRemovedIn reported path (s.holds seen) b) (sym c.remove_seen.ensures.still) removed)

pub returns-in_ok-current-in-File-clause-others : goal.returns-in_ok-current-in-File-clause-others
returns-in_ok-current-in-File-clause-others g c honest =
    let s = g.S.System in
    let path = c.args.path.now in
    let old = c.args.self.now.system in
    let now = c.remove_seen.new.system in
    let good : IsTrue (is_path path) = search rules in
    let still = c.remove_seen.ensures.still ∙ c.look_unless_seen.ensures.reads.still in
    removed_on (s.folders old) (s.folders now) (s.holds old) (s.holds now) path still
    (g.met.S.System.is_tree now honest) good (returns-in_ok-current-in-File-clause-place g c honest)

pub returns-in_ok-current-in-File-clause-gone : goal.returns-in_ok-current-in-File-clause-gone
returns-in_ok-current-in-File-clause-gone g c honest =
    let path = c.args.path.now in
    let s = g.S.System in
    let seen = c.look_unless_seen.new.self.system in
    let named : IsNameOf path c.folder_and_name.result.1.now = search rules in
    let now = c.remove_seen.new.system in
    gone_if (s.folders now) (s.folders seen) path c.folder_and_name.result.1.now
    (current_of c.look_unless_seen.new.self.open_folders) c.in_ok-current-in-File.field-0.now.identity (s.holds seen)
    (s.holds now) c.remove_seen.result c.remove_seen.ensures.still named
    (lies g (goal.at.returns-in_ok-current-in-File-clause-gone g c).After-remove_seen honest)
    c.in_ok-current-in-File.ensures c.remove_seen.ensures.removed

pub returns-in_ok-current-in-File-clause-keeps_edits : goal.returns-in_ok-current-in-File-clause-keeps_edits
returns-in_ok-current-in-File-clause-keeps_edits g c =
    let path = c.args.path.now in
    let name = c.folder_and_name.result.1.now in
    let named : IsNameOf path name = search rules in
    let due = any_due c.args.self.now.ownership.process (Some c.in_ok-seen-in-File.seen) in
    loses_removed path name c.args.expected due
    c.in_ok-current-in-File.field-0.now.identity _ _ _ _ named c.in_ok-seen-in-File.ensures refl
    (rw (c.look_unless_seen.ensures.reads.changes, c.look_unless_seen.ensures.reads.kept) at
    (c.remove_seen.ensures.guarded due refl))

pub returns-in_default : goal.returns-in_default
returns-in_default g c =
    let s = g.S.System in
    let path = c.args.path.now in
    let system = c.look_unless_seen.new.self.system in
    let folders = s.folders system in
    let held = s.holds system in
    let current = current_of c.look_unless_seen.new.self.open_folders in
    let place = c.in_ok-status.field-0 in
    let free = no_file_of place c.in_default.not-File in
    record {
      others = λ honest. same_disk (s.folders c.args.self.now.system) folders (s.holds c.args.self.now.system) held path
          c.look_unless_seen.ensures.reads.still c.look_unless_seen.ensures.reads.kept;
      removed = rw c.look_unless_seen.ensures.reads.kept (nothing_removed _ _);
      still = c.look_unless_seen.ensures.reads.still;
      place = λ honest. rw c.look_unless_seen.ensures.reads.kept (inl (λ at. refl));
      gone = λ honest. always c.nothing.result (IsGone folders held path)
          (gone_reported folders held path current place free (c.in_ok-status.ensures.apart honest free));
      none_left = always c.nothing.result (LeavesNone (λ at. Unit {0}) (s.holds c.args.self.now.system) held)
          (λ at any. inl (ap (λ f. f at) c.look_unless_seen.ensures.reads.kept));
      earlier = c.look_unless_seen.ensures.reads.earlier;
      syncs = ap (λ unsynced. unsynced.syncs) c.look_unless_seen.ensures.unsynced;
      stay_noted = λ note has.
          subst (λ unsynced. Has unsynced note) (sym c.look_unless_seen.ensures.unsynced) has;
      noted = λ kept. has_none _ path _ _ c.look_unless_seen.ensures.reads.changes;
      new_file = c.look_unless_seen.ensures.new_file;
      keeps_edits = lose_nothing g (goal.at.returns-in_default g c).After-look_unless_seen;
    }

pub returns-in_ok-current-in-File-clause-none_left : goal.returns-in_ok-current-in-File-clause-none_left
returns-in_ok-current-in-File-clause-none_left g c =
    let s = g.S.System in
    let name = c.folder_and_name.result.1.now in
    rw (← c.look_unless_seen.ensures.reads.kept)
    (none_by_removal (place_in c.in_ok-current-in-File.field-0.now.identity name)
    (s.holds c.look_unless_seen.new.self.system)
    (s.holds c.remove_seen.new.system) c.remove_seen.result c.remove_seen.ensures.removed)

pub returns-in_ok-current-in-File-clause-noted : goal.returns-in_ok-current-in-File-clause-noted
returns-in_ok-current-in-File-clause-noted g c kept =
    let path = c.args.path.now in
    let above = c.folder_and_name.result.0.now in
    let name = c.folder_and_name.result.1.now in
    let split : IsSplit path above name = search rules in
    let noted =
    c.in_ok-note-in-File.ensures.noted (ap (λ unsynced. unsynced.syncs) c.look_unless_seen.ensures.unsynced ∙ kept)
    in
    let unsynced = c.note.new.self in
    has_noted unsynced path c.args.expected _ _ _ _ (above_of unsynced path above name split (inl noted))
    (returns-in_ok-current-in-File-clause-keeps_edits g c)
