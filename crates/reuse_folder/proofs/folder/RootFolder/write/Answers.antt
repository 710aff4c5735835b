use Rattle.std.proofs.Common.{rules, ◌≡◌, ◌≢◌, ◌∙◌, inl, Bool, false, is_ok, refl, subst, sym, ap, IsTrue}
use Rattle.reuse_change.specs.Layout.{journal_folder}
use Rattle.reuse_change.specs.Path.{is_path}
use Rattle.reuse_change.specs.Parts.{joined}
use Rattle.reuse_system.specs.TempFiles.{IsNewIn, IsNewPlace}
use Rattle.reuse_system.specs.FileStates.{Place, place_in}
use Rattle.reuse_system.specs.Folders.{file_at, folder_at}
use Rattle.reuse_disk.specs.OpenFolders.{current_of, AreOpened}
use Rattle.reuse_system.specs.NameChanges.{OnlyChanges}
use Rattle.reuse_system.specs.Names.{IsNameOf, IsSplit}
use Rattle.reuse_system.specs.SystemLaws.{IsAlikeUnless}
use Rattle.reuse_disk.specs.Written.{IsWritten, LeavesNone, is_kept}
use Rattle.reuse_system.specs.declared.place.Identity.{Identity}
use Rattle.reuse_folder.specs.Disk.{disk_of, IsSameTreeBut}
use Rattle.reuse_folder.specs.FolderWrites.{IsPutBy, IsPutTidily}
use Rattle.reuse_folder.specs.NewFileFolder.{IsOpenFor}
use Rattle.reuse_folder.proofs.PutLemmas.{above_here, not_put_by, not_put_in, nothing_put_by, nothing_put_in}
use Rattle.reuse_folder.proofs.PutLemmas.{of_ok, put_by, put_in}
use Rattle.reuse_folder.proofs.ReadLemmas.{named_of}
use Rattle.reuse_folder.proofs.TreeLemmas.{same_but}
use Rattle.reuse_folder.proofs.EditLemmas.{loses_none, loses_only, loses_put, owner_kept}
use Rattle.reuse_disk.specs.Noted.{Has, IsNoted}
use Rattle.reuse_disk.specs.Noted.Note.{Folder}
use Rattle.reuse_folder.specs.declared.folder.seen.Expected.TheVariants as expected
use Rattle.reuse_folder.proofs.BarrierLemmas.{above_of, has_noted, has_only, new_only}
use Rattle.reuse_folder.proofs.folder.RootFolder.write.Given.{Over}
use Rattle.reuse_folder.proofs.folder.RootFolder.write.Goals.{After-enter_seen, After-write-written}
use Rattle.reuse_folder.proofs.folder.RootFolder.write.Goals as goal

-- the folder of new files was cleared, and that of the path entered
module _ (g : Over) (c : After-enter_seen g) where
  entered_alike : IsAlikeUnless (IsNewIn c.take_new_file.ensures.cleared.folder)
      (g.S.System.holds c.args.self.now.system) (g.S.System.holds c.enter_seen.new.system)
  entered_alike = rw c.enter_seen.ensures.enters.reads.kept c.take_new_file.ensures.cleared.others

  entered_only : OnlyChanges (IsNewIn c.take_new_file.ensures.cleared.folder)
      (g.S.System.changes c.args.self.now.system) (g.S.System.changes c.enter_seen.new.system)
  entered_only = rw c.enter_seen.ensures.enters.reads.changes c.take_new_file.ensures.cleared.changed

  not_written_by : (is_done : Bool) → is_done ≡ false → (new_files : Identity)
      × IsPutBy new_files c.args.path.now (joined c.args.parts) (is_kept c.args.self.now.unsynced.syncs)
      (g.S.System.holds c.args.self.now.system) (g.S.System.holds c.enter_seen.new.system) is_done
  not_written_by is_done failed = not_put_by _ c.args.path.now (joined c.args.parts)
      (is_kept c.args.self.now.unsynced.syncs) _ _ is_done failed entered_alike

  not_written_in : (is_done : Bool) → is_done ≡ false
      → IsPutTidily (g.S.System.folders c.enter_seen.new.system) c.args.path.now (joined c.args.parts)
      (is_kept c.args.self.now.unsynced.syncs) (g.S.System.holds c.args.self.now.system)
      (g.S.System.holds c.enter_seen.new.system) is_done
  not_written_in is_done failed = not_put_in (g.S.System.folders c.enter_seen.new.system) c.args.path.now
      (joined c.args.parts) (is_kept c.args.self.now.unsynced.syncs) _ _ is_done _ failed entered_alike

-- the file was written then, or wasn't
module _ (g : Over) (c : After-write-written g) where
  alike : IsAlikeUnless (IsNewIn c.in_ok-new_file.new_file.folder.identity) (g.S.System.holds c.args.self.now.system)
      (g.S.System.holds c.enter_seen.new.system)
  alike =
      let s = g.S.System in
      let cleared = c.in_ok-new_file.ensures.cleared in
      let before : IsAlikeUnless (IsNewIn c.in_ok-new_file.new_file.folder.identity)
      (s.holds c.args.self.now.system) (s.holds c.take_new_file.new.self.system) =
      rw cleared.is_folder cleared.others in
      rw c.enter_seen.ensures.enters.reads.kept before

  written : IsWritten
      (IsNewPlace c.in_ok-new_file.new_file.folder.identity c.in_ok-current.field-0.now.identity)
      (place_in c.in_ok-current.field-0.now.identity c.folder_and_name.result.1.now) (joined c.args.parts)
      (is_kept c.args.self.now.unsynced.syncs) (g.S.System.holds c.enter_seen.new.system)
      (g.S.System.holds c.write-written.new.system) (is_ok c.write-written.result)
  written =
      let syncs : c.take_new_file.new.self.unsynced.syncs ≡ c.args.self.now.unsynced.syncs = search rules in
      rw syncs at c.write-written.ensures.written

pub returns-in_err-note-clause-written : goal.returns-in_err-note-clause-written
returns-in_err-note-clause-written g c =
    let s = g.S.System in
    let failed : is_ok c.from_residual.result ≡ false = search rules in
    nothing_put_by c.args.path.now (joined c.args.parts) (is_kept c.args.self.now.unsynced.syncs)
    (s.holds c.args.self.now.system) (is_ok c.from_residual.result) failed

pub returns-in_err-note-clause-place : goal.returns-in_err-note-clause-place
returns-in_err-note-clause-place g c honest =
    let s = g.S.System in
    let failed : is_ok c.from_residual.result ≡ false = search rules in
    nothing_put_in (s.folders c.args.self.now.system) c.args.path.now (joined c.args.parts)
    (is_kept c.args.self.now.unsynced.syncs) (s.holds c.args.self.now.system)
    (is_ok c.from_residual.result) failed

pub returns-in_err-new_file-clause-written : goal.returns-in_err-new_file-clause-written
returns-in_err-new_file-clause-written g c =
    let s = g.S.System in
    let failed : is_ok c.from_residual-in_err-new_file.result ≡ false = search rules in
    let cleared = c.take_new_file.ensures.cleared in
    not_put_by cleared.folder c.args.path.now (joined c.args.parts) (is_kept c.args.self.now.unsynced.syncs)
    (s.holds c.args.self.now.system) (s.holds c.take_new_file.new.self.system)
    (is_ok c.from_residual-in_err-new_file.result) failed cleared.others

pub returns-in_err-new_file-clause-place : goal.returns-in_err-new_file-clause-place
returns-in_err-new_file-clause-place g c honest =
    let s = g.S.System in
    let failed : is_ok c.from_residual-in_err-new_file.result ≡ false = search rules in
    let cleared = c.take_new_file.ensures.cleared in
    not_put_in (s.folders c.take_new_file.new.self.system) c.args.path.now (joined c.args.parts)
    (is_kept c.args.self.now.unsynced.syncs) (s.holds c.args.self.now.system)
    (s.holds c.take_new_file.new.self.system)
    (is_ok c.from_residual-in_err-new_file.result) cleared.folder failed cleared.others

pub returns-in_err-enter_seen-clause-written : goal.returns-in_err-enter_seen-clause-written
returns-in_err-enter_seen-clause-written g c =
    let failed : is_ok c.from_residual-in_err-enter_seen.result ≡ false = search rules in
    not_written_by g (goal.at.returns-in_err-enter_seen-clause-written g c).After-enter_seen _ failed

pub returns-in_err-current-clause-written : goal.returns-in_err-current-clause-written
returns-in_err-current-clause-written g c =
    let failed : is_ok c.from_residual-in_err-current.result ≡ false = search rules in
    not_written_by g (goal.at.returns-in_err-current-clause-written g c).After-enter_seen _ failed

pub returns-in_err-enter_seen-clause-place : goal.returns-in_err-enter_seen-clause-place
returns-in_err-enter_seen-clause-place g c honest =
    let failed : is_ok c.from_residual-in_err-enter_seen.result ≡ false = search rules in
    not_written_in g (goal.at.returns-in_err-enter_seen-clause-place g c).After-enter_seen _ failed

pub returns-in_err-current-clause-place : goal.returns-in_err-current-clause-place
returns-in_err-current-clause-place g c honest =
    let failed : is_ok c.from_residual-in_err-current.result ≡ false = search rules in
    not_written_in g (goal.at.returns-in_err-current-clause-place g c).After-enter_seen _ failed

pub returns-clause-written : goal.returns-clause-written
returns-clause-written g c =
    let at = (goal.at.returns-clause-written g c).After-write-written in
    let path = c.args.path.now in
    let above = c.folder_and_name.result.0.now in
    let name = c.folder_and_name.result.1.now in
    let split : IsSplit path above name = search rules in
    rw c.note_written.ensures.system (put_by c.in_ok-new_file.new_file.folder.identity
    c.in_ok-current.field-0.now.identity path name (joined c.args.parts) (is_kept c.args.self.now.unsynced.syncs) _
    (g.S.System.holds c.enter_seen.new.system) _ (is_ok c.write-written.result) (named_of path above name split)
    (alike g at) c.write-written.ensures.apart (written g at))

pub returns-clause-place : goal.returns-clause-place
returns-clause-place g c honest =
    let s = g.S.System in
    let at = (goal.at.returns-clause-place g c).After-write-written in
    let split : IsSplit c.args.path.now c.folder_and_name.result.0.now c.folder_and_name.result.1.now = search rules in
    let folder = c.in_ok-current.field-0.now.identity in
    let new_files = c.in_ok-new_file.new_file.folder.identity in
    let a = s.holds c.args.self.now.system in
    let b = s.holds c.enter_seen.new.system in
    let d = s.holds c.write-written.new.system in
    let late = rw c.note_written.ensures.system at honest in
    let entered =
    c.in_ok-enter_seen.ensures.entered c.take_new_file.new.self.opened (c.write-written.ensures.earlier late) in
    let cleared = c.in_ok-new_file.ensures.cleared in
    let none : LeavesNone (IsNewIn new_files) a (s.holds c.take_new_file.new.self.system) =
    rw cleared.is_folder cleared.none_left in
    let none_left : LeavesNone (IsNewIn new_files) a b = rw c.enter_seen.ensures.enters.reads.kept none in
    rw c.note_written.ensures.system
    (put_in (s.folders c.write-written.new.system) (s.folders c.enter_seen.new.system) c.args.path.now
    c.folder_and_name.result.0.now c.folder_and_name.result.1.now (current_of c.enter_seen.new.self) new_files folder
    (joined c.args.parts) (is_kept c.args.self.now.unsynced.syncs) a b d (is_ok c.write-written.result)
    c.write-written.ensures.still split entered c.in_ok-current.ensures (alike g at) none_left
    c.write-written.ensures.apart (written g at)
    (of_ok c.write-written.result (LeavesNone (IsNewPlace new_files folder) b d)
    (c.write-written.ensures.none_left late)))

pub invariant_of-self-2 : goal.invariant_of-self-2
invariant_of-self-2 g c =
    let was = c.enter_seen.ensures.enters.opened c.take_new_file.new.self.opened in
    record {
      opened = λ honest. subst (λ folders. AreOpened folders c.enter_seen.new.self)
          (sym c.write-written.ensures.still)
          (was (c.write-written.ensures.earlier honest));
      home = λ honest. subst
          (λ folders. IsOpenFor c.take_new_file.new.self.new_file (folder_at folders journal_folder))
          (sym (c.write-written.ensures.still ∙ c.enter_seen.ensures.enters.reads.still))
          (c.take_new_file.new.self.home
          (c.enter_seen.ensures.enters.reads.earlier (c.write-written.ensures.earlier honest)));
    }

pub returns-in_err-note-clause-keeps_edits : goal.returns-in_err-note-clause-keeps_edits
returns-in_err-note-clause-keeps_edits g c expected seen =
    loses_none c.args.path.now expected c.args.self.now.ownership.process _ _ _ _ refl refl

pub returns-in_err-new_file-clause-keeps_edits : goal.returns-in_err-new_file-clause-keeps_edits
returns-in_err-new_file-clause-keeps_edits g c expected seen =
    let cleared = c.take_new_file.ensures.cleared in
    loses_only c.args.path.now expected c.args.self.now.ownership.process cleared.folder _ _ _ _
    cleared.changed cleared.others

pub returns-in_err-enter_seen-clause-keeps_edits : goal.returns-in_err-enter_seen-clause-keeps_edits
returns-in_err-enter_seen-clause-keeps_edits g c expected seen =
    let at = (goal.at.returns-in_err-enter_seen-clause-keeps_edits g c).After-enter_seen in
    loses_only c.args.path.now expected c.args.self.now.ownership.process _ _ _ _ _ (entered_only g at)
    (entered_alike g at)

pub returns-in_err-current-clause-keeps_edits : goal.returns-in_err-current-clause-keeps_edits
returns-in_err-current-clause-keeps_edits g c expected seen =
    let at = (goal.at.returns-in_err-current-clause-keeps_edits g c).After-enter_seen in
    loses_only c.args.path.now expected c.args.self.now.ownership.process _ _ _ _ _ (entered_only g at)
    (entered_alike g at)

pub returns-clause-keeps_edits : goal.returns-clause-keeps_edits
returns-clause-keeps_edits g c expected seen =
    let s = g.S.System in
    let name = c.folder_and_name.result.1.now in
    let named : IsNameOf c.args.path.now name = search rules in
    let folder = c.in_ok-current.field-0.now.identity in
    let new_files = c.in_ok-new_file.new_file.folder.identity in
    let first = s.changes c.args.self.now.system in
    let second = s.changes c.enter_seen.new.system in
    let cleared = c.in_ok-new_file.ensures.cleared in
    let cleared_only : OnlyChanges (IsNewIn new_files) first (s.changes c.take_new_file.new.self.system) =
    rw cleared.is_folder cleared.changed in
    let only : OnlyChanges (IsNewIn new_files) first second =
    rw c.enter_seen.ensures.enters.reads.changes cleared_only in
    rw c.note_written.ensures.system (loses_put c.args.path.now name expected _ new_files folder first second
    (s.changes c.write-written.new.system) _ (s.holds c.enter_seen.new.system) _ named seen
    (owner_kept c.take_new_file.new.self.ownership.process c.args.found c.in_ok-current.field-0.now.owner
    c.in_ok-current.field-0.now.passes_group c.wanted.result.owner c.wanted.ensures.owner) only
    (alike g (goal.at.returns-clause-keeps_edits g c).After-write-written) c.write-written.ensures.guarded)

pub returns-in_err-new_file-clause-noted : goal.returns-in_err-new_file-clause-noted
returns-in_err-new_file-clause-noted g c kept =
    let cleared = c.take_new_file.ensures.cleared in
    has_only _ c.args.path.now _ _ (new_only cleared.folder _ _ cleared.changed)

pub returns-in_err-enter_seen-clause-noted : goal.returns-in_err-enter_seen-clause-noted
returns-in_err-enter_seen-clause-noted g c kept = has_only _ c.args.path.now _ _
    (new_only _ _ _ (entered_only g (goal.at.returns-in_err-enter_seen-clause-noted g c).After-enter_seen))

pub returns-in_err-current-clause-noted : goal.returns-in_err-current-clause-noted
returns-in_err-current-clause-noted g c kept = has_only _ c.args.path.now _ _
    (new_only _ _ _ (entered_only g (goal.at.returns-in_err-current-clause-noted g c).After-enter_seen))

pub returns-clause-noted : goal.returns-clause-noted
returns-clause-noted g c kept =
    let path = c.args.path.now in
    let above = c.folder_and_name.result.0.now in
    let name = c.folder_and_name.result.1.now in
    let split : IsSplit path above name = search rules in
    let first : IsNoted c.note.new.self above = inl (c.in_ok-note.ensures.noted kept) in
    let last = c.write-written.ensures.noted (Folder above) (c.take_new_file.ensures.stay_noted (Folder above) first) in
    let loses = returns-clause-keeps_edits g c expected.Found tt in
    let unsynced = c.write-written.new.unsynced in
    rw c.note_written.ensures.unsynced
    (has_noted unsynced path expected.Found _ _ _ _ (above_of unsynced path above name split last) loses)

-- the file was written then, or wasn't: no other path leads to another
module _ (g : Over) (c : After-write-written g) (honest : g.S.System.honest c.write-written.new.system) where
  entered_honest : g.S.System.honest c.take_new_file.new.self.system
  entered_honest = c.enter_seen.ensures.enters.reads.earlier (c.write-written.ensures.earlier honest)

  same_folders : g.S.System.folders c.write-written.new.system ≡ g.S.System.folders c.take_new_file.new.self.system
  same_folders = c.write-written.ensures.still ∙ c.enter_seen.ensures.enters.reads.still

  other_files : (place : Place)
      → ¬ (IsNewPlace c.in_ok-new_file.new_file.folder.identity c.in_ok-current.field-0.now.identity place)
      → place ≢ place_in c.in_ok-current.field-0.now.identity c.folder_and_name.result.1.now
      → g.S.System.holds c.write-written.new.system place ≡ g.S.System.holds c.take_new_file.new.self.system place
  other_files place new other =
      (written g c).others place new other ∙ ap (λ held. held place) c.enter_seen.ensures.enters.reads.kept

  other_paths : IsSplit c.args.path.now c.folder_and_name.result.0.now c.folder_and_name.result.1.now
      → IsTrue (is_path c.args.path.now)
      → IsSameTreeBut c.args.path.now (disk_of g.S.System c.args.self.now.system)
      (disk_of g.S.System c.write-written.new.system)
  other_paths split good other of_tree apart =
      let s = g.S.System in
      let path = c.args.path.now in
      let now = c.write-written.new.system in
      let is = c.in_ok-new_file.ensures.home entered_honest in
      let above =
      above_here (s.folders now) (s.folders c.enter_seen.new.system) (s.holds now) path c.folder_and_name.result.0.now
      c.folder_and_name.result.1.now (current_of c.enter_seen.new.self) c.in_ok-current.field-0.now.identity
      c.write-written.ensures.still split
      (c.in_ok-enter_seen.ensures.entered c.take_new_file.new.self.opened (c.write-written.ensures.earlier honest))
      c.in_ok-current.ensures in
      same_but (s.folders now) (s.holds now) (g.met.S.System.is_tree now honest)
      c.in_ok-new_file.new_file.folder.identity is.1 (ap (λ f. folder_at f journal_folder) same_folders ∙ is.0)
      (s.holds c.take_new_file.new.self.system) (s.holds now) path c.folder_and_name.result.1.now
      c.in_ok-current.field-0.now.identity good (named_of path c.folder_and_name.result.0.now
      c.folder_and_name.result.1.now split) above other_files other of_tree apart
      ∙ ap (λ f. file_at f (s.holds c.take_new_file.new.self.system) other) same_folders
      ∙ c.take_new_file.ensures.tree entered_honest other of_tree

pub returns-clause-others : goal.returns-clause-others
returns-clause-others g c honest =
    let at = (goal.at.returns-clause-others g c).After-write-written in
    let split : IsSplit c.args.path.now c.folder_and_name.result.0.now c.folder_and_name.result.1.now = search rules in
    let good : IsTrue (is_path c.args.path.now) = search rules in
    rw c.note_written.ensures.system (other_paths g at (rw c.note_written.ensures.system at honest) split good)

pub returns-clause-stay_noted : goal.returns-clause-stay_noted
returns-clause-stay_noted g c note has =
    subst (λ unsynced. Has unsynced note) (sym c.note_written.ensures.unsynced)
    (c.write-written.ensures.noted note (c.take_new_file.ensures.stay_noted note (c.note.ensures.kept note has)))
