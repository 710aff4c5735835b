use Rattle.std.proofs.Common.{rules, ◌≡◌, ◌∙◌, ◌∷◌, [], ℕ, Bool, List, Some, false, true, is_ok, Ok, Err, ap}
use Rattle.std.proofs.Common.{refl, subst, sym}
use Rattle.reuse_system.specs.TempFiles.{key_of, place_of, IsNewPlace}
use Rattle.reuse_system.specs.FileStates.{file, place_in}
use Rattle.reuse_change.specs.Layout.{journal_folder}
use Rattle.reuse_system.specs.Folders.{Folders, folder_above, folder_at}
use Rattle.reuse_system.specs.NameChanges.{change_at}
use Rattle.reuse_system.specs.Names.{IsNameOf, IsSplit}
use Rattle.reuse_disk.specs.OpenFolders.{current_of, AreOpened}
use Rattle.reuse_disk.specs.Written.{is_kept, is_named, IsWritten}
use Rattle.reuse_disk.proofs.EditLemmas.{only_one}
use Rattle.reuse_disk.proofs.WrittenLemmas.{discarded_alike}
use Rattle.reuse_folder.specs.Barriers.{HasNoted, IsNotedAbove}
use Rattle.reuse_folder.specs.Disk.{Disk, disk_of}
use Rattle.reuse_folder.specs.NewFileFolder.{IsOpenFor}
use Rattle.reuse_folder.specs.Rounds.{IsNamed, StandsTempFile}
use Rattle.reuse_folder.specs.Seen.{IsKnown, IsKnownTempFile, IsNewFile, LoseNoEdits}
use Rattle.reuse_folder.specs.declared.folder.seen.ReadPath.{ReadPath}
use Rattle.reuse_folder.proofs.NamedLemmas.{bytes_temp_file, named_beside, named_here, named_stuck, naming_failed}
use Rattle.reuse_folder.proofs.NamedLemmas.{written_from}
use Rattle.reuse_folder.proofs.Disks.{disk_with}
use Rattle.reuse_folder.proofs.PutLemmas.{above_here}
use Rattle.reuse_folder.proofs.EditLemmas.{owner_kept}
use Rattle.reuse_folder.proofs.SeenLemmas.{lose_beside, lose_named, lose_none, lose_only, lose_then}
use Rattle.reuse_folder.proofs.BarrierLemmas.{above_later, guarded_noted, has_later, has_none, has_only, has_then}
use Rattle.reuse_folder.proofs.folder.RootFolder.name_one.Given.{Over}
use Rattle.reuse_folder.proofs.folder.RootFolder.name_one.Goals.{After-discard, After-name_temp_file}
use Rattle.reuse_folder.proofs.folder.RootFolder.name_one.Goals as goal

-- the name was to be given to the new file, in the folder that was entered
module _ (g : Over) (c : After-name_temp_file g) where
  named : IsNameOf c.args.write.now.path.now c.folder_and_name.result.1.now
  named = search rules

  -- the folder lies where the path leads, and nothing else differs up to here
  above : (folders : Folders) → folders ≡ g.S.System.folders c.name_temp_file.new.system
      → g.S.System.honest c.name_temp_file.new.system
      → folder_above folders c.args.write.now.path.now ≡ Some c.in_ok-current.field-0.now.identity
  above folders still honest =
      let s = g.S.System in
      let path = c.args.write.now.path.now in
      let split : IsSplit path c.folder_and_name.result.0.now c.folder_and_name.result.1.now = search rules in
      above_here folders (s.folders c.enter_seen.new.system) (s.holds c.name_temp_file.new.system) path
      c.folder_and_name.result.0.now c.folder_and_name.result.1.now (current_of c.enter_seen.new.self)
      c.in_ok-current.field-0.now.identity (still ∙ c.name_temp_file.ensures.still) split
      (c.in_ok-enter_seen.ensures.entered c.args.self.now.opened (c.name_temp_file.ensures.earlier honest))
      c.in_ok-current.ensures

  stood : (count number : ℕ)
      → StandsTempFile c.args.new_file.now.folder.identity count (is_kept c.args.self.now.unsynced.syncs)
      (g.S.System.holds c.args.self.now.system) number c.args.write.now c.args.new.now
      → StandsTempFile c.args.new_file.now.folder.identity count (is_kept c.args.self.now.unsynced.syncs)
      (g.S.System.holds c.enter_seen.new.system) number c.args.write.now c.args.new.now
  stood count number = subst (λ held. StandsTempFile c.args.new_file.now.folder.identity count
      (is_kept c.args.self.now.unsynced.syncs) held number c.args.write.now c.args.new.now)
      (sym c.enter_seen.ensures.enters.reads.kept)

  since_start : (count number : ℕ) (last : Disk) (done : Bool)
      → IsNamed c.args.new_file.now.folder.identity count (is_kept c.args.self.now.unsynced.syncs) number
      c.args.write.now c.args.new.now
      (disk_with g.S.System c.args.self.now.system (g.S.System.holds c.enter_seen.new.system)) last done
      → IsNamed c.args.new_file.now.folder.identity count (is_kept c.args.self.now.unsynced.syncs) number
      c.args.write.now c.args.new.now (disk_of g.S.System c.args.self.now.system) last done
  since_start count number last done = subst (λ held. IsNamed c.args.new_file.now.folder.identity count
      (is_kept c.args.self.now.unsynced.syncs) number c.args.write.now c.args.new.now
      (disk_with g.S.System c.args.self.now.system held) last done) c.enter_seen.ensures.enters.reads.kept

  written : (done : Bool) → is_named c.name_temp_file.result ≡ done → (bytes : List ℕ) → (durable : Bool)
      → g.S.System.holds c.enter_seen.new.system (place_of c.args.new.now.temp_file)
      ≡ file (key_of c.args.new.now.temp_file) bytes durable
      → IsWritten (λ place. place ≡ place_of c.args.new.now.temp_file)
      (place_in c.in_ok-current.field-0.now.identity c.folder_and_name.result.1.now) bytes durable
      (g.S.System.holds c.enter_seen.new.system) (g.S.System.holds c.name_temp_file.new.system) done
  written done is bytes durable at = subst
      (λ done. IsWritten (λ place. place ≡ place_of c.args.new.now.temp_file)
      (place_in c.in_ok-current.field-0.now.identity c.folder_and_name.result.1.now) bytes durable
      (g.S.System.holds c.enter_seen.new.system) (g.S.System.holds c.name_temp_file.new.system) done) is
      (c.name_temp_file.ensures.named bytes durable at)

  -- no edit is lost by that, and the folder above is noted
  module _ (reads : List ReadPath) (known : IsKnownTempFile reads c.args.write.now.path.now c.args.new.now) where
    lose_naming : LoseNoEdits reads (c.args.write.now ∷ []) (g.S.System.changes c.args.self.now.system)
        (g.S.System.changes c.name_temp_file.new.system)
    lose_naming =
        let s = g.S.System in
        let write = c.args.write.now in
        let due = known.2.due in
        let is_known : IsKnown reads write.path.now due.seen =
        subst (λ seen. IsKnown reads write.path.now seen) (sym known.2.is_seen) known.1 in
        lose_then reads (write ∷ []) _ (s.changes c.enter_seen.new.system) _
        (lose_none reads (write ∷ []) _ _ c.enter_seen.ensures.enters.reads.changes)
        (lose_named reads write c.folder_and_name.result.1.now c.in_ok-current.field-0.now.identity
        (place_of c.args.new.now.temp_file) due _ _ _ _ named is_known known.2.keeps known.0
        (c.name_temp_file.ensures.guarded due known.2.is_seen known.2.as_due))

    noted_naming : IsNotedAbove c.args.self.now.unsynced c.args.write.now.path.now
        → HasNoted c.args.self.now.unsynced c.args.write.now.path.now (g.S.System.changes c.args.self.now.system)
        (g.S.System.changes c.name_temp_file.new.system)
    noted_naming above =
        let s = g.S.System in
        let path = c.args.write.now.path.now in
        let from = place_of c.args.new.now.temp_file in
        let unsynced = c.args.self.now.unsynced in
        has_then unsynced path _ (s.changes c.enter_seen.new.system) _
        (has_none unsynced path _ _ c.enter_seen.ensures.enters.reads.changes)
        (guarded_noted unsynced path c.folder_and_name.result.1.now c.in_ok-current.field-0.now.identity
        (λ place. place ≡ from) known.2.due _ _ _ _ above named (λ place is. subst IsNewFile (sym is) known.0)
        (c.name_temp_file.ensures.guarded known.2.due known.2.is_seen known.2.as_due))

-- the new file was removed then
module _ (g : Over) (c : After-discard g) (reads : List ReadPath)
    (known : IsKnownTempFile reads c.args.write.now.path.now c.args.new.now) where
  lose_discarded : LoseNoEdits reads (c.args.write.now ∷ []) (g.S.System.changes c.args.self.now.system)
      (g.S.System.changes c.name_temp_file.new.system)
      → LoseNoEdits reads (c.args.write.now ∷ []) (g.S.System.changes c.args.self.now.system)
      (g.S.System.changes c.discard.new.self)
  lose_discarded before =
      let s = g.S.System in
      let write = c.args.write.now in
      let d = s.changes c.name_temp_file.new.system in
      let e = s.changes c.discard.new.self in
      lose_then reads (write ∷ []) _ d e before
      (lose_only reads (write ∷ []) d e (only_one IsNewFile d e
      (change_at (s.looked c.name_temp_file.new.system) (place_of c.args.new.now.temp_file)) c.discard.ensures.changes
      known.0))

  noted_discarded : HasNoted c.args.self.now.unsynced c.args.write.now.path.now
      (g.S.System.changes c.args.self.now.system) (g.S.System.changes c.name_temp_file.new.system)
      → HasNoted c.args.self.now.unsynced c.args.write.now.path.now (g.S.System.changes c.args.self.now.system)
      (g.S.System.changes c.discard.new.self)
  noted_discarded before =
      let s = g.S.System in
      let path = c.args.write.now.path.now in
      let d = s.changes c.name_temp_file.new.system in
      let e = s.changes c.discard.new.self in
      let unsynced = c.args.self.now.unsynced in
      has_then unsynced path _ d e before
      (has_only unsynced path d e (only_one IsNewFile d e
      (change_at (s.looked c.name_temp_file.new.system) (place_of c.args.new.now.temp_file)) c.discard.ensures.changes
      known.0))

pub returns-in_err-name_temp_file-clause-named : goal.returns-in_err-name_temp_file-clause-named
returns-in_err-name_temp_file-clause-named g c honest count number stands =
    let s = g.S.System in
    let at = (goal.at.returns-in_err-name_temp_file-clause-named g c).After-name_temp_file in
    let new_files = c.args.new_file.now.folder.identity in
    let folder = c.in_ok-current.field-0.now.identity in
    let name = c.folder_and_name.result.1.now in
    let is = is_kept c.args.self.now.unsynced.syncs in
    let last = disk_of s c.name_temp_file.new.system in
    let held = s.holds c.enter_seen.new.system in
    let stands_here = stood g at count number stands in
    let was : c.name_temp_file.result ≡ Err c.in_err-name_temp_file.field-0.0 = c.in_err-name_temp_file.was in
    let failed : is_ok c.from_residual-in_err-name_temp_file.result ≡ false = search rules in
    rw failed (since_start g at count number last false
    (naming_failed new_files folder count is number c.args.write.now c.args.new.now name
    (disk_with s c.args.self.now.system held) last stands_here (named g at) (above g at last.folders refl honest)
    c.in_ok-check.ensures.apart
    (λ parts is_file. written_from new_files folder number c.args.new.now (place_in folder name) _ is held last.files
    false stands_here.place (written g at false (ap is_named was) _ is
    (bytes_temp_file new_files count is held number c.args.write.now c.args.new.now parts is_file stands_here)))))

pub returns-then-branch-clause-named : goal.returns-then-branch-clause-named
returns-then-branch-clause-named g c honest count number stands =
    let s = g.S.System in
    let at = (goal.at.returns-then-branch-clause-named g c).After-name_temp_file in
    let last = disk_of s c.name_temp_file.new.system in
    let was : c.name_temp_file.result ≡ Ok c.in_ok-name_temp_file.field-0 = c.in_ok-name_temp_file.was in
    let done : is_named c.name_temp_file.result ≡ true = ap is_named was ∙ c.if-branch.true in
    since_start g at count number last true
    (named_here c.args.new_file.now.folder.identity c.in_ok-current.field-0.now.identity count
    (is_kept c.args.self.now.unsynced.syncs) number c.args.write.now c.args.new.now c.folder_and_name.result.1.now
    (disk_with s c.args.self.now.system (s.holds c.enter_seen.new.system)) last (stood g at count number stands)
    (named g at) (above g at last.folders refl honest) c.in_ok-check.ensures.apart (written g at true done)
    c.name_temp_file.ensures.moved (λ apart differ. c.name_temp_file.ensures.gone honest apart differ done))

pub returns-in_err-discard-clause-named : goal.returns-in_err-discard-clause-named
returns-in_err-discard-clause-named g c honest count number stands =
    let s = g.S.System in
    let at = (goal.at.returns-in_err-discard-clause-named g c).After-name_temp_file in
    let held = s.holds c.name_temp_file.new.system in
    let last = disk_of s c.discard.new.self in
    let was : c.name_temp_file.result ≡ Ok c.in_ok-name_temp_file.field-0 = c.in_ok-name_temp_file.was in
    let failed : is_ok c.from_residual-in_err-discard.result ≡ false = search rules in
    rw failed (since_start g at count number last false
    (named_stuck c.args.new_file.now.folder.identity c.in_ok-current.field-0.now.identity count
    (is_kept c.args.self.now.unsynced.syncs) number c.args.write.now c.args.new.now c.folder_and_name.result.1.now
    (disk_with s c.args.self.now.system (s.holds c.enter_seen.new.system)) last held (stood g at count number stands)
    (named g at) (above g at last.folders c.discard.ensures.still (c.discard.ensures.earlier honest))
    c.in_ok-check.ensures.apart (written g at false (ap is_named was ∙ c.if-branch.false))
    c.name_temp_file.ensures.moved
    (discarded_alike (place_of c.args.new.now.temp_file) held last.files c.discard.result c.discard.ensures.removed)))

pub returns-clause-named : goal.returns-clause-named
returns-clause-named g c honest count number stands =
    let s = g.S.System in
    let at = (goal.at.returns-clause-named g c).After-name_temp_file in
    let last = disk_of s c.write_beside.new.system in
    let done = is_ok c.write_beside.result in
    let late = c.discard.ensures.earlier (c.write_beside.ensures.earlier honest) in
    let was : c.name_temp_file.result ≡ Ok c.in_ok-name_temp_file.field-0 = c.in_ok-name_temp_file.was in
    since_start g at count number last done
    (named_beside (s.honest c.write_beside.new.system) c.args.new_file.now.folder.identity
    c.in_ok-current.field-0.now.identity count (is_kept c.args.self.now.unsynced.syncs) number c.args.write.now
    c.args.new.now c.folder_and_name.result.1.now c.in-Some.parts
    (disk_with s c.args.self.now.system (s.holds c.enter_seen.new.system)) last (s.holds c.name_temp_file.new.system)
    (s.holds c.discard.new.self) done honest c.in-Some.is (stood g at count number stands) (named g at)
    (above g at last.folders (c.write_beside.ensures.still ∙ c.discard.ensures.still) late)
    c.in_ok-check.ensures.apart (written g at false (ap is_named was ∙ c.if-branch.false))
    c.name_temp_file.ensures.moved c.in_ok-discard.ensures.removed c.write_beside.ensures.placed)

pub returns-in_err-name_temp_file-clause-keeps_edits : goal.returns-in_err-name_temp_file-clause-keeps_edits
returns-in_err-name_temp_file-clause-keeps_edits g c =
    lose_naming g (goal.at.returns-in_err-name_temp_file-clause-keeps_edits g c).After-name_temp_file

pub returns-in_err-discard-clause-keeps_edits : goal.returns-in_err-discard-clause-keeps_edits
returns-in_err-discard-clause-keeps_edits g c reads known =
    let at = goal.at.returns-in_err-discard-clause-keeps_edits g c in
    lose_discarded g at.After-discard reads known (lose_naming g at.After-name_temp_file reads known)

pub returns-then-branch-clause-keeps_edits : goal.returns-then-branch-clause-keeps_edits
returns-then-branch-clause-keeps_edits g c =
    lose_naming g (goal.at.returns-then-branch-clause-keeps_edits g c).After-name_temp_file

pub returns-in_default-clause-keeps_edits : goal.returns-in_default-clause-keeps_edits
returns-in_default-clause-keeps_edits g c reads known =
    let at = goal.at.returns-in_default-clause-keeps_edits g c in
    lose_discarded g at.After-discard reads known (lose_naming g at.After-name_temp_file reads known)

pub returns-clause-keeps_edits : goal.returns-clause-keeps_edits
returns-clause-keeps_edits g c reads known =
    let s = g.S.System in
    let write = c.args.write.now in
    let at = goal.at.returns-clause-keeps_edits g c in
    let e = s.changes c.discard.new.self in
    let f = s.changes c.write_beside.new.system in
    lose_then reads (write ∷ []) _ e f
    (lose_discarded g at.After-discard reads known (lose_naming g at.After-name_temp_file reads known))
    (lose_beside reads write c.args.new_file.now.folder.identity c.in_ok-current.field-0.now.identity
    c.folder_and_name.result.1.now _ e f _ _ (named g at.After-name_temp_file) known.1
    (owner_kept c.args.self.now.ownership.process c.args.new.now.seen c.in_ok-current.field-0.now.owner
    c.in_ok-current.field-0.now.passes_group c.wanted.result.owner c.wanted.ensures.owner)
    c.write_beside.ensures.guarded)

pub invariant_of-self-in-Break-branch-5 : goal.invariant_of-self-in-Break-branch-5
invariant_of-self-in-Break-branch-5 g c =
    let was = c.enter_seen.ensures.enters.opened c.args.self.now.opened in
    record {
      opened = λ honest. subst (λ folders. AreOpened folders c.enter_seen.new.self)
          (sym (c.discard.ensures.still ∙ c.name_temp_file.ensures.still))
          (was (c.name_temp_file.ensures.earlier (c.discard.ensures.earlier honest)));
      home = λ honest. subst (λ folders. IsOpenFor c.args.self.now.new_file (folder_at folders journal_folder))
          (sym (c.discard.ensures.still ∙ c.name_temp_file.ensures.still ∙ c.enter_seen.ensures.enters.reads.still))
          (c.args.self.now.home (c.enter_seen.ensures.enters.reads.earlier
          (c.name_temp_file.ensures.earlier (c.discard.ensures.earlier honest))));
    }

pub invariant_of-self-2 : goal.invariant_of-self-2
invariant_of-self-2 g c =
    let was = c.enter_seen.ensures.enters.opened c.args.self.now.opened in
    record {
      opened = λ honest. subst (λ folders. AreOpened folders c.enter_seen.new.self)
          (sym (c.write_beside.ensures.still ∙ c.discard.ensures.still ∙ c.name_temp_file.ensures.still))
          (was (c.name_temp_file.ensures.earlier (c.discard.ensures.earlier (c.write_beside.ensures.earlier honest))));
      home = λ honest. subst (λ folders. IsOpenFor c.args.self.now.new_file (folder_at folders journal_folder))
          (sym (c.write_beside.ensures.still ∙ c.discard.ensures.still ∙ c.name_temp_file.ensures.still
          ∙ c.enter_seen.ensures.enters.reads.still))
          (c.args.self.now.home (c.enter_seen.ensures.enters.reads.earlier (c.name_temp_file.ensures.earlier
          (c.discard.ensures.earlier (c.write_beside.ensures.earlier honest)))));
    }

pub returns-in_err-name_temp_file-clause-noted : goal.returns-in_err-name_temp_file-clause-noted
returns-in_err-name_temp_file-clause-noted g c =
    noted_naming g (goal.at.returns-in_err-name_temp_file-clause-noted g c).After-name_temp_file

pub returns-in_err-discard-clause-noted : goal.returns-in_err-discard-clause-noted
returns-in_err-discard-clause-noted g c reads known above =
    let at = goal.at.returns-in_err-discard-clause-noted g c in
    noted_discarded g at.After-discard reads known (noted_naming g at.After-name_temp_file reads known above)

pub returns-then-branch-clause-noted : goal.returns-then-branch-clause-noted
returns-then-branch-clause-noted g c =
    noted_naming g (goal.at.returns-then-branch-clause-noted g c).After-name_temp_file

pub returns-in_default-clause-noted : goal.returns-in_default-clause-noted
returns-in_default-clause-noted g c reads known above =
    let at = goal.at.returns-in_default-clause-noted g c in
    noted_discarded g at.After-discard reads known (noted_naming g at.After-name_temp_file reads known above)

pub returns-clause-noted : goal.returns-clause-noted
returns-clause-noted g c reads known above =
    let s = g.S.System in
    let path = c.args.write.now.path.now in
    let at = goal.at.returns-clause-noted g c in
    let folder = c.in_ok-current.field-0.now.identity in
    let unsynced = c.args.self.now.unsynced in
    let last = c.write_beside.new.unsynced in
    let e = s.changes c.discard.new.self in
    let f = s.changes c.write_beside.new.system in
    has_then last path _ e f
    (has_later unsynced last path _ e c.write_beside.ensures.noted (noted_discarded g at.After-discard reads known
    (noted_naming g at.After-name_temp_file reads known above)))
    (guarded_noted last path c.folder_and_name.result.1.now folder
    (IsNewPlace c.args.new_file.now.folder.identity folder) _ e f _ _
    (above_later unsynced last path c.write_beside.ensures.noted above) (named g at.After-name_temp_file)
    (λ place is. (c.args.new_file.now.folder.identity, folder, is)) c.write_beside.ensures.guarded)
