use Rattle.std.proofs.Common.{◌≡◌, ◌∙◌, ◌∷◌, sym, ap, subst, IsTrue}
use Rattle.reuse_system.specs.TempFiles.{is_elsewhere, name_in}
use Rattle.reuse_system.specs.FileStates.{place_in}
use Rattle.reuse_system.specs.Folders.{folder_at}
use Rattle.reuse_system.specs.NameChanges.{change_at}
use Rattle.reuse_system.specs.SystemLaws.{IsAlikeBut}
use Rattle.reuse_change.specs.Layout.{journal_folder}
use Rattle.reuse_disk.specs.LeftFiles.{ClearsLeft, IsJournalIf}
use Rattle.reuse_disk.specs.OpenFolders.{AreOpenedIf}
use Rattle.reuse_disk.proofs.LeftLemmas.{clears_none, clears_one, none_reported}
use Rattle.reuse_disk.proofs.mounted_folders.clear_folder.Given.{Over}
use Rattle.reuse_disk.proofs.mounted_folders.clear_folder.Goals.{After-remove}
use Rattle.reuse_disk.proofs.mounted_folders.clear_folder.Goals as goal

-- the file at the name was removed, or was to be
cleared : (g : Over) (c : After-remove g)
    → AreOpenedIf (g.S.System.honest c.args.system.now) (g.S.System.folders c.args.system.now) c.args.open_folders.now
    → IsJournalIf (g.S.System.honest c.args.system.now) (g.S.System.folders c.args.system.now) c.args.journal
    → IsAlikeBut (name_in c.in_ok-folder.folder.now c.as_str-in-File.result.now) (g.S.System.holds c.look.new.self)
    (g.S.System.holds c.remove.new.self)
    → ClearsLeft (g.S.System.honest c.remove.new.self) (g.S.System.folders c.remove.new.self)
    (g.S.System.changes c.args.system.now) (g.S.System.changes c.remove.new.self) (g.S.System.holds c.args.system.now)
    (g.S.System.holds c.remove.new.self)
cleared g c opened known alike =
    let s = g.S.System in
    let entered = c.enter_seen.new.system in
    let looked = c.look.new.self in
    let last = c.remove.new.self in
    let honest_once : s.honest last → s.honest entered =
    λ honest. c.look.ensures.earlier (c.remove.ensures.earlier honest) in
    let since : s.folders last ≡ s.folders entered = c.remove.ensures.still ∙ c.look.ensures.still in
    clears_one (s.honest last) (s.folders last) c.args.journal c.in_ok-folder.folder.now.identity c.args.path.now
    c.as_str-in-File.result.now c.as_str.result.now c.in_ok-look.field-0 c.in-File.field-0 (s.looked looked) _ _ _ _
    (λ honest. ap (λ folders. folder_at folders journal_folder) (since ∙ c.enter_seen.ensures.enters.reads.still)
    ∙ known (c.enter_seen.ensures.enters.reads.earlier (honest_once honest)))
    (λ honest. ap (λ folders. folder_at folders c.args.path.now) since
    ∙ c.in_ok-enter_seen.ensures.entered opened (honest_once honest) ∙ c.in_ok-folder.ensures)
    (subst (λ one. IsTrue (is_elsewhere c.args.journal one)) c.identity.ensures (sym c.if-not-is_elsewhere.ensures))
    (c.as_str-in-File.ensures.value ∙ c.in_ok-name.ensures) (c.as_str.ensures.value ∙ c.in_ok-name.ensures)
    c.in_ok-look.ensures.looked c.in-File.is (c.remove.ensures.changes
    ∙ ap (λ l. change_at (s.looked looked) (name_in c.in_ok-folder.folder.now c.as_str-in-File.result.now) ∷ l)
    (c.look.ensures.changes ∙ c.enter_seen.ensures.enters.reads.changes))
    (λ other no. alike other no
    ∙ ap (λ held. held other) (c.look.ensures.kept ∙ c.enter_seen.ensures.enters.reads.kept))

pub returns-in_err-remove-in-File-clause-cleared : goal.returns-in_err-remove-in-File-clause-cleared
returns-in_err-remove-in-File-clause-cleared g c opened known =
    cleared g (goal.at.returns-in_err-remove-in-File-clause-cleared g c).After-remove opened known
    c.in_err-remove-in-File.ensures.removed

pub returns-in-File-clause-cleared : goal.returns-in-File-clause-cleared
returns-in-File-clause-cleared g c opened known =
    cleared g (goal.at.returns-in-File-clause-cleared g c).After-remove opened known
    c.in_ok-remove-in-File.ensures.removed.others

pub returns-clause-cleared : goal.returns-clause-cleared
returns-clause-cleared g c opened known =
    let s = g.S.System in
    let first = c.args.system.now in
    let looked = c.look.new.self in
    clears_none (s.honest looked) (s.folders looked) (s.changes first) (s.changes looked) (s.holds first)
    (s.holds looked)
    (c.look.ensures.changes ∙ c.enter_seen.ensures.enters.reads.changes)
    (c.look.ensures.kept ∙ c.enter_seen.ensures.enters.reads.kept)

pub returns-clause-gone : goal.returns-clause-gone
returns-clause-gone g c opened honest =
    let s = g.S.System in
    let looked = c.look.new.self in
    let folder = c.in_ok-folder.folder.now.identity in
    record {
      folder = folder;
      is_folder = ap (λ folders. folder_at folders c.args.path.now) c.look.ensures.still
          ∙ c.in_ok-enter_seen.ensures.entered opened (c.look.ensures.earlier honest) ∙ c.in_ok-folder.ensures;
      gone = λ mounted. ap (λ name. s.holds looked (place_in folder name))
          (sym (c.as_str.ensures.value ∙ c.in_ok-name.ensures))
          ∙ none_reported (s.holds looked (place_in folder c.as_str.result.now)) c.in_ok-look.field-0
          c.in_default.not-File (c.in_ok-look.ensures.seen honest);
    }
