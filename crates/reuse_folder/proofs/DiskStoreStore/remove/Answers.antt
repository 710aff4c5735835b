use Rattle.std.proofs.Common.{◌≡◌, List, ℕ, Result, Ok, Err, IfOk}
use Rattle.std.specs.Prelude.{OnOk}
use Rattle.std.specs.FinMap.{remove}
use Rattle.reuse_change.specs.Files.{Files}
use Rattle.reuse_store.specs.declared.fault.StoreFault.{StoreFault}
use Rattle.reuse_folder.specs.Disk.{Disk, disk_of, IsSameTreeBut}
use Rattle.reuse_folder.specs.FolderWrites.{IsGone}
use Rattle.reuse_folder.specs.NotedFiles.{StayAsNoted}
use Rattle.reuse_folder.proofs.NotedLemmas.{removal_noted}
use Rattle.reuse_folder.proofs.PutLemmas.{answered_alike}
use Rattle.reuse_folder.proofs.DiskStoreStore.remove.Goals as goal

pub returns-clause-place : goal.returns-clause-place
returns-clause-place g c honest =
    rw c.note_removal.ensures.folder (c.remove-answer.ensures.place (rw c.note_removal.ensures.folder at honest))

pub returns-clause-keeps_edits : goal.returns-clause-keeps_edits
returns-clause-keeps_edits g c = rw c.note_removal.ensures.folder c.remove-answer.ensures.keeps_edits

pub returns-clause-others : goal.returns-clause-others
returns-clause-others g c honest =
    rw c.note_removal.ensures.folder (c.remove-answer.ensures.others (rw c.note_removal.ensures.folder at honest))

noted_if : (noted now : Files) (old new : Disk) (path : List ℕ) (answer : Result (Unit {0}) StoreFault)
    → IsSameTreeBut path old new → OnOk answer (now ≡ remove noted path)
    → IfOk answer (λ _. IsGone new.folders new.files path) → IfOk answer (λ _. StayAsNoted noted now old new)
noted_if noted now old new path (Ok done) others removes gone =
    removal_noted noted now old new path others removes gone
noted_if noted now old new path (Err fault) others removes gone = tt

pub returns-clause-as_noted : goal.returns-clause-as_noted
returns-clause-as_noted g c honest noted =
    let s = g.S.System in
    let gone =
    answered_alike c.note_removal.result c.remove-answer.result _ c.note_removal.ensures.answers.done
    (rw c.note_removal.ensures.folder (c.remove-answer.ensures.gone (rw c.note_removal.ensures.folder at honest))) in
    noted_if _ _ (disk_of s c.args.self.now.folder.system) (disk_of s c.note_removal.new.self.folder.system)
    c.args.path.now c.note_removal.result (returns-clause-others g c honest) (c.note_removal.ensures.removes.ok noted)
    gone
