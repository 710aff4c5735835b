use Rattle.std.proofs.Common.{◌≡◌, List, ℕ, Bool, Result, Ok, Err, IfOk}
use Rattle.std.specs.Prelude.{OnOk}
use Rattle.std.specs.FinMap.{insert}
use Rattle.reuse_change.specs.Files.{Files}
use Rattle.reuse_change.specs.Parts.{joined}
use Rattle.reuse_store.specs.declared.fault.StoreFault.{StoreFault}
use Rattle.reuse_store.specs.Store.{Puts}
use Rattle.reuse_disk.specs.Written.{is_kept}
use Rattle.reuse_folder.specs.Disk.{Disk, disk_of, IsSameTreeBut}
use Rattle.reuse_folder.specs.FolderWrites.{IsStoredAt}
use Rattle.reuse_folder.specs.NotedFiles.{StayAsNoted}
use Rattle.reuse_folder.proofs.NotedLemmas.{put_noted}
use Rattle.reuse_folder.proofs.PutLemmas.{answered_alike}
use Rattle.reuse_folder.proofs.DiskStoreStore.put_parts.Goals as goal

pub returns-clause-stands : goal.returns-clause-stands
returns-clause-stands g c honest =
    answered_alike c.note_put.result c.put-answer.result _ c.note_put.ensures.answers.done
    (rw c.note_put.ensures.folder (c.put-answer.ensures.stands (rw c.note_put.ensures.folder at honest)))

pub returns-clause-place : goal.returns-clause-place
returns-clause-place g c honest =
    rw (c.note_put.ensures.folder, c.note_put.ensures.answers.done)
    (c.put-answer.ensures.place (rw c.note_put.ensures.folder at honest))

pub returns-clause-keeps_edits : goal.returns-clause-keeps_edits
returns-clause-keeps_edits g c = rw c.note_put.ensures.folder c.put-answer.ensures.keeps_edits

pub returns-clause-others : goal.returns-clause-others
returns-clause-others g c honest =
    rw c.note_put.ensures.folder (c.put-answer.ensures.others (rw c.note_put.ensures.folder at honest))

noted_if : (noted now : Files) (old new : Disk) (path bytes : List ℕ) (is : Bool)
    (answer : Result (Unit {0}) StoreFault) → IsSameTreeBut path old new → OnOk answer (Puts path bytes noted now)
    → IfOk answer (λ _. IsStoredAt new.folders new.files path bytes is)
    → IfOk answer (λ _. StayAsNoted noted now old new)
noted_if noted now old new path bytes is (Ok done) others puts stored =
    put_noted noted now old new path others bytes is puts.files stored
noted_if noted now old new path bytes is (Err fault) others puts stored = tt

pub returns-clause-as_noted : goal.returns-clause-as_noted
returns-clause-as_noted g c honest noted =
    let s = g.S.System in
    noted_if _ _ (disk_of s c.args.self.now.folder.system) (disk_of s c.note_put.new.self.folder.system)
    c.args.path.now (joined c.args.parts) (is_kept c.args.self.now.folder.unsynced.syncs) c.note_put.result
    (returns-clause-others g c honest) (c.note_put.ensures.puts.ok noted) (returns-clause-stands g c honest)
