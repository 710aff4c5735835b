use Rattle.std.proofs.Common.{[], ◌+◌, length, min, refl, sym, ap, ◌∙◌, Bool, List, Result, Ok, Err, IfOk, is_ok}
use Rattle.reuse_store.specs.Asked.{AreWrites}
use Rattle.reuse_store.specs.declared.fault.StoreFault.{StoreFault}
use Rattle.reuse_store.specs.declared.file_write.FileWrite.{FileWrite}
use Rattle.reuse_store.specs.declared.store.Store.{Ghosts}
use Rattle.reuse_store.specs.Calls.{mutations_of}
use Rattle.reuse_disk.specs.Written.{is_kept}
use Rattle.reuse_folder.proofs.RoundEnds.{batch_of_none}
use Rattle.reuse_folder.proofs.NotedWrites.{begin_any, noted as noted_by}
use Rattle.reuse_folder.proofs.NotedLemmas.{batch_done, writes_noted}
use Rattle.reuse_folder.specs.Batches.{IsBatch}
use Rattle.reuse_folder.specs.Disk.{Disk, disk_of}
use Rattle.reuse_folder.specs.NotedFiles.{StayAsWritten}
use Rattle.reuse_folder.proofs.DiskStoreStore.write_all.Goals as goal

pub returns-clause-writes : goal.returns-clause-writes
returns-clause-writes g c = begin_any (λ store. store.calls) c.args.writes.now c.args.self.now _ c.note_writes.new.self
    c.note_writes.result (sym c.is_empty.ensures ∙ c.if-is_empty.false) refl c.note_writes.ensures.writes

pub returns-then-is_empty-clause-keeps_edits : goal.returns-then-is_empty-clause-keeps_edits
returns-then-is_empty-clause-keeps_edits g c = record { changes = []; grown = refl; each = tt }

pub returns-clause-keeps_edits : goal.returns-clause-keeps_edits
returns-clause-keeps_edits g c = rw c.note_writes.ensures.folder c.write_all-answer.ensures.keeps_edits

pub returns-then-is_empty-clause-made : goal.returns-then-is_empty-clause-made
returns-then-is_empty-clause-made g c honest =
    let s = g.S.System in
    batch_of_none (is_kept c.args.self.now.folder.unsynced.syncs) c.args.writes.now
    (disk_of s c.args.self.now.folder.system) (mutations_of c.args.self.now.calls.calls)
    (sym c.is_empty.ensures ∙ c.if-is_empty.true)

pub returns-clause-made : goal.returns-clause-made
returns-clause-made g c honest =
    let made = c.write_all-answer.ensures.made (rw c.note_writes.ensures.folder at honest) in
    rw (c.note_writes.ensures.folder, c.note_writes.ensures.done) (
      made.0,
      c.note_writes.ensures.mutations
          ∙ ap (λ n. mutations_of c.args.self.now.calls.calls + min (n + 1) (length c.args.writes.now)) (sym made.1),
    )

-- where nothing was asked for
pub returns-then-is_empty-clause-as_noted : goal.returns-then-is_empty-clause-as_noted
returns-then-is_empty-clause-as_noted g c honest noted path of_tree free was = was

noted_if : {S : Type 0} (store : Ghosts S) (is : Bool) (writes : List FileWrite) (old new : S) (a b : Disk)
    (answer : Result (Unit {0}) StoreFault) → AreWrites store writes old new answer → store.honest new
    → IsBatch is writes a b (is_ok answer)
    → IfOk answer (λ _. StayAsWritten writes (store.files old) (store.files new) a b)
noted_if store is writes old new a b (Ok done) asked honest batch =
    writes_noted store batch.new_files is writes old new a b asked honest (batch_done is writes a b batch)
noted_if store is writes old new a b (Err fault) asked honest batch = tt

pub returns-clause-as_noted : goal.returns-clause-as_noted
returns-clause-as_noted g c honest noted =
    let s = g.S.System in
    noted_if (noted_by (λ store. store.calls)) (is_kept c.args.self.now.folder.unsynced.syncs) c.args.writes.now
    c.args.self.now c.note_writes.new.self (disk_of s c.args.self.now.folder.system)
    (disk_of s c.note_writes.new.self.folder.system) c.note_writes.result (returns-clause-writes g c) noted
    (returns-clause-made g c honest).0
