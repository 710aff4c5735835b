use Rattle.std.proofs.Common.{◌<◌, IfErr, length, sym, subst}
use Rattle.reuse_store.specs.Asked.{IsWrite, AreWrites}
use Rattle.reuse_store.proofs.WrittenInTurn.{next_fails}
use Rattle.reuse_system.specs.FolderFault.{fault_of_store}
use Rattle.reuse_folder.proofs.NotedWrites.{noted}
use Rattle.reuse_folder.proofs.DiskStore.note_writes.Goals as goal

pub returns-in-Err-clause-writes : goal.returns-in-Err-clause-writes
returns-in-Err-clause-writes g c =
    let store = noted (λ s. s.calls) in
    let lt = subst (λ answer. IfErr answer (λ stop. stop.made < length c.args.writes.now)) c.in-Err.is c.requires in
    let failed = c.note_write.ensures.answers.fails in
    subst (λ r. AreWrites store c.args.writes.now c.args.self.now c.note_write.new.self r) (sym failed)
    (next_fails store c.args.writes.now c.in-Err.stop.made lt c.index-writes-stop.result c.index-writes-stop.is
    c.args.self.now c.note_made-in-Err.new.self c.note_write.new.self c.note_made-in-Err.ensures.writes
    (fault_of_store c.in-Err.stop.fault)
    (subst (λ r. IsWrite store c.index-writes-stop.result.path.now c.index-writes-stop.result.file
    c.note_made-in-Err.new.self c.note_write.new.self r) failed c.note_write.ensures.write))
