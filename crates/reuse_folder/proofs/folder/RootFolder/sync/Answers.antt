use Rattle.reuse_disk.proofs.LeftLemmas.{clears_kept}
use Rattle.std.proofs.Common.{◌≡◌, ◌∙◌, subst, length, Result, Ok, Err, IfOk, IfSome, OnErr}
use Rattle.std.proofs.lemmas.Result.{IfOk-weaker}
use Rattle.reuse_disk.specs.Noted.{IsNoted, StayNoted}
use Rattle.reuse_disk.specs.Noted.Note.{Failure, Folder}
use Rattle.reuse_disk.specs.Synced.{AreAbove, AreSynced, IsSyncedAt}
use Rattle.reuse_system.specs.declared.fault.FolderFault.TheVariants.{Device}
use Rattle.reuse_folder.proofs.folder.RootFolder.sync.Goals as goal

pub returns-clause-clears : goal.returns-clause-clears
returns-clause-clears g c =
    let s = g.S.System in
    let first = c.args.self.now.system in
    let mid = c.clear_left.new.self.system in
    let last = c.sync.new.system in
    let reads = c.sync.ensures.enters.reads in
    clears_kept (s.honest mid) (s.honest last) (s.folders mid) (s.folders last) (s.changes first) (s.changes mid)
    (s.changes last) (s.holds first) (s.holds mid) (s.holds last)
    reads.earlier reads.still reads.changes reads.kept c.clear_left.ensures.clears

pub returns-clause-synced : goal.returns-clause-synced
returns-clause-synced g c kept honest =
    let s = g.S.System in
    let first = s.synced c.args.self.now.system in
    let mid = c.clear_left.new.self in
    let last = c.sync.new.system in
    let folders = s.folders last in
    let held = s.holds last in
    let after = s.synced last in
    IfOk-weaker c.sync.result (λ done. AreSynced (IsNoted mid.unsynced) folders held (s.synced mid.system) after)
    (λ done. AreSynced (IsNoted c.args.self.now.unsynced) folders held first after)
    (λ done synced path noted. subst (λ before. IsSyncedAt folders held before after path)
    c.clear_left.ensures.no_sync
    (synced path (c.clear_left.ensures.noted (Folder path) noted)))
    (c.sync.ensures.synced (c.clear_left.ensures.syncs ∙ kept) mid.opened honest)

pub returns-clause-above : goal.returns-clause-above
returns-clause-above g c kept honest =
    let s = g.S.System in
    let last = c.sync.new.system in
    let changes = c.args.changes.now in
    subst (λ before. IfOk c.sync.result (λ done. AreAbove (IsSyncedAt (s.folders last) (s.holds last) before
    (s.synced last)) changes (length changes)))
    c.clear_left.ensures.no_sync
    (c.sync.ensures.above (c.clear_left.ensures.syncs ∙ kept) c.clear_left.new.self.opened honest)

on_err : {A E : Type 0} (answer : Result A E) (P Q : Type 0) → (P → Q) → OnErr answer P → OnErr answer Q
on_err (Ok done) P Q from all = tt
on_err (Err fault) P Q from all = from all

pub returns-clause-kept : goal.returns-clause-kept
returns-clause-kept g c =
    on_err c.sync.result (StayNoted c.clear_left.new.self.unsynced c.sync.new.self)
    (StayNoted c.args.self.now.unsynced c.sync.new.self)
    (λ stay note has. stay note (c.clear_left.ensures.noted note has)) c.sync.ensures.kept

pub returns-clause-failed : goal.returns-clause-failed
returns-clause-failed g c obstacle kept was =
    subst (λ failed. IfSome failed (λ one. c.sync.result ≡ Err (Device one)))
    (c.clear_left.ensures.noted (Failure obstacle) was) (c.sync.ensures.failed (c.clear_left.ensures.syncs ∙ kept))
