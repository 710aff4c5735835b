use Rattle.std.proofs.Common.{◌≡◌, ℕ, ◌+◌, ◌≤◌, length, map, drop, take, ⊎_elim, Err, OnErr, OnOk, arith, refl, sym}
use Rattle.std.proofs.Common.{subst, ◌∙◌}
use Rattle.std.specs.List.{All, AllZip}
use Rattle.std.proofs.lemmas.List.{length-map}
use Rattle.std.proofs.lemmas.Result.{err_from_is_err_and}
use Rattle.reuse_store.specs.Asked.{AreWrites}
use Rattle.reuse_store.specs.Batch.{IsReadReady, MakesRead}
use Rattle.reuse_change.specs.Change.{IsProper}
use Rattle.reuse_change.specs.Entry.{IsEntry, IsSmall, LeadsBy}
use Rattle.reuse_change.specs.Files.{tree_of}
use Rattle.reuse_store.specs.declared.fault.StoreFault.{StoreFault}
use Rattle.reuse_store.proofs.AtChange.{walked}
use Rattle.reuse_store.proofs.Batches.{Reached, Stopped, change_in, never_moved, of_clash, of_device, are_proper}
use Rattle.reuse_store.proofs.Batches.{are_ready, are_small, batch_expected, batch_on, behind, empty_is, left_is}
use Rattle.reuse_store.proofs.Batches.{makes_changes, none_behind, reached_none, reached_reads, within}
use Rattle.reuse_store.proofs.Durable.{certain_made}
use Rattle.reuse_store.proofs.apply_changes.apply_changes.Given.{Over}
use Rattle.reuse_store.proofs.apply_changes.apply_changes.Goals.{After-write_all, After-sync}
use Rattle.reuse_store.proofs.apply_changes.apply_changes.Goals as goal

pub loop-rest-init : goal.loop-rest-init
loop-rest-init g c = (0, refl, omega arith, reached_none g.S.Store c.args.direction c.args.changes.now c.args.store.now)

-- each change that was read can still be made
pub returns-in_err-writes-clause-cause : goal.returns-in_err-writes-clause-cause
returns-in_err-writes-clause-cause g c honest good all =
    let expected =
    batch_expected c.args.changes.now c.loop-rest.rest.now c.loop-rest.invariant.0 c.in_ok-batch.batch.items
    c.loop-rest.invariant.1 c.in_ok-batch.ensures.changes in
    let batch = c.in_ok-batch.batch.items in
    let count = c.loop-rest.invariant.0 in
    let reached = c.loop-rest.invariant.3 in
    let p = err_from_is_err_and c.from_residual-in_err-writes.result c.from_residual-in_err-writes.ensures.1 in
    let ready = are_ready g.S.Store c.args.direction c.args.changes.now c.args.store.now count c.loop-rest.store reached
    c.requires (c.read_batch.ensures.reads.was_honest honest) good batch expected
    (c.in_ok-batch.ensures.readings honest) in
    let proper = are_proper g.S.Store c.args.direction c.args.changes.now c.args.store.now count c.loop-rest.store
    reached c.requires good batch expected in
    let small = are_small g.S.Store c.args.direction c.args.changes.now c.args.store.now count c.loop-rest.store reached
    c.requires good batch expected in
    let why = c.in_err-writes.ensures.cause in (
      λ e. c.in_err-writes.ensures.moved
          (subst (All (λ read. IsProper read.change.now)) (sym c.deref.ensures.value) proper)
          (subst (All (λ read. IsSmall read.change.now)) (sym c.deref.ensures.value) small) (cc)
          (subst (All (IsReadReady c.args.direction)) (sym c.deref.ensures.value) ready),
      λ e. ⊎_elim (λ moved. absurd (cc)) (λ memory. absurd (cc)) why,
    )

-- the batch is written, or a write of it has failed
written : (g : Over) (c : After-write_all g)
    → OnOk c.write_all.result (Reached g.S.Store c.args.direction c.args.changes.now c.args.store.now
    (c.loop-rest.invariant.0 + length (map change_in c.in_ok-batch.batch.items)) c.write_all.new.self)
    × ((fault : StoreFault) → c.write_all.result ≡ Err fault
    → Stopped g.S.Store c.args.direction c.args.changes.now c.args.store.now fault c.write_all.new.self)
written g c =
    let store = g.S.Store in
    let batch = c.in_ok-batch.batch.items in
    let count = c.loop-rest.invariant.0 in
    let reached = c.loop-rest.invariant.3 in
    batch_on store c.args.direction c.args.changes.now c.args.store.now g.met.S.Store.are_files
    (map change_in batch) c.in_ok-writes.writes.items count
    (drop (length batch) c.loop-rest.rest.now) c.read_batch.new.store c.write_all.new.self c.write_all.result
    (left_is c.args.changes.now c.loop-rest.rest.now count batch c.loop-rest.invariant.1 c.in_ok-batch.ensures.changes)
    (makes_changes store c.args.direction c.args.changes.now c.args.store.now count c.loop-rest.store reached c.requires
    batch c.in_ok-writes.writes.items c.read_batch.ensures.reads.was_honest
    (batch_expected c.args.changes.now c.loop-rest.rest.now count batch c.loop-rest.invariant.1
    c.in_ok-batch.ensures.changes)
    (subst (λ read. AllZip (MakesRead c.args.direction) read c.in_ok-writes.writes.items) c.deref.ensures.value
    c.in_ok-writes.ensures.writes) c.in_ok-batch.ensures.readings)
    (reached_reads store c.args.direction c.args.changes.now c.args.store.now count c.loop-rest.store
    c.read_batch.new.store reached c.read_batch.ensures.reads)
    (subst (λ writes. AreWrites store writes c.read_batch.new.store c.write_all.new.self c.write_all.result)
    c.deref-in-loop-rest.ensures.value c.write_all.ensures)

pub returns-in_err-write_all-clause-midway : goal.returns-in_err-write_all-clause-midway
returns-in_err-write_all-clause-midway g c honest good =
    let p = err_from_is_err_and c.from_residual-in_err-write_all.result c.from_residual-in_err-write_all.ensures.1 in
    subst (λ r. OnErr r ((count : ℕ) × LeadsBy c.args.direction (take count c.args.changes.now)
    (tree_of (g.S.Store.files c.args.store.now)) (tree_of (g.S.Store.files c.write_all.new.self)))) (sym p.1)
    (((written g (goal.at.returns-in_err-write_all-clause-midway g c).After-write_all).1 c.in_err-write_all.field-0.0
    c.in_err-write_all.was).midway honest good)

pub returns-in_err-write_all-clause-left : goal.returns-in_err-write_all-clause-left
returns-in_err-write_all-clause-left g c =
    ((written g (goal.at.returns-in_err-write_all-clause-left g c).After-write_all).1 c.in_err-write_all.field-0.0
    c.in_err-write_all.was).left

pub returns-in_err-write_all-clause-cause : goal.returns-in_err-write_all-clause-cause
returns-in_err-write_all-clause-cause g c honest good all =
    let p = err_from_is_err_and c.from_residual-in_err-write_all.result c.from_residual-in_err-write_all.ensures.1 in
    let fault = c.in_err-write_all.field-0.0 in (
      λ e. never_moved fault (cc),
      λ e. ((written g (goal.at.returns-in_err-write_all-clause-cause g c).After-write_all).1
          c.in_err-write_all.field-0.0 c.in_err-write_all.was).free honest good all (of_clash fault (cc)),
    )

pub returns-in_err-write_all-clause-folder : goal.returns-in_err-write_all-clause-folder
returns-in_err-write_all-clause-folder g c =
    ((written g (goal.at.returns-in_err-write_all-clause-folder g c).After-write_all).1 c.in_err-write_all.field-0.0
    c.in_err-write_all.was).folder

pub returns-in_err-write_all-clause-device : goal.returns-in_err-write_all-clause-device
returns-in_err-write_all-clause-device g c e =
    let p = err_from_is_err_and c.from_residual-in_err-write_all.result c.from_residual-in_err-write_all.ensures.1 in
    ((written g (goal.at.returns-in_err-write_all-clause-device g c).After-write_all).1 c.in_err-write_all.field-0.0
    c.in_err-write_all.was).device (of_device c.in_err-write_all.field-0.0 (cc))

pub returns-in_err-write_all-clause-written : goal.returns-in_err-write_all-clause-written
returns-in_err-write_all-clause-written g c =
    ((written g (goal.at.returns-in_err-write_all-clause-written g c).After-write_all).1 c.in_err-write_all.field-0.0
    c.in_err-write_all.was).written

pub returns-in_err-write_all-clause-mutations : goal.returns-in_err-write_all-clause-mutations
returns-in_err-write_all-clause-mutations g c =
    ((written g (goal.at.returns-in_err-write_all-clause-mutations g c).After-write_all).1 c.in_err-write_all.field-0.0
    c.in_err-write_all.was).mutations

pub returns-in_err-write_all-clause-later : goal.returns-in_err-write_all-clause-later
returns-in_err-write_all-clause-later g c =
    ((written g (goal.at.returns-in_err-write_all-clause-later g c).After-write_all).1 c.in_err-write_all.field-0.0
    c.in_err-write_all.was).later

pub loop-rest-preserved : goal.loop-rest-preserved
loop-rest-preserved g c =
    let batch = c.in_ok-batch.batch.items in
    let count = c.loop-rest.invariant.0 in
    let done = subst (λ r. OnOk r (Reached g.S.Store c.args.direction c.args.changes.now c.args.store.now
    (count + length (map change_in batch)) c.write_all.new.self)) c.in_ok-write_all.was
    (written g (goal.at.loop-rest-preserved g c).After-write_all).0 in (
      count + c.len.result,
      behind c.args.changes.now c.loop-rest.rest.now count c.len.result c.loop-rest.invariant.1,
      subst (λ n. count + n ≤ length c.args.changes.now) (sym (c.len.ensures ∙ c.in_ok-batch.batch.ok.0))
          (within c.args.changes.now c.loop-rest.rest.now count batch c.loop-rest.invariant.1 c.loop-rest.invariant.2
          c.in_ok-batch.ensures.changes),
      subst
          (λ n. Reached g.S.Store c.args.direction c.args.changes.now c.args.store.now (count + n) c.write_all.new.self)
          (length-map batch change_in ∙ sym (c.len.ensures ∙ c.in_ok-batch.batch.ok.0)) done,
    )

-- ---- behind the last change

ended : (g : Over) (c : After-sync g) → c.loop-rest.invariant.0 ≡ length c.args.changes.now
ended g c = none_behind c.args.changes.now c.loop-rest.invariant.0 (sym c.loop-rest.invariant.1
    ∙ empty_is c.loop-rest.rest.now (sym c.is_empty.ensures ∙ c.loop-rest-test.false)) c.loop-rest.invariant.2

-- all changes are made
all_made : (g : Over) (c : After-sync g) → g.S.Store.honest c.sync.new.self → IsEntry c.args.changes.now
    → LeadsBy c.args.direction c.args.changes.now (tree_of (g.S.Store.files c.args.store.now))
    (tree_of (g.S.Store.files c.sync.new.self))
all_made g c honest good =
    let start = tree_of (g.S.Store.files c.args.store.now) in
    let all = walked c.args.changes.now c.loop-rest.invariant.0 (ended g c) in
    subst (λ files. LeadsBy c.args.direction c.args.changes.now start (tree_of files))
    (sym (c.sync.ensures.reads.files honest))
    (subst (λ made. LeadsBy c.args.direction made start (tree_of (g.S.Store.files c.loop-rest.store))) all
    (c.loop-rest.invariant.3.made (c.sync.ensures.reads.was_honest honest) good))

pub returns-clause-durable : goal.returns-clause-durable
returns-clause-durable g c honest good synced left is =
    let got = c.in_ok-sync.ensures.barrier.ok left is in
    certain_made c.args.direction c.args.changes.now (g.S.Store.files c.args.store.now)
    (g.S.Store.files c.sync.new.self) got.0 left
    (all_made g (goal.at.returns-clause-durable g c).After-sync honest good)
    (c.loop-rest.invariant.3.left (c.sync.ensures.reads.was_honest honest) good synced got.0 got.1) got.2
