use Rattle.std.proofs.Common.{◌+◌, drop, subst, rules}
use Rattle.std.proofs.lemmas.List.{drop_all}
use Rattle.reuse_change.specs.Files.{tree_of}
use Rattle.reuse_store.proofs.AskedLemmas.{reads_none, reads_more}
use Rattle.reuse_store.proofs.AtChange.{left_here, of_entry, tested}
use Rattle.reuse_journal.specs.Recovery.{FindsNext}
use Rattle.reuse_command.proofs.Asking.{same_fails}
use Rattle.reuse_journal.proofs.Recovering.{AreFoundSoFar, nothing_found, found_next, found_all}
use Rattle.reuse_journal.proofs.recovery.find_each.Goals as goal

pub loop-change-init : goal.loop-change-init
loop-change-init g c = record {
  reads = reads_none g.S.Store _;
  found = λ honest good. nothing_found c.args.direction (tree_of (g.S.Store.files c.args.store.now)) c.args.changes.now
      c.new.result.items c.new-2.result.items (search rules) (search rules);
}

pub loop-change-preserved : goal.loop-change-preserved
loop-change-preserved g c = record {
  reads = reads_more g.S.Store _ _ _ c.loop-change.invariant.reads c.find_next.ensures.reads;
  found = λ honest good.
      let before = c.find_next.ensures.reads.was_honest honest in
      let tree = tree_of (g.S.Store.files c.args.store.now) in
      let changes = c.args.changes.now in
      let index = c.loop-change.change-index in
      let change = c.change-item.result in
      let found = c.loop-change.found in
      let more = c.find_next.new.found in
      let next = tested changes index c.loop-change-test.true change c.change-item.is
      (λ files. FindsNext c.args.direction (tree_of files) change found.changed.items more.changed.items
      found.skipped.items more.skipped.items) good c.loop-change.invariant.reads before
      (c.in_ok-find_next.ensures.adds honest) in
      found_next c.args.direction tree changes change
      (drop (index + 1) changes) found.changed.items more.changed.items found.skipped.items more.skipped.items
      (of_entry changes index c.loop-change-test.true change c.change-item.is good).proper
      (subst (λ left. AreFoundSoFar c.args.direction tree changes left found.changed.items found.skipped.items)
      (left_here changes index c.loop-change-test.true change c.change-item.is)
      (c.loop-change.invariant.found before good)) next;
}

pub returns-clause-found : goal.returns-clause-found
returns-clause-found g c honest good =
    found_all c.args.direction (tree_of (g.S.Store.files c.args.store.now)) c.args.changes.now (drop
    c.loop-change.change-index c.args.changes.now) c.loop-change.found.changed.items c.loop-change.found.skipped.items
    (drop_all c.loop-change.change-index c.args.changes.now c.loop-change-test.false)
    (c.loop-change.invariant.found honest good)

pub returns-in_err-find_next-clause-fails : goal.returns-in_err-find_next-clause-fails
returns-in_err-find_next-clause-fails g c =
    same_fails g.S.Store _ _ _ c.find_next.result c.from_residual.result c.in_err-find_next.field-0.0
    c.in_err-find_next.was c.from_residual.ensures.1 c.loop-change.invariant.reads c.find_next.ensures.fails

pub returns-in_err-find_next-clause-reads : goal.returns-in_err-find_next-clause-reads
returns-in_err-find_next-clause-reads g c =
    reads_more g.S.Store _ _ _ c.loop-change.invariant.reads c.find_next.ensures.reads
