use Rattle.std.proofs.Common.{◌≡◌, ◌↔◌, IsTrue, arith, sym, subst, ◌∙◌, List, ℕ, ◌<◌, Result, Ok, Err, IfErr, ap}
use Rattle.std.specs.List.{All}
use Rattle.std.proofs.lemmas.Bool.{false≢true}
use Rattle.std.proofs.lemmas.List.{take_all}
use Rattle.reuse_change.specs.Files.{tree_of}
use Rattle.reuse_change.specs.Change.{path_of}
use Rattle.reuse_change.specs.Entry.{IsEntry}
use Rattle.reuse_journal.specs.Tested.{Passes}
use Rattle.std.proofs.lemmas.Result.{err_from_is_err_and}
use Rattle.reuse_store.proofs.AskedLemmas.{reads_none, reads_more}
use Rattle.reuse_store.specs.declared.fault.StoreFault.{StoreFault}
use Rattle.reuse_store.specs.declared.fault.StoreFault.TheVariants as faults
use Rattle.reuse_command.specs.declared.reply.Refusal.{Refusal}
use Rattle.reuse_command.specs.declared.reply.Refusal.TheVariants as refusals
use Rattle.reuse_command.specs.Answer.{IsTestRefusal}
use Rattle.reuse_command.specs.Cause.{refusal_of}
use Rattle.reuse_command.proofs.Asking.{fails_behind, fails_otherwise}
use Rattle.reuse_store.proofs.AtChange.{tested, passes, first_without}
use Rattle.reuse_journal.proofs.prepare.test_each.Given.{Over}
use Rattle.reuse_journal.proofs.prepare.test_each.Goals.{In_ok-passes}
use Rattle.reuse_journal.proofs.prepare.test_each.Goals as goal

same_path : (one other : List ℕ)
    → ◌≡◌ {A = Result (Unit {0}) Refusal} (Err (refusals.Moved one)) (Err (refusals.Moved other)) → one ≡ other
same_path one other e = cc

none_below : (k : ℕ) → k < 0 → ⊥
none_below k lt = omega arith

is_of_test : {A : Type 0} (fault : StoreFault) (answer : Result A Refusal) → answer ≡ Err (refusal_of fault)
    → IfErr answer IsTestRefusal
is_of_test faults.Memory answer is = subst (λ r. IfErr r IsTestRefusal) (sym is) tt
is_of_test faults.Device answer is = subst (λ r. IfErr r IsTestRefusal) (sym is) tt
is_of_test faults.Clash answer is = subst (λ r. IfErr r IsTestRefusal) (sym is) tt

not_moved : {A : Type 0} (fault : StoreFault) (answer : Result A Refusal) (path : List ℕ)
    → answer ≡ Err (refusal_of fault) → answer ≡ Err (refusals.Moved path) → ⊥
not_moved faults.Memory answer path is moved = cc
not_moved faults.Device answer path is moved = cc
not_moved faults.Clash answer path is moved = cc

-- the test reports whether the change passes on the tree with which the walk began
test_reports : (g : Over) (c : In_ok-passes g) → g.S.Store.honest c.passes.new.store → IsEntry c.args.changes.now
    → IsTrue c.in_ok-passes.field-0
    ↔ Passes c.args.check c.args.direction (tree_of (g.S.Store.files c.args.store.now)) c.change-item.result
test_reports g c honest good =
    let kept = c.loop-change.invariant in
    let before = c.passes.ensures.reads.was_honest honest in
    tested c.args.changes.now c.loop-change.change-index c.loop-change-test.true c.change-item.result c.change-item.is
    (λ files. IsTrue c.in_ok-passes.field-0 ↔ Passes c.args.check c.args.direction (tree_of files) c.change-item.result)
    good kept.reads before (c.in_ok-passes.ensures.ok honest)

pub returns-then-not-branch-clause-moved : goal.returns-then-not-branch-clause-moved
returns-then-not-branch-clause-moved g c honest good path e =
    let can = test_reports g (goal.at.returns-then-not-branch-clause-moved g c).In_ok-passes honest good in
    let here : path ≡ path_of c.change-item.result =
    sym (same_path c.in_ok-try_clone.field-0 path e) ∙ c.in_ok-try_clone.ensures ∙ c.path.ensures in
    first_without c.args.changes.now c.loop-change.change-index c.loop-change-test.true c.change-item.result
    c.change-item.is (Passes c.args.check c.args.direction (tree_of (g.S.Store.files c.args.store.now))) path
    (c.loop-change.invariant.ready (c.passes.ensures.reads.was_honest honest) good)
    (λ made. false≢true (sym c.if-not-branch.true ∙ can.1 made)) here

pub loop-change-init : goal.loop-change-init
loop-change-init g c = record {
  reads = reads_none g.S.Store _;
  ready = λ honest good k d lt. absurd (none_below k lt);
}

pub loop-change-preserved : goal.loop-change-preserved
loop-change-preserved g c =
    let kept = c.loop-change.invariant in
    let was_honest = c.passes.ensures.reads.was_honest in
    record {
      reads = reads_more g.S.Store _ _ _ kept.reads c.passes.ensures.reads;
      ready = λ honest good. passes c.args.changes.now c.loop-change.change-index c.loop-change-test.true
          c.change-item.result c.change-item.is
          (Passes c.args.check c.args.direction (tree_of (g.S.Store.files c.args.store.now)))
          (kept.ready (was_honest honest) good)
          ((test_reports g (goal.at.loop-change-preserved g c).In_ok-passes honest good).0 c.if-not-branch.false);
    }

pub returns-clause-ready : goal.returns-clause-ready
returns-clause-ready g c honest good =
    let all = take_all c.loop-change.change-index c.args.changes.now c.loop-change-test.false in
    subst (All (Passes c.args.check c.args.direction (tree_of (g.S.Store.files c.args.store.now)))) all
    (c.loop-change.invariant.ready honest good)

pub returns-then-not-branch-clause-fails : goal.returns-then-not-branch-clause-fails
returns-then-not-branch-clause-fails g c = fails_otherwise g.S.Store _ _ (Err (refusals.Moved _)) tt

pub returns-then-not-branch-clause-reads : goal.returns-then-not-branch-clause-reads
returns-then-not-branch-clause-reads g c =
    reads_more g.S.Store _ _ _ c.loop-change.invariant.reads c.passes.ensures.reads

pub returns-clause-fails : goal.returns-clause-fails
returns-clause-fails g c = fails_otherwise g.S.Store _ _ (Ok tt) tt

pub returns-clause-reads : goal.returns-clause-reads
returns-clause-reads g c = c.loop-change.invariant.reads

pub returns-in_err-passes-clause-fails : goal.returns-in_err-passes-clause-fails
returns-in_err-passes-clause-fails g c =
    let p = err_from_is_err_and c.from_residual.result c.from_residual.ensures.1 in
    fails_behind g.S.Store _ _ _ c.in_err-passes.field-0.0 _
    (p.1 ∙ ap (λ r. Err r) p.2) c.loop-change.invariant.reads c.in_err-passes.ensures.fails

pub returns-in_err-passes-clause-moved : goal.returns-in_err-passes-clause-moved
returns-in_err-passes-clause-moved g c honest good path moved =
    let p = err_from_is_err_and c.from_residual.result c.from_residual.ensures.1 in
    absurd (not_moved c.in_err-passes.field-0.0 _ path (p.1 ∙ ap (λ r. Err r) p.2) moved)

pub returns-in_err-passes-clause-refusal : goal.returns-in_err-passes-clause-refusal
returns-in_err-passes-clause-refusal g c =
    let p = err_from_is_err_and c.from_residual.result c.from_residual.ensures.1 in
    is_of_test c.in_err-passes.field-0.0 _ (p.1 ∙ ap (λ r. Err r) p.2)

pub returns-in_err-passes-clause-reads : goal.returns-in_err-passes-clause-reads
returns-in_err-passes-clause-reads g c = reads_more g.S.Store _ _ _ c.loop-change.invariant.reads c.passes.ensures.reads
