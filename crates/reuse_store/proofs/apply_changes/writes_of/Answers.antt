use Rattle.std.proofs.Common.{sym, ap, subst, ◌∙◌}
use Rattle.std.specs.Result.{is_ok}
use Rattle.std.proofs.lemmas.Result.{err_from_is_err_and}
use Rattle.reuse_text.specs.declared.TheConstants.{LONGEST_FILE}
use Rattle.reuse_change.specs.Change.{IsProper}
use Rattle.reuse_change.specs.Entry.{IsReady, IsSmall, AppliesBy}
use Rattle.reuse_store.specs.Apply.{held_in}
use Rattle.reuse_store.proofs.BatchWriting.{pushed, not_ready}
use Rattle.reuse_store.proofs.ReadingLemmas.{too_long}
use Rattle.reuse_store.proofs.apply_changes.writes_of.Goals as goal

-- a file that is too long is not ready
pub returns-in_default-clause-moved : goal.returns-in_default-clause-moved
returns-in_default-clause-moved c proper small e all =
    let read = c.read-item.result in
    not_ready c.args.direction c.args.batch.now c.loop-read.read-index c.loop-read-test.true read c.read-item.is
    (λ ready.
    let long = c.in_default.ensures ready.0 LONGEST_FILE ready.1 in
    let is_small =
    subst (λ r. IsSmall r.change.now) (sym c.read-item.is) (small c.loop-read.read-index read c.loop-read-test.true) in
    too_long c.args.direction read.change.now long.0 is_small long.2
    (subst (IsReady c.args.direction read.change.now) long.1 ready.2))
    all

pub returns-in_err-file-clause-moved : goal.returns-in_err-file-clause-moved
returns-in_err-file-clause-moved c proper small e all =
    let read = c.read-item.result in
    let p = err_from_is_err_and c.from_residual.result c.from_residual.ensures.1 in
    let is_proper = subst (λ r. IsProper r.change.now) (sym c.read-item.is)
    (proper c.loop-read.read-index read c.loop-read-test.true) in
    not_ready c.args.direction c.args.batch.now c.loop-read.read-index c.loop-read-test.true read c.read-item.is
    (λ ready. c.in_err-file.ensures.moved is_proper (cc)
    (subst (IsReady c.args.direction read.change.now) (sym (c.in-Some.ensures ready.0 LONGEST_FILE ready.1)) ready.2))
    all

pub loop-read-preserved : goal.loop-read-preserved
loop-read-preserved c =
    let read = c.read-item.result in
    pushed c.args.direction c.args.batch.now c.loop-read.read-index c.loop-read-test.true read c.read-item.is _
    c.loop-read.writes.items c.push.new.self.items _ c.push.ensures.items
    (sym c.map_err.ensures.variant ∙ ap is_ok c.in_ok-map_err.was)
    (record {
      path = c.path-path.ensures;
      applies = λ file is ready.
          let same = c.in-Some.ensures file LONGEST_FILE is in
          subst (λ f. AppliesBy c.args.direction read.change.now f (held_in c.in_ok-file.file)) same
          (c.in_ok-file.ensures.applies (subst (IsReady c.args.direction read.change.now) (sym same) ready));
    })
    c.loop-read.invariant
