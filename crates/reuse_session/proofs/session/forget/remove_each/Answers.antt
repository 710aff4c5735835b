use Rattle.std.proofs.Common.{ℕ, take, arith, refl, sym, subst, ◌∙◌}
use Rattle.std.specs.Prelude.{OnErr}
use Rattle.std.proofs.lemmas.Result.{err_from_is_err_and}
use Rattle.reuse_store.proofs.AskedLemmas.{later_none, later_more}
use Rattle.reuse_store.proofs.ApplyLemmas.{removal_sets, removal_doubt}
use Rattle.reuse_session.specs.session.Forgetting.{Removes}
use Rattle.reuse_session.proofs.lemmas.session.ForgottenFiles.{removes_none, removes_more, removes_or_more}
use Rattle.reuse_session.proofs.lemmas.session.ForgottenFiles.{removes_some_none, left_by_removal}
use Rattle.reuse_session.proofs.session.forget.remove_each.Goals as goal

pub loop-path-init : goal.loop-path-init
loop-path-init g c = record {
  removed = λ honest. removes_none (g.S.Store.files c.args.store.now);
  left = λ left may. (left, may, removes_some_none c.args.paths.now left);
  written = refl;
  mutations = omega arith;
  later = later_none g.S.Store c.args.store.now;
}

pub loop-path-preserved : goal.loop-path-preserved
loop-path-preserved g c =
    let store = g.S.Store in
    record {
      removed = λ honest. removes_more c.args.paths.now c.loop-path.path-index c.path-item.result c.loop-path-test.true
          c.path-item.is _ _ _
          (c.loop-path.invariant.removed (c.remove.ensures.later.was_honest honest))
          (removal_sets _ _ _ (c.in_ok-remove.ensures.removes.ok honest));
      left = left_by_removal store c.args.store.now c.loop-path.store c.remove.new.self c.args.paths.now
          c.path-item.result (c.loop-path.path-index, c.loop-path-test.true, sym c.path-item.is) c.remove.result
          c.remove.ensures.removes c.loop-path.invariant.left;
      written = c.remove.ensures.removes.written ∙ c.loop-path.invariant.written;
      mutations = omega (arith, c.remove.ensures.removes.mutations, c.loop-path.invariant.mutations);
      later = later_more store _ _ _ c.loop-path.invariant.later c.remove.ensures.later;
    }

pub returns-in_err-remove-clause-stopped : goal.returns-in_err-remove-clause-stopped
returns-in_err-remove-clause-stopped g c honest =
    let old = g.S.Store.files c.args.store.now in
    let new = g.S.Store.files c.remove.new.self in
    let p = err_from_is_err_and c.from_residual.result c.from_residual.ensures.1 in
    subst (λ r. OnErr r ((count : ℕ) × Removes (take count c.args.paths.now) old new)) (sym p.1)
    (removes_or_more c.args.paths.now c.loop-path.path-index c.path-item.result c.loop-path-test.true c.path-item.is old
    (g.S.Store.files c.loop-path.store) new
    (c.loop-path.invariant.removed (c.remove.ensures.later.was_honest honest))
    (removal_doubt c.in_err-remove.field-0.0 _ _ c.path-item.result (c.in_err-remove.ensures.removes.err honest)))

pub returns-in_err-remove-clause-left : goal.returns-in_err-remove-clause-left
returns-in_err-remove-clause-left g c = left_by_removal g.S.Store c.args.store.now c.loop-path.store c.remove.new.self
    c.args.paths.now c.path-item.result (c.loop-path.path-index, c.loop-path-test.true, sym c.path-item.is)
    c.remove.result c.remove.ensures.removes c.loop-path.invariant.left
