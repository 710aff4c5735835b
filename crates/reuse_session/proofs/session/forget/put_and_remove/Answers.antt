use Rattle.std.proofs.Common.{◌≡◌, ◌⊎◌, inr, ℕ, Some, Result, Ok, Err, OnErr, OnOk, take, sym, subst}
use Rattle.std.proofs.lemmas.Result.{err_from_is_err_and}
use Rattle.reuse_store.specs.Asked.{Leaves}
use Rattle.reuse_change.specs.Files.{tree_of}
use Rattle.reuse_change.specs.Tree.{Sets}
use Rattle.reuse_session.specs.session.Forgetting.{PutsAndRemoves, PutsAndRemovesSome, RemovesSome}
use Rattle.reuse_journal.specs.JournalFiles.{head_path}
use Rattle.reuse_journal.specs.Losses.{HaveTree}
use Rattle.reuse_session.proofs.lemmas.session.ForgottenFiles.{put_or_not, put_stops}
use Rattle.reuse_session.proofs.session.forget.put_and_remove.Given.{Over}
use Rattle.reuse_session.proofs.session.forget.put_and_remove.Goals.{After-remove_each}
use Rattle.reuse_session.proofs.session.forget.put_and_remove.Goals as goal

on_ok : {A E : Type 0} (result : Result A E) {P Q : Type 0} → (P → Q) → OnOk result P → OnOk result Q
on_ok (Ok x) f p = f p
on_ok (Err e) f p = tt

on_err : {A E : Type 0} (result : Result A E) {P Q : Type 0} → (P → Q) → OnErr result P → OnErr result Q
on_err (Ok x) f p = tt
on_err (Err e) f p = f p

ok_anyway : {A E : Type 0} (result : Result A E) {P : Type 0} → P → OnOk result P
ok_anyway (Ok x) p = p
ok_anyway (Err e) p = tt

err_anyway : {A E : Type 0} (result : Result A E) {P : Type 0} → P → OnErr result P
err_anyway (Ok x) p = tt
err_anyway (Err e) p = p

pub returns-in_err-put_head-clause-stopped : goal.returns-in_err-put_head-clause-stopped
returns-in_err-put_head-clause-stopped g c honest =
    let old = g.S.Store.files c.args.store.now in
    let new = g.S.Store.files c.put_head.new.store in
    let p = err_from_is_err_and c.from_residual.result c.from_residual.ensures.1 in
    subst (λ r. OnErr r
    ((new ≡ old) ⊎ ((count : ℕ) × PutsAndRemoves c.args.text.now (take count c.args.paths.now) old new))) (sym p.1)
    (put_or_not c.args.text.now c.args.paths.now old new (c.in_err-put_head.ensures.err honest))

pub returns-in_err-put_head-clause-doubt : goal.returns-in_err-put_head-clause-doubt
returns-in_err-put_head-clause-doubt g c honest sure =
    err_anyway c.from_residual.result
    (put_stops c.args.text.now c.args.paths.now g.S.Store c.args.store.now c.put_head.new.store
    (c.in_err-put_head.ensures.err honest) c.put_head.ensures.left)

-- the head was put
put_first : (g : Over) (c : After-remove_each g) → g.S.Store.honest c.remove_each.new.store
    → Sets head_path (Some c.args.text.now) (g.S.Store.files c.args.store.now) (g.S.Store.files c.put_head.new.store)
put_first g c honest = c.in_ok-put_head.ensures.ok (c.remove_each.ensures.later.was_honest honest)

-- and is durable, with or without the removals
left_then : (g : Over) (c : After-remove_each g) → g.S.Store.honest c.remove_each.new.store
    → HaveTree g.S.Store c.args.store.now (tree_of (g.S.Store.files c.args.store.now)) → Leaves g.S.Store
    c.remove_each.new.store (PutsAndRemovesSome c.args.text.now c.args.paths.now (g.S.Store.files c.args.store.now))
left_then g c honest sure left may =
    let got = c.remove_each.ensures.left left may in
    let same = c.in_ok-put_head.ensures.durable (c.remove_each.ensures.later.was_honest honest) sure got.0 got.1 in (
      g.S.Store.files c.put_head.new.store,
      put_first g c honest,
      subst (λ kept. RemovesSome c.args.paths.now kept left) same got.2,
    )

pub returns-clause-done : goal.returns-clause-done
returns-clause-done g c honest = on_ok c.remove_each.result (λ removes. (
  g.S.Store.files c.put_head.new.store,
  put_first g (goal.at.returns-clause-done g c).After-remove_each honest,
  removes,
)) (c.remove_each.ensures.removed honest)

pub returns-clause-stopped : goal.returns-clause-stopped
returns-clause-stopped g c honest =
    on_err c.remove_each.result (λ found. inr (
      found.0,
      (
        g.S.Store.files c.put_head.new.store,
        put_first g (goal.at.returns-clause-stopped g c).After-remove_each honest,
        found.1,
      ),
    )) (c.remove_each.ensures.stopped honest)

pub returns-clause-durable : goal.returns-clause-durable
returns-clause-durable g c honest sure =
    ok_anyway c.remove_each.result (left_then g (goal.at.returns-clause-durable g c).After-remove_each honest sure)

pub returns-clause-doubt : goal.returns-clause-doubt
returns-clause-doubt g c honest sure =
    let at = (goal.at.returns-clause-doubt g c).After-remove_each in
    on_err c.remove_each.result (λ found. inr (
      found.0,
      (g.S.Store.files c.put_head.new.store, put_first g at honest, found.1),
      λ left may. inr (
        g.S.Store.files c.args.store.now,
        g.met.S.Store.files_in_crash_states c.args.store.now,
        left_then g at honest sure left may,
      ),
    )) (c.remove_each.ensures.stopped honest)
