use Rattle.std.proofs.Common.{◌≡◌, inl, inr, ⊎_elim, arith, refl, sym, subst}
use Rattle.std.proofs.lemmas.Result.{on_ok_weaker, on_err_weaker}
use Rattle.std.specs.FinMap.{get}
use Rattle.std.specs.Option.{option_copied}
use Rattle.reuse_change.specs.Change.{path_of}
use Rattle.reuse_store.proofs.AskedLemmas.{later_none}
use Rattle.reuse_change.specs.Entry.{AppliesBy, opposite}
use Rattle.reuse_store.specs.Apply.{held_in}
use Rattle.reuse_store.proofs.NotedMutations.{notes_last}
use Rattle.reuse_store.proofs.Durable.{set_weaker}
use Rattle.reuse_store.proofs.ApplyLemmas.{step_by, makes_where_clash}
use Rattle.reuse_store.proofs.apply_change.roll_back_change_from.Given.{Over}
use Rattle.reuse_store.proofs.apply_change.roll_back_change_from.Goals.{After-put_applied}
use Rattle.reuse_store.proofs.apply_change.roll_back_change_from.Goals as goal

-- what is put takes the change back
applies : (g : Over) (c : After-put_applied g)
    → get (g.S.Store.files c.args.store.now) (path_of c.args.change.now) ≡ option_copied c.args.file
    → AppliesBy (opposite c.args.direction) c.args.change.now
    (get (g.S.Store.files c.args.store.now) (path_of c.args.change.now)) (held_in c.in_ok-after.after)
applies g c here =
    subst (λ w. AppliesBy w c.args.change.now (get (g.S.Store.files c.args.store.now) (path_of c.args.change.now))
    (held_in c.in_ok-after.after)) c.opposite-back.ensures
    (subst (λ f. AppliesBy c.opposite-back.result c.args.change.now f (held_in c.in_ok-after.after)) (sym here)
    (c.in_ok-after.ensures.applies (c.if-not-is_ready.ensures.ready refl)))

pub returns-clause-ok : goal.returns-clause-ok
returns-clause-ok g c honest here =
    let back = applies g (goal.at.returns-clause-ok g c).After-put_applied here in
    on_ok_weaker c.put_applied.result
    (λ sets. inr (step_by (opposite c.args.direction) c.args.change.now (g.S.Store.files c.args.store.now)
    (g.S.Store.files c.put_applied.new.store) (held_in c.in_ok-after.after) back sets))
    (c.put_applied.ensures.ok honest)

pub returns-clause-err : goal.returns-clause-err
returns-clause-err g c honest here =
    let step = step_by (opposite c.args.direction) c.args.change.now (g.S.Store.files c.args.store.now)
    (g.S.Store.files c.put_applied.new.store) (held_in c.in_ok-after.after)
    (applies g (goal.at.returns-clause-err g c).After-put_applied here) in
    on_err_weaker c.put_applied.result (λ either. ⊎_elim (λ same. inl same) (λ sets. inr (step sets)) either)
    (c.put_applied.ensures.err honest)

pub returns-clause-clash : goal.returns-clause-clash
returns-clause-clash g c honest proper here e =
    let clash = c.put_applied.ensures.clash honest e in
    let are = g.met.S.Store.are_files c.args.store.now (c.put_applied.ensures.later.was_honest honest) in (
      λ ready. let yes = c.is_ready.ensures.stuck proper ready in let no = c.if-is_ready.false in absurd (cc),
      makes_where_clash (g.S.Store.files c.args.store.now) are (opposite c.args.direction) c.args.change.now
          (held_in c.in_ok-after.after)
          (applies g (goal.at.returns-clause-clash g c).After-put_applied here) clash.1 clash.0,
      clash.0,
    )

pub returns-clause-notes : goal.returns-clause-notes
returns-clause-notes g c =
    let lt = c.put_applied.ensures.mutations in
    notes_last g.S.Store c.args.started.now c.args.started.now c.args.store.now c.args.store.now c.put_applied.new.store
    (later_none g.S.Store c.args.store.now) (omega (arith, lt))

pub returns-clause-left : goal.returns-clause-left
returns-clause-left g c here left is =
    let back = applies g (goal.at.returns-clause-left g c).After-put_applied here in
    set_weaker (path_of c.args.change.now) (path_of c.args.change.now) left refl (λ kept m. m)
    (λ file e. subst (AppliesBy (opposite c.args.direction) c.args.change.now (get (g.S.Store.files c.args.store.now)
    (path_of c.args.change.now))) (sym e) back) (c.put_applied.ensures.left left is)
