use Rattle.std.proofs.Common.{◌≡◌, ◌∙◌, true, false, nat_lt, length, Some, None, IfSome, sym, ap, subst, Err, Ok}
use Rattle.reuse_command.specs.Reading.{get, keys, tree_of, reading_of, IsOfPlan}
use Rattle.std.proofs.lemmas.Result.{err_from_is_err_and}
use Rattle.reuse_text.specs.declared.TheConstants.{LONGEST_FILE}
use Rattle.reuse_edit.specs.Annotate.{neighbour_of}
use Rattle.reuse_edit.specs.AnnotationPlan.{beside_by, neighbour_by, path_beside_by}
use Rattle.reuse_change.specs.Listing.{is_among}
use Rattle.reuse_edit.specs.PathEdits.{PathEdit}
use Rattle.reuse_edit.specs.PathPlans.{AnswersPlan}
use Rattle.reuse_edit.specs.Answered.{IsRefusalOf}
use Rattle.reuse_edit.specs.declared.path_plan.Policy.TheVariants.{Stop}
use Rattle.reuse_edit.proofs.EditLemmas.{path_beside_is, new_is_unskipped, some_bytes}
use Rattle.reuse_store.proofs.AskedLemmas.{reads_none}
use Rattle.reuse_command.specs.declared.reply.Refusal.TheVariants as refusals
use Rattle.reuse_command.proofs.Asking.{no_fault, short, failed, plan_faults}
use Rattle.reuse_store.proofs.TreeLemmas.{of_store}
use Rattle.reuse_edit.proofs.AbsentFiles.{reported_as, is_absent, some_file}
use Rattle.reuse_edit.proofs.annotate.plan_in_neighbour.Goals as goal

pub returns-in_err-neighbour-clause-plan : goal.returns-in_err-neighbour-clause-plan
returns-in_err-neighbour-clause-plan g c honest are covered =
    let tree = tree_of (g.S.Store.files c.args.store.now) in
    let p = err_from_is_err_and c.from_residual.result c.from_residual.ensures.1 in
    subst (λ x. AnswersPlan Stop (tree_of (g.S.Store.files c.args.store.now))
    (path_beside_by c.args.asked.now (tree_of (g.S.Store.files c.args.store.now)) c.args.path.now) x) (sym p.1)
    (subst (λ r. IsRefusalOf (beside_by c.args.asked.now (tree_of (g.S.Store.files c.args.store.now)) c.args.path.now)
    r) (sym (p.2 ∙ c.in_err-neighbour.ensures.memory)) tt)

pub returns-then-not-is_among-clause-plan : goal.returns-then-not-is_among-clause-plan
returns-then-not-is_among-clause-plan g c honest are covered =
    let files = g.S.Store.files c.args.store.now in
    let is : c.in-Some.neighbour ≡ neighbour_of c.args.path.now =
    subst (λ o. IfSome o (λ n. n ≡ neighbour_of c.args.path.now)) c.in-Some.is c.in_ok-neighbour.ensures.path in
    let short : nat_lt 4096 (length (neighbour_of c.args.path.now)) ≡ false = subst (λ o. IfSome o
    (λ n. nat_lt 4096 (length (neighbour_of c.args.path.now)) ≡ false)) c.in-Some.is c.in_ok-neighbour.ensures.short in
    let beside : is_among c.args.paths.now c.in-Some.neighbour ≡ is_among (keys (tree_of files)) c.in-Some.neighbour =
    ap (is_among c.args.paths.now) is ∙ are.beside ∙ ap (is_among (keys (tree_of files))) (sym is) in
    let none : is_among c.args.paths.now c.in-Some.neighbour ≡ false =
    sym (c.is_among.ensures are.ordered ∙ ap (is_among c.args.paths.now) c.as_bytes.ensures.bytes)
    ∙ c.if-not-is_among.true in
    let absent : get (tree_of files) c.in-Some.neighbour ≡ None =
    is_absent (tree_of files) c.in-Some.neighbour c.args.paths.now beside none in
    let expected = path_beside_is c.args.asked.now (tree_of files) c.args.path.now None short
    (ap (get (tree_of (g.S.Store.files c.args.store.now))) (sym is) ∙ absent)
    ∙ new_is_unskipped c.args.asked.now (tree_of files) c.args.path.now in
    subst
    (λ r. AnswersPlan Stop (tree_of (g.S.Store.files c.args.store.now)) r (Ok c.in_ok-of_change.field-0)) (sym expected)
    (c.in_ok-of_change.ensures (tree_of (g.S.Store.files c.args.store.now)) (neighbour_by c.args.asked.now (tree_of
    (g.S.Store.files c.args.store.now)) c.args.path.now None) (c.in_ok-change.ensures.edit honest covered is absent))

pub returns-clause-plan : goal.returns-clause-plan
returns-clause-plan g c honest are covered =
    let files = g.S.Store.files c.args.store.now in
    let is : c.in-Some.neighbour ≡ neighbour_of c.args.path.now =
    subst (λ o. IfSome o (λ n. n ≡ neighbour_of c.args.path.now)) c.in-Some.is c.in_ok-neighbour.ensures.path in
    let short : nat_lt 4096 (length (neighbour_of c.args.path.now)) ≡ false = subst (λ o. IfSome o
    (λ n. nat_lt 4096 (length (neighbour_of c.args.path.now)) ≡ false)) c.in-Some.is c.in_ok-neighbour.ensures.short in
    let beside : is_among c.args.paths.now c.in-Some.neighbour ≡ is_among (keys (tree_of files)) c.in-Some.neighbour =
    ap (is_among c.args.paths.now) is ∙ are.beside ∙ ap (is_among (keys (tree_of files))) (sym is) in
    let there : is_among c.args.paths.now c.in-Some.neighbour ≡ true =
    sym (c.is_among.ensures are.ordered ∙ ap (is_among c.args.paths.now) c.as_bytes.ensures.bytes)
    ∙ c.if-not-is_among.false in
    let some = some_file (tree_of files) c.in-Some.neighbour c.args.paths.now beside there in
    let same = of_store files c.in-Some.neighbour some in
    let found = some_bytes (get (tree_of files) c.in-Some.neighbour) some in
    subst (λ r. AnswersPlan Stop (tree_of (g.S.Store.files c.args.store.now)) r c.plan_neighbour.result)
    (sym (path_beside_is c.args.asked.now (tree_of files) c.args.path.now (Some found.0) short
    (ap (get (tree_of (g.S.Store.files c.args.store.now))) (sym is) ∙ found.1)))
    (c.plan_neighbour.ensures.plan (tree_of files) found.0 is found.1
    (c.in_ok-reading.ensures.reading honest ∙ ap (λ f. reading_of f LONGEST_FILE) (sym same ∙ found.1)))

pub returns-in_err-neighbour-clause-asks : goal.returns-in_err-neighbour-clause-asks
returns-in_err-neighbour-clause-asks g c =
    let p = err_from_is_err_and c.from_residual.result c.from_residual.ensures.1 in
    short g.S.Store IsOfPlan _ _ _ (p.1 ∙ ap (λ r. Err r) (p.2 ∙ c.in_err-neighbour.ensures.memory)) tt
    (reads_none g.S.Store _)

pub returns-then-not-is_among-clause-asks : goal.returns-then-not-is_among-clause-asks
returns-then-not-is_among-clause-asks g c =
    no_fault g.S.Store _ _ (Ok c.in_ok-of_change.field-0) tt c.plan_new_neighbour.ensures.asks.reads

pub returns-in_err-reading-clause-asks : goal.returns-in_err-reading-clause-asks
returns-in_err-reading-clause-asks g c = failed g.S.Store IsOfPlan _ _ c.in_err-reading.field-0.0 _
    (reported_as c.from_residual-in_err-reading.result _ c.from_residual-in_err-reading.ensures.1)
    (plan_faults c.in_err-reading.field-0.0) c.in_err-reading.ensures.fails c.in_err-reading.ensures.reads

pub returns-clause-asks : goal.returns-clause-asks
returns-clause-asks g c =
    no_fault g.S.Store _ _ c.plan_neighbour.result c.plan_neighbour.ensures.no_fault c.in_ok-reading.ensures.reads

pub returns-in_default-clause-asks : goal.returns-in_default-clause-asks
returns-in_default-clause-asks g c =
    no_fault g.S.Store _ _ (Err (refusals.TooLong c.in_ok-try_clone.field-0)) tt (reads_none g.S.Store _)

pub returns-in_err-change-clause-plan : goal.returns-in_err-change-clause-plan
returns-in_err-change-clause-plan g c honest are covered =
    let files = g.S.Store.files c.args.store.now in
    let tree = tree_of files in
    let asked = c.args.asked.now in
    let is : c.in-Some.neighbour ≡ neighbour_of c.args.path.now =
    subst (λ o. IfSome o (λ n. n ≡ neighbour_of c.args.path.now)) c.in-Some.is c.in_ok-neighbour.ensures.path in
    let short : nat_lt 4096 (length (neighbour_of c.args.path.now)) ≡ false = subst (λ o. IfSome o
    (λ n. nat_lt 4096 (length (neighbour_of c.args.path.now)) ≡ false)) c.in-Some.is c.in_ok-neighbour.ensures.short in
    let beside : is_among c.args.paths.now c.in-Some.neighbour ≡ is_among (keys tree) c.in-Some.neighbour =
    ap (is_among c.args.paths.now) is ∙ are.beside ∙ ap (is_among (keys tree)) (sym is) in
    let none : is_among c.args.paths.now c.in-Some.neighbour ≡ false =
    sym (c.is_among.ensures are.ordered ∙ ap (is_among c.args.paths.now) c.as_bytes.ensures.bytes)
    ∙ c.if-not-is_among.true in
    let absent : get tree c.in-Some.neighbour ≡ None =
    is_absent tree c.in-Some.neighbour c.args.paths.now beside none in
    let expected = path_beside_is asked tree c.args.path.now None short (ap (get tree) (sym is) ∙ absent) in
    let p = err_from_is_err_and c.from_residual-in_err-change.result c.from_residual-in_err-change.ensures.1 in
    subst (AnswersPlan Stop tree (path_beside_by asked tree c.args.path.now)) (sym p.1)
    (subst (IsRefusalOf (beside_by asked tree c.args.path.now)) (sym p.2)
    (subst (λ (e : PathEdit). IsRefusalOf e.edit c.in_err-change.field-0.0) (sym expected)
    (c.in_err-change.ensures.edit honest covered is absent)))
