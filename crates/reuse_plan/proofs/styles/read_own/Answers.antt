use Rattle.std.proofs.Common.{◌≡◌, Ok, IfOk, IfErr, sym, subst}
use Rattle.reuse_command.specs.Reading.{get}
use Rattle.reuse_edit.specs.Answered.{IsRefusalOf}
use Rattle.reuse_plan.specs.TreeStyles.{own_file}
use Rattle.reuse_plan.proofs.OwnFiles.{file_ok, file_refused}
use Rattle.reuse_plan.proofs.styles.read_own.Goals as goal

pub returns-clause-file : goal.returns-clause-file
returns-clause-file g c honest =
    let path = c.args.path in
    let file = get (g.S.Store.files c.args.store.now) path in
    let is = c.own_file.ensures.file file (c.in_ok-reading.ensures.reading honest) in
    subst (λ r. IfOk r (λ f. own_file path file ≡ Ok f)) (sym is) (file_ok path file)

pub returns-clause-refusal : goal.returns-clause-refusal
returns-clause-refusal g c honest =
    let path = c.args.path in
    let file = get (g.S.Store.files c.args.store.now) path in
    let is = c.own_file.ensures.file file (c.in_ok-reading.ensures.reading honest) in
    subst (λ r. IfErr r (λ refusal. IsRefusalOf (own_file path file) refusal)) (sym is) (file_refused path file)
