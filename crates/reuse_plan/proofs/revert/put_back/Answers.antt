use Rattle.std.proofs.Common.{◌≡◌, ◌∙◌, ◌+◌, ◌-◌, ◌≤◌, length, true, Some, sym, ap, ap₂, subst, arith}
use Rattle.reuse_change.specs.Change.{sealed_splice}
use Rattle.reuse_change.specs.declared.change.Change.{Change}
use Rattle.reuse_change.specs.declared.change.Change.TheVariants.{Splice}
use Rattle.reuse_text.specs.declared.TheConstants.{LONGEST_FILE}
use Rattle.reuse_edit.specs.Answered.{MakesEdit}
use Rattle.reuse_plan.specs.Reverting.{stands_as_written, taken_back}
use Rattle.reuse_plan.proofs.RevertPlanning.{found, splice_makes}
use Rattle.reuse_plan.proofs.revert.put_back.Goals as goal

pub returns : goal.returns
returns c tree differ here short =
    let path = c.args.path.now in
    let file = c.args.file in
    let at = c.args.written.now.at in
    let old = c.args.written.now.old.now in
    let new = c.args.written.now.new.now in
    let written : stands_as_written c.args.file c.args.written.now.at c.args.written.now.old.now
    c.args.written.now.new.now c.args.written.now.rest c.args.written.now.seal ≡ true =
    ap₂ (λ f n. stands_as_written f c.args.written.now.at c.args.written.now.old.now n c.args.written.now.rest
    c.args.written.now.seal) (sym c.as_slice.ensures) (sym c.as_slice-3.ensures)
    ∙ ap (λ o. stands_as_written c.as_slice.result.now c.args.written.now.at o c.as_slice-3.result.now
    c.args.written.now.rest c.args.written.now.seal) (sym c.as_slice-2.ensures) ∙ sym c.stands_as_written.ensures.value
    ∙ c.if-not-stands_as_written.false in
    let fits : length c.args.file - length c.args.written.now.new.now + length c.args.written.now.old.now
    ≤ LONGEST_FILE =
    omega (arith, c.len.ensures, c.len-2.ensures, c.len-3.ensures, c.fits.ensures.0 c.if-not-fits.false) in
    let is = c.sealed_splice.ensures.change ∙ ap (λ f. sealed_splice c.in_ok-try_clone.field-0 f c.args.written.now.at
    c.in_ok-try_clone-2.field-0 c.in_ok-try_clone-3.field-0) c.as_slice-4.ensures in
    subst (λ (x : Change). MakesEdit tree
    (found (taken_back (Splice c.args.path.now c.args.written.now.at c.args.written.now.old.now
    c.args.written.now.new.now c.args.written.now.rest c.args.written.now.seal) (Some c.args.file))) (Some x)) (sym is)
    (splice_makes tree path file old new at c.args.written.now.rest c.args.written.now.seal written
    c.in_ok-try_clone.field-0 c.in_ok-try_clone-2.field-0 c.in_ok-try_clone-3.field-0 c.in_ok-try_clone.ensures
    c.in_ok-try_clone-2.ensures c.in_ok-try_clone-3.ensures
    differ here short fits)
