use Rattle.std.proofs.Common.{◌≡◌, ◌∙◌, ap, arith, false, length, nat_lt, sym, subst}
use Rattle.std.proofs.lemmas.Bool.Decides.{nat_tests}
use Rattle.reuse_text.specs.declared.TheConstants.{LONGEST_FILE}
use Rattle.reuse_edit.specs.AmendmentPlan.{names_behind}
use Rattle.reuse_edit.specs.Answered.{MakesEdit}
use Rattle.reuse_edit.proofs.BetweenLemmas.{names_between, text_is}
use Rattle.reuse_edit.proofs.amend_text.exchange.Goals as goal

pub returns-clause-edit : goal.returns-clause-edit
returns-clause-edit c tree here =
    let at = c.args.at.now in
    let old = c.args.old.now in
    let new = c.args.new.now in
    let values = c.args.values.now in
    let fits : nat_lt LONGEST_FILE (length new) ≡ false = grind (arith, nat_tests) in
    let is = text_is old new c.args.path.now at fits in (
      subst (λ given. MakesEdit tree given c.in_ok-change_between.field-0) (sym is)
          (c.in_ok-change_between.ensures tree here),
      c.still_names.ensures ∙ names_between old new values at ∙ sym (ap (names_behind values old) is),
    )
