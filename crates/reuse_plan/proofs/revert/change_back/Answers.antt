use Rattle.std.proofs.Common.{◌∙◌, IfOk, Some, None, sym, ap, subst}
use Rattle.std.specs.FinMap.{get}
use Rattle.reuse_change.specs.Change.{path_of, IsProper}
use Rattle.reuse_change.specs.declared.change.Change.{Change}
use Rattle.reuse_change.specs.declared.change.Change.TheVariants.{Drop}
use Rattle.reuse_text.specs.declared.TheConstants.{LONGEST_FILE}
use Rattle.reuse_change.specs.Entry.{IsSmall}
use Rattle.reuse_edit.specs.Answered.{MakesEdit}
use Rattle.reuse_plan.specs.Reverting.{taken_back}
use Rattle.reuse_store.proofs.ReadingLemmas.{absent_is, found_is, given_as}
use Rattle.reuse_plan.proofs.RevertPlanning.{found, make_makes}
use Rattle.reuse_plan.proofs.revert.change_back.Goals as goal

pub returns-in-Make-Found : goal.returns-in-Make-Found
returns-in-Make-Found c tree proper small reading =
    let file = found_is (get tree (path_of c.args.change.now)) LONGEST_FILE c.in-Make-Found.file
    (sym c.in-Make-Found.is-1 ∙ reading) in
    given_as
    (λ (k : Change) f. IfOk c.drop_made.result (MakesEdit tree (found (taken_back k f)))) c.in-Make-Found.is-0 file.0
    (c.drop_made.ensures tree c.in-Make-Found.after-0 (ap (λ (k : Change). get tree (path_of k))
    (sym c.in-Make-Found.is-0) ∙ file.0) (subst IsSmall c.in-Make-Found.is-0 small))

pub returns-in_ok-try_clone-in-Drop-Absent-2 : goal.returns-in_ok-try_clone-in-Drop-Absent-2
returns-in_ok-try_clone-in-Drop-Absent-2 c tree proper small reading =
    let at = c.in-Drop-Absent in
    let change = c.args.change.now in
    let none = absent_is (get tree (path_of change)) LONGEST_FILE (sym at.is-1 ∙ reading) in
    let here = ap (λ (k : Change). get tree (path_of k)) (sym at.is-0) ∙ none in
    subst (λ f. MakesEdit tree (found (taken_back c.args.change.now f)) (Some c.sealed_make.result)) (sym none)
    (subst (λ (k : Change). MakesEdit tree (found (taken_back k None)) (Some c.sealed_make.result)) (sym at.is-0)
    (subst (λ (x : Change). MakesEdit tree
    (found (taken_back (Drop c.in-Drop-Absent.path c.in-Drop-Absent.old c.in-Drop-Absent.before-0) None)) (Some x))
    (sym c.sealed_make.ensures)
    (make_makes tree at.path at.old at.before-0 c.in_ok-try_clone-in-Drop-Absent.field-0
    c.in_ok-try_clone-in-Drop-Absent-2.field-0 c.in_ok-try_clone-in-Drop-Absent.ensures
    c.in_ok-try_clone-in-Drop-Absent-2.ensures here
    (subst IsSmall at.is-0 small))))

pub returns-in-Splice-Found : goal.returns-in-Splice-Found
returns-in-Splice-Found c tree proper small reading =
    let file = found_is (get tree (path_of c.args.change.now)) LONGEST_FILE c.in-Splice-Found.file
    (sym c.in-Splice-Found.is-1 ∙ reading) in
    given_as
    (λ (k : Change) f. IfOk c.put_back.result (MakesEdit tree (found (taken_back k f)))) c.in-Splice-Found.is-0 file.0
    (c.put_back.ensures tree (subst IsProper c.in-Splice-Found.is-0 proper)
    (ap (λ (k : Change). get tree (path_of k)) (sym c.in-Splice-Found.is-0) ∙ file.0) file.1)
