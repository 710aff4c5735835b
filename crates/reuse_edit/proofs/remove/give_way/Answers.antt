use Rattle.std.proofs.Common.{◌≡◌, ◌∙◌, ℕ, List, Option, Some, false, refl, sym, ap, subst}
use Rattle.reuse_edit.specs.Edit.{dropped, edit_between, edit_to}
use Rattle.reuse_edit.specs.AmendmentPlan.{names_behind}
use Rattle.reuse_edit.specs.Left.{still_names}
use Rattle.reuse_edit.specs.Answered.{CarriesOutEdit, MakesEdit}
use Rattle.reuse_edit.proofs.BetweenLemmas.{names_between}
use Rattle.reuse_edit.proofs.EditLemmas.{edited_to}
use Rattle.reuse_edit.proofs.Removing.{drop_carried}
use Rattle.reuse_edit.proofs.remove.give_way.Goals as goal

pub returns-in_ok-from_slice-in-None-clause-edit : goal.returns-in_ok-from_slice-in-None-clause-edit
returns-in_ok-from_slice-in-None-clause-edit c tree here =
    let at = c.args.at.now in
    let old = c.args.old.now in
    subst (λ (left : Option (List ℕ)). MakesEdit tree (edited_to (edit_to at old left)) (Some c.sealed_drop.result)
    × (false ≡ names_behind c.args.values.now old (edited_to (edit_to at old left)))) (sym c.in-None.is) (
      (
        dropped at old,
        refl,
        subst (λ change. CarriesOutEdit tree change (dropped at old)) (sym c.sealed_drop.ensures)
            (drop_carried tree at old c.in_ok-try_clone-in-None.field-0 c.in_ok-from_slice-in-None.field-0
            c.in_ok-try_clone-in-None.ensures c.in_ok-from_slice-in-None.ensures here c.requires.old),
      ),
      refl,
    )

pub returns-in_ok-change_between-in-Some-clause-edit : goal.returns-in_ok-change_between-in-Some-clause-edit
returns-in_ok-change_between-in-Some-clause-edit c tree here =
    let at = c.args.at.now in
    let old = c.args.old.now in
    let values = c.args.values.now in
    let new = c.in-Some.new in
    subst (λ (left : Option (List ℕ)). MakesEdit tree (edited_to (edit_to at old left))
    c.in_ok-change_between-in-Some.field-0
    × (c.still_names.result ≡ names_behind values old (edited_to (edit_to at old left)))) (sym c.in-Some.is) (
      subst (λ (made : List ℕ). MakesEdit tree (edited_to (edit_between at old made))
          c.in_ok-change_between-in-Some.field-0) c.as_slice.ensures
          (c.in_ok-change_between-in-Some.ensures tree here),
      c.still_names.ensures ∙ ap (λ (made : List ℕ). still_names values made) c.as_slice-in-Some.ensures
          ∙ names_between old new values at,
    )
