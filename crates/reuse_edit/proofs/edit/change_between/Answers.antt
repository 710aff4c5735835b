use Rattle.std.proofs.Common.{Some, ap, drop, sym, subst, take, ◌∙◌}
use Rattle.reuse_change.specs.Change.{sealed_splice}
use Rattle.reuse_text.specs.declared.difference.Difference.{Difference}
use Rattle.reuse_edit.specs.Edit.{edit_between}
use Rattle.reuse_edit.specs.Answered.{MakesEdit}
use Rattle.reuse_edit.proofs.EditLemmas.{edited_to}
use Rattle.reuse_edit.proofs.BetweenLemmas.{makes_exchange}
use Rattle.reuse_edit.proofs.edit.change_between.Goals as goal

pub returns : goal.returns
returns c tree here =
    let at = c.args.at.now in
    let old = c.args.old.now in
    let new = c.args.new.now in
    let made = c.in_ok-change_of.ensures
    ∙ ap (λ (d : Difference). sealed_splice at old d.at (take d.old_len (drop d.at old))
    (take d.new_len (drop d.at new)))
    c.difference_of-differing.ensures.is in
    subst (λ change. MakesEdit tree (edited_to (edit_between at old new)) (Some change)) (sym made)
    (makes_exchange old new tree at here c.requires.old c.requires.new (sym c.eq.ensures ∙ c.if-eq.false))
