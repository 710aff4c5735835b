use Rattle.std.proofs.Common.{◌∙◌, length, sym, ap, subst, arith, Some}
use Rattle.reuse_change.specs.Change.{sealed_splice}
use Rattle.reuse_edit.specs.Answered.{MakesEdit}
use Rattle.reuse_plan.specs.StyleEdits.{file_with}
use Rattle.reuse_plan.proofs.StyleAdding.{append_made}
use Rattle.reuse_plan.proofs.add_styles.append.Goals as goal

pub returns-clause-edit : goal.returns-clause-edit
returns-clause-edit c tree here some =
    let bytes = c.args.bytes.now in
    subst (λ change. MakesEdit tree (file_with tree c.args.path (Some bytes) c.args.lines) (Some change))
    (sym (c.sealed_splice.ensures.change
    ∙ ap (λ old. sealed_splice c.args.path bytes (length bytes) old c.args.lines) c.new-none.ensures))
    (append_made tree c.args.path bytes c.args.lines here some
    (omega (arith, c.if-len-saturating_sub.false, c.saturating_sub.ensures, c.len.ensures)))
