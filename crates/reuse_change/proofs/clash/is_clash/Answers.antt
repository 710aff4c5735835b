use Rattle.std.proofs.Common.{◌≡◌, ◌∙◌, sym, ap, subst, IfOk}
use Rattle.reuse_change.proofs.ClashLemmas.{is_below, clash_below, clash_folder}
use Rattle.reuse_change.proofs.clash.is_clash.Goals as goal

pub returns-then-is_below_file : goal.returns-then-is_below_file
returns-then-is_below_file c sorted =
    clash_below c.args.paths.now c.args.path.now (ap (is_below c.args.paths.now) (sym c.as_bytes.ensures.bytes)
    ∙ sym (c.is_below_file.ensures sorted) ∙ c.if-is_below_file.true)

pub returns : goal.returns
returns c sorted =
    subst (λ b. IfOk c.is_folder.result (λ clash. clash ≡ b))
    (clash_folder c.args.paths.now c.args.path.now (ap (is_below c.args.paths.now) (sym c.as_bytes.ensures.bytes)
    ∙ sym (c.is_below_file.ensures sorted) ∙ c.if-is_below_file.false))
    (c.is_folder.ensures sorted)
