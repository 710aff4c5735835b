use Rattle.std.proofs.Common.{◌∙◌, IsSome, ap, subst}
use Rattle.std.proofs.lemmas.Result.{IfOk-weaker}
use Rattle.reuse_edit.specs.Licence.{text_for}
use Rattle.reuse_edit.specs.Licence.{licence_path}
use Rattle.reuse_plan.proofs.Downloading.{has_text}
use Rattle.reuse_plan.proofs.download.made_path.Goals as goal

pub returns-in_ok-licence_path-in-Some-clause-text : goal.returns-in_ok-licence_path-in-Some-clause-text
returns-in_ok-licence_path-in-Some-clause-text c =
    let texts = c.args.texts.now in
    let here = c.in_ok-licence_path-in-Some.ensures ∙ ap licence_path (c.in-Some.ensures.0 ∙ c.as_slice.ensures) in
    IfOk-weaker c.path_for.result _ _ (λ made is. has_text texts c.args.id.now made (is.0 ∙ here)
    (subst (λ o. IsSome o) (c.text_for.ensures ∙ ap (text_for texts) c.as_slice-in-Some.ensures) is.1))
    c.path_for.ensures.text
