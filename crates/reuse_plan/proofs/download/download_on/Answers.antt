use Rattle.std.proofs.Common.{◌≡◌, ◌∙◌, [], length, map, sym, ap, subst, arith}
use Rattle.std.specs.List.{AllByRecursion}
use Rattle.std.proofs.lemmas.Bool.Decides.{nat_tests}
use Rattle.reuse_notice.specs.Sets.{set_of}
use Rattle.reuse_plan.specs.DownloadPlan.{made_at, HasText}
use Rattle.reuse_plan.specs.Downloads.{download_edits, id_refusals, or_else}
use Rattle.reuse_edit.specs.Licence.{licence_path}
use Rattle.reuse_edit.specs.PathEdits.{all_or_none}
use Rattle.reuse_edit.specs.PathPlans.{ArePlansOf}
use Rattle.reuse_plan.proofs.CommandEdits.{none_expected}
use Rattle.reuse_plan.proofs.Downloading.{download_makes, sorted_have_texts}
use Rattle.reuse_edit.proofs.PathPlanLemmas.{all_made}
use Rattle.reuse_plan.proofs.PathPlanning.{none_of, no_plans}
use Rattle.reuse_plan.proofs.download.download_on.Goals as goal

pub made_files-requires : goal.made_files-requires
made_files-requires c =
    subst (AllByRecursion (HasText c.args.texts.now)) (sym c.sorted.ensures)
    (sorted_have_texts c.args.texts.now c.in-Ok.found.made.items c.in-Ok.ensures.texts)

pub returns-clause-plans : goal.returns-clause-plans
returns-clause-plans c tree are =
    let texts = c.args.texts.now in
    let ids = set_of c.args.ids.now in
    let policy = c.args.policy in
    let selected : c.deref.result.now ≡ ids = c.deref.ensures.value ∙ c.in_ok-ids.ensures in
    let empty : length c.in-Ok.found.refused.items ≡ 0 =
    grind (arith, nat_tests, c.is_empty.ensures, c.if-not-is_empty.false, c.in-Ok.found.refused.ok.0) in
    let none = none_of policy tree (id_refusals tree texts c.deref.result.now) c.in-Ok.found.refused.items
    (c.in-Ok.ensures.refused tree are) (no_plans c.in-Ok.found.refused.items empty) in
    let still : id_refusals tree texts ids ≡ [] = ap (id_refusals tree texts) (sym selected) ∙ none in
    let made = c.in-Ok.ensures.made tree are none ∙ ap (map licence_path) selected in
    subst (λ refused. ArePlansOf policy tree (or_else refused (all_or_none (download_edits c.args.ids.now texts tree)))
    c.in_ok-all_changes.field-0.items) (sym still)
    (subst (ArePlansOf policy tree (all_or_none (download_edits c.args.ids.now texts tree)))
    (sym c.in_ok-all_changes.ensures)
    (all_made policy tree (download_edits c.args.ids.now texts tree) c.in_ok-made.made.items
    (download_makes ids texts tree c.in_ok-made.made.items (none_expected tree texts ids still)
    (c.in_ok-made.ensures ∙ ap (map (made_at texts)) (c.sorted.ensures ∙ ap set_of made)))))
