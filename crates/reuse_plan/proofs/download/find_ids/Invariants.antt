use Rattle.std.proofs.Common.{◌≡◌, ◌++◌, [], drop, map}
use Rattle.std.specs.List.{AllByRecursion}
use Rattle.reuse_change.specs.Files.{Files}
use Rattle.reuse_plan.specs.DownloadPlan.{HasText}
use Rattle.reuse_plan.specs.Downloads.{id_refusals}
use Rattle.reuse_edit.specs.Licence.{licence_path}
use Rattle.reuse_plan.specs.Shown.{ShowsLicences}
use Rattle.reuse_plan.proofs.PathPlanning.{WalkedSoFar}
use Rattle.reuse_plan.proofs.download.find_ids.Given as goal

-- the refusals so far are planned, and where there are none, the paths so far are found
abbrev pub invariant-loop-id : goal.invariant-loop-id
invariant-loop-id l = record {
  texts : AllByRecursion (HasText l.texts) l.made.items;
  walked : (tree : Files) → ShowsLicences l.paths tree → record {
    refused : WalkedSoFar l.policy tree (id_refusals tree l.texts l.ids)
        (id_refusals tree l.texts (drop l.id-index l.ids)) l.refused.items;
    made : id_refusals tree l.texts l.ids ≡ []
        → l.made.items ++ map licence_path (drop l.id-index l.ids) ≡ map licence_path l.ids;
  };
}
