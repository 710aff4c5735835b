use Rattle.std.proofs.Common.{rules, ◌∙◌, subst, sym}
use Rattle.reuse_disk.specs.KeptPaths.{KeepsPaths}
use Rattle.reuse_disk.specs.OpenFolders.{AreOpenedIf, IsNext}
use Rattle.reuse_disk.proofs.MadeFolders.{grown_twice, opened_grown}
use Rattle.reuse_disk.proofs.SameFiles.{kept_then}
use Rattle.reuse_disk.proofs.open_folders.OpenFolders.make.Given.{Over}
use Rattle.reuse_disk.proofs.open_folders.OpenFolders.make.Goals.{After-open_or_make}
use Rattle.reuse_disk.proofs.open_folders.OpenFolders.make.Goals as goal

-- what was open stays so
opened_made : (g : Over) (c : After-open_or_make g)
    → AreOpenedIf (g.S.System.honest c.args.system.now) (g.S.System.folders c.args.system.now) c.args.self.now
    → AreOpenedIf (g.S.System.honest c.open_or_make.new.system) (g.S.System.folders c.open_or_make.new.system)
    c.loop-name.self
opened_made g c right honest = opened_grown _ _ c.open_or_make.ensures.grown c.loop-name.self
    (c.loop-name.invariant.5 right (c.open_or_make.ensures.earlier honest))

-- each path leads to the file that it led to
paths_made : (g : Over) (c : After-open_or_make g) → g.S.System.honest c.open_or_make.new.system
    → KeepsPaths (g.S.System.holds c.open_or_make.new.system) (g.S.System.folders c.args.system.now)
    (g.S.System.folders c.open_or_make.new.system)
paths_made g c honest =
    let s = g.S.System in
    let now = c.open_or_make.new.system in
    kept_then (s.folders c.args.system.now) (s.folders c.loop-name.system) (s.folders now) (s.holds now)
    (subst (λ held. KeepsPaths held (s.folders c.args.system.now) (s.folders c.loop-name.system))
    (sym c.open_or_make.ensures.kept) (c.loop-name.invariant.8 (c.open_or_make.ensures.earlier honest)))
    (c.open_or_make.ensures.paths honest)

pub loop-name-preserved : goal.loop-name-preserved
loop-name-preserved g c =
    let s = g.S.System in
    let next : IsNext c.loop-name.rest.now c.in-Some.name.now c.in-Some.below.now = search rules in
    let folders = s.folders c.open_or_make.new.system in (
      search rules,
      c.open_or_make.ensures.syncs ∙ c.loop-name.invariant.1,
      grown_twice (s.folders c.args.system.now) (s.folders c.loop-name.system) folders c.loop-name.invariant.2
          c.open_or_make.ensures.grown,
      c.open_or_make.ensures.kept ∙ c.loop-name.invariant.3,
      (λ honest. c.loop-name.invariant.4 (c.open_or_make.ensures.earlier honest)),
      (λ right honest. c.step_into.ensures.opened folders next.has_no_slash
          (opened_made g (goal.at.loop-name-preserved g c).After-open_or_make right honest)
          (rw c.in-Folder.is at (c.in_ok-opened.ensures.opened honest))),
      c.open_or_make.ensures.changes ∙ c.loop-name.invariant.6,
      (λ folder noted. c.open_or_make.ensures.noted folder (c.loop-name.invariant.7 folder noted)),
      paths_made g (goal.at.loop-name-preserved g c).After-open_or_make,
    )

pub returns-in_err-opened-clause-opened : goal.returns-in_err-opened-clause-opened
returns-in_err-opened-clause-opened g c =
    opened_made g (goal.at.returns-in_err-opened-clause-opened g c).After-open_or_make

pub returns-in_err-step_into-in-Folder-clause-opened : goal.returns-in_err-step_into-in-Folder-clause-opened
returns-in_err-step_into-in-Folder-clause-opened g c right honest =
    let next : IsNext c.loop-name.rest.now c.in-Some.name.now c.in-Some.below.now = search rules in
    let after = (goal.at.returns-in_err-step_into-in-Folder-clause-opened g c).After-open_or_make in
    c.step_into.ensures.opened (g.S.System.folders c.open_or_make.new.system) next.has_no_slash
    (opened_made g after right honest) (rw c.in-Folder.is at (c.in_ok-opened.ensures.opened honest))

pub returns-in-Other-clause-opened : goal.returns-in-Other-clause-opened
returns-in-Other-clause-opened g c =
    opened_made g (goal.at.returns-in-Other-clause-opened g c).After-open_or_make

pub returns-in_err-opened-clause-paths : goal.returns-in_err-opened-clause-paths
returns-in_err-opened-clause-paths g c =
    paths_made g (goal.at.returns-in_err-opened-clause-paths g c).After-open_or_make

pub returns-in_err-step_into-in-Folder-clause-paths : goal.returns-in_err-step_into-in-Folder-clause-paths
returns-in_err-step_into-in-Folder-clause-paths g c =
    paths_made g (goal.at.returns-in_err-step_into-in-Folder-clause-paths g c).After-open_or_make

pub returns-in-Other-clause-paths : goal.returns-in-Other-clause-paths
returns-in-Other-clause-paths g c = paths_made g (goal.at.returns-in-Other-clause-paths g c).After-open_or_make
