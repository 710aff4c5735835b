use Rattle.std.proofs.Common.{◌<◌, length, rules, sym, subst}
use Rattle.reuse_disk.proofs.OpenFoldersLemmas.{IsRoot, opened_popped, way_back, way_from_root}
use Rattle.reuse_disk.proofs.open_folders.OpenFolders.go_back.Goals as goal

pub loop-self-preserved-in_default : goal.loop-self-preserved-in_default
loop-self-preserved-in_default g c = (
  c.loop-self.invariant.0,
  λ folders all. opened_popped folders _ c.loop-self.self.steps.items c.pop.new.self.items c.pop.ensures.rest
      (c.loop-self.invariant.1 folders all),
)

pub returns-in-Some-clause-way : goal.returns-in-Some-clause-way
returns-in-Some-clause-way g c right honest =
    let folders = g.S.System.folders c.open_root.new.system in
    let root = c.loop-self.self.root in
    let steps = c.loop-self.self.steps.items in
    let some : 0 < length steps = search rules in
    let opened = c.open_root.ensures.enters.opened right honest in
    way_back folders
    (g.S.System.holds c.open_root.new.system) root steps c.path.result.now c.args.folder.now c.in-Some.rest.now some
    (subst (IsRoot folders) (sym c.loop-self.invariant.0) opened.0)
    (c.loop-self.invariant.1 folders opened.1) c.path.ensures c.in-Some.ensures

pub returns-clause-way : goal.returns-clause-way
returns-clause-way g c right honest =
    let folders = g.S.System.folders c.open_root.new.system in
    let root = c.loop-self.self.root in
    let opened = c.open_root.ensures.enters.opened right honest in
    way_from_root folders
    (g.S.System.holds c.open_root.new.system) root c.loop-self.self.steps.items c.args.folder.now (search rules)
    (rw c.loop-self.invariant.0 c.in_ok-open_root.ensures.root)
    (subst (IsRoot folders) (sym c.loop-self.invariant.0) opened.0)
