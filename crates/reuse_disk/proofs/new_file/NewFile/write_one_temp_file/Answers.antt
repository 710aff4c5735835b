use Rattle.std.proofs.Common.{◌≡◌, ◌∙◌, ◌∷◌, ap, refl, sym, subst}
use Rattle.reuse_system.specs.TempFiles.{name_in, place_of, IsNewIn}
use Rattle.reuse_system.specs.FileStates.{Place}
use Rattle.reuse_system.specs.NameChanges.{change_at, OnlyChanges}
use Rattle.reuse_disk.proofs.EditLemmas.{only_none, only_one, only_then, only_weaker}
use Rattle.reuse_disk.proofs.new_file.NewFile.write_one_temp_file.Given.{Over}
use Rattle.reuse_disk.proofs.new_file.NewFile.write_one_temp_file.Goals.{After-make}
use Rattle.reuse_disk.proofs.new_file.NewFile.write_one_temp_file.Goals as goal

module _ (g : Over) (c : After-make g) where
  is_new : (place : Place) → place ≡ name_in c.args.self.now.folder c.as_str.result.now
      → IsNewIn c.args.self.now.folder.identity place
  is_new place at = subst (IsNewIn c.args.self.now.folder.identity) (sym at)
      (c.as_str.result.now, c.as_str.ensures.is_new, refl)

  only_made : OnlyChanges (IsNewIn c.args.self.now.folder.identity) (g.S.System.changes c.args.system.now)
      (g.S.System.changes c.make.new.system)
  only_made = only_weaker (λ place. place ≡ name_in c.args.self.now.folder c.as_str.result.now)
      (IsNewIn c.args.self.now.folder.identity) is_new _ _ c.make.ensures.changes

pub returns-in_err-temp_file-clause-changes : goal.returns-in_err-temp_file-clause-changes
returns-in_err-temp_file-clause-changes g c =
    only_made g (goal.at.returns-in_err-temp_file-clause-changes g c).After-make

pub returns-in-Err-clause-changes : goal.returns-in-Err-clause-changes
returns-in-Err-clause-changes g c =
    let s = g.S.System in
    let at = (goal.at.returns-in-Err-clause-changes g c).After-make in
    let IsOne = IsNewIn c.args.self.now.folder.identity in
    let place = place_of c.fill.new.temp_file in
    only_then IsOne _ (s.changes c.make.new.system) _ (only_made g at)
    (only_one IsOne _ _ (change_at (s.looked c.fill.new.system) place)
    (c.discard.ensures.changes ∙ ap (λ l. change_at (s.looked c.fill.new.system) place ∷ l) c.fill.ensures.changes)
    (is_new g at place (c.fill.ensures.same.place ∙ c.in_ok-temp_file.ensures.made.0)))

pub returns-clause-changes : goal.returns-clause-changes
returns-clause-changes g c =
    let IsOne = IsNewIn c.args.self.now.folder.identity in
    only_then IsOne _ (g.S.System.changes c.make.new.system) _
    (only_made g (goal.at.returns-clause-changes g c).After-make) (only_none IsOne _ _ c.fill.ensures.changes)
