use Rattle.std.proofs.Common.{rules, ◌≡◌, ◌∙◌, refl, subst, ap, Some}
use Rattle.reuse_folder.specs.FolderReads.{IsPlaceAt}
use Rattle.reuse_disk.specs.OpenFolders.{current_of, IsEntered}
use Rattle.reuse_system.specs.FolderPlaces.{IsNoFile, place_of_found}
use Rattle.reuse_system.specs.Folders.{folder_at}
use Rattle.reuse_system.specs.Names.{IsSplit}
use Rattle.reuse_folder.proofs.ReadLemmas.{freely, reported_above, reported_look, nothing_reported, entered_none}
use Rattle.reuse_folder.proofs.ReadLemmas.{no_file_some, no_lies}
use Rattle.reuse_system.specs.declared.place.Found.{Found}
use Rattle.reuse_system.specs.declared.place.Found.TheVariants as found
use Rattle.reuse_system.specs.declared.place.Place.{Place}
use Rattle.reuse_system.specs.declared.place.Place.TheVariants as place
use Rattle.reuse_folder.proofs.folder.RootFolder.look_unless_seen.Given.{Over}
use Rattle.reuse_folder.proofs.folder.RootFolder.look_unless_seen.Goals.{In_ok-enter, In_ok-found}
use Rattle.reuse_folder.proofs.folder.RootFolder.look_unless_seen.Goals as goal

-- a part of the path above the name is no folder
above_reported : (g : Over) (c : In_ok-enter g) (one : Place) → c.in_ok-enter.field-0 ≡ Some one → IsNoFile one
    → g.S.System.honest c.enter.new.system
    → IsPlaceAt (g.S.System.folders c.enter.new.system) (g.S.System.holds c.enter.new.system) c.args.path.now
    (current_of c.enter.new.self) one
above_reported g c one is no_file honest =
    let s = g.S.System in
    let folders = s.folders c.enter.new.system in
    let held = s.holds c.enter.new.system in
    let folder = c.folder_and_name.result.0.now in
    let name = c.folder_and_name.result.1.now in
    let current = current_of c.enter.new.self in
    let split : IsSplit c.args.path.now folder name = search rules in
    reported_above folders held c.args.path.now folder name current current one split no_file
    (subst (IsEntered folders held folder current) is (c.in_ok-enter.ensures.entered c.args.self.now.opened honest))

-- the folder above was entered, and the name looked at
above_entered : (g : Over) (c : In_ok-found g) → g.S.System.honest c.look.new.self
    → folder_at (g.S.System.folders c.enter.new.system) c.folder_and_name.result.0.now ≡ current_of c.enter.new.self
above_entered g c honest =
    let s = g.S.System in
    subst (IsEntered (s.folders c.enter.new.system) (s.holds c.enter.new.system) c.folder_and_name.result.0.now
    (current_of c.enter.new.self)) c.in-None.is
    (c.in_ok-enter.ensures.entered c.args.self.now.opened (c.look.ensures.earlier honest))

name_reported : (g : Over) (c : In_ok-found g) (seen : Found) (one : Place) → c.in_ok-found.found ≡ seen
    → one ≡ place_of_found seen → g.S.System.honest c.look.new.self
    → IsPlaceAt (g.S.System.folders c.look.new.self) (g.S.System.holds c.look.new.self) c.args.path.now
    (current_of c.enter.new.self) one
name_reported g c seen one is converted honest =
    let s = g.S.System in
    let folder = c.folder_and_name.result.0.now in
    let name = c.folder_and_name.result.1.now in
    let split : IsSplit c.args.path.now folder name = search rules in
    reported_look (s.folders c.look.new.self) (s.holds c.look.new.self) (s.folders c.enter.new.system) c.args.path.now
    folder name (current_of c.enter.new.self) c.in_ok-current.field-0.now.identity seen one c.look.ensures.still
    (above_entered g c honest) c.in_ok-current.ensures split (rw is at (c.in_ok-found.ensures.seen honest))
    converted

pub returns-in-Some-Nothing-clause-seen : goal.returns-in-Some-Nothing-clause-seen
returns-in-Some-Nothing-clause-seen g c honest none =
    let is = c.in-Some-Nothing.is ∙ ap (λ p. Some p) c.in-Some-Nothing.field-0-is in
    nothing_reported (g.S.System.folders c.enter.new.system) (g.S.System.holds c.enter.new.system) c.args.path.now
    (current_of c.enter.new.self) c.nothing.result c.nothing.ensures
    (above_reported g (goal.at.returns-in-Some-Nothing-clause-seen g c).In_ok-enter place.Nothing is tt honest)

pub returns-in-Some-Nothing-clause-apart : goal.returns-in-Some-Nothing-clause-apart
returns-in-Some-Nothing-clause-apart g c honest =
    let folders = g.S.System.folders c.enter.new.system in
    let held = g.S.System.holds c.enter.new.system in
    let current = current_of c.enter.new.self in
    let is = c.in-Some-Nothing.is ∙ ap (λ p. Some p) c.in-Some-Nothing.field-0-is in
    freely c.nothing.result (IsPlaceAt folders held c.args.path.now current)
    (nothing_reported folders held c.args.path.now current c.nothing.result c.nothing.ensures
    (above_reported g (goal.at.returns-in-Some-Nothing-clause-apart g c).In_ok-enter place.Nothing is tt honest))

pub returns-in-Some-clause-lies : goal.returns-in-Some-clause-lies
returns-in-Some-clause-lies g c honest =
    let is : c.in_ok-enter.field-0 ≡ Some c.in-Some.place = cc in
    no_lies (g.S.System.folders c.enter.new.system) c.args.path.now (current_of c.enter.new.self)
    c.in-Some.place (no_file_some c.in_ok-enter.field-0 c.in-Some.place is c.in_ok-enter.ensures.no_file)

pub returns-in-Some-clause-apart : goal.returns-in-Some-clause-apart
returns-in-Some-clause-apart g c honest no_file =
    let is : c.in_ok-enter.field-0 ≡ Some c.in-Some.place = cc in
    above_reported g (goal.at.returns-in-Some-clause-apart g c).In_ok-enter c.in-Some.place is no_file honest

pub returns-in-Some-clause-seen : goal.returns-in-Some-clause-seen
returns-in-Some-clause-seen g c honest none =
    let is : c.in_ok-enter.field-0 ≡ Some c.in-Some.place = cc in
    above_reported g (goal.at.returns-in-Some-clause-seen g c).In_ok-enter c.in-Some.place is
    (no_file_some c.in_ok-enter.field-0 c.in-Some.place is c.in_ok-enter.ensures.no_file) honest

pub returns-in-Some-seen-clause-lies : goal.returns-in-Some-seen-clause-lies
returns-in-Some-seen-clause-lies g c honest =
    let folders = g.S.System.folders c.enter.new.system in
    let held = g.S.System.holds c.enter.new.system in
    let above = c.folder_and_name.result.0.now in
    let current = current_of c.enter.new.self in
    let split : IsSplit c.args.path.now above c.folder_and_name.result.1.now = search rules in
    entered_none folders held folders c.args.path.now above c.folder_and_name.result.1.now current
    (place.File c.in-Some-seen.status) refl split
    (subst (IsEntered folders held above current) c.in-None.is
    (c.in_ok-enter.ensures.entered c.args.self.now.opened honest))

pub returns-in-Nothing-clause-seen : goal.returns-in-Nothing-clause-seen
returns-in-Nothing-clause-seen g c honest none =
    let s = g.S.System in
    let at = (goal.at.returns-in-Nothing-clause-seen g c).In_ok-found in
    nothing_reported (s.folders c.look.new.self) (s.holds c.look.new.self) c.args.path.now
    (current_of c.enter.new.self) c.nothing-in-Nothing.result c.nothing-in-Nothing.ensures
    (name_reported g at found.Nothing place.Nothing c.in-Nothing.is refl honest)

pub returns-in-Nothing-clause-apart : goal.returns-in-Nothing-clause-apart
returns-in-Nothing-clause-apart g c honest =
    let at = (goal.at.returns-in-Nothing-clause-apart g c).In_ok-found in
    let folders = g.S.System.folders c.look.new.self in
    let held = g.S.System.holds c.look.new.self in
    let current = current_of c.enter.new.self in
    freely c.nothing-in-Nothing.result (IsPlaceAt folders held c.args.path.now current)
    (nothing_reported folders held c.args.path.now current c.nothing-in-Nothing.result c.nothing-in-Nothing.ensures
    (name_reported g at found.Nothing place.Nothing c.in-Nothing.is refl honest))

pub returns-in_default-2-clause-lies : goal.returns-in_default-2-clause-lies
returns-in_default-2-clause-lies g c honest =
    let s = g.S.System in
    let folder = c.folder_and_name.result.0.now in
    let name = c.folder_and_name.result.1.now in
    let split : IsSplit c.args.path.now folder name = search rules in
    entered_none (s.folders c.look.new.self) (s.holds c.look.new.self) (s.folders c.enter.new.system) c.args.path.now
    folder name (current_of c.enter.new.self) c.into_place.result c.look.ensures.still split
    (above_entered g (goal.at.returns-in_default-2-clause-lies g c).In_ok-found honest)

pub returns-in_default-2-clause-seen : goal.returns-in_default-2-clause-seen
returns-in_default-2-clause-seen g c honest none =
    name_reported g (goal.at.returns-in_default-2-clause-seen g c).In_ok-found c.in_ok-found.found c.into_place.result
    refl c.into_place.ensures honest

pub returns-in_default-2-clause-apart : goal.returns-in_default-2-clause-apart
returns-in_default-2-clause-apart g c honest no_file =
    name_reported g (goal.at.returns-in_default-2-clause-apart g c).In_ok-found c.in_ok-found.found c.into_place.result
    refl c.into_place.ensures honest
