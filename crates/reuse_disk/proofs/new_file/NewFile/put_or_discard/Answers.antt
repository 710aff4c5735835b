use Rattle.std.proofs.Common.{◌≡◌, ◌∙◌, [], false}
use Rattle.reuse_disk.specs.Due.{asked_for, due_of}
use Rattle.reuse_disk.specs.Written.{StandsAlone}
use Rattle.reuse_system.specs.NameChanges.{IsGuarded}
use Rattle.reuse_system.specs.NewFiles.{made_mode}
use Rattle.reuse_system.specs.TempFiles.{key_of, name_in, place_of}
use Rattle.reuse_disk.proofs.EditLemmas.{guarded_temp_file, guarded_then}
use Rattle.reuse_disk.proofs.WrittenLemmas.{discarded_alike}
use Rattle.reuse_disk.proofs.new_file.NewFile.put_or_discard.Given.{Over}
use Rattle.reuse_disk.proofs.new_file.NewFile.put_or_discard.Goals.{After-discard-removed}
use Rattle.reuse_disk.proofs.new_file.NewFile.put_or_discard.Goals as goal

discarded : (g : Over) (c : After-discard-removed g)
    → StandsAlone (place_of c.args.temp_file.now) (key_of c.args.temp_file.now) [] false
    (g.S.System.holds c.args.system.now)
    → c.args.temp_file.now.status.mode ≡ made_mode (asked_for c.args.content.found)
    → IsGuarded (λ place. place ≡ place_of c.args.temp_file.now)
    (name_in c.args.target.folder.now c.args.target.name.now) (due_of c.args.content)
    (g.S.System.changes c.args.system.now) (g.S.System.changes c.discard-removed.new.self)
    (g.S.System.holds c.args.system.now) (g.S.System.holds c.discard-removed.new.self)
discarded g c alone asked =
    let s = g.S.System in
    let from = place_of c.args.temp_file.now in
    let target = name_in c.args.target.folder.now c.args.target.name.now in
    let b = c.put_in_place-named.new.system in
    let d = c.discard-removed.new.self in
    let at = place_of c.put_in_place-named.new.temp_file in
    let is : at ≡ from = c.put_in_place-named.ensures.same.place in
    guarded_then (λ place. place ≡ from) target (due_of c.args.content) _ (s.changes b) _ _ (s.holds b) _
    (c.put_in_place-named.ensures.guarded alone asked)
    (guarded_temp_file (λ place. place ≡ from) target at (due_of c.args.content) (s.looked b) _ _ _ _ is
    c.discard-removed.ensures.changes
    (λ no. discarded_alike at (s.holds b) (s.holds d) c.discard-removed.result c.discard-removed.ensures.removed target
    (λ e. no (e ∙ is))))

pub returns-in_err-removed-clause-guarded : goal.returns-in_err-removed-clause-guarded
returns-in_err-removed-clause-guarded g c =
    discarded g (goal.at.returns-in_err-removed-clause-guarded g c).After-discard-removed

pub returns-in_ok-removed-clause-guarded : goal.returns-in_ok-removed-clause-guarded
returns-in_ok-removed-clause-guarded g c =
    discarded g (goal.at.returns-in_ok-removed-clause-guarded g c).After-discard-removed

pub returns-else-is_ok-clause-guarded : goal.returns-else-is_ok-clause-guarded
returns-else-is_ok-clause-guarded g c =
    discarded g (goal.at.returns-else-is_ok-clause-guarded g c).After-discard-removed
