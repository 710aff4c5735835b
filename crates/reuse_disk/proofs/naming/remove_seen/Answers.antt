use Rattle.std.proofs.Common.{◌≡◌, Some}
use Rattle.reuse_system.specs.NameChanges.{IsGuarded}
use Rattle.reuse_system.specs.NewFiles.{Due}
use Rattle.reuse_system.specs.TempFiles.{name_in}
use Rattle.reuse_disk.proofs.EditLemmas.{expected_due, guarded_look}
use Rattle.reuse_disk.proofs.naming.remove_seen.Given.{Over}
use Rattle.reuse_disk.proofs.naming.remove_seen.Goals.{After-remove}
use Rattle.reuse_disk.proofs.naming.remove_seen.Goals as goal

removed_as_seen : (g : Over) (c : After-remove g) (due : Due) → due.seen ≡ Some c.args.seen
    → IsGuarded (λ _. ⊥) (name_in c.args.target.folder.now c.args.target.name.now) due
    (g.S.System.changes c.args.system.now) (g.S.System.changes c.remove.new.self) (g.S.System.holds c.args.system.now)
    (g.S.System.holds c.remove.new.self)
removed_as_seen g c due is =
    guarded_look (λ _. ⊥) _ due c.in_ok-found.found (g.S.System.looked c.look.new.self) _
    (g.S.System.changes c.look.new.self) _ _ _ c.look.ensures.changes c.in_ok-found.ensures.looked
    (expected_due due (Some c.args.seen) c.in_ok-found.found is c.in_ok-check_found.ensures.ok) c.remove.ensures.changes

pub returns-in_err-remove-clause-guarded : goal.returns-in_err-remove-clause-guarded
returns-in_err-remove-clause-guarded g c =
    removed_as_seen g (goal.at.returns-in_err-remove-clause-guarded g c).After-remove

pub returns-clause-guarded : goal.returns-clause-guarded
returns-clause-guarded g c = removed_as_seen g (goal.at.returns-clause-guarded g c).After-remove
