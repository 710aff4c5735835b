use Rattle.std.proofs.Common.{◌≡◌}
use Rattle.reuse_system.specs.NameChanges.{IsGuarded}
use Rattle.reuse_system.specs.NewFiles.{Due, IsAsDue}
use Rattle.reuse_system.specs.TempFiles.{name_in, place_of}
use Rattle.reuse_disk.proofs.EditLemmas.{expected_due, guarded_name}
use Rattle.reuse_disk.proofs.naming.replace.Given.{Over}
use Rattle.reuse_disk.proofs.naming.replace.Goals.{After-rename}
use Rattle.reuse_disk.proofs.naming.replace.Goals as goal

renamed_as_seen : (g : Over) (c : After-rename g) (due : Due) → due.seen ≡ c.args.seen
    → IsAsDue due c.args.temp_file.now.status
    → IsGuarded (λ place. place ≡ place_of c.args.temp_file.now)
    (name_in c.args.target.folder.now c.args.target.name.now) due (g.S.System.changes c.args.system.now)
    (g.S.System.changes c.rename.new.self) (g.S.System.holds c.args.system.now) (g.S.System.holds c.rename.new.self)
renamed_as_seen g c due is as_due =
    guarded_name (λ place. place ≡ place_of c.args.temp_file.now) _ due c.in_ok-found.found c.args.temp_file.now.status
    (g.S.System.looked c.look.new.self) _ (g.S.System.changes c.look.new.self) _ _ _ c.look.ensures.changes
    c.in_ok-found.ensures.looked
    (expected_due due c.args.seen c.in_ok-found.found is c.in_ok-check_found.ensures.ok) as_due c.rename.ensures.changes

pub returns-in_err-rename-clause-guarded : goal.returns-in_err-rename-clause-guarded
returns-in_err-rename-clause-guarded g c =
    renamed_as_seen g (goal.at.returns-in_err-rename-clause-guarded g c).After-rename

pub returns-clause-guarded : goal.returns-clause-guarded
returns-clause-guarded g c = renamed_as_seen g (goal.at.returns-clause-guarded g c).After-rename
