use Rattle.std.proofs.Common.{rules, ◌≡◌, None, refl}
use Rattle.reuse_system.specs.NameChanges.{IsGuarded}
use Rattle.reuse_system.specs.NewFiles.{Due, IsAsDue}
use Rattle.reuse_system.specs.TempFiles.{name_in, place_of}
use Rattle.reuse_disk.proofs.EditLemmas.{guarded_temp_file, guarded_link, guarded_then, renamed_after_link}
use Rattle.reuse_disk.proofs.WrittenLemmas.{discarded_alike}
use Rattle.reuse_disk.proofs.naming.take_name.Given.{Over}
use Rattle.reuse_disk.proofs.naming.take_name.Goals.{After-discard, After-link}
use Rattle.reuse_disk.proofs.naming.take_name.Goals as goal

linked : (g : Over) (c : After-link g) (due : Due) → due.seen ≡ None → IsAsDue due c.args.temp_file.now.status
    → IsGuarded (λ place. place ≡ place_of c.args.temp_file.now)
    (name_in c.args.target.folder.now c.args.target.name.now) due (g.S.System.changes c.args.system.now)
    (g.S.System.changes c.link.new.self) (g.S.System.holds c.args.system.now) (g.S.System.holds c.link.new.self)
linked g c due none as_due =
    guarded_link (λ place. place ≡ place_of c.args.temp_file.now) _ due c.args.temp_file.now.status _ _ _ _ none as_due
    c.link.ensures.changes

linked_then_discarded : (g : Over) (c : After-discard g) (due : Due)
    → IsGuarded (λ place. place ≡ place_of c.args.temp_file.now)
    (name_in c.args.target.folder.now c.args.target.name.now) due (g.S.System.changes c.args.system.now)
    (g.S.System.changes c.link.new.self) (g.S.System.holds c.args.system.now) (g.S.System.holds c.link.new.self)
    → IsGuarded (λ place. place ≡ place_of c.args.temp_file.now)
    (name_in c.args.target.folder.now c.args.target.name.now) due (g.S.System.changes c.args.system.now)
    (g.S.System.changes c.discard.new.self) (g.S.System.holds c.args.system.now) (g.S.System.holds c.discard.new.self)
linked_then_discarded g c due guarded =
    let s = g.S.System in
    let from = place_of c.args.temp_file.now in
    let target = name_in c.args.target.folder.now c.args.target.name.now in
    let held = s.holds c.link.new.self in
    guarded_then (λ place. place ≡ from) target due _ (s.changes c.link.new.self) _ _ held _ guarded
    (guarded_temp_file (λ place. place ≡ from) target from due (s.looked c.link.new.self) _ _ _ _ refl
    c.discard.ensures.changes
    (discarded_alike from held (s.holds c.discard.new.self) c.discard.result c.discard.ensures.removed target))

pub returns-in_err-discard-in-Ok-clause-guarded : goal.returns-in_err-discard-in-Ok-clause-guarded
returns-in_err-discard-in-Ok-clause-guarded g c due none as_due =
    let at = goal.at.returns-in_err-discard-in-Ok-clause-guarded g c in
    linked_then_discarded g at.After-discard due (linked g at.After-link due none as_due)

pub returns-in_ok-discard-in-Ok-clause-guarded : goal.returns-in_ok-discard-in-Ok-clause-guarded
returns-in_ok-discard-in-Ok-clause-guarded g c due none as_due =
    let at = goal.at.returns-in_ok-discard-in-Ok-clause-guarded g c in
    linked_then_discarded g at.After-discard due (linked g at.After-link due none as_due)

pub returns-in-Err-clause-guarded : goal.returns-in-Err-clause-guarded
returns-in-Err-clause-guarded g c = linked g (goal.at.returns-in-Err-clause-guarded g c).After-link

pub returns-in-Err-2-clause-gives : goal.returns-in-Err-2-clause-gives
returns-in-Err-2-clause-gives g c =
    let s = g.S.System in
    record {
      renamed =
          renamed_after_link (place_of c.args.temp_file.now)
          (name_in c.args.target.folder.now c.args.target.name.now) (s.holds c.args.system.now)
          (s.holds c.link.new.self) (s.holds c.replace.new.system) c.replace.result c.in-Err-2.ensures.linked
          c.replace.ensures.gives.renamed;
      gone = search rules;
      still = search rules;
      earlier = search rules;
    }

pub returns-in-Err-2-clause-guarded : goal.returns-in-Err-2-clause-guarded
returns-in-Err-2-clause-guarded g c due none as_due =
    let s = g.S.System in
    guarded_then (λ place. place ≡ place_of c.args.temp_file.now) _ due _ (s.changes c.link.new.self) _ _
    (s.holds c.link.new.self) _ (linked g (goal.at.returns-in-Err-2-clause-guarded g c).After-link due none as_due)
    (c.replace.ensures.guarded due none as_due)

pub returns-in-Err-3-clause-guarded : goal.returns-in-Err-3-clause-guarded
returns-in-Err-3-clause-guarded g c = linked g (goal.at.returns-in-Err-3-clause-guarded g c).After-link
