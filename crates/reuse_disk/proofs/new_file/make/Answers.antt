use Rattle.std.proofs.Common.{◌≡◌, ◌∙◌, refl, ap, ◌∷◌}
use Rattle.reuse_system.specs.TempFiles.{name_in}
use Rattle.reuse_system.specs.NameChanges.{change_at}
use Rattle.reuse_disk.proofs.EditLemmas.{only_one}
use Rattle.reuse_disk.proofs.new_file.make.Goals as goal

pub returns-in_err-remove-in-Err-clause-changes : goal.returns-in_err-remove-in-Err-clause-changes
returns-in_err-remove-in-Err-clause-changes g c =
    let s = g.S.System in
    let place = name_in c.args.folder.now c.args.name.now in
    let first = c.make.new.self in
    only_one (λ one. one ≡ place) (s.changes c.args.system.now) (s.changes c.remove.new.self)
    (change_at (s.looked first) place)
    (c.remove.ensures.changes ∙ ap (λ l. change_at (s.looked first) place ∷ l) c.make.ensures.changes) refl

pub returns-in_ok-remove-in-Err-clause-changes : goal.returns-in_ok-remove-in-Err-clause-changes
returns-in_ok-remove-in-Err-clause-changes g c =
    let s = g.S.System in
    let place = name_in c.args.folder.now c.args.name.now in
    let first = c.make.new.self in
    only_one (λ one. one ≡ place) (s.changes c.args.system.now) (s.changes c.make-in-Err.new.self)
    (change_at (s.looked first) place)
    (c.make-in-Err.ensures.changes ∙ c.remove.ensures.changes
    ∙ ap (λ l. change_at (s.looked first) place ∷ l) c.make.ensures.changes) refl
