use Rattle.std.proofs.Common.{◌≡◌, ◌≢◌, List, [], ℕ, Bool, false, None, IsTrue, refl, subst}
use Rattle.reuse_change.specs.Parts.{joined}
use Rattle.reuse_system.specs.FileStates.{FileKey, Place, file}
use Rattle.reuse_system.specs.NameChanges.{IsGuarded}
use Rattle.reuse_system.specs.SystemLaws.{IsOneFile}
use Rattle.reuse_system.specs.TempFiles.{name_in, key_of, place_of}
use Rattle.reuse_disk.specs.Due.{due_of}
use Rattle.reuse_disk.specs.Written.{is_kept, is_named, IsMoved, IsWritten}
use Rattle.reuse_disk.proofs.EditLemmas.{guarded_none, guarded_then}
use Rattle.reuse_disk.proofs.WrittenLemmas.{alone_alike, placed_by_naming}
use Rattle.reuse_disk.proofs.new_file.NewFile.put_in_place.Goals as goal

pub returns-clause-placed : goal.returns-clause-placed
returns-clause-placed g c alone =
    let s = g.S.System in
    let temp_file = c.args.temp_file.now in
    let after = c.complete.new.temp_file in
    let same = c.complete.ensures.same in
    let named = c.name_temp_file.ensures in
    let to = name_in c.args.target.folder.now c.args.target.name.now in
    let held = s.holds c.complete.new.system in
    let new = s.holds c.name_temp_file.new.system in
    let done = is_named c.name_temp_file.result in
    let Honest = s.honest c.name_temp_file.new.system in
    let Named : Place → FileKey → Type 0 = λ place key. (had : List ℕ) → (was : Bool) → held place ≡ file key had was
    → IsWritten (λ other. other ≡ place) to had was held new done in
    placed_by_naming Honest (key_of temp_file) (place_of temp_file) to (joined c.args.content.parts)
    (is_kept c.args.unsynced.now.syncs) (s.holds c.args.system.now) held new done alone
    c.in_ok-complete.ensures.filled
    (subst (λ place. Named place (key_of temp_file)) same.place
    (subst (λ key. Named (place_of after) key) same.key named.named))
    (subst (λ place. IsMoved place to held new) same.place named.moved)
    (subst (λ place. Honest → place ≢ to → ¬ (IsOneFile (held place) (held to)) → IsTrue done → new place ≡ None)
    same.place named.gone)

pub returns-clause-guarded : goal.returns-clause-guarded
returns-clause-guarded g c alone asked =
    let s = g.S.System in
    let temp_file = c.args.temp_file.now in
    let from = place_of temp_file in
    let to = name_in c.args.target.folder.now c.args.target.name.now in
    let due = due_of c.args.content in
    let a = c.args.system.now in
    let b = c.complete.new.system in
    let d = c.name_temp_file.new.system in
    guarded_then (λ place. place ≡ from) to due (s.changes a) (s.changes b) (s.changes d) (s.holds a) (s.holds b)
    (s.holds d)
    (guarded_none (λ place. place ≡ from) to due (s.changes a) (s.changes b) (s.holds a) (s.holds b)
    c.complete.ensures.changes
    (λ no. alone_alike (key_of temp_file) from [] false (s.holds a) (s.holds b) alone
    c.in_ok-complete.ensures.filled.others to no))
    (subst (λ at. IsGuarded (λ place. place ≡ at) to due (s.changes b) (s.changes d) (s.holds b) (s.holds d))
    c.complete.ensures.same.place (c.name_temp_file.ensures.guarded due refl (c.in_ok-complete.ensures.kept asked)))
