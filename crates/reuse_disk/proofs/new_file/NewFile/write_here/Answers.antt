use Rattle.std.proofs.Common.{◌≡◌, ◌∙◌, inl, refl, sym, subst}
use Rattle.std.specs.Prelude.{codes}
use Rattle.reuse_system.specs.TempFiles.{name_in, place_of, IsNewIn, IsNewPlace}
use Rattle.reuse_system.specs.FileStates.{Place}
use Rattle.reuse_disk.specs.Due.{due_of}
use Rattle.reuse_disk.proofs.DueLemmas.{asked_mode}
use Rattle.reuse_disk.proofs.EditLemmas.{guarded_only, guarded_then, guarded_weaker, only_weaker}
use Rattle.reuse_disk.proofs.new_file.NewFile.write_here.Goals as goal

pub returns-clause-guarded : goal.returns-clause-guarded
returns-clause-guarded g c =
    let s = g.S.System in
    let folder = c.args.self.now.folder.identity in
    let to = c.args.target.folder.now.identity in
    let target = name_in c.args.target.folder.now c.args.target.name.now in
    let seen = due_of c.args.content in
    let place = name_in c.args.self.now.folder (codes "new") in
    let is : (other : Place) → other ≡ place → IsNewPlace folder to other =
    λ other e. inl (subst (IsNewIn folder) (sym e) (codes "new", refl, refl)) in
    let a = c.args.system.now in
    let b = c.make.new.system in
    let d = c.put_or_discard.new.system in
    let from = place_of c.in_ok-temp_file.temp_file in
    guarded_then (IsNewPlace folder to) target seen (s.changes a) (s.changes b) (s.changes d) (s.holds a)
    (s.holds b) (s.holds d)
    (guarded_only (IsNewPlace folder to) target seen (s.changes a) (s.changes b) (s.holds a) (s.holds b)
    (only_weaker (λ other. other ≡ place) (IsNewPlace folder to) is (s.changes a) (s.changes b) c.make.ensures.changes)
    (λ no. c.make.ensures.others target (λ e. no (is target e))))
    (guarded_weaker (λ other. other ≡ from) (IsNewPlace folder to) target seen
    (λ other e. is other (e ∙ c.in_ok-temp_file.ensures.made.0)) (s.changes b) (s.changes d) (s.holds b) (s.holds d)
    (c.put_or_discard.ensures.guarded c.in_ok-temp_file.ensures.made.1
    (asked_mode c.in_ok-temp_file.temp_file.status c.mode.result c.args.content.found c.in_ok-temp_file.ensures.status
    c.mode.ensures)))
