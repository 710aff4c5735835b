use Rattle.std.proofs.Common.{rules, ◌≡◌, false, is_ok, IsTrue, Ok, Err, ap, inl, inr, refl}
use Rattle.std.specs.Prelude.{codes}
use Rattle.reuse_change.specs.Parts.{joined}
use Rattle.reuse_system.specs.TempFiles.{beside_name, name_in, IsNewPlace}
use Rattle.reuse_system.specs.FileStates.{place_in}
use Rattle.reuse_disk.specs.Due.{due_of}
use Rattle.reuse_disk.specs.Written.{is_kept, is_named, IsPlaced, IsWritten, LeavesNone}
use Rattle.reuse_disk.proofs.EditLemmas.{guarded_then}
use Rattle.reuse_disk.proofs.WrittenLemmas.{if_ok, none_left_by, none_left_twice, written_again, written_of_placed}
use Rattle.reuse_disk.proofs.new_file.NewFile.write.Given.{Over}
use Rattle.reuse_disk.proofs.new_file.NewFile.write.Goals.{After-write_beside, After-write_here}
use Rattle.reuse_disk.proofs.new_file.NewFile.write.Goals as goal

-- what came of the file in the folder of new files
module _ (g : Over) (c : After-write_here g) where
  written_here : IsWritten (IsNewPlace c.args.self.now.folder.identity c.args.target.folder.now.identity)
      (name_in c.args.target.folder.now c.args.target.name.now) (joined c.args.content.parts)
      (is_kept c.args.unsynced.now.syncs) (g.S.System.holds c.args.system.now)
      (g.S.System.holds c.write_here.new.system) (is_named c.write_here.result)
  written_here = written_of_placed (g.S.System.honest c.write_here.new.system) _
      (place_in c.args.self.now.folder.identity (codes "new")) _ _ _ _ _ _ (is_ok c.write_here.result)
      (inl (codes "new", refl, refl)) c.write_here.ensures.placed

  none_here : IsTrue (is_ok c.write_here.result) → g.S.System.honest c.write_here.new.system
      → LeavesNone (IsNewPlace c.args.self.now.folder.identity c.args.target.folder.now.identity)
      (g.S.System.holds c.args.system.now) (g.S.System.holds c.write_here.new.system)
  none_here well honest = none_left_by (g.S.System.honest c.write_here.new.system) _
      (place_in c.args.self.now.folder.identity (codes "new")) _ _ _ _ _ (is_named c.write_here.result)
      (is_ok c.write_here.result) (inl (codes "new", refl, refl)) c.in_ok-check.ensures.apart well honest
      c.write_here.ensures.placed

-- what came of the one beside the target
placed_beside : (g : Over) (c : After-write_beside g) → IsPlaced (g.S.System.honest c.write_beside.new.system)
    (place_in c.args.target.folder.now.identity (beside_name c.args.self.now.folder.identity))
    (name_in c.args.target.folder.now c.args.target.name.now) (joined c.args.content.parts)
    (is_kept c.args.unsynced.now.syncs) (g.S.System.holds c.write_here.new.system)
    (g.S.System.holds c.write_beside.new.system) (is_ok c.write_beside.result) (is_ok c.write_beside.result)
placed_beside g c = rw (c.write_here.ensures.folder, c.write_here.ensures.syncs) at c.write_beside.ensures.placed

pub returns-in_err-write_here-clause-written : goal.returns-in_err-write_here-clause-written
returns-in_err-write_here-clause-written g c =
    let failed : is_ok c.from_residual-in_err-write_here.result ≡ false = search rules in
    let was : c.write_here.result ≡ Err c.in_err-write_here.field-0.0 = c.in_err-write_here.was in
    let written = written_here g (goal.at.returns-in_err-write_here-clause-written g c).After-write_here in
    rw failed (rw was at written)

pub returns-then-branch-clause-none_left : goal.returns-then-branch-clause-none_left
returns-then-branch-clause-none_left g c honest =
    let was : c.write_here.result ≡ Ok c.in_ok-write_here.field-0 = c.in_ok-write_here.was in
    none_here g (goal.at.returns-then-branch-clause-none_left g c).After-write_here (ap is_ok was) honest

pub returns-clause-written : goal.returns-clause-written
returns-clause-written g c =
    let s = g.S.System in
    let at = goal.at.returns-clause-written g c in
    let d = c.write_beside.new.system in
    let IsNew = IsNewPlace c.args.self.now.folder.identity c.args.target.folder.now.identity in
    written_again IsNew _ _ _ _ (s.holds c.write_here.new.system) _ (is_named c.write_here.result)
    (is_ok c.write_beside.result) (written_here g at.After-write_here)
    (written_of_placed (s.honest d) IsNew _ _ _ _ _ _ _ (is_ok c.write_beside.result) (inr refl)
    (placed_beside g at.After-write_beside))

pub returns-clause-none_left : goal.returns-clause-none_left
returns-clause-none_left g c honest =
    let s = g.S.System in
    let at = goal.at.returns-clause-none_left g c in
    let b = c.write_here.new.system in
    let d = c.write_beside.new.system in
    let IsNew = IsNewPlace c.args.self.now.folder.identity c.args.target.folder.now.identity in
    let was : c.write_here.result ≡ Ok c.in_ok-write_here.field-0 = c.in_ok-write_here.was in
    let first = none_here g at.After-write_here (ap is_ok was) (c.write_beside.ensures.earlier honest) in
    if_ok c.write_beside.result (LeavesNone IsNew (s.holds c.args.system.now) (s.holds d))
    (λ done. none_left_twice IsNew _ (s.holds b) _ first
    (none_left_by (s.honest d) IsNew _ _ _ _ _ _ _ (is_ok c.write_beside.result) (inr refl) c.in_ok-check.ensures.apart
    done honest (placed_beside g at.After-write_beside)))

pub returns-clause-guarded : goal.returns-clause-guarded
returns-clause-guarded g c =
    let s = g.S.System in
    let a = c.args.system.now in
    let b = c.write_here.new.system in
    let d = c.write_beside.new.system in
    guarded_then (IsNewPlace c.args.self.now.folder.identity c.args.target.folder.now.identity)
    (name_in c.args.target.folder.now c.args.target.name.now) (due_of c.args.content) (s.changes a)
    (s.changes b) (s.changes d)
    (s.holds a) (s.holds b) (s.holds d) c.write_here.ensures.guarded
    (rw c.write_here.ensures.folder at c.write_beside.ensures.guarded)
