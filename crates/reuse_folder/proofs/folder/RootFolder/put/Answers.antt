use Rattle.std.proofs.Common.{rules, ◌≡◌, ◌∙◌, ap, false, is_ok}
use Rattle.reuse_change.specs.Parts.{joined}
use Rattle.reuse_disk.specs.Written.{is_kept}
use Rattle.reuse_disk.specs.declared.syncs.Unsynced.{Unsynced}
use Rattle.reuse_folder.proofs.PutLemmas.{nothing_put_by, nothing_put_in, stored_if}
use Rattle.reuse_folder.proofs.EditLemmas.{loses_none}
use Rattle.reuse_system.specs.Folders.{file_at}
use Rattle.reuse_folder.specs.Disk.{disk_of, IsSameTree}
use Rattle.reuse_folder.proofs.folder.RootFolder.put.Given.{Over}
use Rattle.reuse_folder.proofs.folder.RootFolder.put.Goals.{After-make_room}
use Rattle.reuse_folder.proofs.folder.RootFolder.put.Goals as goal

pub returns-in_err-found-clause-written : goal.returns-in_err-found-clause-written
returns-in_err-found-clause-written g c =
    let failed : is_ok c.from_residual.result ≡ false = search rules in
    rw (c.make_room.ensures.kept, c.take_expected-expected.ensures.kept)
    (nothing_put_by c.args.path.now (joined c.args.parts) (is_kept c.args.self.now.unsynced.syncs)
    (g.S.System.holds c.args.self.now.system) (is_ok c.from_residual.result) failed)

pub returns-in_err-found-clause-place : goal.returns-in_err-found-clause-place
returns-in_err-found-clause-place g c honest =
    let s = g.S.System in
    let failed : is_ok c.from_residual.result ≡ false = search rules in
    rw (c.make_room.ensures.kept, c.take_expected-expected.ensures.kept)
    (nothing_put_in (s.folders c.make_room.new.self.system) c.args.path.now (joined c.args.parts) (is_kept
    c.args.self.now.unsynced.syncs) (s.holds c.args.self.now.system) (is_ok c.from_residual.result) failed)

pub returns-in_err-found-clause-keeps_edits : goal.returns-in_err-found-clause-keeps_edits
returns-in_err-found-clause-keeps_edits g c = (
  c.take_expected-expected.result,
  c.take_expected-expected.ensures.expected,
  rw c.take_expected-expected.ensures.kept at (loses_none c.args.path.now c.take_expected-expected.result
      c.args.self.now.ownership.process _ _ _ _ c.make_room.ensures.changes c.make_room.ensures.kept),
)

pub returns-clause-written : goal.returns-clause-written
returns-clause-written g c =
    rw (
      c.make_room.ensures.kept,
      c.make_room.ensures.syncs,
      c.take_expected-expected.ensures.kept,
      c.take_expected-expected.ensures.unsynced,
    ) at c.write.ensures.written

pub returns-clause-place : goal.returns-clause-place
returns-clause-place g c honest =
    rw (
      c.make_room.ensures.kept,
      c.make_room.ensures.syncs,
      c.take_expected-expected.ensures.kept,
      c.take_expected-expected.ensures.unsynced,
    ) at (c.write.ensures.place honest)

pub returns-clause-stands : goal.returns-clause-stands
returns-clause-stands g c honest =
    let s = g.S.System in
    let put =
    rw (c.make_room.ensures.syncs, c.take_expected-expected.ensures.unsynced) at (c.write.ensures.place honest) in
    let last = c.write.new.self.system in
    stored_if put.0 (s.folders last) c.args.path.now (joined c.args.parts) (is_kept c.args.self.now.unsynced.syncs)
    (s.holds c.make_room.new.self.system) (s.holds last) c.write.result put.1

pub returns-clause-noted : goal.returns-clause-noted
returns-clause-noted g c kept =
    let syncs = c.make_room.ensures.syncs ∙ ap (λ (one : Unsynced). one.syncs) c.take_expected-expected.ensures.unsynced
    in
    rw (c.make_room.ensures.changes, c.take_expected-expected.ensures.kept) at (c.write.ensures.noted (syncs ∙ kept))

pub returns-clause-keeps_edits : goal.returns-clause-keeps_edits
returns-clause-keeps_edits g c = (
  c.take_expected-expected.result,
  c.take_expected-expected.ensures.expected,
  rw (c.make_room.ensures.changes, c.make_room.ensures.kept, c.take_expected-expected.ensures.kept) at
      (c.write.ensures.keeps_edits c.take_expected-expected.result c.in_ok-found.ensures.seen),
)

-- room was made: each path leads to the file that it led to
module _ (g : Over) (c : After-make_room g) where
  roomy : g.S.System.honest c.make_room.new.self.system
      → IsSameTree (disk_of g.S.System c.args.self.now.system) (disk_of g.S.System c.make_room.new.self.system)
  roomy honest path of_tree =
      let s = g.S.System in
      let was = c.args.self.now.system in
      let now = c.make_room.new.self.system in
      let expected = c.take_expected-expected.ensures.kept in
      (c.make_room.ensures.paths honest).files path
      ∙ ap (λ held. file_at (s.folders c.take_expected-expected.new.self.system) held path) c.make_room.ensures.kept
      ∙ ap (λ system. file_at (s.folders system) (s.holds system) path) expected

pub returns-in_err-found-clause-others : goal.returns-in_err-found-clause-others
returns-in_err-found-clause-others g c honest other of_tree apart =
    roomy g (goal.at.returns-in_err-found-clause-others g c).After-make_room honest other of_tree

pub returns-clause-others : goal.returns-clause-others
returns-clause-others g c honest other of_tree apart =
    c.write.ensures.others honest other of_tree apart
    ∙ roomy g (goal.at.returns-clause-others g c).After-make_room (c.write.ensures.earlier honest) other of_tree
