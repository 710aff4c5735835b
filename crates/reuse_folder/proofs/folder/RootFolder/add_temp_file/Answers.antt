use Rattle.std.proofs.Common.{rules, ◌≡◌, ◌∙◌, ◌∷◌, ◌++◌, ◌<◌, ◌^◌, [], length, inl, ap, refl, subst, sym}
use Rattle.reuse_change.specs.Layout.{journal_folder}
use Rattle.reuse_system.specs.Folders.{folder_at}
use Rattle.reuse_system.specs.SystemLaws.{IsAlikeUnless}
use Rattle.reuse_system.specs.declared.place.Identity.{Identity}
use Rattle.reuse_system.specs.TempFiles.{place_of, IsNewIn}
use Rattle.reuse_system.specs.NameChanges.{change_at, OnlyChanges}
use Rattle.reuse_system.specs.NewFiles.{Due}
use Rattle.reuse_disk.specs.OpenFolders.{AreOpened}
use Rattle.reuse_disk.proofs.EditLemmas.{only_none, only_one, only_then}
use Rattle.reuse_disk.proofs.PlaceLemmas.{numbered_in}
use Rattle.reuse_disk.proofs.WrittenLemmas.{discarded_alike}
use Rattle.reuse_folder.specs.Disk.{disk_of}
use Rattle.reuse_folder.specs.NewFileFolder.{IsOpenFor, KeepsTree}
use Rattle.reuse_folder.proofs.TreeLemmas.{keeps_made, keeps_new, keeps_then}
use Rattle.reuse_folder.specs.Rounds.{new_place, HasPlace}
use Rattle.reuse_folder.specs.Seen.{IsNewFile}
use Rattle.reuse_folder.specs.declared.folder.batch.NewContent.{NewContent}
use Rattle.reuse_folder.proofs.EditLemmas.{as_seen, owner_kept}
use Rattle.reuse_folder.proofs.SeenLemmas.{only_new}
use Rattle.reuse_folder.proofs.RoundLemmas.{place_is_new}
use Rattle.reuse_folder.proofs.folder.RootFolder.add_temp_file.Given.{Over}
use Rattle.reuse_folder.proofs.folder.RootFolder.add_temp_file.Goals.{After-write_one_temp_file, In_ok-temp_file}
use Rattle.reuse_folder.proofs.folder.RootFolder.add_temp_file.Goals as goal

-- nothing but names of new files changed
only_written : (g : Over) (c : After-write_one_temp_file g)
    → OnlyChanges IsNewFile (g.S.System.changes c.args.self.now.system)
    (g.S.System.changes c.write_one_temp_file.new.system)
only_written g c =
    let s = g.S.System in
    let b = s.changes c.make_room.new.self.system in
    let d = s.changes c.enter_seen.new.system in
    only_then IsNewFile _ b _ (only_none IsNewFile _ b c.make_room.ensures.changes)
    (only_then IsNewFile b d _ (only_none IsNewFile b d c.enter_seen.ensures.enters.reads.changes)
    (only_new c.args.round.now.new_file.folder.identity d _ c.write_one_temp_file.ensures.changes))

-- the new file has the place of its number
has_place : (g : Over) (c : In_ok-temp_file g)
    → HasPlace c.args.round.now.new_file.folder.identity (length c.args.round.now.temp_files.items)
    (record { temp_file = c.in_ok-temp_file.temp_file; seen = c.in_ok-found.found })
has_place g c =
    let number : c.len-number.result ≡ length c.args.round.now.temp_files.items = search rules in
    let short : c.len-number.result < 2 ^ 64 = search rules in (
      rw number at short,
      c.in_ok-temp_file.ensures.filled.0 ∙ ap (new_place c.args.round.now.new_file.folder.identity) number,
    )

-- room was made, and a new file was written: each path leads to the file that it led to
module _ (g : Over) (c : After-write_one_temp_file g) (honest : g.S.System.honest c.write_one_temp_file.new.system)
    (short : c.len-number.result < 2 ^ 64) where
  abbrev files_in : Identity
  files_in = c.args.round.now.new_file.folder.identity

  written_alike : IsAlikeUnless (IsNewIn files_in) (g.S.System.holds c.make_room.new.self.system)
      (g.S.System.holds c.write_one_temp_file.new.system)
  written_alike place away =
      c.write_one_temp_file.ensures.others place
      (λ e. away (subst (IsNewIn files_in) (sym e) (numbered_in files_in c.len-number.result short)))
      ∙ ap (λ held. held place) c.enter_seen.ensures.enters.reads.kept

  keeps : KeepsTree files_in (disk_of g.S.System c.args.self.now.system)
      (disk_of g.S.System c.write_one_temp_file.new.system)
  keeps =
      let s = g.S.System in
      let first = disk_of s c.args.self.now.system in
      let roomy = disk_of s c.make_room.new.self.system in
      let last = disk_of s c.write_one_temp_file.new.system in
      let was = c.enter_seen.ensures.enters.reads.earlier (c.write_one_temp_file.ensures.earlier honest) in
      keeps_then files_in first roomy last
      (keeps_made files_in first roomy c.make_room.ensures.kept (c.make_room.ensures.paths was))
      (keeps_new files_in roomy last (c.write_one_temp_file.ensures.still ∙ c.enter_seen.ensures.enters.reads.still)
      (g.met.S.System.is_tree c.write_one_temp_file.new.system honest) written_alike)

pub returns-in_err-temp_file-clause-tree : goal.returns-in_err-temp_file-clause-tree
returns-in_err-temp_file-clause-tree g c honest =
    let short : c.len-number.result < 2 ^ 64 = search rules in
    keeps g (goal.at.returns-in_err-temp_file-clause-tree g c).After-write_one_temp_file honest short

pub returns-in-Ok-clause-tree : goal.returns-in-Ok-clause-tree
returns-in-Ok-clause-tree g c honest =
    let short : c.len-number.result < 2 ^ 64 = search rules in
    keeps g (goal.at.returns-in-Ok-clause-tree g c).After-write_one_temp_file honest short

pub returns-in-Err-clause-tree : goal.returns-in-Err-clause-tree
returns-in-Err-clause-tree g c honest =
    let s = g.S.System in
    let at = goal.at.returns-in-Err-clause-tree g c in
    let new_files = c.args.round.now.new_file.folder.identity in
    let from = place_of c.in-Err.full.value.temp_file in
    let one : NewContent = record { temp_file = c.in_ok-temp_file.temp_file; seen = c.in_ok-found.found } in
    let same : from ≡ place_of one.temp_file =
    ap (λ (one : NewContent). place_of one.temp_file) c.in-Err.ensures.value_returned in
    let is : IsNewIn new_files (place_of one.temp_file) =
    place_is_new new_files (length c.args.round.now.temp_files.items) one (has_place g at.In_ok-temp_file) in
    let short : c.len-number.result < 2 ^ 64 = search rules in
    let written = disk_of s c.write_one_temp_file.new.system in
    let last = disk_of s c.discard.new.self in
    let alike : IsAlikeUnless (IsNewIn new_files) written.files last.files =
    λ place away. discarded_alike from written.files last.files c.discard.result c.discard.ensures.removed place
    (λ e. away (subst (IsNewIn new_files) (sym (e ∙ same)) is)) in
    keeps_then new_files (disk_of s c.args.self.now.system) written last
    (keeps g at.After-write_one_temp_file (c.discard.ensures.earlier honest) short)
    (keeps_new new_files written last c.discard.ensures.still (g.met.S.System.is_tree c.discard.new.self honest) alike)

pub returns-in_err-temp_file-clause-changes : goal.returns-in_err-temp_file-clause-changes
returns-in_err-temp_file-clause-changes g c =
    only_written g (goal.at.returns-in_err-temp_file-clause-changes g c).After-write_one_temp_file

pub returns-in-Ok-clause-changes : goal.returns-in-Ok-clause-changes
returns-in-Ok-clause-changes g c = only_written g (goal.at.returns-in-Ok-clause-changes g c).After-write_one_temp_file

pub returns-in-Err-clause-changes : goal.returns-in-Err-clause-changes
returns-in-Err-clause-changes g c =
    let s = g.S.System in
    let at = goal.at.returns-in-Err-clause-changes g c in
    let new_files = c.args.round.now.new_file.folder.identity in
    let e = s.changes c.write_one_temp_file.new.system in
    let f = s.changes c.discard.new.self in
    let from = place_of c.in-Err.full.value.temp_file in
    let one : NewContent = record { temp_file = c.in_ok-temp_file.temp_file; seen = c.in_ok-found.found } in
    let same : from ≡ place_of one.temp_file =
    ap (λ (one : NewContent). place_of one.temp_file) c.in-Err.ensures.value_returned in
    let is : IsNewIn new_files (place_of one.temp_file) =
    place_is_new new_files (length c.args.round.now.temp_files.items) one (has_place g at.In_ok-temp_file) in
    only_then IsNewFile _ e f (only_written g at.After-write_one_temp_file) (only_one IsNewFile e f
    (change_at (s.looked c.write_one_temp_file.new.system) from) c.discard.ensures.changes
    (new_files, new_files, inl (subst (IsNewIn new_files) (sym same) is)))

pub invariant_of-self-in-Err : goal.invariant_of-self-in-Err
invariant_of-self-in-Err g c =
    let was = c.enter_seen.ensures.enters.opened c.make_room.new.self.opened in
    record {
      opened = λ honest. subst (λ folders. AreOpened folders c.enter_seen.new.self)
          (sym (c.discard.ensures.still ∙ c.write_one_temp_file.ensures.still))
          (was (c.write_one_temp_file.ensures.earlier (c.discard.ensures.earlier honest)));
      home = λ honest. subst (λ folders. IsOpenFor c.make_room.new.self.new_file (folder_at folders journal_folder))
          (sym (c.discard.ensures.still ∙ c.write_one_temp_file.ensures.still
          ∙ c.enter_seen.ensures.enters.reads.still))
          (c.make_room.new.self.home (c.enter_seen.ensures.enters.reads.earlier
          (c.write_one_temp_file.ensures.earlier (c.discard.ensures.earlier honest))));
    }

pub invariant_of-self-in-Ok : goal.invariant_of-self-in-Ok
invariant_of-self-in-Ok g c =
    let was = c.enter_seen.ensures.enters.opened c.make_room.new.self.opened in
    record {
      opened = λ honest. subst (λ folders. AreOpened folders c.enter_seen.new.self)
          (sym c.write_one_temp_file.ensures.still) (was (c.write_one_temp_file.ensures.earlier honest));
      home = λ honest. subst (λ folders. IsOpenFor c.make_room.new.self.new_file (folder_at folders journal_folder))
          (sym (c.write_one_temp_file.ensures.still ∙ c.enter_seen.ensures.enters.reads.still))
          (c.make_room.new.self.home
          (c.enter_seen.ensures.enters.reads.earlier (c.write_one_temp_file.ensures.earlier honest)));
    }

pub returns-in-Ok-clause-added : goal.returns-in-Ok-clause-added
returns-in-Ok-clause-added g c =
    let one : NewContent = record { temp_file = c.in_ok-temp_file.temp_file; seen = c.in_ok-found.found } in
    let items : c.push.new.self.items ≡ (c.args.round.now.temp_files.items ++ (one ∷ [])) = search rules in (
      one,
      items,
      has_place g (goal.at.returns-in-Ok-clause-added g c).In_ok-temp_file,
      c.in_ok-temp_file.ensures.filled.1,
    )

pub returns-in-Ok-clause-known : goal.returns-in-Ok-clause-known
returns-in-Ok-clause-known g c =
    let new_files = c.args.round.now.new_file.folder.identity in
    let temp_files = c.args.round.now.temp_files.items in
    let one : NewContent = record { temp_file = c.in_ok-temp_file.temp_file; seen = c.in_ok-found.found } in
    let items : c.push.new.self.items ≡ (temp_files ++ (one ∷ [])) = search rules in
    let new : IsNewIn new_files (place_of one.temp_file) = place_is_new new_files (length temp_files) one
    (has_place g (goal.at.returns-in-Ok-clause-known g c).In_ok-temp_file) in
    let folder = c.in_ok-current.field-0.now in
    let due : Due = record {
      seen = c.in_ok-found.found;
      owner = c.wanted.result.owner;
      process = c.wanted.result.process.now;
    } in (
      one,
      items,
      (
        (new_files, new_files, inl new),
        (c.next_at.result, c.next_at.ensures.expected, c.in_ok-found.ensures.seen),
        as_seen c.in_ok-found.found due c.in_ok-temp_file.temp_file.status refl
            (owner_kept c.make_room.new.self.ownership.process c.in_ok-found.found folder.owner folder.passes_group
            c.wanted.result.owner c.wanted.ensures.owner) c.in_ok-temp_file.ensures.kept,
      ),
    )
