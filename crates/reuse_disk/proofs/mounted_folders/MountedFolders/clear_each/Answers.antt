use Rattle.std.proofs.Common.{◌∙◌, sym, ap, subst, Some}
use Rattle.reuse_system.specs.Folders.{folder_at}
use Rattle.reuse_change.specs.Layout.{journal_folder}
use Rattle.reuse_disk.specs.LeftFiles.{ClearsLeft, IsJournalIf}
use Rattle.reuse_disk.specs.OpenFolders.{AreOpenedIf}
use Rattle.reuse_disk.proofs.LeftLemmas.{clears_later, clears_then}
use Rattle.reuse_disk.proofs.ReadsOnlyLemmas.{notes_then}
use Rattle.reuse_disk.proofs.mounted_folders.MountedFolders.clear_each.Goals as goal

pub loop-path-preserved : goal.loop-path-preserved
loop-path-preserved g c =
    let s = g.S.System in
    let first = c.args.system.now in
    let before = c.loop-path.system in
    let after = c.clear_folder.new.system in
    let known : AreOpenedIf (s.honest first) (s.folders first) c.args.open_folders.now
    → IsJournalIf (s.honest before) (s.folders before) c.identity-journal.result =
    λ opened honest. ap (λ folders. folder_at folders journal_folder)
    (c.loop-path.invariant.1.still ∙ sym c.enter_seen.ensures.enters.reads.still)
    ∙ c.in_ok-enter_seen.ensures.entered opened (c.loop-path.invariant.2 honest) ∙ c.in_ok-current.ensures
    ∙ ap (λ one. Some one) (sym c.identity-journal.ensures) in (
      (λ opened. clears_then (s.honest after) (s.folders after) (s.changes first) (s.changes before) (s.changes after)
          (s.holds first) (s.holds before) (s.holds after)
          (clears_later (s.honest before) (s.honest after) (s.folders after) (s.changes first) (s.changes before)
          (s.holds first) (s.holds before) c.clear_folder.ensures.notes.earlier
          (subst (λ folders. ClearsLeft (s.honest before) folders (s.changes first) (s.changes before) (s.holds first)
          (s.holds before)) (sym c.clear_folder.ensures.notes.still) (c.loop-path.invariant.0 opened)))
          (c.clear_folder.ensures.cleared (c.loop-path.invariant.1.opened opened) (known opened))),
      notes_then s _ _ _ _ _ _ _ _ _ c.loop-path.invariant.1 c.clear_folder.ensures.notes,
      (λ honest. c.loop-path.invariant.2 (c.clear_folder.ensures.notes.earlier honest)),
    )
