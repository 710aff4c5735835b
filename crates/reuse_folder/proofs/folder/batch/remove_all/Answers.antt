use Rattle.std.proofs.Common.{◌∙◌, subst, sym}
use Rattle.reuse_system.specs.TempFiles.{place_of, IsNewIn}
use Rattle.reuse_system.specs.NameChanges.{change_at}
use Rattle.reuse_folder.specs.Seen.{IsNewFile}
use Rattle.reuse_folder.specs.declared.folder.batch.NewContent.{NewContent}
use Rattle.reuse_disk.proofs.EditLemmas.{only_one, only_then}
use Rattle.reuse_disk.proofs.WrittenLemmas.{discarded_alike}
use Rattle.reuse_folder.proofs.folder.batch.remove_all.Goals as goal

pub loop-one-preserved : goal.loop-one-preserved
loop-one-preserved g c =
    let s = g.S.System in
    let before = c.loop-one.system in
    let now = c.discard.new.self in
    let from = place_of c.one-item.result.temp_file in (
      c.discard.ensures.still ∙ c.loop-one.invariant.0,
      (λ honest. c.loop-one.invariant.1 (c.discard.ensures.earlier honest)),
      (λ all. only_then IsNewFile (s.changes c.args.system.now) (s.changes before) (s.changes now)
          (c.loop-one.invariant.2 all)
          (only_one IsNewFile (s.changes before) (s.changes now)
          (change_at (s.looked before) from) c.discard.ensures.changes
          (subst (λ (one : NewContent). IsNewFile (place_of one.temp_file)) (sym c.one-item.is)
          (all c.loop-one.one-index c.one-item.result c.loop-one-test.true)))),
      (λ new_files all place away.
          discarded_alike from (s.holds before) (s.holds now) c.discard.result c.discard.ensures.removed place
          (λ e. away
          (subst (IsNewIn new_files) (sym e) (subst (λ (one : NewContent). IsNewIn new_files (place_of one.temp_file))
          (sym c.one-item.is) (all c.loop-one.one-index c.one-item.result c.loop-one-test.true))))
          ∙ c.loop-one.invariant.3 new_files all place away),
    )
