use Rattle.std.proofs.Common.{◌∙◌, subst}
use Rattle.reuse_change.specs.Change.{path_of}
use Rattle.reuse_system.specs.Names.{IsSplit}
use Rattle.reuse_disk.specs.Noted.{IsListed}
use Rattle.reuse_disk.proofs.NoteLemmas.{above_one_more}
use Rattle.reuse_disk.proofs.syncs.Unsynced.note_changes.Goals as goal

pub loop-change-preserved : goal.loop-change-preserved
loop-change-preserved c =
    let was = c.loop-change.invariant in
    let above = c.folder_and_name.result.0.now in
    let name = c.folder_and_name.result.1.now in
    let split : IsSplit (path_of c.change-item.result) above name =
    subst (λ path. IsSplit path above name) (c.text.ensures.text ∙ c.path.ensures) c.folder_and_name.ensures.split in
    record {
      failed = c.note.ensures.failed ∙ was.failed;
      syncs = c.note.ensures.syncs ∙ was.syncs;
      stays = λ note has. c.note.ensures.kept note (was.stays note has);
      listed = λ kept folder noted. c.note.ensures.listed folder (was.listed kept folder noted);
      above = λ kept. above_one_more (IsListed c.loop-change.self) (IsListed c.note.new.self) c.note.ensures.listed
          c.args.changes.now c.loop-change.change-index c.change-item.result c.loop-change-test.true c.change-item.is
          (was.above kept) (record {
            above = above;
            name = name;
            is_split = split;
            is_one = c.in_ok-note.ensures.noted (was.syncs ∙ kept);
          });
    }
