use Rattle.std.proofs.Common.{option_map, ap}
use Rattle.reuse_disk.specs.OpenFolders.{AreOpened}
use Rattle.std.specs.Option.{option_or}
use Rattle.reuse_disk.proofs.OpenFoldersLemmas.{opened_push, opened_removed, last_pushed}
use Rattle.reuse_disk.proofs.open_folders.OpenFolders.push.Goals as goal
use Rattle.reuse_disk.proofs.open_folders.OpenFolders.push.Goals.{then-len-ge-MOST_OPEN, else-len-ge-MOST_OPEN}

pub returns-clause-opened : goal.returns-clause-opened
returns-clause-opened c folders all here =
    let mid = c.if-len-ge-MOST_OPEN.self in
    let old = c.args.self.now.steps.items in
    let left : AreOpened folders mid =
    elim c.if-len-ge-MOST_OPEN.branch [
      | then-len-ge-MOST_OPEN w ↦
          rw w.self-is (all.0, opened_removed folders old w.remove.new.self.items w.remove.ensures.by_index.2 all.1)
      | else-len-ge-MOST_OPEN w ↦ rw w.self-is all
    ] in (
      left.0,
      opened_push folders mid.steps.items c.push.new.self.items
          (record { path = c.args.path; folder = c.args.folder }) c.in_ok-push.ensures.items left.1 here,
    )

pub returns-clause-current : goal.returns-clause-current
returns-clause-current c =
    ap (λ o. option_or o (option_map (λ folder. folder.identity) c.if-len-ge-MOST_OPEN.self.root))
    (last_pushed (λ step. step.folder.identity) c.if-len-ge-MOST_OPEN.self.steps.items c.push.new.self.items
    (record { path = c.args.path; folder = c.args.folder }) c.in_ok-push.ensures.items)
