use Rattle.std.proofs.Common.{ℕ, List, true, ◌≡◌, ◌∷◌, ◌∙◌, ◌++◌, Some, ap, map, string_bytes, subst, sym}
use Rattle.std.specs.Map.Iter.{deref}
use Rattle.std.proofs.lemmas.List.{append-nil}
use Rattle.reuse_system.specs.Folders.{folder_at}
use Rattle.std.specs.BTreeSet.{contains_text}
use Rattle.reuse_disk.specs.Synced.{IsSyncedSince}
use Rattle.reuse_disk.proofs.ReadsOnlyLemmas.{enters_looked, enters_then}
use Rattle.reuse_disk.proofs.SyncLemmas.{EachText, IsSyncedThere, each_held, each_push, each_shown}
use Rattle.reuse_disk.proofs.SyncLemmas.{each_weaker, found_later, grown_more, since_now, taken_more, there_later}
use Rattle.reuse_disk.proofs.syncs.Unsynced.sync_all.Goals as goal

pub loop-folder-preserved : goal.loop-folder-preserved
loop-folder-preserved g c =
    let s = g.S.System in
    let was = c.loop-folder.invariant in
    let first = s.synced c.args.system.now in
    let before = c.loop-folder.system in
    let after = c.sync_folder.new.self in
    let one = c.in_ok-current.field-0.now.identity in
    let still = c.sync_folder.ensures.still ∙ c.enter_seen.ensures.enters.reads.still in
    let synced : s.synced after ≡ one ∷ s.synced before =
    c.in_ok-sync_folder.ensures.synced ∙ ap (λ l. one ∷ l) c.enter_seen.ensures.no_sync in
    let early =
    λ (honest : s.honest after). c.enter_seen.ensures.enters.reads.earlier (c.sync_folder.ensures.earlier honest) in (
      c.set_last.ensures.failed ∙ was.0,
      enters_looked s _ c.enter_seen.new.system _ _ _ (enters_then s _ before _ _ _ _ was.1 c.enter_seen.ensures.enters)
          (record {
            kept = c.sync_folder.ensures.kept;
            changes = c.sync_folder.ensures.changes;
            still = c.sync_folder.ensures.still;
            earlier = c.sync_folder.ensures.earlier;
          }),
      grown_more first (s.synced before) (s.synced after) one synced was.2,
      taken_more deref c.into_iter-folder-iterator.result c.loop-folder.yielded c.in-Some.folder
          c.loop-folder.folder-iterator c.next.new.self was.3 c.in-Some.ensures.steps,
      (λ opened honest.
          each_push (λ key. string_bytes (deref key)) (IsSyncedThere (s.folders after) first (s.synced after))
          c.loop-folder.yielded c.in-Some.folder
          (each_weaker (λ key. string_bytes (deref key)) (IsSyncedThere (s.folders before) first (s.synced before))
          (IsSyncedThere (s.folders after) first (s.synced after)) c.loop-folder.yielded
          (λ path. there_later (s.folders before) (s.folders after) first (s.synced before) (s.synced after) one path
          still synced)
          (was.4 opened (early honest)))
          (λ folder at.
          let folders = s.folders c.enter_seen.new.system in
          let path = string_bytes c.in-Some.folder.now in
          let there : folder_at folders path ≡ Some folder =
          ap (λ f. folder_at f path) (sym c.sync_folder.ensures.still) ∙ at in
          let entered = ap (folder_at folders) (sym c.as_str-in-loop-folder.ensures.value)
          ∙ c.in_ok-enter_seen.ensures.entered (was.1.opened opened) (c.sync_folder.ensures.earlier honest)
          ∙ c.in_ok-current.ensures in
          let same : Some folder ≡ Some one = sym there ∙ entered in
          let is : folder ≡ one = cc in
          subst (IsSyncedSince first (s.synced after)) (sym is)
          (since_now first (s.synced before) (s.synced after) one synced was.2))),
      (λ honest. was.5 (early honest)),
      (λ note has. c.set_last.ensures.noted note (was.6 note has)),
      c.set_last.ensures.syncs ∙ was.7,
    )

pub returns-clause-synced : goal.returns-clause-synced
returns-clause-synced g c opened honest path noted folder at free =
    let s = g.S.System in
    let was = c.loop-folder.invariant in
    let first = s.synced c.args.system.now in
    let last = c.loop-folder.system in
    let begun = c.folders_there.new.system in
    let Synced = IsSyncedThere (s.folders last) first (s.synced last) in
    let all = each_shown deref string_bytes Synced c.loop-folder.yielded (was.4 opened honest) in
    let done = sym c.into_iter-folder-iterator.ensures.into_iter_gives.0 ∙ was.3
    ∙ ap (λ left. map deref c.loop-folder.yielded ++ left) c.in-None.ensures.steps.0
    ∙ append-nil (map deref c.loop-folder.yielded) in
    let still : s.folders last ≡ s.folders begun = was.1.reads.still ∙ sym c.folders_there.ensures.enters.reads.still in
    let kept : s.holds last ≡ s.holds begun = was.1.reads.kept ∙ sym c.folders_there.ensures.enters.reads.kept in
    let There = λ (other : List ℕ). contains_text c.in_ok-there.there other ≡ true in
    let found = found_later (s.folders begun) (s.folders last) (s.holds begun) (s.holds last) There There path still kept
    (λ other is. is) (c.in_ok-there.ensures.there opened (was.5 honest) path noted)
    folder at free in
    each_held Synced c.in_ok-there.there.keys found.0 (subst (EachText string_bytes Synced) (sym done) all) found.1
    folder found.2
