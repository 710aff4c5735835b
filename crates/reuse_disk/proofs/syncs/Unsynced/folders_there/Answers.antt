use Rattle.std.proofs.Common.{ℕ, List, ◌≡◌, ◌∙◌, ◌++◌, ap, string_bytes, subst, sym, true, map}
use Rattle.std.specs.BTreeSet.{contains_text}
use Rattle.std.specs.Map.Iter.{deref}
use Rattle.reuse_system.specs.Folders.{folder_at}
use Rattle.std.proofs.lemmas.List.{append-nil}
use Rattle.reuse_disk.specs.OpenFolders.{current_of, IsEntered}
use Rattle.reuse_disk.specs.Synced.{IsFoundAmong}
use Rattle.reuse_disk.proofs.OpenFoldersLemmas.{current_at}
use Rattle.reuse_disk.proofs.SyncLemmas.{EachText, each_held, each_push, each_shown, each_weaker, entered_there}
use Rattle.reuse_disk.proofs.SyncLemmas.{found_later, taken_more}
use Rattle.reuse_disk.proofs.ReadsOnlyLemmas.{enters_then}
use Rattle.reuse_disk.proofs.syncs.Unsynced.folders_there.Goals as goal

pub loop-folder-preserved : goal.loop-folder-preserved
loop-folder-preserved g c =
    let s = g.S.System in
    let was = c.loop-folder.invariant in
    let before = c.loop-folder.system in
    let after = c.enter.new.system in
    let There = λ (path : List ℕ). contains_text c.loop-folder.there path ≡ true in
    let Then = λ (path : List ℕ). contains_text c.add.new.paths path ≡ true in
    let current = c.enter.new.self in (
      enters_then s _ _ _ _ _ _ was.0 c.enter.ensures.enters,
      c.enter.ensures.no_sync ∙ was.1,
      taken_more deref c.args.self.now.folders.keys c.loop-folder.yielded c.in-Some.folder c.loop-folder.folder-iterator
          c.next.new.self was.2 c.in-Some.ensures.steps,
      (λ opened honest.
          let opens = c.enter.ensures.enters.opened (was.0.opened opened) honest in
          each_push (λ key. string_bytes (deref key)) (IsFoundAmong (s.folders after) (s.holds after) Then)
          c.loop-folder.yielded c.in-Some.folder
          (each_weaker (λ key. string_bytes (deref key)) (IsFoundAmong (s.folders before) (s.holds before) There)
          (IsFoundAmong (s.folders after) (s.holds after) Then) c.loop-folder.yielded
          (λ path. found_later (s.folders before) (s.folders after) (s.holds before) (s.holds after) There Then path
          c.enter.ensures.enters.reads.still c.enter.ensures.enters.reads.kept c.add.ensures.kept)
          (was.3 opened (c.enter.ensures.enters.reads.earlier honest)))
          (λ folder at free.
          let is = entered_there (s.folders after) (s.holds after) (string_bytes c.in-Some.folder.now) _ _ folder
          (subst
          (λ path. IsEntered (s.folders after) (s.holds after) path (current_of current) c.in_ok-enter.field-0)
          c.as_str.ensures.value (c.in_ok-enter.ensures.entered (was.0.opened opened) honest)) at free in (
            c.path.result.now,
            c.in_ok-add.ensures.added,
            ap (folder_at (s.folders after)) c.path.ensures
                ∙ current_at (s.folders after) current.root current.steps.items folder opens.0 opens.1 is,
          ))),
    )

pub returns-clause-there : goal.returns-clause-there
returns-clause-there g c opened honest path noted =
    let s = g.S.System in
    let There = λ (path : List ℕ). contains_text c.loop-folder.there path ≡ true in
    let Found = IsFoundAmong (s.folders c.loop-folder.system) (s.holds c.loop-folder.system) There in
    let all = each_shown deref string_bytes Found c.loop-folder.yielded (c.loop-folder.invariant.3 opened honest) in
    let done = c.loop-folder.invariant.2 ∙ ap (λ left. map deref c.loop-folder.yielded ++ left) c.in-None.ensures.steps.0
    ∙ append-nil (map deref c.loop-folder.yielded) in
    each_held Found c.args.self.now.folders.keys path (subst (EachText string_bytes Found) (sym done) all) noted
