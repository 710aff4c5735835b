use Rattle.std.proofs.Common.{◌≡◌, ◌⊎◌, inl, inr, ⊎_elim, ◌+◌, ◌<◌, get_or, List, ℕ, Option, Some, length, take, Result}
use Rattle.std.proofs.Common.{Ok, Err, OnOk, OnErr, arith, ap, refl, sym, subst, ◌∙◌}
use Rattle.std.specs.FinMap.{get}
use Rattle.std.proofs.Math.Seq.{take-length}
use Rattle.std.proofs.lemmas.Result.{err_from_is_err_and, on_ok_weaker, on_err_weaker}
use Rattle.reuse_change.specs.Files.{Files, tree_of}
use Rattle.reuse_change.specs.Change.{path_of}
use Rattle.reuse_change.specs.declared.change.Change.{Change}
use Rattle.reuse_store.proofs.NotedMutations.{notes_none, notes_more, notes_last}
use Rattle.reuse_change.specs.declared.direction.Direction.{Direction}
use Rattle.reuse_journal.specs.Carried.{IsRolledBack, StopsBack, StopsRollingBack}
use Rattle.reuse_change.specs.Tree.{undo_folder_of, Sets}
use Rattle.reuse_change.specs.Entry.{IsEntry, IsReady, CanBeRolledBack, SomeMade, ArePartlyMade, LeadsByOneChange}
use Rattle.reuse_change.specs.Entry.{AppliesBy, opposite}
use Rattle.reuse_journal.specs.JournalFiles.{head_path}
use Rattle.reuse_journal.specs.Losses.{StopsBackWithDoubt}
use Rattle.reuse_journal.specs.Remembered.{IsSameBut}
use Rattle.reuse_store.specs.Asked.{IsSynced, Leaves}
use Rattle.reuse_store.specs.Durable.{IsMidway}
use Rattle.reuse_store.proofs.AtChange.{IsOfEntry, at_change, folder_at_stop, of_entry, walked, stays_none, stays_on}
use Rattle.reuse_store.proofs.OfTree.{tree_at, step_of_tree, clash_in_tree}
use Rattle.reuse_store.proofs.MadeLemmas.{made_none, back_none, back_more, still_made, still_free, roll_back_of_tree}
use Rattle.reuse_store.proofs.MadeLemmas.{folder_stays_back, made_from_start, back_at_start}
use Rattle.reuse_journal.proofs.BackAgain.{made_in_front, seen_from_there}
use Rattle.reuse_journal.proofs.LeftByRollBacks.{certain_back, head_or_not, midway_back, notes_reads}
use Rattle.reuse_journal.proofs.HeadPuts.{head_sets, head_keeps_tree, head_clashed}
use Rattle.reuse_journal.proofs.roll_back.roll_back_changes.Given.{Over}
use Rattle.reuse_journal.proofs.roll_back.roll_back_changes.Goals.{After-change-item, After-roll_back_change}
use Rattle.reuse_journal.proofs.roll_back.roll_back_changes.Goals.{After-sync, In_ok-sync}
use Rattle.reuse_journal.proofs.roll_back.roll_back_changes.Goals as goal

-- what the entry says of the change whose turn it is
here : (g : Over) (c : After-change-item g) → IsEntry c.args.changes.now → IsOfEntry c.change-item.result
here g c =
    of_entry c.args.changes.now c.loop-change.change-index c.loop-change-test.true c.change-item.result c.change-item.is

-- where it stops at a change, before that is rolled back or after it, some are still made
some_at_stop : (direction : Direction) (changes : List Change) (good : IsEntry changes) (i : ℕ)
    (lt : i < length changes) (change : Change) (is : change ≡ get_or changes i change) (start old now after : Files)
    → ArePartlyMade direction changes start (tree_of old)
    → ArePartlyMade direction (take i changes) (tree_of now) (tree_of old)
    → (after ≡ now) ⊎ LeadsByOneChange (opposite direction) change now after
    → SomeMade direction changes start (tree_of after)
some_at_stop direction changes good i lt change is start old now after partly back (inl same) =
    subst (λ files. SomeMade direction changes start (tree_of files)) (sym same)
    (made_from_start direction changes good start (tree_of old) (tree_of now) partly i back)
some_at_stop direction changes good i lt change is start old now after partly back (inr step) =
    made_from_start direction changes good start (tree_of old) (tree_of after) partly (i + 1)
    (back_more direction changes good i lt change is (tree_of old) (tree_of now) back (tree_of after)
    (inr (step_of_tree (opposite direction) change now after (of_entry changes i lt change is good).of_tree step)))

-- what a loss of power may leave once it was the change's turn
left_then : (g : Over) (c : After-roll_back_change g) → g.S.Store.honest c.roll_back_change.new.store
    → IsEntry c.args.changes.now → (start : Files)
    → ArePartlyMade c.args.direction c.args.changes.now start (tree_of (g.S.Store.files c.args.store.now))
    → Leaves g.S.Store c.args.store.now
    (IsMidway c.args.direction c.args.changes.now start (undo_folder_of (g.S.Store.files c.args.store.now)))
    → Leaves g.S.Store c.roll_back_change.new.store
    (IsMidway c.args.direction c.args.changes.now start (undo_folder_of (g.S.Store.files c.args.store.now)))
left_then g c honest good start partly sure left is =
    let i = c.loop-change.change-index in
    let change = c.change-item.result in
    let old = g.S.Store.files c.args.store.now in
    let now = g.S.Store.files c.loop-change.store in
    let before = c.roll_back_change.ensures.later.was_honest honest in
    let of = of_entry c.args.changes.now i c.loop-change-test.true change c.change-item.is good in
    ⊎_elim (λ was. c.loop-change.invariant.left before good start partly sure left was)
    (λ (set : (kept : Files) × g.S.Store.crash_states c.loop-change.store kept × (file : Option (List ℕ)) × AppliesBy
    (opposite c.args.direction) change (get now (path_of change)) file × Sets (path_of change) file kept left).
    midway_back c.args.direction c.args.changes.now good i c.loop-change-test.true change c.change-item.is start
    (undo_folder_of old) old now set.0 left set.2 partly (c.loop-change.invariant.back before good)
    (c.loop-change.invariant.left before good start partly sure set.0 set.1) set.3 set.4)
    (c.roll_back_change.ensures.left honest of.proper of.small left is)

pub loop-change-init : goal.loop-change-init
loop-change-init g c = record {
  notes = notes_none g.S.Store c.args.started.now c.args.store.now;
  walk = stays_none g.S.Store c.args.store.now c.args.changes.now;
  left = λ honest good start partly sure. sure;
  back = λ honest good. back_none c.args.direction c.args.changes.now _;
}

pub loop-change-preserved : goal.loop-change-preserved
loop-change-preserved g c =
    let of = here g (goal.at.loop-change-preserved g c).After-change-item in
    let change = c.change-item.result in
    let now = g.S.Store.files c.loop-change.store in
    let after = g.S.Store.files c.roll_back_change.new.store in
    let kept = c.loop-change.invariant in
    let was_honest = c.roll_back_change.ensures.later.was_honest in
    let roll_back_change =
    λ (honest : g.S.Store.honest c.roll_back_change.new.store) (good : IsEntry c.args.changes.now).
    c.in_ok-roll_back_change.ensures.ok honest (of good).proper (of good).small in
    record {
      notes = notes_more g.S.Store c.args.started.now c.loop-change.started c.roll_back_change.new.started _ _ _
          kept.notes kept.walk.later c.roll_back_change.ensures.notes c.roll_back_change.ensures.later;
      walk = stays_on kept.walk c.roll_back_change.ensures.later c.roll_back_change.ensures.mutations
          (λ good. c.roll_back_change.ensures.written (of good).of_tree) (λ honest good.
          folder_stays_back c.args.direction change now after (of good).of_tree (roll_back_change honest good));
      left = left_then g (goal.at.loop-change-preserved g c).After-roll_back_change;
      back = λ honest good. back_more c.args.direction c.args.changes.now good c.loop-change.change-index
          c.loop-change-test.true change c.change-item.is _ (tree_of now)
          (kept.back (was_honest honest) good) (tree_of after)
          (roll_back_of_tree c.args.direction change now after (of good).of_tree (roll_back_change honest good));
    }

-- the folder of the journal stays where it stops at a change
folder_stopped : (g : Over) (c : After-roll_back_change g) → g.S.Store.honest c.roll_back_change.new.store
    → IsEntry c.args.changes.now
    → (g.S.Store.files c.roll_back_change.new.store ≡ g.S.Store.files c.loop-change.store)
    ⊎ LeadsByOneChange (opposite c.args.direction) c.change-item.result (g.S.Store.files c.loop-change.store)
    (g.S.Store.files c.roll_back_change.new.store)
    → undo_folder_of (g.S.Store.files c.roll_back_change.new.store) ≡ undo_folder_of (g.S.Store.files c.args.store.now)
folder_stopped g c honest good stops =
    folder_at_stop (opposite c.args.direction) c.change-item.result (g.S.Store.files c.loop-change.store)
    (g.S.Store.files c.roll_back_change.new.store) (of_entry c.args.changes.now c.loop-change.change-index
    c.loop-change-test.true c.change-item.result c.change-item.is good).of_tree stops
    ∙ c.loop-change.invariant.walk.folder (c.roll_back_change.ensures.later.was_honest honest) good

-- it stops before the change or after it
pub returns-in_err-roll_back_change-clause-stopped : goal.returns-in_err-roll_back_change-clause-stopped
returns-in_err-roll_back_change-clause-stopped g c honest good start partly =
    let at = goal.at.returns-in_err-roll_back_change-clause-stopped g c in
    let of = here g at.After-change-item good in
    let old = g.S.Store.files c.args.store.now in
    let after = g.S.Store.files c.roll_back_change.new.store in
    let p = err_from_is_err_and c.from_residual.result c.from_residual.ensures.1 in
    let stops = c.in_err-roll_back_change.ensures.err honest of.proper of.small in
    subst (λ r. OnErr r (StopsRollingBack c.args.direction c.args.changes.now c.args.head.now.text.now start old after))
    (sym p.1) (inl (
      some_at_stop c.args.direction c.args.changes.now good c.loop-change.change-index c.loop-change-test.true
          c.change-item.result c.change-item.is start old (g.S.Store.files c.loop-change.store) after partly
          (c.loop-change.invariant.back (c.roll_back_change.ensures.later.was_honest honest) good) stops,
      folder_stopped g at.After-roll_back_change honest good stops,
    ))

-- some of the changes are rolled back then
back_at_stop : (direction : Direction) (changes : List Change) (good : IsEntry changes) (i : ℕ)
    (lt : i < length changes) (change : Change) (is : change ≡ get_or changes i change) (old now after : Files)
    → ArePartlyMade direction (take i changes) (tree_of now) (tree_of old) → (after ≡ now) ⊎ LeadsByOneChange
    (opposite direction) change now after → SomeMade (opposite direction) changes (tree_of old) (tree_of after)
back_at_stop direction changes good i lt change is old now after back (inl same) =
    subst (λ files. SomeMade (opposite direction) changes (tree_of old) (tree_of files)) (sym same)
    (seen_from_there direction changes (tree_of now) (tree_of old)
    (made_in_front direction changes good i (tree_of now) (tree_of old) back.made))
back_at_stop direction changes good i lt change is old now after back (inr step) =
    let more = back_more direction changes good i lt change is (tree_of old) (tree_of now) back (tree_of after)
    (inr (step_of_tree (opposite direction) change now after (of_entry changes i lt change is good).of_tree step)) in
    seen_from_there direction changes (tree_of after) (tree_of old)
    (made_in_front direction changes good (i + 1) (tree_of after) (tree_of old) more.made)

pub returns-in_err-roll_back_change-clause-back : goal.returns-in_err-roll_back_change-clause-back
returns-in_err-roll_back_change-clause-back g c honest good =
    let at = goal.at.returns-in_err-roll_back_change-clause-back g c in
    let of = here g at.After-change-item good in
    let old = g.S.Store.files c.args.store.now in
    let after = g.S.Store.files c.roll_back_change.new.store in
    let p = err_from_is_err_and c.from_residual.result c.from_residual.ensures.1 in
    let stops = c.in_err-roll_back_change.ensures.err honest of.proper of.small in
    subst (λ r. OnErr r (StopsBack c.args.direction c.args.changes.now c.args.head.now.text.now old after))
    (sym p.1) (inl (
      back_at_stop c.args.direction c.args.changes.now good c.loop-change.change-index c.loop-change-test.true
          c.change-item.result c.change-item.is old (g.S.Store.files c.loop-change.store) after
          (c.loop-change.invariant.back (c.roll_back_change.ensures.later.was_honest honest) good) stops,
      folder_stopped g at.After-roll_back_change honest good stops,
    ))

pub returns-in_err-roll_back_change-clause-left : goal.returns-in_err-roll_back_change-clause-left
returns-in_err-roll_back_change-clause-left g c honest good start partly sure =
    let at = goal.at.returns-in_err-roll_back_change-clause-left g c in
    let of = here g at.After-change-item good in
    let old = g.S.Store.files c.args.store.now in
    let p = err_from_is_err_and c.from_residual.result c.from_residual.ensures.1 in
    let stops = c.in_err-roll_back_change.ensures.err honest of.proper of.small in
    subst (λ r. OnErr r (StopsBackWithDoubt g.S.Store c.args.direction c.args.changes.now c.args.head.now.text.now start
    old c.roll_back_change.new.store)) (sym p.1) (inl (
      record {
        tree = some_at_stop c.args.direction c.args.changes.now good c.loop-change.change-index c.loop-change-test.true
            c.change-item.result c.change-item.is start old (g.S.Store.files c.loop-change.store)
            (g.S.Store.files c.roll_back_change.new.store) partly
            (c.loop-change.invariant.back (c.roll_back_change.ensures.later.was_honest honest) good) stops;
        folder = folder_stopped g at.After-roll_back_change honest good stops;
      },
      left_then g at.After-roll_back_change honest good start partly sure,
    ))

pub returns-in_err-roll_back_change-clause-written : goal.returns-in_err-roll_back_change-clause-written
returns-in_err-roll_back_change-clause-written g c good =
    let a = c.roll_back_change.ensures.written
    (here g (goal.at.returns-in_err-roll_back_change-clause-written g c).After-change-item good).of_tree in
    let b = c.loop-change.invariant.walk.written good in
    omega (arith, a, b)

pub returns-in_err-roll_back_change-clause-folder : goal.returns-in_err-roll_back_change-clause-folder
returns-in_err-roll_back_change-clause-folder g c honest good =
    let at = goal.at.returns-in_err-roll_back_change-clause-folder g c in
    let of = here g at.After-change-item good in
    let stays = folder_stopped g at.After-roll_back_change honest good
    (c.in_err-roll_back_change.ensures.err honest of.proper of.small) in
    λ other differs. ap (λ folder. get folder other) stays

pub returns-in_err-roll_back_change-clause-notes : goal.returns-in_err-roll_back_change-clause-notes
returns-in_err-roll_back_change-clause-notes g c =
    let kept = c.loop-change.invariant in
    notes_more g.S.Store c.args.started.now c.loop-change.started c.roll_back_change.new.started _ _ _ kept.notes
    kept.walk.later c.roll_back_change.ensures.notes c.roll_back_change.ensures.later

pub returns-clause-notes : goal.returns-clause-notes
returns-clause-notes g c =
    let kept = c.loop-change.invariant in
    notes_last g.S.Store c.args.started.now c.loop-change.started c.args.store.now c.loop-change.store
    c.put_head.new.store kept.walk.later (omega (arith, c.put_head.ensures.mutations, c.sync.ensures.reads.mutations))

-- each change that could be rolled back can be
pub returns-in_err-roll_back_change-clause-cause : goal.returns-in_err-roll_back_change-clause-cause
returns-in_err-roll_back_change-clause-cause g c honest good all free =
    let i = c.loop-change.change-index in
    let lt = c.loop-change-test.true in
    let change = c.change-item.result in
    let direction = c.args.direction in
    let changes = c.args.changes.now in
    let old = tree_of (g.S.Store.files c.args.store.now) in
    let now = g.S.Store.files c.loop-change.store in
    let of = here g (goal.at.returns-in_err-roll_back_change-clause-cause g c).After-change-item good in
    let p = err_from_is_err_and c.from_residual.result c.from_residual.ensures.1 in
    let can = at_change changes i lt change c.change-item.is (CanBeRolledBack direction old) all in
    let back = c.loop-change.invariant.back (c.roll_back_change.ensures.later.was_honest honest) good in
    let at = tree_at now (path_of change) of.of_tree in (
      λ e. let was = c.in_err-roll_back_change.was in
          let stuck = c.roll_back_change.ensures.moved honest of.proper of.small (cc) in
          stuck.0 (subst (IsReady (opposite direction) change) at (still_made direction changes good i lt change
          c.change-item.is old (tree_of now) back can (λ r. stuck.1 (subst (IsReady direction change) at r)))),
      λ e. let was = c.in_err-roll_back_change.was in
          let clash = c.roll_back_change.ensures.clash honest of.proper of.small (cc) in
          still_free direction changes good i lt change c.change-item.is old (tree_of now) back can (λ r. clash.0
          (subst (IsReady direction change) at r)) clash.1 (clash_in_tree now (path_of change) of.of_tree clash.2),
    )

-- whatever a put of the head answers, the rest of the journal's folder stays
put_at : {A E : Type 0} (text : List ℕ) (result : Result A E) (now after : Files)
    → OnOk result (Sets head_path (Some text) now after)
    → OnErr result ((after ≡ now) ⊎ Sets head_path (Some text) now after)
    → IsSameBut head_path (undo_folder_of now) (undo_folder_of after)
put_at text (Ok x) now after done failed = (head_sets now after (Some text) done).elsewhere
put_at text (Err e) now after done failed = ⊎_elim
    (λ (same : after ≡ now). λ other differs. ap (λ files. get (undo_folder_of files) other) same)
    (λ (sets : Sets head_path (Some text) now after). (head_sets now after (Some text) sets).elsewhere)
    failed

-- all are taken back, and the head is put
module _ (direction : Direction) (changes : List Change) (settled : List ℕ) (good : IsEntry changes)
    (old now after : Files) (back : ArePartlyMade direction changes (tree_of now) (tree_of old))
    (folder : undo_folder_of now ≡ undo_folder_of old) where
  head_set : Sets head_path (Some settled) now after
      → Sets head_path (Some settled) (undo_folder_of old) (undo_folder_of after)
  head_set sets = subst (λ f. Sets head_path (Some settled) f (undo_folder_of after)) folder
      (head_sets now after (Some settled) sets)

  rolled_back : Sets head_path (Some settled) now after → IsRolledBack direction changes settled old after
  rolled_back sets =
      let same : tree_of after ≡ tree_of now = head_keeps_tree now after (Some settled) sets in
      record {
        partly = subst (λ t. ArePartlyMade direction changes t (tree_of old)) (sym same) back;
        sets = head_set sets;
      }

  stops_at_head : (start : Files) → ArePartlyMade direction changes start (tree_of old)
      → (after ≡ now) ⊎ Sets head_path (Some settled) now after
      → StopsRollingBack direction changes settled start old after
  stops_at_head start partly (inl same) = inl (
    subst (λ files. SomeMade direction changes start (tree_of files)) (sym same)
        (made_from_start direction changes good start (tree_of old) (tree_of now) partly (length changes)
        (subst (λ front. ArePartlyMade direction front (tree_of now) (tree_of old)) (sym (take-length changes)) back)),
    ap undo_folder_of same ∙ folder,
  )
  stops_at_head start partly (inr sets) = inr (
    head_keeps_tree now after (Some settled) sets
        ∙ back_at_start direction changes good start (tree_of old) (tree_of now) partly back,
    head_set sets,
  )

  stops_back : (after ≡ now) ⊎ Sets head_path (Some settled) now after → StopsBack direction changes settled old after
  stops_back (inl same) = inl (
    subst (λ files. SomeMade (opposite direction) changes (tree_of old) (tree_of files)) (sym same)
        (seen_from_there direction changes (tree_of now) (tree_of old) back.made),
    ap undo_folder_of same ∙ folder,
  )
  stops_back (inr sets) = inr (rolled_back sets)

-- all changes are back behind the barrier
all_are_back : (g : Over) (c : After-sync g) → g.S.Store.honest c.sync.new.self → IsEntry c.args.changes.now
    → ArePartlyMade c.args.direction c.args.changes.now (tree_of (g.S.Store.files c.sync.new.self))
    (tree_of (g.S.Store.files c.args.store.now))
    × (undo_folder_of (g.S.Store.files c.sync.new.self) ≡ undo_folder_of (g.S.Store.files c.args.store.now))
all_are_back g c honest good =
    let before = c.sync.ensures.reads.was_honest honest in
    let same = c.sync.ensures.reads.files honest in
    let all = walked c.args.changes.now c.loop-change.change-index
    (omega (arith, c.loop-change-test.false, c.loop-change.auto.change-index-end)) in (
      subst (λ files. ArePartlyMade c.args.direction c.args.changes.now (tree_of files)
          (tree_of (g.S.Store.files c.args.store.now))) (sym same)
          (subst (λ front. ArePartlyMade c.args.direction front (tree_of (g.S.Store.files c.loop-change.store))
          (tree_of (g.S.Store.files c.args.store.now))) all (c.loop-change.invariant.back before good)),
      ap undo_folder_of same ∙ c.loop-change.invariant.walk.folder before good,
    )

-- the tree is that at the start
all_back : (g : Over) (c : After-sync g) → g.S.Store.honest c.sync.new.self → IsEntry c.args.changes.now
    → (start : Files)
    → ArePartlyMade c.args.direction c.args.changes.now start (tree_of (g.S.Store.files c.args.store.now))
    → tree_of (g.S.Store.files c.sync.new.self) ≡ start
all_back g c honest good start partly =
    back_at_start c.args.direction c.args.changes.now good start (tree_of (g.S.Store.files c.args.store.now))
    (tree_of (g.S.Store.files c.sync.new.self)) partly (all_are_back g c honest good).0

-- where the barrier fails, the files are on the way back as they were
pub returns-in_err-sync-clause-stopped : goal.returns-in_err-sync-clause-stopped
returns-in_err-sync-clause-stopped g c honest good start partly =
    let old = g.S.Store.files c.args.store.now in
    let after = g.S.Store.files c.sync.new.self in
    let back = all_are_back g (goal.at.returns-in_err-sync-clause-stopped g c).After-sync honest good in
    let p = err_from_is_err_and c.from_residual-in_err-sync.result c.from_residual-in_err-sync.ensures.1 in
    subst (λ r. OnErr r (StopsRollingBack c.args.direction c.args.changes.now c.args.head.now.text.now start old after))
    (sym p.1)
    (stops_at_head c.args.direction c.args.changes.now c.args.head.now.text.now good old after after back.0 back.1 start
    partly (inl refl))

pub returns-in_err-sync-clause-back : goal.returns-in_err-sync-clause-back
returns-in_err-sync-clause-back g c honest good =
    let old = g.S.Store.files c.args.store.now in
    let after = g.S.Store.files c.sync.new.self in
    let back = all_are_back g (goal.at.returns-in_err-sync-clause-back g c).After-sync honest good in
    let p = err_from_is_err_and c.from_residual-in_err-sync.result c.from_residual-in_err-sync.ensures.1 in
    subst (λ r. OnErr r (StopsBack c.args.direction c.args.changes.now c.args.head.now.text.now old after)) (sym p.1)
    (stops_back c.args.direction c.args.changes.now c.args.head.now.text.now good old after after back.0
    back.1 (inl refl))

pub returns-in_err-sync-clause-left : goal.returns-in_err-sync-clause-left
returns-in_err-sync-clause-left g c honest good start partly sure =
    let at = (goal.at.returns-in_err-sync-clause-left g c).After-sync in
    let p = err_from_is_err_and c.from_residual-in_err-sync.result c.from_residual-in_err-sync.ensures.1 in
    subst (λ r. OnErr r (StopsBackWithDoubt g.S.Store c.args.direction c.args.changes.now c.args.head.now.text.now start
    (g.S.Store.files c.args.store.now) c.sync.new.self)) (sym p.1) (inl (
      record {
        tree = subst (SomeMade c.args.direction c.args.changes.now start) (sym (all_back g at honest good start partly))
            (made_none c.args.direction c.args.changes.now start);
        folder = (all_are_back g at honest good).1;
      },
      λ left is. c.loop-change.invariant.left (c.sync.ensures.reads.was_honest honest) good start partly sure left
          (c.sync.ensures.reads.may left is),
    ))

pub returns-in_err-sync-clause-folder : goal.returns-in_err-sync-clause-folder
returns-in_err-sync-clause-folder g c honest good other differs =
    ap (λ folder. get folder other)
    (all_are_back g (goal.at.returns-in_err-sync-clause-folder g c).After-sync honest good).1

pub returns-in_err-sync-clause-notes : goal.returns-in_err-sync-clause-notes
returns-in_err-sync-clause-notes g c =
    notes_reads g.S.Store c.args.started.now c.loop-change.started c.args.store.now c.loop-change.store c.sync.new.self
    c.loop-change.invariant.notes c.sync.ensures.reads

-- behind the barrier nothing else may be left
synced : (g : Over) (c : In_ok-sync g) → g.S.Store.honest c.sync.new.self → IsEntry c.args.changes.now → (start : Files)
    → tree_of (g.S.Store.files c.sync.new.self) ≡ start
    → ArePartlyMade c.args.direction c.args.changes.now start (tree_of (g.S.Store.files c.args.store.now))
    → Leaves g.S.Store c.args.store.now
    (IsMidway c.args.direction c.args.changes.now start (undo_folder_of (g.S.Store.files c.args.store.now)))
    → IsSynced g.S.Store c.sync.new.self
synced g c honest good start tree partly sure left is =
    let got = c.in_ok-sync.ensures.barrier.ok left is in
    certain_back c.args.direction c.args.changes.now start (undo_folder_of (g.S.Store.files c.args.store.now))
    (g.S.Store.files c.sync.new.self) got.0 left tree
    (c.loop-change.invariant.left (c.sync.ensures.reads.was_honest honest) good start partly sure got.0 got.1) got.2

pub returns-clause-done : goal.returns-clause-done
returns-clause-done g c honest good =
    let back =
    all_are_back g (goal.at.returns-clause-done g c).After-sync (c.put_head.ensures.later.was_honest honest) good in
    on_ok_weaker c.put_head.result (rolled_back c.args.direction c.args.changes.now c.args.head.now.text.now good _ _
    (g.S.Store.files c.put_head.new.store) back.0 back.1) (c.put_head.ensures.ok honest)

pub returns-clause-stopped : goal.returns-clause-stopped
returns-clause-stopped g c honest good start partly =
    let back =
    all_are_back g (goal.at.returns-clause-stopped g c).After-sync (c.put_head.ensures.later.was_honest honest) good in
    on_err_weaker c.put_head.result (stops_at_head c.args.direction c.args.changes.now c.args.head.now.text.now good _ _
    (g.S.Store.files c.put_head.new.store) back.0 back.1 start partly) (c.put_head.ensures.err honest)

pub returns-clause-durable : goal.returns-clause-durable
returns-clause-durable g c honest good start partly sure =
    let at = goal.at.returns-clause-durable g c in
    let done = c.put_head.ensures.later.was_honest honest in
    let tree = all_back g at.After-sync done good start partly in
    c.put_head.ensures.durable honest
    (λ left is. ap tree_of (synced g at.In_ok-sync done good start tree partly sure left is))

pub returns-clause-left : goal.returns-clause-left
returns-clause-left g c honest good start partly sure =
    let at = goal.at.returns-clause-left g c in
    let now = g.S.Store.files c.sync.new.self in
    let after = g.S.Store.files c.put_head.new.store in
    let done = c.put_head.ensures.later.was_honest honest in
    let tree = all_back g at.After-sync done good start partly in
    on_err_weaker c.put_head.result
    (λ (head : (after ≡ now) ⊎ Sets head_path (Some c.args.head.now.text.now) now after). inr (
      now,
      tree,
      (all_are_back g at.After-sync done good).1,
      (
        head,
        λ left is. head_or_not now left c.args.head.now.text.now
            (synced g at.In_ok-sync done good start tree partly sure) (c.put_head.ensures.left left is),
      ),
    ))
    (c.put_head.ensures.err honest)

pub returns-clause-cause : goal.returns-clause-cause
returns-clause-cause g c honest good all free =
    let back =
    all_are_back g (goal.at.returns-clause-cause g c).After-sync (c.put_head.ensures.later.was_honest honest) good in (
      c.put_head.ensures.moved,
      λ e. free (head_clashed c.args.changes.now good _ _ (λ path none. sym (back.0.made.others path none)) back.1
          (c.put_head.ensures.clash honest e)),
    )

pub returns-clause-folder : goal.returns-clause-folder
returns-clause-folder g c honest good =
    let now = g.S.Store.files c.sync.new.self in
    let after = g.S.Store.files c.put_head.new.store in
    let here = put_at c.args.head.now.text.now c.put_head.result now after (c.put_head.ensures.ok honest)
    (c.put_head.ensures.err honest) in
    let back =
    all_are_back g (goal.at.returns-clause-folder g c).After-sync (c.put_head.ensures.later.was_honest honest) good in
    λ other differs. here other differs ∙ ap (λ folder. get folder other) back.1

pub returns-clause-written : goal.returns-clause-written
returns-clause-written g c good =
    let a = c.put_head.ensures.written in
    let b = c.loop-change.invariant.walk.written good in
    omega (arith, a, b, c.sync.ensures.reads.written)

pub returns-clause-back : goal.returns-clause-back
returns-clause-back g c honest good =
    let back =
    all_are_back g (goal.at.returns-clause-back g c).After-sync (c.put_head.ensures.later.was_honest honest) good in
    on_err_weaker c.put_head.result (stops_back c.args.direction c.args.changes.now c.args.head.now.text.now good _ _
    (g.S.Store.files c.put_head.new.store) back.0 back.1) (c.put_head.ensures.err honest)
