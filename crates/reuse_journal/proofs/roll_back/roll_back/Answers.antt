use Rattle.std.proofs.Common.{rules, ◌≡◌, ◌≢◌, ◌<◌, ◌≤◌, ℕ, Bool, true, false, List, Result, Err, OnErr, OnOk, arith}
use Rattle.std.proofs.Common.{refl, sym, ap, subst, ◌∙◌}
use Rattle.std.specs.List.{All}
use Rattle.std.proofs.lemmas.Result.{err_from_is_err_and}
use Rattle.reuse_store.proofs.AskedLemmas.{reads_more}
use Rattle.reuse_store.specs.Asked.{OnlyReads, IsSynced, Leaves}
use Rattle.reuse_change.specs.Files.{Files, Clashes, tree_of}
use Rattle.reuse_store.specs.Durable.{IsMidway}
use Rattle.reuse_change.specs.Tree.{undo_folder_of}
use Rattle.reuse_command.specs.Answer.{reported_of, HasCause, IsEarly, IsNoClash, IsRollBackRefusal}
use Rattle.reuse_journal.specs.Carried.{StopsBack, StopsRollingBack}
use Rattle.reuse_journal.specs.Losses.{StopsBackWithDoubt}
use Rattle.reuse_change.specs.Entry.{ArePartlyMade, CanBeRolledBack, SomeMade}
use Rattle.reuse_journal.specs.JournalFiles.{head_path}
use Rattle.reuse_store.specs.declared.cause.Cause.{Cause}
use Rattle.reuse_store.specs.declared.cause.Cause.TheVariants as causes
use Rattle.reuse_command.specs.declared.reply.Refusal.{Refusal}
use Rattle.reuse_command.specs.declared.failure.Failure.TheVariants.{Interrupted}
use Rattle.reuse_command.specs.declared.reply.Refusal.TheVariants.{Moved, Failed}
use Rattle.reuse_change.proofs.Walk.{none_without}
use Rattle.reuse_store.proofs.MadeLemmas.{settles_from}
use Rattle.reuse_journal.proofs.Barriers.{IsBehind}
use Rattle.reuse_journal.proofs.LeftByRollBacks.{certain_midway}
use Rattle.reuse_journal.proofs.roll_back.roll_back.Given.{Over}
use Rattle.reuse_journal.proofs.roll_back.roll_back.Goals.{After-sync}
use Rattle.reuse_journal.proofs.roll_back.roll_back.Goals as goal

reported_no_clash : (started : Bool) (cause : Cause) → cause ≢ causes.Moved → cause ≢ causes.Clash
    → IsNoClash (reported_of started cause)
reported_no_clash true causes.Moved moved clash = moved refl
reported_no_clash true causes.Clash moved clash = clash refl
reported_no_clash true causes.Device moved clash = tt
reported_no_clash true causes.Memory moved clash = tt
reported_no_clash false causes.Moved moved clash = moved refl
reported_no_clash false causes.Clash moved clash = clash refl
reported_no_clash false causes.Device moved clash = tt
reported_no_clash false causes.Memory moved clash = tt

reported_refusal : (started : Bool) (cause : Cause) → IsRollBackRefusal (reported_of started cause)
reported_refusal true cause = tt
reported_refusal false causes.Moved = tt
reported_refusal false causes.Clash = tt
reported_refusal false causes.Device = tt
reported_refusal false causes.Memory = tt

reported_cause : (Rose : Type 0) (started : Bool) (cause : Cause) → (cause ≡ causes.Device → Rose)
    → HasCause Rose (reported_of started cause)
reported_cause Rose true causes.Moved rose = tt
reported_cause Rose true causes.Clash rose = tt
reported_cause Rose true causes.Device rose = rose refl
reported_cause Rose true causes.Memory rose = tt
reported_cause Rose false causes.Moved rose = tt
reported_cause Rose false causes.Clash rose = tt
reported_cause Rose false causes.Device rose = rose refl
reported_cause Rose false causes.Memory rose = tt

reported_early : (started : Bool) (cause : Cause) → IsEarly (reported_of started cause) → started ≡ false
reported_early true cause early = absurd early
reported_early false cause early = refl

-- no cause is reported as a path that moved
never_moved : (started : Bool) (cause : Cause) (path : List ℕ) {answer : Result (Unit {0}) Refusal}
    → answer ≡ Err (reported_of started cause) → answer ≡ Err (Moved path) → ⊥
never_moved true cause path is e = cc
never_moved false causes.Moved path is e = cc
never_moved false causes.Clash path is e = cc
never_moved false causes.Device path is e = cc
never_moved false causes.Memory path is e = cc

reported_late : (started : Bool) (cause stop : Cause) {answer : Result (Unit {0}) Refusal} → answer ≡ Err
    (reported_of started cause) → answer ≡ Err (Failed (Interrupted stop)) → stop ≢ causes.Moved → started ≡ true
reported_late true cause stop is e other = refl
reported_late false causes.Moved stop is e other = absurd (other (cc))
reported_late false causes.Clash stop is e other = absurd (cc)
reported_late false causes.Device stop is e other = absurd (cc)
reported_late false causes.Memory stop is e other = absurd (cc)

past : {old mid new : ℕ} → old ≤ mid → mid < new → old < new
past a b = omega arith

-- nothing was put or removed up to the first barrier
read_so_far : (g : Over) (c : After-sync g) → OnlyReads g.S.Store c.args.store.now c.sync.new.self
read_so_far g c = reads_more g.S.Store c.args.store.now c.test_each.new.store c.sync.new.self c.test_each.ensures.reads
    c.sync.ensures.reads

-- once each change was tested, none has moved and none clashes
pub returns-in-Err-clause-clash : goal.returns-in-Err-clause-clash
returns-in-Err-clause-clash g c honest good free =
    let files = g.S.Store.files in
    let before = c.roll_back_changes.ensures.later.was_honest honest in
    let tested = c.sync.ensures.reads.was_honest before in
    let same = c.sync.ensures.reads.files before ∙ c.test_each.ensures.reads.files tested in
    let can = subst (λ f. All (CanBeRolledBack c.args.direction (tree_of f)) c.args.changes.now) (sym same)
    (c.in_ok-test_each.ensures.ready tested good) in
    let none =
    c.roll_back_changes.ensures.cause honest good can (λ clash. free (subst (λ f. Clashes f head_path) same clash)) in
    subst IsNoClash (sym c.refusal_for.ensures)
    (reported_no_clash c.roll_back_changes.new.started c.in-Err.cause (λ e. none.0 (c.in-Err.is ∙ ap (λ x. Err x) e))
    (λ e. none.1 (c.in-Err.is ∙ ap (λ x. Err x) e)))

-- on the way from a tree no change is in doubt
pub returns-in_err-test_each-clause-recovers : goal.returns-in_err-test_each-clause-recovers
returns-in_err-test_each-clause-recovers g c honest good start are partly path e =
    let tree = tree_of (g.S.Store.files c.args.store.now) in
    let p = err_from_is_err_and c.from_residual.result c.from_residual.ensures.1 in
    let from = p.1 in
    let same = p.2 in
    let was = c.in_err-test_each.was in
    let moved : c.test_each.result ≡ Err (Moved path) = cc in
    none_without (CanBeRolledBack c.args.direction tree) c.args.changes.now path
    (settles_from c.args.direction start tree c.args.changes.now good are partly)
    (c.test_each.ensures.moved honest good path moved)

-- what is known behind the first barrier
module _ (g : Over) (c : After-sync g) (honest : g.S.Store.honest c.sync.new.self) where
  same_files : g.S.Store.files c.sync.new.self ≡ g.S.Store.files c.args.store.now
  same_files =
      c.sync.ensures.reads.files honest ∙ c.test_each.ensures.reads.files (c.sync.ensures.reads.was_honest honest)

  still_partly : (start : Files)
      → ArePartlyMade c.args.direction c.args.changes.now start (tree_of (g.S.Store.files c.args.store.now))
      → ArePartlyMade c.args.direction c.args.changes.now start (tree_of (g.S.Store.files c.sync.new.self))
  still_partly start =
      subst (λ files. ArePartlyMade c.args.direction c.args.changes.now start (tree_of files)) (sym same_files)

-- the head that is there is certain then, and each path of the tree is left as it is or as it might be
midway : (g : Over) (c : After-sync g) → IsBehind g.S.Store c.test_each.new.store c.sync.new.self → (start : Files)
    → SomeMade c.args.direction c.args.changes.now start (tree_of (g.S.Store.files c.sync.new.self))
    → Leaves g.S.Store c.args.store.now (λ kept. SomeMade c.args.direction c.args.changes.now start (tree_of kept))
    → Leaves g.S.Store c.sync.new.self
    (IsMidway c.args.direction c.args.changes.now start (undo_folder_of (g.S.Store.files c.sync.new.self)))
midway g c barrier start now sure left is =
    let got = barrier left is in
    certain_midway c.args.direction c.args.changes.now start (g.S.Store.files c.sync.new.self) got.0 left now
    (sure got.0 (c.test_each.ensures.reads.may got.0 got.1)) got.2

pub returns-in-Err-clause-stopped : goal.returns-in-Err-clause-stopped
returns-in-Err-clause-stopped g c honest good start partly cause e =
    let store = g.S.Store in
    let at = (goal.at.returns-in-Err-clause-stopped g c).After-sync in
    let before = c.roll_back_changes.ensures.later.was_honest honest in
    let after = store.files c.roll_back_changes.new.store in
    let stopped = c.roll_back_changes.ensures.stopped honest good start (still_partly g at before start partly) in
    subst (λ files. StopsRollingBack c.args.direction c.args.changes.now c.args.head.now.text.now start files after)
    (same_files g at before)
    (subst (λ r. OnErr r (StopsRollingBack c.args.direction c.args.changes.now c.args.head.now.text.now start
    (store.files c.sync.new.self) after)) c.in-Err.is stopped)

pub returns-in-Err-clause-back : goal.returns-in-Err-clause-back
returns-in-Err-clause-back g c honest good cause e =
    let store = g.S.Store in
    let at = (goal.at.returns-in-Err-clause-back g c).After-sync in
    let after = store.files c.roll_back_changes.new.store in
    subst (λ files. StopsBack c.args.direction c.args.changes.now c.args.head.now.text.now files after)
    (same_files g at (c.roll_back_changes.ensures.later.was_honest honest))
    (subst (λ r. OnErr r (StopsBack c.args.direction c.args.changes.now c.args.head.now.text.now
    (store.files c.sync.new.self) after)) c.in-Err.is (c.roll_back_changes.ensures.back honest good))

pub returns-in-Err-clause-left : goal.returns-in-Err-clause-left
returns-in-Err-clause-left g c honest good start partly sure cause e =
    let store = g.S.Store in
    let at = goal.at.returns-in-Err-clause-left g c in
    let before = c.roll_back_changes.ensures.later.was_honest honest in
    let new = c.roll_back_changes.new.store in
    let now = still_partly g at.After-sync before start partly in
    let barrier : IsBehind store c.test_each.new.store c.sync.new.self = search rules in
    let left =
    c.roll_back_changes.ensures.left honest good start now (midway g at.After-sync barrier start now.made sure) in
    subst
    (λ files. StopsBackWithDoubt store c.args.direction c.args.changes.now c.args.head.now.text.now start files new)
    (same_files g at.After-sync before)
    (subst (λ r. OnErr r (StopsBackWithDoubt store c.args.direction c.args.changes.now c.args.head.now.text.now start
    (store.files c.sync.new.self) new)) c.in-Err.is left)

pub returns-in-Ok-clause-durable : goal.returns-in-Ok-clause-durable
returns-in-Ok-clause-durable g c honest good start partly sure =
    let at = goal.at.returns-in-Ok-clause-durable g c in
    let now = still_partly g at.After-sync (c.roll_back_changes.ensures.later.was_honest honest) start partly in
    let barrier : IsBehind g.S.Store c.test_each.new.store c.sync.new.self = search rules in
    let durable =
    c.roll_back_changes.ensures.durable honest good start now (midway g at.After-sync barrier start now.made sure) in
    subst (λ r. OnOk r (IsSynced g.S.Store c.roll_back_changes.new.store)) c.in-Ok.is durable

pub returns-in-Err-clause-refusal : goal.returns-in-Err-clause-refusal
returns-in-Err-clause-refusal g c = subst IsRollBackRefusal (sym c.refusal_for.ensures)
    (reported_refusal c.roll_back_changes.new.started c.in-Err.cause)

pub returns-in-Err-clause-moved : goal.returns-in-Err-clause-moved
returns-in-Err-clause-moved g c honest good path e =
    absurd (never_moved c.roll_back_changes.new.started c.in-Err.cause path (ap (λ r. Err r) c.refusal_for.ensures) e)

pub returns-in-Err-clause-recovers : goal.returns-in-Err-clause-recovers
returns-in-Err-clause-recovers g c honest good start are partly path e =
    never_moved c.roll_back_changes.new.started c.in-Err.cause path (ap (λ r. Err r) c.refusal_for.ensures) e

pub returns-in-Err-clause-tested : goal.returns-in-Err-clause-tested
returns-in-Err-clause-tested g c honest good cause e = c.in_ok-test_each.ensures.ready
    (c.sync.ensures.reads.was_honest (c.roll_back_changes.ensures.later.was_honest honest)) good

pub returns-in-Err-clause-early : goal.returns-in-Err-clause-early
returns-in-Err-clause-early g c early =
    let unstarted =
    reported_early c.roll_back_changes.new.started c.in-Err.cause (subst IsEarly c.refusal_for.ensures early) in
    reads_more g.S.Store c.args.store.now c.sync.new.self c.roll_back_changes.new.store (read_so_far g
    (goal.at.returns-in-Err-clause-early g c).After-sync) (c.roll_back_changes.ensures.notes.still unstarted).1

pub returns-in-Err-clause-late : goal.returns-in-Err-clause-late
returns-in-Err-clause-late g c stop e other =
    subst (λ n. n < g.S.Store.mutations c.roll_back_changes.new.store)
    (read_so_far g (goal.at.returns-in-Err-clause-late g c).After-sync).mutations
    (c.roll_back_changes.ensures.notes.begun refl
    (reported_late c.roll_back_changes.new.started c.in-Err.cause stop (ap (λ r. Err r) c.refusal_for.ensures) e other))

pub returns-in-Err-clause-fault : goal.returns-in-Err-clause-fault
returns-in-Err-clause-fault g c =
    let Rose = g.S.Store.failures c.args.store.now < g.S.Store.failures c.roll_back_changes.new.store in
    subst (HasCause Rose) (sym c.refusal_for.ensures)
    (reported_cause Rose c.roll_back_changes.new.started c.in-Err.cause
    (λ e. past (read_so_far g (goal.at.returns-in-Err-clause-fault g c).After-sync).failures
    (c.roll_back_changes.ensures.device (c.in-Err.is ∙ ap (λ x. Err x) e))))
