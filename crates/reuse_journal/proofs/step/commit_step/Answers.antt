use Rattle.std.proofs.Common.{◌≡◌, ◌⊎◌, inl, inr, ⊎_elim, List, ℕ, Some, Err, OnErr, ap, sym, refl, subst, ◌∙◌}
use Rattle.std.specs.List.{All}
use Rattle.std.specs.FinMap.{get}
use Rattle.std.proofs.lemmas.Result.{err_from_is_err_and, on_ok_weaker, on_err_weaker}
use Rattle.reuse_change.specs.Files.{Files, AreFiles, Clashes, tree_of}
use Rattle.reuse_change.specs.declared.change.Change.{Change}
use Rattle.reuse_change.specs.declared.direction.Direction.{Direction}
use Rattle.reuse_store.specs.declared.cause.Cause.TheVariants.{Clash, Moved}
use Rattle.reuse_store.specs.Asked.{IsSynced}
use Rattle.reuse_store.specs.Durable.{WithOrWithout}
use Rattle.reuse_journal.specs.Carried.{IsCarriedOut, IsStopped}
use Rattle.reuse_journal.specs.Losses.{HaveTree, StopsWithDoubt}
use Rattle.reuse_change.specs.Tree.{undo_folder_of, Sets}
use Rattle.reuse_change.specs.Entry.{LeadsBy, SomeMade, CanBeMade, CanGo, IsEntry}
use Rattle.reuse_journal.specs.JournalFiles.{head_path}
use Rattle.reuse_store.proofs.MadeLemmas.{made_none, made_all, made_of_front}
use Rattle.reuse_journal.proofs.HeadPuts.{head_sets, head_keeps_tree, head_is_free, sets_again}
use Rattle.reuse_command.proofs.OnlyReading.{passed_on}
use Rattle.reuse_journal.proofs.step.commit_step.Given.{Over}
use Rattle.reuse_journal.proofs.step.commit_step.Goals.{After-apply_changes, In_ok-apply_changes}
use Rattle.reuse_journal.proofs.step.commit_step.Goals as goal

-- what each put and the changes between them leave
module _ (direction : Direction) (changes : List Change) (pending : List ℕ) (old started : Files)
    (first : Sets head_path (Some pending) old started) where
  tree_stays : tree_of started ≡ tree_of old
  tree_stays = head_keeps_tree old started (Some pending) first

  stopped : (now : Files) → SomeMade direction changes (tree_of started) (tree_of now)
      → undo_folder_of now ≡ undo_folder_of started → IsStopped direction changes pending old now
  stopped now some folder = record {
    tree = subst (λ t. SomeMade direction changes t (tree_of now)) tree_stays some;
    sets = subst (Sets head_path (Some pending) (undo_folder_of old)) (sym folder)
        (head_sets old started (Some pending) first);
  }

-- the head was put, and the changes are made
record Performed (direction : Direction) (changes : List Change) (pending : List ℕ)
    (old started now : Files) : Type 0 where
  first : Sets head_path (Some pending) old started
  leads : LeadsBy direction changes (tree_of started) (tree_of now)
  folder : undo_folder_of now ≡ undo_folder_of started

module _ {direction : Direction} {changes : List Change} {pending : List ℕ} {old started now : Files}
    (done : Performed direction changes pending old started now) where
  carried : (settled : List ℕ) (after : Files) → Sets head_path (Some settled) now after
      → IsCarriedOut direction changes settled old after
  carried settled after last =
      let stays = tree_stays direction changes pending old started done.first in
      record {
        tree = subst (λ t. LeadsBy direction changes t (tree_of after)) stays (subst (LeadsBy direction changes
            (tree_of started)) (sym (head_keeps_tree now after (Some settled) last)) done.leads);
        sets = sets_again head_path (Some pending) (Some settled) (undo_folder_of old) (undo_folder_of started)
            (undo_folder_of now) (undo_folder_of after) (head_sets old started (Some pending) done.first) done.folder
            (head_sets now after (Some settled) last);
      }

  in_doubt : (settled : List ℕ) (after : Files) → (after ≡ now) ⊎ Sets head_path (Some settled) now after
      → (after ≡ old) ⊎ IsStopped direction changes pending old after ⊎ IsCarriedOut direction changes settled old after
  in_doubt settled after (inl same) =
      inr (inl (subst (IsStopped direction changes pending old) (sym same) (stopped direction changes pending old
      started done.first now (made_all direction changes (tree_of started) (tree_of now) done.leads) done.folder)))
  in_doubt settled after (inr last) = inr (inr (carried settled after last))

  -- the head that is there is put again
  free : AreFiles now → Clashes now head_path → ⊥
  free are clash = head_is_free now pending are
      (ap (λ files. get files head_path) done.folder ∙ (head_sets old started (Some pending) done.first).here) clash

-- what may be left with a head or without
with_head : {MightBe : Files → Type 0} {head : List ℕ} {left : Files}
    → WithOrWithout MightBe head_path (λ file. file ≡ Some head) left
    → MightBe left ⊎ ((kept : Files) × MightBe kept × Sets head_path (Some head) kept left)
with_head (inl was) = inl was
with_head {MightBe} {head} {left} (inr made) =
    inr (made.0, made.1, subst (λ file. Sets head_path file made.0 left) made.3 made.4)

head_or_not : {MightBe : Files → Type 0} {head : List ℕ} (done left : Files)
    → ((kept : Files) → MightBe kept → kept ≡ done) → WithOrWithout MightBe head_path (λ file. file ≡ Some head) left
    → (left ≡ done) ⊎ Sets head_path (Some head) done left
head_or_not done left sure (inl was) = inl (sure left was)
head_or_not {MightBe} {head} done left sure (inr made) = inr (subst (λ files. Sets head_path (Some head) files left)
    (sure made.0 made.1) (subst (λ file. Sets head_path file made.0 left) made.3 made.4))

-- the head's put leaves the tree
pub apply_changes-requires : goal.apply_changes-requires
apply_changes-requires g c honest =
    let stays = tree_stays c.args.direction c.args.changes.now c.args.heads.now.pending.now
    (g.S.Store.files c.args.store.now) (g.S.Store.files c.put_head.new.store) (c.in_ok-put_head.ensures.ok honest) in
    subst (λ t. CanGo c.args.direction t c.args.changes.now) (sym stays)
    (c.requires (c.put_head.ensures.later.was_honest honest))

pub returns-in_err-put_head-clause-stopped : goal.returns-in_err-put_head-clause-stopped
returns-in_err-put_head-clause-stopped g c honest good =
    let direction = c.args.direction in
    let changes = c.args.changes.now in
    let pending = c.args.heads.now.pending.now in
    let old = g.S.Store.files c.args.store.now in
    let after = g.S.Store.files c.put_head.new.store in
    let p = err_from_is_err_and c.from_residual.result c.from_residual.ensures.1 in
    let left : (after ≡ old) ⊎ IsStopped direction changes pending old after
    ⊎ IsCarriedOut direction changes c.args.heads.now.settled.now old after = ⊎_elim
    (λ (same : after ≡ old). inl same)
    (λ (first : Sets head_path (Some pending) old after). inr
    (inl (stopped direction changes pending old after first after (made_none direction changes (tree_of after)) refl)))
    (c.in_err-put_head.ensures.err honest) in
    subst (λ r. OnErr r ((after ≡ old) ⊎ IsStopped direction changes pending old after
    ⊎ IsCarriedOut direction changes c.args.heads.now.settled.now old after)) (sym p.1) left

module _ (g : Over) (c : After-apply_changes g) (honest : g.S.Store.honest c.apply_changes.new.store) where
  first_put : Sets head_path (Some c.args.heads.now.pending.now) (g.S.Store.files c.args.store.now)
      (g.S.Store.files c.put_head.new.store)
  first_put = c.in_ok-put_head.ensures.ok (c.apply_changes.ensures.later.was_honest honest)

  -- where each change can be made, none is in the way of another
  no_cause : IsEntry c.args.changes.now
      → All (CanBeMade c.args.direction (tree_of (g.S.Store.files c.args.store.now))) c.args.changes.now
      → (c.apply_changes.result ≡ Err Moved → ⊥) × (c.apply_changes.result ≡ Err Clash → ⊥)
  no_cause good all =
      let stays = tree_stays c.args.direction c.args.changes.now c.args.heads.now.pending.now
      (g.S.Store.files c.args.store.now) (g.S.Store.files c.put_head.new.store) first_put in
      c.apply_changes.ensures.cause honest good
      (subst (λ t. All (CanBeMade c.args.direction t) c.args.changes.now) (sym stays) all)

changes_applied : (g : Over) (c : In_ok-apply_changes g) → g.S.Store.honest c.apply_changes.new.store
    → IsEntry c.args.changes.now
    → Performed c.args.direction c.args.changes.now c.args.heads.now.pending.now (g.S.Store.files c.args.store.now)
    (g.S.Store.files c.put_head.new.store) (g.S.Store.files c.apply_changes.new.store)
changes_applied g c honest good = record {
  first = c.in_ok-put_head.ensures.ok (c.apply_changes.ensures.later.was_honest honest);
  leads = c.in_ok-apply_changes.ensures.done honest good;
  folder = c.apply_changes.ensures.folder honest good;
}

pub returns-in_err-apply_changes-clause-stopped : goal.returns-in_err-apply_changes-clause-stopped
returns-in_err-apply_changes-clause-stopped g c honest good =
    let old = g.S.Store.files c.args.store.now in
    let started = g.S.Store.files c.put_head.new.store in
    let now = g.S.Store.files c.apply_changes.new.store in
    let p =
    err_from_is_err_and c.from_residual-in_err-apply_changes.result c.from_residual-in_err-apply_changes.ensures.1 in
    let front = c.in_err-apply_changes.ensures.midway honest good in
    subst (λ r. OnErr r ((now ≡ old) ⊎ IsStopped c.args.direction c.args.changes.now c.args.heads.now.pending.now old
    now ⊎ IsCarriedOut c.args.direction c.args.changes.now c.args.heads.now.settled.now old now)) (sym p.1)
    (inr (inl (stopped c.args.direction c.args.changes.now c.args.heads.now.pending.now old started
    (first_put g (goal.at.returns-in_err-apply_changes-clause-stopped g c).After-apply_changes honest) now
    (made_of_front c.args.direction c.args.changes.now front.0 (tree_of started) (tree_of now) front.1 good)
    (c.apply_changes.ensures.folder honest good))))

pub returns-in_err-apply_changes-clause-moved : goal.returns-in_err-apply_changes-clause-moved
returns-in_err-apply_changes-clause-moved g c honest good all e =
    (no_cause g (goal.at.returns-in_err-apply_changes-clause-moved g c).After-apply_changes honest good all).0
    (passed_on c.from_residual-in_err-apply_changes.result c.apply_changes.result
    c.from_residual-in_err-apply_changes.ensures.1 c.in_err-apply_changes.was e)

pub returns-in_err-apply_changes-clause-clash : goal.returns-in_err-apply_changes-clause-clash
returns-in_err-apply_changes-clause-clash g c honest good all e = absurd (
    (no_cause g (goal.at.returns-in_err-apply_changes-clause-clash g c).After-apply_changes honest good all).1
    (passed_on c.from_residual-in_err-apply_changes.result c.apply_changes.result
    c.from_residual-in_err-apply_changes.ensures.1 c.in_err-apply_changes.was e)
    )

pub returns-clause-done : goal.returns-clause-done
returns-clause-done g c honest good =
    let done = changes_applied g (goal.at.returns-clause-done g c).In_ok-apply_changes
    (c.put_head-2.ensures.later.was_honest honest) good in
    on_ok_weaker c.put_head-2.result (carried done c.args.heads.now.settled.now
    (g.S.Store.files c.put_head-2.new.store)) (c.put_head-2.ensures.ok honest)

pub returns-clause-stopped : goal.returns-clause-stopped
returns-clause-stopped g c honest good =
    let done = changes_applied g (goal.at.returns-clause-stopped g c).In_ok-apply_changes
    (c.put_head-2.ensures.later.was_honest honest) good in
    on_err_weaker c.put_head-2.result (in_doubt done c.args.heads.now.settled.now
    (g.S.Store.files c.put_head-2.new.store)) (c.put_head-2.ensures.err honest)

pub returns-clause-moved : goal.returns-clause-moved
returns-clause-moved g c honest good all = c.put_head-2.ensures.moved

pub returns-clause-clash : goal.returns-clause-clash
returns-clause-clash g c honest good all e =
    let walked = c.put_head-2.ensures.later.was_honest honest in
    absurd (free (changes_applied g (goal.at.returns-clause-clash g c).In_ok-apply_changes walked good)
    (g.met.S.Store.are_files c.apply_changes.new.store walked) (c.put_head-2.ensures.clash honest e))

-- ---- after a loss of power

-- nothing is in doubt behind the changes
synced_next : (g : Over) (c : In_ok-apply_changes g) → g.S.Store.honest c.apply_changes.new.store
    → IsEntry c.args.changes.now → HaveTree g.S.Store c.args.store.now (tree_of (g.S.Store.files c.args.store.now))
    → IsSynced g.S.Store c.apply_changes.new.store
synced_next g c honest good sure = c.in_ok-apply_changes.ensures.durable honest good
    (c.in_ok-put_head.ensures.durable (c.apply_changes.ensures.later.was_honest honest) sure)

pub returns-in_err-put_head-clause-doubt : goal.returns-in_err-put_head-clause-doubt
returns-in_err-put_head-clause-doubt g c honest good sure =
    let p = err_from_is_err_and c.from_residual.result c.from_residual.ensures.1 in
    subst (λ r. OnErr r (StopsWithDoubt g.S.Store c.args.direction c.args.changes.now c.args.heads.now.pending.now
    c.args.heads.now.settled.now c.args.store.now c.put_head.new.store)) (sym p.1)
    (inl (c.in_err-put_head.ensures.err honest, λ left is. with_head (c.put_head.ensures.left left is)))

pub returns-in_err-apply_changes-clause-doubt : goal.returns-in_err-apply_changes-clause-doubt
returns-in_err-apply_changes-clause-doubt g c honest good sure =
    let direction = c.args.direction in
    let changes = c.args.changes.now in
    let pending = c.args.heads.now.pending.now in
    let old = g.S.Store.files c.args.store.now in
    let started = g.S.Store.files c.put_head.new.store in
    let now = g.S.Store.files c.apply_changes.new.store in
    let p =
    err_from_is_err_and c.from_residual-in_err-apply_changes.result c.from_residual-in_err-apply_changes.ensures.1 in
    let front = c.in_err-apply_changes.ensures.midway honest good in
    let first = first_put g (goal.at.returns-in_err-apply_changes-clause-doubt g c).After-apply_changes honest in
    let synced = c.in_ok-put_head.ensures.durable (c.apply_changes.ensures.later.was_honest honest) sure in
    subst (λ r. OnErr r (StopsWithDoubt g.S.Store direction changes pending c.args.heads.now.settled.now
    c.args.store.now c.apply_changes.new.store)) (sym p.1)
    (inr (inl (
      stopped direction changes pending old started first now (made_of_front direction changes front.0 (tree_of started)
          (tree_of now) front.1 good) (c.apply_changes.ensures.folder honest good),
      λ left is. let midway = c.apply_changes.ensures.left honest good synced left is in
          stopped direction changes pending old started first left midway.tree midway.folder,
    )))

pub returns-clause-durable : goal.returns-clause-durable
returns-clause-durable g c honest good sure =
    c.put_head-2.ensures.durable honest
    (λ left is. ap tree_of (synced_next g (goal.at.returns-clause-durable g c).In_ok-apply_changes
    (c.put_head-2.ensures.later.was_honest honest) good sure left is))

pub returns-clause-doubt : goal.returns-clause-doubt
returns-clause-doubt g c honest good sure =
    let at = (goal.at.returns-clause-doubt g c).In_ok-apply_changes in
    let walked = c.put_head-2.ensures.later.was_honest honest in
    let done = changes_applied g at walked good in
    let old = g.S.Store.files c.args.store.now in
    let started = g.S.Store.files c.put_head.new.store in
    let now = g.S.Store.files c.apply_changes.new.store in
    let pending = c.args.heads.now.pending.now in
    on_err_weaker c.put_head-2.result (λ either. inr (inr (
      now,
      subst (λ t. LeadsBy c.args.direction c.args.changes.now t (tree_of now))
          (tree_stays c.args.direction c.args.changes.now pending old started done.first) done.leads,
      subst (Sets head_path (Some pending) (undo_folder_of old)) (sym done.folder)
          (head_sets old started (Some pending) done.first),
      (either, λ left is. head_or_not now left (synced_next g at walked good sure) (c.put_head-2.ensures.left left is)),
    ))) (c.put_head-2.ensures.err honest)
