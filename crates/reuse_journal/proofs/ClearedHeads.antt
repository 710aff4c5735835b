-- Where no change of a pending step can be rolled back, its head alone is put.
use Rattle.std.proofs.Common.{◌≡◌, ◌⊎◌, inl, inr, ⊎_elim, List, [], ℕ, Some, Result, Ok, Err, IfErr, OnOk, refl, sym}
use Rattle.std.proofs.Common.{ap, subst, ◌∙◌}
use Rattle.std.specs.FinMap.{get}
use Rattle.reuse_store.specs.Asked.{OnlyReads, Leaves}
use Rattle.reuse_change.specs.Entry.{opposite, touches, ArePartlyMade, SomeMade}
use Rattle.reuse_change.specs.Files.{Files, tree_of}
use Rattle.reuse_store.specs.Durable.{DurableAfterBarrier}
use Rattle.reuse_change.specs.Tree.{undo_folder_of, Sets}
use Rattle.reuse_store.specs.declared.cause.Cause.{Cause}
use Rattle.reuse_change.specs.declared.change.Change.{Change}
use Rattle.reuse_store.specs.declared.store.Store.{Ghosts}
use Rattle.reuse_change.specs.declared.direction.Direction.{Direction}
use Rattle.reuse_change.proofs.FileMaps.{same_files}
use Rattle.reuse_store.proofs.Durable.{certain_tree}
use Rattle.reuse_store.proofs.MadeLemmas.{back_none, made_none}
use Rattle.reuse_command.specs.Answer.{IsEarly}
use Rattle.reuse_journal.specs.Carried.{IsRolledBack, StopsBack}
use Rattle.reuse_journal.specs.JournalFiles.{head_path}
use Rattle.reuse_journal.specs.Losses.{HaveTree, MayHaveHead, StopsBackWithDoubt}
use Rattle.reuse_journal.specs.Remembered.{IsSameBut}
use Rattle.reuse_command.specs.declared.reply.Refusal.{Refusal}
use Rattle.reuse_command.specs.declared.failure.Failure.TheVariants.{Interrupted}
use Rattle.reuse_command.specs.declared.reply.Refusal.TheVariants.{Failed}
use Rattle.reuse_journal.proofs.HeadPuts.{head_sets, head_keeps_tree}

module _ (direction : Direction) (text : List ℕ) (old new : Files) where
  pub cleared : (changes : List Change) → changes ≡ [] → Sets head_path (Some text) old new
      → IsRolledBack direction changes text old new
  cleared changes none sets =
      subst (λ cs. IsRolledBack direction cs text old new) (sym none) (record {
        partly = subst (λ tree. ArePartlyMade direction [] tree (tree_of old))
            (sym (head_keeps_tree old new (Some text) sets)) (back_none direction [] (tree_of old));
        sets = head_sets old new (Some text) sets;
      })

  pub cleared_or_not : (changes : List Change) → changes ≡ [] → (new ≡ old) ⊎ Sets head_path (Some text) old new
      → StopsBack direction changes text old new
  cleared_or_not changes none (inl same) = inl (
    subst (λ files. SomeMade (opposite direction) changes (tree_of old) (tree_of files)) (sym same)
        (made_none (opposite direction) changes (tree_of old)),
    ap undo_folder_of same,
  )
  cleared_or_not changes none (inr sets) = inr (cleared changes none sets)

-- a barrier over the journal makes files of a certain tree certain
pub barrier_certain : {S : Type 0} (store : Ghosts S) (old mid : S) → HaveTree store old (tree_of (store.files old))
    → store.files mid ≡ store.files old
    → ((left : Files) → store.crash_states mid left
    → (kept : Files) × store.crash_states old kept × DurableAfterBarrier [] (store.files mid) kept left)
    → Leaves store mid (λ left. left ≡ store.files old)
barrier_certain store old mid have same ok left is =
    let certain = ok left is in
    certain_tree (store.files mid) certain.0 left (have certain.0 certain.1 ∙ ap tree_of (sym same)) certain.2 ∙ same

-- where no change is rolled back the tree is that from the start, and so is each that may be left
module _ {S : Type 0} (store : Ghosts S) (direction : Direction) (text : List ℕ) (changes : List Change)
    (none : changes ≡ [])
    (start : Files) (old new : S) (partly : ArePartlyMade direction changes start (tree_of (store.files old))) where
  made_nothing : (tree : Files) → SomeMade direction changes start tree → tree ≡ start
  made_nothing tree some = same_files tree start (λ path. some.others path (ap (λ cs. touches cs path) none))

  pub starts_certain : Leaves store old (λ kept. SomeMade direction changes start (tree_of kept))
      → HaveTree store old (tree_of (store.files old))
  starts_certain sure left is = made_nothing (tree_of left) (sure left is) ∙ sym
      (made_nothing (tree_of (store.files old)) partly.made)

  pub cleared_with_doubt : MayHaveHead store text (store.files old) new
      → StopsBackWithDoubt store direction changes text start (store.files old) new
  cleared_with_doubt head = inr (store.files old, made_nothing (tree_of (store.files old)) partly.made, refl, head)

-- the rest of the journal's folder stays
pub cleared_alone : {A S : Type 0} (store : Ghosts S) (text : List ℕ) (old new : S) (result : Result A Refusal)
    → store.honest new → OnOk result (Sets head_path (Some text) (store.files old) (store.files new))
    → ((cause : Cause) → result ≡ Err (Failed (Interrupted cause))
    → (store.files new ≡ store.files old) ⊎ Sets head_path (Some text) (store.files old) (store.files new))
    → IfErr result (λ refusal. IsEarly refusal → OnlyReads store old new)
    → IsSameBut head_path (undo_folder_of (store.files old)) (undo_folder_of (store.files new))
cleared_alone store text old new (Ok x) honest done stopped early =
    (head_sets (store.files old) (store.files new) (Some text) done).elsewhere
cleared_alone store text old new (Err (Failed (Interrupted cause))) honest done stopped early = ⊎_elim
    (λ (same : store.files new ≡ store.files old). λ other differs. ap (λ files. get (undo_folder_of files) other) same)
    (λ (sets : Sets head_path (Some text) (store.files old) (store.files new)).
    (head_sets (store.files old) (store.files new) (Some text) sets).elsewhere)
    (stopped cause refl)
cleared_alone store text old new (Err refusal) honest done stopped early =
    λ other differs. ap (λ files. get (undo_folder_of files) other) ((early tt).files honest)
