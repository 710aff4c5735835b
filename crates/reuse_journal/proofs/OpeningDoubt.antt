-- What a loss of power may leave, where files in doubt between two committed states are opened.
use Rattle.std.proofs.Common.{◌≡◌, ◌⊎◌, inl, inr, ⊎_elim, ℕ, ◌+◌, List, ◌∷◌, length, Some, None, Result, Ok, Err, IfErr}
use Rattle.std.proofs.Common.{OnOk, MatchResult, refl, sym, ap, subst, ◌∙◌, arith}
use Rattle.reuse_store.specs.Asked.{OnlyReads, Leaves, IsSynced}
use Rattle.reuse_change.specs.Entry.{SomeMade}
use Rattle.reuse_change.specs.Files.{Files, tree_of}
use Rattle.reuse_tree.specs.Head.{direction_of}
use Rattle.reuse_store.specs.Durable.{IsMidway}
use Rattle.reuse_change.specs.Tree.{undo_folder_of, Sets}
use Rattle.reuse_store.specs.declared.cause.Cause.{Cause}
use Rattle.reuse_tree.specs.declared.journal.head.Pending.{Pending}
use Rattle.reuse_tree.specs.declared.journal.head.PendingDirection.{PendingDirection}
use Rattle.reuse_tree.specs.declared.journal.head.PendingDirection.TheVariants.{Do, Undo, Redo}
use Rattle.reuse_store.specs.declared.store.Store.{Ghosts}
use Rattle.reuse_store.proofs.MadeLemmas.{made_all, made_none}
use Rattle.reuse_command.specs.Answer.{IsEarly}
use Rattle.reuse_journal.specs.Carried.{SetsHead}
use Rattle.reuse_journal.specs.History.{Memory}
use Rattle.reuse_journal.specs.Journal.{Recorded, Journal, State}
use Rattle.reuse_journal.specs.JournalFiles.{head_path, number_of}
use Rattle.reuse_journal.specs.Losses.{AllRecoverToTree, AreBetweenStates, Earlier, IsSafe, StopsBackWithDoubt, beyond}
use Rattle.reuse_journal.specs.Opening.{IsRead}
use Rattle.reuse_journal.specs.Remembered.{Remembers}
use Rattle.reuse_journal.specs.CommittedState.{JournalTransition, IsCommittedState, IsStep, IsPending, BetweenStates}
use Rattle.reuse_command.specs.declared.reply.Refusal.{Refusal}
use Rattle.reuse_command.specs.declared.failure.Failure.TheVariants.{Interrupted}
use Rattle.reuse_command.specs.declared.reply.Refusal.TheVariants.{Failed}
use Rattle.reuse_journal.proofs.FilesBetweenStates.{none_pending}
use Rattle.reuse_journal.proofs.HeadPuts.{head_keeps_tree, head_sets}
use Rattle.reuse_journal.proofs.OpeningLemmas.{same_journal}
use Rattle.reuse_journal.proofs.PendingRecovery.{pending_still}
use Rattle.reuse_journal.proofs.SafeFiles.{safe_tree}

-- ---- one step leads from a journal to another

same_front : (step other : Recorded) (steps more : List Recorded) → step ∷ steps ≡ other ∷ more → step ≡ other
same_front step other steps more e = cc

-- what is undone isn't redone
not_back_and_on : (step other : Recorded) (old new : Journal) → JournalTransition Undo step old new
    → JournalTransition Redo other old new → ⊥
not_back_and_on step other old new back on =
    let one = ap length back.1 in
    let left : length new.done ≡ length back.0 = ap (λ j. length j.done) back.2 in
    let more : length new.done ≡ length (other ∷ old.done) = ap (λ j. length j.done) on.2 in
    omega (arith, one, left, more)

not_new : (step : Recorded) (old new : Journal) → JournalTransition Do step old new → new.used ≡ old.used → ⊥
not_new step old new mutations same = let used : new.used ≡ old.used + 1 = ap (λ j. j.used) mutations.1 in
    omega (arith, used, same)

pub mutates_once : (direction turn : PendingDirection) (step other : Recorded) (old new : Journal)
    → JournalTransition direction step old new → JournalTransition turn other old new
    → (direction ≡ turn) × (step ≡ other)
mutates_once Do Do step other old new a b =
    (refl, same_front step other old.done old.done (ap (λ j. j.done) (sym a.1 ∙ b.1)))
mutates_once Do Undo step other old new a b = absurd (not_new step old new a (ap (λ j. j.used) b.2))
mutates_once Do Redo step other old new a b = absurd (not_new step old new a (ap (λ j. j.used) b.2))
mutates_once Undo Do step other old new a b = absurd (not_new other old new b (ap (λ j. j.used) a.2))
mutates_once Redo Do step other old new a b = absurd (not_new other old new b (ap (λ j. j.used) a.2))
mutates_once Undo Redo step other old new a b = absurd (not_back_and_on step other old new a b)
mutates_once Redo Undo step other old new a b = absurd (not_back_and_on other step old new b a)
mutates_once Undo Undo step other old new a b = (refl, same_front step other a.0 b.0 (sym a.1 ∙ b.1))
mutates_once Redo Redo step other old new a b = (refl, same_front step other a.0 b.0 (sym a.1 ∙ b.1))

module _ {S : Type 0} (store : Ghosts S) (earlier : Earlier) (held next : State) where
  -- ---- what was only read

  pub files_in_doubt : (old : S) → AreBetweenStates store earlier held next old
      → BetweenStates held next (store.files old)
  files_in_doubt old (inl stands) = inl stands.0
  files_in_doubt old (inr (inl stands)) = inr (inl stands.0)
  files_in_doubt old (inr (inr step)) = inr (inr (step.0, step.1, step.2, step.3))

  module _ (old new : S) (reads : OnlyReads store old new) (honest : store.honest new) where
    same : store.files old ≡ store.files new
    same = sym (reads.files honest)

    -- the doubt stays
    pub doubt_stays : AreBetweenStates store earlier held next old → AreBetweenStates store earlier held next new
    doubt_stays (inl stands) =
        inl (subst (λ files. IsCommittedState files held) same stands.0, λ left is. stands.1 left (reads.may left is))
    doubt_stays (inr (inl stands)) = inr
        (inl (subst (λ files. IsCommittedState files next) same stands.0, λ left is. stands.1 left (reads.may left is)))
    doubt_stays (inr (inr step)) = inr (inr (
      step.0,
      step.1,
      step.2,
      subst (IsPending step.0 step.1 held) same step.3,
      λ left is. step.4 left (reads.may left is),
    ))

    pub refused_in_doubt : {A : Type 0} (result : Result A Refusal) (refusal : Refusal) (P : A → Type 0)
        → result ≡ Err refusal → AreBetweenStates store earlier held next old
        → MatchResult result P (λ refusal. AreBetweenStates store earlier held next new)
    refused_in_doubt result refusal P is doubt = subst
        (λ r. MatchResult r P (λ refusal. AreBetweenStates store earlier held next new)) (sym is) (doubt_stays doubt)

    -- where nothing is pending, they are one of the two
    pub reads_committed : (memory : Memory) (journal : Journal) → IsRead (store.files old) None memory journal
        → AreBetweenStates store earlier held next old
        → (IsCommittedState (store.files new) held × Remembers memory held.journal
        × AllRecoverToTree store earlier held new) ⊎ (IsCommittedState (store.files new) next
        × Remembers memory next.journal × AllRecoverToTree store (beyond earlier held) next new)
    reads_committed memory journal read (inl stands) = inl (
      subst (λ files. IsCommittedState files held) same stands.0,
      subst (Remembers memory) (same_journal (undo_folder_of (store.files old)) journal held.journal None None
          read.keeps stands.0.journal).0 read.remembers,
      λ left is. stands.1 left (reads.may left is),
    )
    reads_committed memory journal read (inr (inl stands)) = inr (
      subst (λ files. IsCommittedState files next) same stands.0,
      subst (Remembers memory) (same_journal (undo_folder_of (store.files old)) journal next.journal None None
          read.keeps stands.0.journal).0 read.remembers,
      λ left is. stands.1 left (reads.may left is),
    )
    reads_committed memory journal read (inr (inr step)) =
        let e = (same_journal (undo_folder_of (store.files old)) journal held.journal None
        (Some (record { entry = number_of step.1; direction = step.0 })) read.keeps step.3.journal).1 in
        absurd (cc)

  -- where the head has a step pending, it is so in the files
  pub each_in_doubt : (old : S) (pending : Pending) (memory : Memory) (journal : Journal)
      → IsRead (store.files old) (Some pending) memory journal → AreBetweenStates store earlier held next old
      → Leaves store old (λ left. IsSafe earlier held left ⊎ BetweenStates held next left)
  each_in_doubt old pending memory journal read (inl stands) =
      absurd (none_pending (store.files old) held stands.0 pending memory journal read)
  each_in_doubt old pending memory journal read (inr (inl stands)) =
      absurd (none_pending (store.files old) next stands.0 pending memory journal read)
  each_in_doubt old pending memory journal read (inr (inr step)) = step.4

  -- ---- what is rolled back

  pub committed_safe : (files : Files) → IsCommittedState files held → IsSafe earlier held files
  committed_safe files stands = inl (record { tree = stands.tree; opens = inl stands })

  module _ (direction : PendingDirection) (step : Recorded) (leads : IsStep direction step held next) where
    none_made : (tree : Files) → tree ≡ held.tree → SomeMade (direction_of direction) step.changes held.tree tree
    none_made tree same = subst (SomeMade (direction_of direction) step.changes held.tree) (sym same)
        (made_none (direction_of direction) step.changes held.tree)

    -- of all that may be left, some of the step's changes are made
    pub some_made : (left : Files) → IsSafe earlier held left ⊎ BetweenStates held next left
        → SomeMade (direction_of direction) step.changes held.tree (tree_of left)
    some_made left (inl safe) = none_made (tree_of left) (safe_tree earlier held left safe)
    some_made left (inr (inl stands)) = none_made (tree_of left) stands.tree
    some_made left (inr (inr (inl stands))) = subst (SomeMade (direction_of direction) step.changes held.tree)
        (sym stands.tree) (made_all (direction_of direction) step.changes held.tree next.tree leads.leads)
    some_made left (inr (inr (inr (turn, other, other_leads, under)))) =
        let one =
        mutates_once direction turn step other held.journal next.journal leads.transition other_leads.transition in
        subst (λ (s : Recorded). SomeMade (direction_of direction) s.changes held.tree (tree_of left)) (sym one.1)
        (subst (λ (w : PendingDirection). SomeMade (direction_of w) other.changes held.tree (tree_of left))
        (sym one.0) under.partly.made)

    module _ (before : Files) (under : IsPending direction step held before) (text : List ℕ) (stands : (after : Files)
        → tree_of after ≡ held.tree → SetsHead text before after → IsCommittedState after held) where
      -- where it stops among the changes, or before the head is put, it is pending still
      still : (after : Files) → IsMidway (direction_of direction) step.changes held.tree (undo_folder_of before) after
          → IsPending direction step held after
      still after midway = pending_still direction step held before after under midway

      all_back : (done : Files) → tree_of done ≡ held.tree → undo_folder_of done ≡ undo_folder_of before
          → (after : Files) → after ≡ done → IsPending direction step held after
      all_back done tree folder after same = still after (record {
        tree = none_made (tree_of after) (ap tree_of same ∙ tree);
        folder = ap undo_folder_of same ∙ folder;
      })

      -- and once that is put, they are the committed state from before the step
      settled : (done : Files) → tree_of done ≡ held.tree → undo_folder_of done ≡ undo_folder_of before
          → (after : Files) → Sets head_path (Some text) done after → IsCommittedState after held
      settled done tree folder after sets =
          stands after (head_keeps_tree done after (Some text) sets ∙ tree) (subst
          (λ f. Sets head_path (Some text) f (undo_folder_of after)) folder (head_sets done after (Some text) sets))

      pub stops_in_doubt : (new : S) → StopsBackWithDoubt store
          (direction_of direction) step.changes text held.tree before new → AreBetweenStates store earlier held next new
      stops_in_doubt new (inl midway) = inr (inr (
        direction,
        step,
        leads,
        still (store.files new) midway.0,
        λ left is. inr (inr (inr (direction, step, leads, still left (midway.1 left is)))),
      ))
      stops_in_doubt new (inr (done, tree, folder, (inl same, each))) = inr (inr (
        direction,
        step,
        leads,
        all_back done tree folder (store.files new) same,
        λ left is. inr
            (⊎_elim (λ (e : left ≡ done). inr (inr (direction, step, leads, all_back done tree folder left e)))
            (λ (sets : Sets head_path (Some text) done left). inl (settled done tree folder left sets)) (each left is)),
      ))
      stops_in_doubt new (inr (done, tree, folder, (inr put, each))) = inl (
        settled done tree folder (store.files new) put,
        λ left is. ⊎_elim
            (λ (e : left ≡ done). inl (record {
              tree = ap tree_of e ∙ tree;
              opens = inr (inl (next, direction, step, leads, all_back done tree folder left e));
            }))
            (λ (sets : Sets head_path (Some text) done left). committed_safe left (settled done tree folder left sets))
            (each left is),
      )

  -- what is answered, and what may be left then
  pub survives : {A : Type 0} (result : Result A Refusal) (new : S) (Q : Refusal → Type 0)
      → MatchResult result (λ _. IsCommittedState (store.files new) held) Q → OnOk result (IsSynced store new)
      → IfErr result (λ refusal. IsEarly refusal → AreBetweenStates store earlier held next new)
      → ((cause : Cause) → result ≡ Err (Failed (Interrupted cause)) → AreBetweenStates store earlier held next new)
      → MatchResult result (λ _. IsCommittedState (store.files new) held × AllRecoverToTree store earlier held new)
      (λ refusal. AreBetweenStates store earlier held next new)
  survives (Ok x) new Q stands synced early stopped = (
    stands,
    λ left is. committed_safe left (subst (λ files. IsCommittedState files held) (sym (synced left is)) stands),
  )
  survives (Err (Failed (Interrupted cause))) new Q stands synced early stopped = stopped cause refl
  survives (Err refusal) new Q stands synced early stopped = early tt
