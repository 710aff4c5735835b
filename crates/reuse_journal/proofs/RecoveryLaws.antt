-- What recovering answers is exact, and what it leaves of files in doubt.
use Rattle.std.proofs.Common.{◌≡◌, ◌⊎◌, inl, inr, ⊎_elim, ℕ, ◌<◌, List, [], length, get_or, Bool, false, Some, None}
use Rattle.std.proofs.Common.{Result, Ok, Err, IfErr, MatchResult, refl, sym, ap, subst, ◌∙◌}
use Rattle.std.specs.Prelude.{IfOk}
use Rattle.std.specs.FinMap.{get}
use Rattle.std.proofs.lemmas.List.Elements.{All-cons, All-nil}
use Rattle.reuse_change.specs.Change.{path_of}
use Rattle.reuse_change.specs.Entry.{opposite, AppliesBy, IsEntry, IsReady, SomeMade, ArePartlyMade, CanBeMade}
use Rattle.reuse_change.specs.Entry.{CanBeRolledBack, IsFirstWithout}
use Rattle.reuse_change.specs.Files.{AreFiles, Files, tree_of}
use Rattle.reuse_tree.specs.Head.{direction_of}
use Rattle.reuse_change.specs.Tree.{undo_folder_of}
use Rattle.reuse_change.specs.declared.change.Change.{Change}
use Rattle.reuse_tree.specs.declared.journal.head.PendingDirection.{PendingDirection}
use Rattle.reuse_store.specs.declared.cause.Cause.{Cause}
use Rattle.reuse_change.specs.declared.direction.Direction.{Direction}
use Rattle.reuse_store.proofs.MadeLemmas.{back_at_start, ready_once, returned, settles_from, applied}
use Rattle.reuse_change.proofs.Walk.{none_without, applies_once_by}
use Rattle.reuse_command.specs.Answer.{DidNotFail, IsEarly, IsFailure, IsOpenRefusal}
use Rattle.reuse_journal.specs.Journal.{Journal, Recorded, State}
use Rattle.reuse_journal.specs.JournalFiles.{entry_in, entry_path, number_of, IsKeptIn, KeepsJournal}
use Rattle.reuse_journal.specs.Opening.{CanOpenOn, IsReadable, IsFirstBad, IsStuckAt}
use Rattle.reuse_journal.specs.Recovery.{AreStuck, HasPending, IsHalfway, IsRecovered, RecoversAt, RecoversFiles}
use Rattle.reuse_journal.specs.Recovery.{RecoversTree, RefusesRecovery, SomeRecovered, StopsRecovering}
use Rattle.reuse_journal.specs.CommittedState.{IsCommittedState, IsPending, BetweenStates}
use Rattle.reuse_command.specs.declared.reply.Recovered.{Recovered}
use Rattle.reuse_command.specs.declared.reply.Refusal.{Refusal}
use Rattle.reuse_command.specs.declared.failure.Failure.TheVariants.{Fault, Interrupted, Memory}
use Rattle.reuse_command.specs.declared.reply.Refusal.TheVariants.{BadJournal, Moved, Failed}
use Rattle.reuse_journal.proofs.JournalLemmas.{entry_good}
use Rattle.reuse_journal.proofs.OneOpening.{IsOneStep, bad_once, none_pending, not_bad_and_opened, not_bad_and_stuck}
use Rattle.reuse_journal.proofs.OneOpening.{not_stuck_and_opened, one_step, stuck_once}
use Rattle.reuse_journal.proofs.OpeningLemmas.{none_bad}
use Rattle.reuse_journal.proofs.Recovering.{none_picked}

not_bad_and_recovered : (skip_moved : Bool) (files after : Files) (reported : Recovered) (path : List ℕ)
    → RecoversFiles skip_moved files after reported → IsFirstBad files path → ⊥
not_bad_and_recovered skip_moved files after reported path (inl none) bad =
    none_bad files none.0 None none.1.above.0 none.1.above.1 none.1.keeps
    (All-nil (IsReadable (undo_folder_of files))) path bad
not_bad_and_recovered skip_moved files after reported path
    (inr (direction, step, journal, has, states, recovered)) bad =
    let folder = undo_folder_of files in
    none_bad files journal
    (Some (record { entry = number_of step; direction = direction })) has.above.0 has.above.1 has.keeps
    (All-cons (IsReadable folder) (number_of step) [] (entry_in step, has.kept) (All-nil (IsReadable folder))) path bad

not_stuck_and_recovered : (files after : Files) (reported : Recovered) (path : List ℕ)
    → RecoversFiles false files after reported → IsStuckAt files path → ⊥
not_stuck_and_recovered files after reported path (inl none) stuck =
    none_pending (undo_folder_of files) none.0 stuck.journal _ none.1.keeps stuck.keeps
not_stuck_and_recovered files after reported path (inr (direction, step, journal, has, states, recovered)) stuck =
    let tree = tree_of files in
    let one = one_step (undo_folder_of files) stuck.journal journal stuck.direction direction stuck.step step
    stuck.keeps has.keeps stuck.kept has.kept in
    let here =
    subst (λ (s : Recorded). IsFirstWithout (CanBeRolledBack (direction_of direction) tree) s.changes path) one.steps
    (subst (λ (w : PendingDirection). IsFirstWithout (CanBeRolledBack (direction_of w) tree) stuck.step.changes path)
    one.directions stuck.stuck) in
    let Stuck = λ (c : Change). ¬ (CanBeRolledBack (direction_of direction) tree c) in
    let all = none_picked Stuck (CanBeRolledBack (direction_of direction) tree) step.changes
    (subst (λ paths. AreStuck (direction_of direction) tree step.changes paths) (states.none refl) states.skipped) in
    none_without (CanBeRolledBack (direction_of direction) tree) step.changes path all here

pub refuses_recovery : (skip_moved : Bool) (files after : Files) (answer : Result Recovered Refusal) → DidNotFail answer
    → IfErr answer IsOpenRefusal → IfOk answer (RecoversFiles skip_moved files after)
    → ((path : List ℕ) → answer ≡ Err (BadJournal path) → IsFirstBad files path)
    → ((path : List ℕ) → answer ≡ Err (Moved path) → (skip_moved ≡ false) × IsStuckAt files path)
    → RefusesRecovery skip_moved files answer
refuses_recovery skip_moved files after (Ok reported) no_fault kinds recovered bad moved = record {
  bad = λ path.
      (λ e. absurd (cc), λ first. absurd (not_bad_and_recovered skip_moved files after reported path recovered first));
  moved = λ path. (
    λ e. absurd (cc),
    λ stuck. absurd (not_stuck_and_recovered files after reported path
        (subst (λ skip. RecoversFiles skip files after reported) stuck.0 recovered) stuck.1),
  );
}
refuses_recovery skip_moved files after (Err (BadJournal path)) no_fault kinds recovered bad moved = record {
  bad = λ other. (bad other, λ also. ap (λ p. Err (BadJournal p)) (bad_once files path other (bad path refl) also));
  moved = λ other. (λ e. absurd (cc), λ stuck. absurd (not_bad_and_stuck files path other (bad path refl) stuck.1));
}
refuses_recovery skip_moved files after (Err (Moved path)) no_fault kinds recovered bad moved = record {
  bad = λ other. (λ e. absurd (cc), λ also. absurd (not_bad_and_stuck files other path also (moved path refl).1));
  moved = λ other.
      (moved other, λ stuck. ap (λ p. Err (Moved p)) (stuck_once files path other (moved path refl).1 stuck.1));
}
refuses_recovery skip_moved files after (Err (Failed failure)) no_fault kinds recovered bad moved = absurd no_fault
refuses_recovery skip_moved files after (Err refusal) no_fault kinds recovered bad moved = absurd kinds

-- ---- of a step that was pending from a tree

module _ (direction : Direction) (changes : List Change) (good : IsEntry changes) (start tree after : Files)
    (partly : ArePartlyMade direction changes start tree) where
  made_from : (change : Change) → RecoversAt direction tree after change → CanBeRolledBack direction tree change
      → ((get tree (path_of change) ≡ get after (path_of change)) ⊎ AppliesBy direction change
      (get after (path_of change)) (get tree (path_of change))) × IsReady direction change (get after (path_of change))
  made_from change (inl stays) can = (inl (sym stays.1), subst (IsReady direction change) (sym stays.1) stays.0)
  made_from change (inr (inl back)) can =
      let applies = returned direction change (get tree (path_of change)) (get after (path_of change)) back.1 in
      (inr applies, (get tree (path_of change), applies))
  made_from change (inr (inr stuck)) can = absurd (stuck.0 can)

  -- all of it is recovered as that tree
  recovered_start : AreFiles start → RecoversTree direction changes tree after → after ≡ start
  recovered_start are recovers =
      let can = settles_from direction start tree changes good are partly in
      back_at_start direction changes good start tree after partly (record {
        made = record {
          each = λ k d lt. (made_from (get_or changes k d) (recovers.each k d lt) (can k d lt)).0;
          others = λ path none. sym (recovers.others path none);
        };
        ready = λ k d lt. (made_from (get_or changes k d) (recovers.each k d lt) (can k d lt)).1;
      })

  -- and halfway some of its changes are made
  halfway_made : SomeRecovered direction changes tree after → SomeMade direction changes start after
  halfway_made some = record {
    each = λ k d lt. at_change k d lt (some.each k d lt) (partly.made.each k d lt);
    others = λ path none. some.others path none ∙ partly.made.others path none;
  }
    where
      at_change : (k : ℕ) (d : Change) → k < length changes
          → (get after (path_of (get_or changes k d)) ≡ get tree (path_of (get_or changes k d)))
          ⊎ (CanBeMade (opposite direction) tree (get_or changes k d) × AppliesBy (opposite direction)
          (get_or changes k d) (get tree (path_of (get_or changes k d))) (get after (path_of (get_or changes k d))))
          → (get tree (path_of (get_or changes k d)) ≡ get start (path_of (get_or changes k d))) ⊎ AppliesBy direction
          (get_or changes k d) (get start (path_of (get_or changes k d))) (get tree (path_of (get_or changes k d)))
          → (get after (path_of (get_or changes k d)) ≡ get start (path_of (get_or changes k d))) ⊎ AppliesBy direction
          (get_or changes k d) (get start (path_of (get_or changes k d))) (get after (path_of (get_or changes k d)))
      at_change k d lt (inl same) made =
          let c = get_or changes k d in
          subst (λ f. (f ≡ get start (path_of c)) ⊎ AppliesBy direction c (get start (path_of c)) f) (sym same) made
      at_change k d lt (inr back) (inl unmade) =
          let c = get_or changes k d in
          absurd (ready_once direction c (get tree (path_of c)) (good.proper k d lt)
          (subst (IsReady direction c) (sym unmade) (partly.ready k d lt)) back.0.ready)
      at_change k d lt (inr back) (inr made) =
          let c = get_or changes k d in
          inl (applies_once_by (opposite direction) c (get tree (path_of c)) (get after (path_of c))
          (get start (path_of c)) back.1 (applied direction c (get start (path_of c)) (get tree (path_of c)) made))

module _ (files after : Files) (first : State) (direction turn : PendingDirection) (step next : Recorded)
    (journal : Journal) (has : HasPending direction step journal files) (under : IsPending turn next first files) where
  one : IsOneStep journal direction step first.journal turn next
  one = one_step
      (undo_folder_of files) journal first.journal direction turn step next has.keeps under.journal has.kept under.kept

  its_entry : IsEntry next.changes
  its_entry = entry_good (get (undo_folder_of files) (entry_path (number_of next))) (entry_in next) under.kept

  recovered_committed : IsRecovered direction step journal files after → IsCommittedState after first
  recovered_committed recovered =
      let tree =
      subst (λ (s : Recorded). RecoversTree (direction_of turn) s.changes (tree_of files) (tree_of after)) one.steps
      (subst (λ (w : PendingDirection). RecoversTree (direction_of w) step.changes (tree_of files) (tree_of after))
      one.directions recovered.tree) in
      record {
        tree = recovered_start (direction_of turn) next.changes its_entry first.tree (tree_of files)
            (tree_of after) under.partly under.good.are_files tree;
        good = under.good;
        journal = subst (λ j. KeepsJournal (undo_folder_of after) j None) one.journals recovered.stands.journal;
      }

  halfway_pending : IsHalfway direction step journal files after → IsPending turn next first after
  halfway_pending halfway =
      let tree =
      subst (λ (s : Recorded). SomeRecovered (direction_of turn) s.changes (tree_of files) (tree_of after)) one.steps
      (subst (λ (w : PendingDirection). SomeRecovered (direction_of w) step.changes (tree_of files) (tree_of after))
      one.directions halfway.tree) in
      let keeps = subst (λ (s : Recorded). KeepsJournal (undo_folder_of after) first.journal
      (Some (record { entry = number_of s; direction = turn }))) one.steps
      (subst (λ (w : PendingDirection). KeepsJournal (undo_folder_of after) first.journal
      (Some (record { entry = number_of step; direction = w }))) one.directions
      (subst (λ (j : Journal). KeepsJournal (undo_folder_of after) j
      (Some (record { entry = number_of step; direction = direction }))) one.journals halfway.pending.keeps)) in
      record {
        good = under.good;
        journal = keeps;
        kept = subst (IsKeptIn (undo_folder_of after)) one.steps halfway.pending.kept;
        partly = record {
          made = halfway_made (direction_of turn) next.changes its_entry first.tree (tree_of files)
              (tree_of after) under.partly tree;
          ready = under.partly.ready;
        };
      }

-- ---- of files in doubt

module _ (skip_moved : Bool) (files after : Files) (first second : State) where
  opens_on_one : BetweenStates first second files → (held : State) × CanOpenOn files held
  opens_on_one (inl stands) = (first, inl stands)
  opens_on_one (inr (inl stands)) = (second, inl stands)
  opens_on_one (inr (inr (turn, next, leads, under))) = (first, inr (turn, next, under))

  settled : BetweenStates first second files → (reported : Recovered) → RecoversFiles skip_moved files after reported
      → IsCommittedState after first ⊎ IsCommittedState after second
  settled (inl stands) reported (inl none) = inl (subst (λ f. IsCommittedState f first) (sym none.3) stands)
  settled (inl stands) reported (inr (direction, step, journal, has, states, recovered)) =
      absurd (none_pending (undo_folder_of files) first.journal journal _ stands.journal has.keeps)
  settled (inr (inl stands)) reported (inl none) = inr (subst (λ f. IsCommittedState f second) (sym none.3) stands)
  settled (inr (inl stands)) reported (inr (direction, step, journal, has, states, recovered)) =
      absurd (none_pending (undo_folder_of files) second.journal journal _ stands.journal has.keeps)
  settled (inr (inr (turn, next, leads, under))) reported (inl none) =
      absurd (none_pending (undo_folder_of files) none.0 first.journal _ none.1.keeps under.journal)
  settled (inr (inr (turn, next, leads, under))) reported (inr (direction, step, journal, has, states, recovered)) =
      inl (recovered_committed files after first direction turn step next journal has under recovered)

  stopped : BetweenStates first second files → StopsRecovering files after → BetweenStates first second after
  stopped (inl stands) (direction, step, journal, has, stops) =
      absurd (none_pending (undo_folder_of files) first.journal journal _ stands.journal has.keeps)
  stopped (inr (inl stands)) (direction, step, journal, has, stops) =
      absurd (none_pending (undo_folder_of files) second.journal journal _ stands.journal has.keeps)
  stopped (inr (inr (turn, next, leads, under))) (direction, step, journal, has, stops) = ⊎_elim
      (λ (recovered : IsRecovered direction step journal files after). inl
      (recovered_committed files after first direction turn step next journal has under recovered))
      (λ (halfway : IsHalfway direction step journal files after). inr
      (inr (turn, next, leads, halfway_pending files after first direction turn step next journal has under halfway)))
      stops

  pub recovers_recovery : BetweenStates first second files → (answer : Result Recovered Refusal)
      → IfErr answer IsOpenRefusal → IfOk answer (RecoversFiles skip_moved files after)
      → ((path : List ℕ) → answer ≡ Err (BadJournal path) → IsFirstBad files path)
      → ((path : List ℕ) → answer ≡ Err (Moved path) → (skip_moved ≡ false) × IsStuckAt files path)
      → ((cause : Cause) → answer ≡ Err (Failed (Interrupted cause)) → StopsRecovering files after)
      → IfErr answer (λ refusal. IsEarly refusal → after ≡ files)
      → MatchResult answer (λ reported. IsCommittedState after first ⊎ IsCommittedState after second)
      (λ refusal. IsFailure refusal × BetweenStates first second after)
  recovers_recovery doubt (Ok reported) kinds recovered bad moved interrupted early = settled doubt reported recovered
  recovers_recovery doubt (Err (BadJournal path)) kinds recovered bad moved interrupted early =
      let opens = opens_on_one doubt in absurd (not_bad_and_opened files path opens.0 (bad path refl) opens.1)
  recovers_recovery doubt (Err (Moved path)) kinds recovered bad moved interrupted early =
      let opens = opens_on_one doubt in absurd (not_stuck_and_opened files path opens.0 (moved path refl).1 opens.1)
  recovers_recovery doubt (Err (Failed (Interrupted cause))) kinds recovered bad moved interrupted early =
      (tt, stopped doubt (interrupted cause refl))
  recovers_recovery doubt (Err (Failed Memory)) kinds recovered bad moved interrupted early =
      (tt, subst (BetweenStates first second) (sym (early tt)) doubt)
  recovers_recovery doubt (Err (Failed (Fault fault))) kinds recovered bad moved interrupted early =
      (tt, subst (BetweenStates first second) (sym (early tt)) doubt)
  recovers_recovery doubt (Err refusal) kinds recovered bad moved interrupted early = absurd kinds
