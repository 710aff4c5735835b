-- A recovery while no session is open: what it reports, and on which state the files are then.
use Rattle.std.proofs.Common.{◌≡◌, ◌≢◌, ◌⊎◌, inl, inr, ⊎_elim, ℕ, Bool, false, List, [], ◌∷◌, map, get_or, Option, Some}
use Rattle.std.proofs.Common.{None, Result, Ok, Err, IfOk, MatchResult, refl, sym, ap, subst, ◌∙◌}
use Rattle.std.specs.FinMap.{get}
use Rattle.std.specs.List.{All, AllByRecursion}
use Rattle.std.proofs.lemmas.List.Elements.{All-cons, All-nil, recursion_from_All}
use Rattle.reuse_change.specs.Change.{path_of, IsProper}
use Rattle.reuse_change.specs.Entry.{AppliesBy, CanBeRolledBack}
use Rattle.reuse_change.specs.Files.{Files, tree_of}
use Rattle.reuse_change.specs.Tree.{undo_folder_of}
use Rattle.reuse_change.specs.declared.change.Change.{Change}
use Rattle.reuse_change.specs.declared.direction.Direction.{Direction}
use Rattle.reuse_change.specs.declared.direction.Direction.TheVariants as go
use Rattle.reuse_tree.specs.Head.{direction_of}
use Rattle.reuse_tree.specs.declared.journal.head.PendingDirection.{PendingDirection}
use Rattle.reuse_tree.specs.declared.journal.head.PendingDirection.TheVariants as pending
use Rattle.reuse_store.specs.declared.store.Store.{Ghosts}
use Rattle.reuse_command.specs.Answer.{IsFailure, nothing_recovered}
use Rattle.reuse_command.specs.declared.reply.Recovered.{Recovered}
use Rattle.reuse_command.specs.declared.reply.Refusal.{Refusal}
use Rattle.reuse_command.specs.declared.reply.Refusal.TheVariants.{Broken, Failed}
use Rattle.reuse_command.specs.declared.reply.Response.TheVariants as responses
use Rattle.reuse_command.specs.declared.request.Request.{Request}
use Rattle.reuse_command.specs.declared.request.Request.TheVariants as requests
use Rattle.reuse_journal.specs.Journal.{Journal, Recorded, State}
use Rattle.reuse_journal.specs.JournalFiles.{entry_in, entry_path, number_of}
use Rattle.reuse_journal.specs.Losses.{AreBetweenStates, AllRecoverToTree, Earlier, SurvivesBetweenStates}
use Rattle.reuse_journal.specs.Recovery.{HasPending, Picks, RecoversFiles, AnswersRecovery}
use Rattle.reuse_journal.specs.CommittedState.{BetweenStates, IsCommittedState, IsStep, IsPending, JournalTransition}
use Rattle.reuse_session.specs.session.Machine.{Snapshots}
use Rattle.reuse_session.specs.session.Requests.{as_answer}
use Rattle.reuse_session.specs.session.Session.{Simulates}
use Rattle.reuse_session.specs.session.Stops.{RunState, AnswersClosed, FilesAt, CrashStatesWithin, Recovers}
use Rattle.reuse_session.specs.session.Stops.{ReportsRecovery, ReportsStep, closed, done_numbers, open_at}
use Rattle.reuse_change.proofs.Differ.{proper_differs}
use Rattle.reuse_store.proofs.MadeLemmas.{settles_from}
use Rattle.reuse_journal.proofs.JournalLemmas.{entry_good}
use Rattle.reuse_journal.proofs.OneOpening.{none_pending, one_step}
use Rattle.reuse_journal.proofs.OpeningLemmas.{same_journal}
use Rattle.reuse_session.proofs.lemmas.session.Driving.{left_again, no_step, some_doubt}
use Rattle.reuse_session.proofs.lemmas.session.ForgottenTrees.{same_numbers}
use Rattle.reuse_session.proofs.lemmas.session.SafeDriving.{doubt_left, found_again, found_left}

-- ---- the paths

-- what holds of the path of each change holds of those that are picked
each_picked : (Q : List ℕ → Type 0) (Yes No : Change → Type 0) (changes : List Change) (paths : List (List ℕ))
    → Picks Yes No changes paths → AllByRecursion (λ change. Q (path_of change)) changes → All Q paths
each_picked Q Yes No [] paths picks each = subst (All Q) (sym picks) (All-nil Q)
each_picked Q Yes No (change ∷ changes) paths (inl (this, rest, is, more)) each =
    subst (All Q) (sym is) (All-cons Q (path_of change) rest each.0 (each_picked Q Yes No changes rest more each.1))
each_picked Q Yes No (change ∷ changes) paths (inr (other, more)) each = each_picked Q Yes No changes paths more each.1

-- where it holds of each change, none is picked of which it doesn't
none_without : (Holds : Change → Type 0) (changes : List Change) (paths : List (List ℕ))
    → Picks (λ change. ¬ (Holds change)) Holds changes paths → AllByRecursion Holds changes → paths ≡ []
none_without Holds [] paths picks each = picks
none_without Holds (change ∷ changes) paths (inl (stuck, rest, is, more)) each = absurd (stuck each.0)
none_without Holds (change ∷ changes) paths (inr (here, more)) each = none_without Holds changes paths more each.1

differs_by : (direction : Direction) (change : Change) (before after : Option (List ℕ)) → IsProper change
    → AppliesBy direction change before after → before ≢ after
differs_by go.Forward change before after proper applies = proper_differs change before after proper applies
differs_by go.Backward change before after proper applies =
    λ same. proper_differs change after before proper applies (sym same)

-- ---- the step that was pending

module _ (first second : State) (state next : Snapshots) (holds : Simulates first state)
    (reaches : Simulates second next) (files : Files) where
  numbers_first : map number_of first.journal.done ≡ done_numbers state
  numbers_first = same_numbers first.journal.done state.past holds.past

  numbers_second : map number_of second.journal.done ≡ done_numbers next
  numbers_second = same_numbers second.journal.done next.past reaches.past

  number_between : (direction : PendingDirection) (step : Recorded) → IsStep direction step first second
      → (done_numbers next ≡ number_of step ∷ done_numbers state)
      ⊎ (done_numbers state ≡ number_of step ∷ done_numbers next)
  number_between pending.Do step leads =
      inl (sym numbers_second ∙ ap (λ (j : Journal). map number_of j.done) leads.transition.1
      ∙ ap (λ ns. number_of step ∷ ns) numbers_first)
  number_between pending.Redo step leads =
      inl (sym numbers_second ∙ ap (λ (j : Journal). map number_of j.done) leads.transition.2
      ∙ ap (λ ns. number_of step ∷ ns) numbers_first)
  number_between pending.Undo step leads = inr (
      sym numbers_first ∙ ap (map number_of) leads.transition.1
      ∙ ap (λ ns. number_of step ∷ ns)
      (sym (ap (λ (j : Journal). map number_of j.done) leads.transition.2) ∙ numbers_second)
      )

  module _ (direction : PendingDirection) (step : Recorded) (leads : IsStep direction step first second)
      (under : IsPending direction step first files) where
    each_differs : AllByRecursion
        (λ change. get state.tree (path_of change) ≢ get next.tree (path_of change)) step.changes
    each_differs =
        let good = entry_good (get (undo_folder_of files) (entry_path (number_of step))) (entry_in step) under.kept in
        recursion_from_All
        (λ change. get state.tree (path_of change) ≢ get next.tree (path_of change)) step.changes (λ k d lt.
        subst
        (λ t. get t (path_of (get_or step.changes k d)) ≢ get next.tree (path_of (get_or step.changes k d))) holds.tree
        (subst (λ t. get first.tree (path_of (get_or step.changes k d)) ≢ get t
        (path_of (get_or step.changes k d))) reaches.tree
        (differs_by (direction_of direction) (get_or step.changes k d) _ _ (good.proper k d lt)
        (leads.leads.each k d lt))))

    each_back : AllByRecursion (CanBeRolledBack (direction_of direction) (tree_of files)) step.changes
    each_back =
        let good = entry_good (get (undo_folder_of files) (entry_path (number_of step))) (entry_in step) under.kept in
        recursion_from_All (CanBeRolledBack (direction_of direction) (tree_of files)) step.changes (settles_from
        (direction_of direction) first.tree (tree_of files) step.changes good under.good.are_files under.partly)

    -- what is reported of the step that is pending is reported of this one
    reports : (skip_moved : Bool) (turn : PendingDirection) (other : Recorded) (journal : Journal)
        (reported : Recovered) → HasPending turn other journal files
        → AnswersRecovery skip_moved turn other files reported → ReportsStep state next reported
    reports skip_moved turn other journal reported has states =
        let one = one_step (undo_folder_of files) journal first.journal turn direction other step has.keeps
        under.journal has.kept under.kept in
        let here = subst (λ (s : Recorded). AnswersRecovery skip_moved direction s files reported) one.steps
        (subst (λ (w : PendingDirection). AnswersRecovery skip_moved w other files reported) one.directions states) in
        record {
          number = number_of step;
          is_number = here.number;
          between = number_between direction step leads;
          changed = each_picked (λ path. get state.tree path ≢ get next.tree path) _ _ step.changes reported.changed
              here.changed each_differs;
          skipped = none_without (CanBeRolledBack (direction_of direction) (tree_of files)) step.changes
              reported.skipped here.skipped each_back;
        }

-- ---- which of the two states is left

module _ (skip_moved : Bool) (before after : Files) (reported : Recovered) (old : RunState) where
  -- of files that hold the state nothing was pending
  pub nothing_pending : (held : State) → IsCommittedState before held → RecoversFiles skip_moved before after reported
      → (reported ≡ nothing_recovered) × (after ≡ before)
  nothing_pending held committed (inl (journal, none, nothing, same)) = (nothing, same)
  nothing_pending held committed (inr (direction, step, journal, has, states, recovered)) =
      absurd (none_pending (undo_folder_of before) held.journal journal
      (record { entry = number_of step; direction = direction }) committed.journal has.keeps)

  module _ (first second : State) (next : Snapshots) (is_next : old.next ≡ Some next)
      (holds : Simulates first old.state) (reaches : Simulates second next)
      (doubt : BetweenStates first second before) where
    -- a step that was pending was pending between them
    becomes_pending : (direction : PendingDirection) (step : Recorded) (journal : Journal)
        → HasPending direction step journal before
        → (turn : PendingDirection) × (other : Recorded) × IsStep turn other first second
        × IsPending turn other first before
    becomes_pending direction step journal has = by_doubt doubt
      where
        none : (held : State) → IsCommittedState before held → ⊥
        none held committed = none_pending (undo_folder_of before) held.journal journal
            (record { entry = number_of step; direction = direction }) committed.journal has.keeps

        by_doubt : BetweenStates first second before → (turn : PendingDirection) × (other : Recorded)
            × IsStep turn other first second × IsPending turn other first before
        by_doubt (inl committed) = absurd (none first committed)
        by_doubt (inr (inl committed)) = absurd (none second committed)
        by_doubt (inr (inr under)) = under

    pub at_first : RecoversFiles skip_moved before after reported → ReportsRecovery old reported old.state
    at_first (inl (journal, none, nothing, same)) = inl (nothing, inl refl)
    at_first (inr (direction, step, journal, has, states, recovered)) =
        let under = becomes_pending direction step journal has in
        inr (
          next,
          is_next,
          refl,
          reports first second old.state next holds reaches before under.0 under.1 under.2 under.3 skip_moved direction
              step journal reported has states,
        )

    -- the step that was pending was rolled back, so that the next state isn't reached
    pub at_second : RecoversFiles skip_moved before after reported → IsCommittedState after second
        → ReportsRecovery old reported next
    at_second (inl (journal, none, nothing, same)) committed = inl (nothing, inr is_next)
    at_second (inr (direction, step, journal, has, states, recovered)) committed =
        let under = becomes_pending direction step journal has in
        let was = (same_journal (undo_folder_of before) journal first.journal
        (Some (record { entry = number_of step; direction = direction }))
        (Some (record { entry = number_of under.1; direction = under.0 })) has.keeps under.3.journal).0 in
        let is = (same_journal
        (undo_folder_of after) second.journal journal None None committed.journal recovered.stands.journal).0 in
        absurd (no_step under.0 under.1 first.journal
        (subst (λ j. JournalTransition under.0 under.1 first.journal j) (is ∙ was) under.2.transition))

-- ---- what is answered, and where the files are left

-- all but a recovery is refused
pub refused_closed : (request : Request) (old : RunState)
    → ((skip_moved : Bool) → request ≢ requests.Recover skip_moved) → AnswersClosed request (Err Broken) old old
refused_closed (requests.Recover skip_moved) old other = absurd (other skip_moved refl)
refused_closed request old other = (refl, refl)

module _ {S : Type 0} (files : S → Files) (before after : S) (skip_moved : Bool) (old : RunState)
    (is_closed : old.is_open ≡ false) where
  left_out : (refusal : Refusal) → IsFailure refusal → Recovers (Err refusal) old old
  left_out (Failed failure) is = refl
  left_out refusal is = absurd is

  pub recovers_closed : (answer : Result Recovered Refusal) → FilesAt (files before) old.state old.next
      → IfOk answer (RecoversFiles skip_moved (files before) (files after))
      → ((first second : State) → BetweenStates first second (files before)
      → MatchResult answer (λ recovered. IsCommittedState (files after) first ⊎ IsCommittedState (files after) second)
      (λ refusal. IsFailure refusal × BetweenStates first second (files after)))
      → (new : RunState) × Recovers (as_answer responses.Recovered answer) old new × (new.is_open ≡ false)
      × FilesAt (files after) new.state new.next
  recovers_closed (Err refusal) left recovered recovers =
      let some = some_doubt (files before) old.state old.next left in (
        old,
        left_out refusal (recovers some.0 some.1 some.2).0,
        is_closed,
        left_again (files before) (files after) old.state old.next left
            (λ first second doubt. (recovers first second doubt).1),
      )
  recovers_closed (Ok reported) left recovered recovers = by_next old.next refl left
    where
      by_next : (next : Option Snapshots) → old.next ≡ next → FilesAt (files before) old.state next
          → (new : RunState) × Recovers (Ok (responses.Recovered reported)) old new × (new.is_open ≡ false)
          × FilesAt (files after) new.state new.next
      by_next None is left =
          let at = nothing_pending skip_moved (files before) (files after) reported old left.0 left.1 recovered in (
            closed (open_at old.forgetting old.state),
            (old.state, inl (at.0, inl refl), refl),
            refl,
            (left.0, subst (λ f. IsCommittedState f left.0) (sym at.1) left.1, left.2),
          )
      by_next (Some next) is left = ⊎_elim
          (λ (committed : IsCommittedState (files after) left.0). (
            closed (open_at old.forgetting old.state),
            (
              old.state,
              at_first skip_moved (files before)
                  (files after) reported old left.0 left.1 next is left.2 left.3 left.4 recovered,
              refl,
            ),
            refl,
            (left.0, committed, left.2),
          ))
          (λ (committed : IsCommittedState (files after) left.1). (
            closed (open_at old.forgetting next),
            (
              next,
              at_second skip_moved (files before)
                  (files after) reported old left.0 left.1 next is left.2 left.3 left.4 recovered committed,
              refl,
            ),
            refl,
            (left.1, committed, left.3),
          ))
          (recovers left.0 left.1 left.4)

module _ {S : Type 0} (store : Ghosts S) (before after : S) (skip_moved : Bool) (old : RunState)
    (is_closed : old.is_open ≡ false) where
  pub recovers_safely : (answer : Result Recovered Refusal)
      → CrashStatesWithin store before old.state old.next old.forgetting
      → IfOk answer (RecoversFiles skip_moved (store.files before) (store.files after))
      → ((first second : State) → BetweenStates first second (store.files before) → MatchResult answer
      (λ recovered. IsCommittedState (store.files after) first ⊎ IsCommittedState (store.files after) second)
      (λ refusal. IsFailure refusal × BetweenStates first second (store.files after)))
      → ((earlier : Earlier) (held next : State) → AreBetweenStates store earlier held next before
      → SurvivesBetweenStates store earlier held next answer after)
      → (new : RunState) × Recovers (as_answer responses.Recovered answer) old new × (new.is_open ≡ false)
      × CrashStatesWithin store after new.state new.next new.forgetting
  recovers_safely (Err refusal) found recovered recovers survives =
      let some = some_doubt (store.files before) old.state old.next
      (found_left store before old.state old.next old.forgetting found) in (
        old,
        left_out store.files before after skip_moved old is_closed refusal (recovers some.0 some.1 some.2).0,
        is_closed,
        found_again store before after old.state old.next old.forgetting found survives,
      )
  recovers_safely (Ok reported) found recovered recovers survives = by_next old.next refl found
    where
      by_next : (next : Option Snapshots) → old.next ≡ next
          → CrashStatesWithin store before old.state next old.forgetting
          → (new : RunState) × Recovers (Ok (responses.Recovered reported)) old new × (new.is_open ≡ false)
          × CrashStatesWithin store after new.state new.next new.forgetting
      by_next None is (earlier, held, holds, committed, safe) =
          let at =
          nothing_pending skip_moved (store.files before) (store.files after) reported old held committed recovered in
          let here : (first : State) → IsCommittedState (store.files after) held
          → AllRecoverToTree store (record { state = first; forgetting = old.forgetting }) held after
          → CrashStatesWithin store after old.state None old.forgetting =
          λ first stands still. (first, held, holds, stands, still) in (
            closed (open_at old.forgetting old.state),
            (old.state, inl (at.0, inl refl), refl),
            refl,
            ⊎_elim (λ h. here earlier h.0 h.1) (λ h. here held h.0 h.1)
                (survives (record { state = earlier; forgetting = old.forgetting }) held held (inl (committed, safe))),
          )
      by_next (Some next) is (earlier, first, second, holds, reaches, doubt) =
          let files =
          doubt_left store (record { state = earlier; forgetting = old.forgetting }) first second before doubt in
          ⊎_elim
          (λ (h : IsCommittedState (store.files after) first
          × AllRecoverToTree store (record { state = earlier; forgetting = old.forgetting }) first after). (
            closed (open_at old.forgetting old.state),
            (
              old.state,
              at_first skip_moved (store.files before)
                  (store.files after) reported old first second next is holds reaches files recovered,
              refl,
            ),
            refl,
            (earlier, first, holds, h.0, h.1),
          ))
          (λ (h : IsCommittedState (store.files after) second
          × AllRecoverToTree store (record { state = first; forgetting = old.forgetting }) second after). (
            closed (open_at old.forgetting next),
            (
              next,
              at_second skip_moved (store.files before)
                  (store.files after) reported old first second next is holds reaches files recovered h.0,
              refl,
            ),
            refl,
            (first, second, reaches, h.0, h.1),
          ))
          (survives (record { state = earlier; forgetting = old.forgetting }) first second doubt)
