-- A tree and a journal follow the reference model.
use Rattle.std.proofs.Common.{◌≡◌, ◌⊎◌, ⊎_elim, ℕ, suc, ◌+◌, ◌<◌, Bool, true, false, cond, List, [], ◌∷◌, ◌++◌, length}
use Rattle.std.proofs.Common.{map, reverse, Result, Ok, Err, refl, sym, ap, ap₂, subst, ◌∙◌, arith}
use Rattle.std.specs.List.{All}
use Rattle.std.proofs.lemmas.List.{length-map, nil_from_length}
use Rattle.reuse_change.specs.Files.{Files, AreFiles}
use Rattle.reuse_change.specs.declared.change.Change.{Change}
use Rattle.reuse_change.specs.Change.{path_of}
use Rattle.reuse_change.specs.declared.direction.Direction.{Direction}
use Rattle.reuse_change.specs.declared.direction.Direction.TheVariants as direction
use Rattle.reuse_command.specs.declared.command.Command.{Command}
use Rattle.reuse_change.specs.declared.command_name.CommandName.{CommandName}
use Rattle.reuse_command.specs.declared.reply.Response.{Response}
use Rattle.reuse_command.specs.declared.reply.Response.TheVariants.{Changed, NothingChanged}
use Rattle.reuse_command.specs.declared.reply.Refusal.{Refusal}
use Rattle.reuse_command.specs.declared.reply.Refusal.TheVariants.{JournalFull, Moved, Failed}
use Rattle.reuse_command.specs.Answer.{DidNotFail, IsTestRefusal}
use Rattle.reuse_command.specs.Command.{name_of}
use Rattle.reuse_plan.specs.Outcome.{outcome_of}
use Rattle.reuse_plan.specs.PathOutcomes.{left_paths}
use Rattle.reuse_change.specs.Entry.{paths_of, CanBeMade, IsEntry, IsFirstStuck, LeadsBy, LeadsAll}
use Rattle.reuse_change.specs.Tree.{changed_paths}
use Rattle.reuse_session.specs.session.Machine.{Connects, Kept, Snapshots, Step, taken, ran, ran_by, kept_row, rows_of}
use Rattle.reuse_session.specs.session.Model.{ReplaysTo, kept_ahead, replayed}
use Rattle.reuse_journal.specs.Labels.{Label, is_full, row_of}
use Rattle.reuse_journal.specs.Journal.{Recorded, State, GoesOneStep, Replays, ahead, end_of, moved_on, reply_of}
use Rattle.reuse_journal.specs.Journal.{rows_in}
use Rattle.reuse_session.specs.session.Session.{HaveCopies, Simulates, IsReplay}
use Rattle.reuse_change.proofs.Differ.{changed_by_entry, changed_by_none}
use Rattle.reuse_change.proofs.Walk.{leads_back}
use Rattle.reuse_journal.proofs.MemoryLemmas.{reverse_map}
use Rattle.reuse_session.proofs.lemmas.session.ReachedFiles.{reach_files}

-- as many copies are kept as steps
same_length : (steps : List Recorded) (copies : List Kept) → HaveCopies steps copies → length steps ≡ length copies
same_length [] [] h = refl
same_length (step ∷ steps) (kept ∷ others) h = ap suc (same_length steps others h.2)
same_length [] (kept ∷ others) h = absurd h
same_length (step ∷ steps) [] h = absurd h

-- what leads back from a tree leads on to it
leads_on : (changes : List Change) (before after : Files) → LeadsBy direction.Backward changes before after
    → LeadsAll changes after before
leads_on changes before after h = record { each = h.each; others = λ path e. sym (h.others path e) }

module _ (held : State) (state : Snapshots) (holds : Simulates held state) where
  -- ---- undo and redo

  module _ (are : AreFiles held.tree) (new : State) where
    abbrev ReplaysSo : Direction → List Kept → Result Response Refusal → Type 0
    ReplaysSo go copies answer = (next : Snapshots) × ReplaysTo go copies state answer next × Simulates new next

    stays : (go : Direction) (answer : Result Response Refusal) → answer ≡ Err (end_of go) → new ≡ held
        → ReplaysSo go [] answer
    stays go answer is same = (state, (is, refl), subst (λ s. Simulates s state) (sym same) holds)

    module _ (step : Recorded) (kept : Kept) (label : kept.label ≡ step.label)
        (connects : Connects step.changes kept.before kept.after) where
      reported : (go : Direction) (reply : Response) → reply ≡ reply_of go (paths_of step.changes)
          → reply ≡ reply_of go (changed_paths kept.before kept.after)
      reported go reply is = is
          ∙ ap (reply_of go) (sym (changed_by_entry step.changes kept.before kept.after connects.good connects.leads))

      can_on : (go : Direction) → All (CanBeMade go held.tree) step.changes → All (CanBeMade go state.tree) step.changes
      can_on go can = subst (λ t. All (CanBeMade go t) step.changes) holds.tree can

      leads_from : (go : Direction) → LeadsBy go step.changes held.tree new.tree
          → LeadsBy go step.changes state.tree new.tree
      leads_from go leads = subst (λ t. LeadsBy go step.changes t new.tree) holds.tree leads

      state_are : AreFiles state.tree
      state_are = subst AreFiles holds.tree are

      stuck : (go : Direction) (others : List Kept) (refusal : Refusal) → (path : List ℕ) × (refusal ≡ Moved path)
          × IsFirstStuck go held.tree step.changes path → new ≡ held → ReplaysSo go (kept ∷ others) (Err refusal)
      stuck go others refusal first same = (
        state,
        (
          step.changes,
          connects,
          ((first.0, first.1, subst (λ t. IsFirstStuck go t step.changes first.0) holds.tree first.2), refl),
        ),
        subst (λ s. Simulates s state) (sym same) holds,
      )

      back : (steps : List Recorded) (others : List Kept) (reply : Response) → HaveCopies steps others
          → GoesOneStep direction.Backward step (reply_of direction.Backward)
          (moved_on direction.Backward step steps held.journal) held (Ok reply) new
          → ReplaysSo direction.Backward (kept ∷ others) (Ok reply)
      back steps others reply rest u =
          let can = can_on direction.Backward u.1 in
          let leads = leads_from direction.Backward u.2 in
          let new_are = reach_files direction.Backward step.changes connects.good kept.after kept.before
          (leads_back step.changes kept.before kept.after connects.leads) connects.are_files.0 state.tree new.tree
          state_are can leads in (
            replayed direction.Backward kept others state new.tree,
            (step.changes, connects, (reported direction.Backward reply u.0, can, leads, refl)),
            record {
              tree = refl;
              past = subst (λ j. HaveCopies j.done others) (sym u.3) rest;
              future = subst (λ j. HaveCopies j.undone
                  (record { label = kept.label; before = new.tree; after = state.tree } ∷ state.future)) (sym u.3) (
                    label,
                    record {
                      good = connects.good;
                      leads = leads_on step.changes state.tree new.tree leads;
                      are_files = (new_are, state_are);
                    },
                    holds.future,
                  );
              used = ap (λ j. j.used) u.3 ∙ holds.used;
            },
          )

      on : (steps : List Recorded) (others : List Kept) (reply : Response) → HaveCopies steps others
          → GoesOneStep direction.Forward step (reply_of direction.Forward)
          (moved_on direction.Forward step steps held.journal) held (Ok reply) new
          → ReplaysSo direction.Forward (kept ∷ others) (Ok reply)
      on steps others reply rest u =
          let can = can_on direction.Forward u.1 in
          let leads = leads_from direction.Forward u.2 in
          let new_are = reach_files direction.Forward step.changes connects.good kept.before kept.after connects.leads
          connects.are_files.1 state.tree new.tree state_are can leads in (
            replayed direction.Forward kept others state new.tree,
            (step.changes, connects, (reported direction.Forward reply u.0, can, leads, refl)),
            record {
              tree = refl;
              past = subst (λ j. HaveCopies j.done
                  (record { label = kept.label; before = state.tree; after = new.tree } ∷ state.past)) (sym u.3)
                  (label, record { good = connects.good; leads = leads; are_files = (state_are, new_are) }, holds.past);
              future = subst (λ j. HaveCopies j.undone others) (sym u.3) rest;
              used = ap (λ j. j.used) u.3 ∙ holds.used;
            },
          )

    by_cases : (go : Direction) (answer : Result Response Refusal) (steps : List Recorded) (copies : List Kept)
        → HaveCopies steps copies → Replays go steps held answer new → ReplaysSo go copies answer
    by_cases go answer [] [] h u = stays go answer u.0 u.1
    by_cases direction.Backward (Ok reply) (step ∷ steps) (kept ∷ others) h u =
        back step kept h.0 h.1 steps others reply h.2 u
    by_cases direction.Forward (Ok reply) (step ∷ steps) (kept ∷ others) h u =
        on step kept h.0 h.1 steps others reply h.2 u
    by_cases go (Err refusal) (step ∷ steps) (kept ∷ others) h u = stuck step kept h.0 h.1 go others refusal u.0 u.1
    by_cases go answer [] (kept ∷ others) h u = absurd h
    by_cases go answer (step ∷ steps) [] h u = absurd h

    copies_ahead : (go : Direction) → HaveCopies (ahead go held.journal) (kept_ahead go state)
    copies_ahead direction.Backward = holds.past
    copies_ahead direction.Forward = holds.future

    -- an undo or a redo follows the model
    pub replay_follows : (go : Direction) (answer : Result Response Refusal)
        → Replays go (ahead go held.journal) held answer new → ReplaysSo go (kept_ahead go state) answer
    replay_follows go answer u = by_cases go answer (ahead go held.journal) (kept_ahead go state) (copies_ahead go) u

    -- so does one that stopped
    pub stopped_replay_follows : (go : Direction) → IsReplay go held new
        → (answer : Result Response Refusal) × ReplaysSo go (kept_ahead go state) answer
    stopped_replay_follows direction.Backward replay =
        let mutations = replay.is_step.transition in
        let answer : Result Response Refusal = Ok (reply_of direction.Backward (paths_of replay.step.changes)) in (
          answer,
          replay_follows direction.Backward answer (subst (λ steps. Replays direction.Backward steps held answer new)
              (sym mutations.1) (refl, replay.can, replay.is_step.leads, mutations.2)),
        )
    stopped_replay_follows direction.Forward replay =
        let mutations = replay.is_step.transition in
        let answer : Result Response Refusal = Ok (reply_of direction.Forward (paths_of replay.step.changes)) in (
          answer,
          replay_follows direction.Forward answer (subst (λ steps. Replays direction.Forward steps held answer new)
              (sym mutations.1) (refl, replay.can, replay.is_step.leads, mutations.2)),
        )

  -- ---- a run

  pub kept_count : length held.journal.done ≡ length state.past
  kept_count = same_length held.journal.done state.past holds.past

  pub is_full_alike : is_full (length state.past) state.used ≡ is_full (length held.journal.done) held.journal.used
  is_full_alike =
      ap (λ n. is_full n state.used) (sym kept_count) ∙ ap (λ n. is_full (length held.journal.done) n) (sym holds.used)

  pub journal_full : (command : Command) (when : ℕ) → is_full (length held.journal.done) held.journal.used ≡ true
      → ran_by state command when ≡ (Err JournalFull, state)
  journal_full command when e =
      ap (λ b. cond b (Err JournalFull, state)
      (ran state when (name_of command) (left_paths command state.tree) (outcome_of command state.tree)))
      (is_full_alike ∙ e)

  not_full : (command : Command) (when : ℕ) → is_full (length held.journal.done) held.journal.used ≡ false
      → ran_by state command when
      ≡ ran state when (name_of command) (left_paths command held.tree) (outcome_of command held.tree)
  not_full command when e =
      ap (λ b. cond b (Err JournalFull, state)
      (ran state when (name_of command) (left_paths command state.tree) (outcome_of command state.tree)))
      (is_full_alike ∙ e)
      ∙ ap (λ tree. ran state when (name_of command) (left_paths command tree) (outcome_of command tree))
      (sym holds.tree)

  pub run_refused : (command : Command) (when : ℕ) (refusal : Refusal)
      → is_full (length held.journal.done) held.journal.used ≡ false → outcome_of command held.tree ≡ Err refusal
      → ran_by state command when ≡ (Err refusal, state)
  run_refused command when refusal room e =
      not_full command when room ∙ ap (ran state when (name_of command) (left_paths command held.tree)) e

  pub run_planned : (command : Command) (when : ℕ) (changes : List Change) (after : Files)
      → is_full (length held.journal.done) held.journal.used ≡ false
      → outcome_of command held.tree ≡ Ok after → changed_paths held.tree after ≡ paths_of changes
      → ran_by state command when
      ≡ taken state when (name_of command) (left_paths command held.tree) after (paths_of changes)
  run_planned command when changes after room outcome differ =
      let left = left_paths command held.tree in
      not_full command when room ∙ ap (ran state when (name_of command) left) outcome
      ∙ ap (λ tree. taken state when (name_of command) left after (changed_paths tree after)) (sym holds.tree)
      ∙ ap (taken state when (name_of command) left after) differ

  taken_some : (when : ℕ) (command : CommandName) (left : List (List ℕ)) (after : Files) (changes : List Change)
      → 0 < length changes → taken state when command left after (paths_of changes) ≡ (
        Ok (Changed (paths_of changes) left),
        record {
          tree = after;
          past = record {
            label = record { number = state.used + 1; when = when; command = command };
            before = state.tree;
            after = after;
          } ∷ state.past;
          future = [];
          used = state.used + 1;
        },
      )
  taken_some when command left after [] h = absurd (omega arith)
  taken_some when command left after (change ∷ changes) h = refl

  -- a run that changes something follows the model
  pub run_follows : (command : Command) (when : ℕ) (changes : List Change) (after : Files)
      → is_full (length held.journal.done) held.journal.used ≡ false → outcome_of command held.tree ≡ Ok after
      → IsEntry changes → LeadsAll changes held.tree after → AreFiles held.tree → AreFiles after
      → (new : State) → new.tree ≡ after → new.journal ≡ record {
        done = record {
          label = record { number = held.journal.used + 1; when = when; command = name_of command };
          changes = changes;
        } ∷ held.journal.done;
        undone = [];
        used = held.journal.used + 1;
      }
      → (Ok (Changed (paths_of changes) (left_paths command held.tree)) ≡ (ran_by state command when).0)
      × Simulates new (ran_by state command when).1
  run_follows command when changes after room outcome good leads before_are after_are new tree journal =
      let left = left_paths command held.tree in
      let ran_is =
      run_planned command when changes after room outcome (changed_by_entry changes held.tree after good leads)
      ∙ taken_some when (name_of command) left after changes good.some in
      let numbered : ◌≡◌ {A = Label} (record { number = state.used + 1; when = when; command = name_of command })
      (record { number = held.journal.used + 1; when = when; command = name_of command }) =
      λ i. record { number = sym holds.used i + 1; when = when; command = name_of command } in
      subst (λ (step : Step). (Ok (Changed (paths_of changes) left) ≡ step.0) × Simulates new step.1) (sym ran_is) (
        refl,
        record {
          tree = tree;
          past = subst (λ j. HaveCopies j.done (record {
            label = record { number = state.used + 1; when = when; command = name_of command };
            before = state.tree;
            after = after;
          } ∷ state.past)) (sym journal) (
            numbered,
            record {
              good = good;
              leads = subst (λ t. LeadsAll changes t after) holds.tree leads;
              are_files = (subst AreFiles holds.tree before_are, after_are);
            },
            holds.past,
          );
          future = subst (λ j. HaveCopies j.undone []) (sym journal) tt;
          used = ap (λ j. j.used) journal ∙ ap (λ n. n + 1) holds.used;
        },
      )

-- ---- the log

-- a step's row is that of its copies
pub row_alike : (is_done : Bool) (step : Recorded) (kept : Kept) → kept.label ≡ step.label
    → Connects step.changes kept.before kept.after
    → row_of step.label (length step.changes) is_done ≡ kept_row is_done kept
row_alike is_done step kept label connects =
    ap (λ l. row_of l (length step.changes) is_done) (sym label)
    ∙ ap (λ n. row_of kept.label n is_done)
    (sym (ap length (changed_by_entry step.changes kept.before kept.after connects.good connects.leads)
    ∙ length-map step.changes path_of))

rows_alike : (is_done : Bool) (steps : List Recorded) (copies : List Kept) → HaveCopies steps copies
    → map (λ (step : Recorded). row_of step.label (length step.changes) is_done) steps ≡ map (kept_row is_done) copies
rows_alike is_done [] [] h = refl
rows_alike is_done (step ∷ steps) (kept ∷ others) h =
    ap (λ rows. row_of step.label (length step.changes) is_done ∷ rows) (rows_alike is_done steps others h.2)
    ∙ ap (λ row. row ∷ map (kept_row is_done) others) (row_alike is_done step kept h.0 h.1)
rows_alike is_done [] (kept ∷ others) h = absurd h
rows_alike is_done (step ∷ steps) [] h = absurd h

-- the rows of the journal are those of the model
pub log_follows : (held : State) (state : Snapshots) → Simulates held state → rows_in held.journal ≡ rows_of state
log_follows held state holds =
    ap₂ (λ done undone. done ++ undone)
    (sym (reverse_map (λ (step : Recorded). row_of step.label (length step.changes) true) held.journal.done)
    ∙ ap reverse (rows_alike true held.journal.done state.past holds.past) ∙ reverse_map (kept_row true) state.past)
    (rows_alike false held.journal.undone state.future holds.future)

-- a refusal of the test that is neither memory's nor the store's names a path
pub names_path : (refusal : Refusal) → IsTestRefusal refusal → DidNotFail {A = Response} (Err refusal)
    → (path : List ℕ) × (refusal ≡ Moved path)
names_path (Moved path) h reported = (path, refl)
names_path (Failed failure) h reported = absurd reported
names_path refusal h reported = absurd h

-- a plan of some changes is an entry
pub entry_of_plan : (changes : List Change) → 0 < length changes → (changes ≡ []) ⊎ IsEntry changes → IsEntry changes
entry_of_plan changes some good = ⊎_elim (λ none. absurd (omega (arith, some, ap length none))) (λ entry. entry) good

-- a run that changes nothing
pub run_nothing : (held : State) (state : Snapshots) (holds : Simulates held state) (command : Command) (when : ℕ)
    (changes : List Change) (after : Files) → is_full (length held.journal.done) held.journal.used ≡ false
    → outcome_of command held.tree ≡ Ok after → length changes ≡ 0 → LeadsAll changes held.tree after
    → ran_by state command when ≡ (Ok (NothingChanged (left_paths command held.tree)), state)
run_nothing held state holds command when changes after room outcome none leads =
    run_planned held state holds command when [] after room outcome
    (changed_by_none held.tree after (subst (λ cs. LeadsAll cs held.tree after) (nil_from_length changes none) leads))
