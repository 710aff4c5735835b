-- What a run answers and leaves, from the step that it records.
use Rattle.std.proofs.Common.{◌≡◌, ◌+◌, ◌<◌, ◌≤◌, ℕ, true, false, None, Some, List, [], ◌∷◌, length, Result, Ok, Err}
use Rattle.std.proofs.Common.{IfErr, inl, refl, sym, ap, subst, ◌∙◌, arith}
use Rattle.std.specs.FinMap.{get}
use Rattle.std.specs.List.{All}
use Rattle.std.proofs.lemmas.List.{length-append}
use Rattle.reuse_change.specs.Files.{Files, Clashes, tree_of}
use Rattle.reuse_change.specs.declared.change.Change.{Change}
use Rattle.reuse_command.specs.declared.failure.Fault.TheVariants as faults
use Rattle.reuse_store.specs.declared.store.Store.{Ghosts}
use Rattle.reuse_command.specs.Answer.{IsEarly, IsStop, HasClash, IsEarlyFailure}
use Rattle.reuse_session.specs.session.Calls.{files_of, folder_of, next_path, LeavesRun}
use Rattle.reuse_command.specs.Command.{name_of}
use Rattle.reuse_change.specs.Entry.{paths_of, entry_size, IsEntry, LeadsAll, CanBeMade, CanGo}
use Rattle.reuse_json.specs.EntryText.{entry_text, is_any_sealed}
use Rattle.reuse_json.specs.Format.{knows}
use Rattle.reuse_tree.specs.Head.{IsSoundHead}
use Rattle.reuse_journal.specs.History.{Memory, head_listing, remember_run}
use Rattle.reuse_journal.specs.Journal.{State}
use Rattle.reuse_journal.specs.JournalFiles.{head_path, entry_path, entry_in, EntrySays, IsFree}
use Rattle.reuse_journal.specs.Labels.{is_full}
use Rattle.reuse_plan.specs.Outcome.{edits_of, edit_count, recorded_size}
use Rattle.reuse_session.specs.session.Session.{store_of, memory_of, IsPlanned, IsRecordOf, IsRun, IsStepOf}
use Rattle.reuse_session.specs.session.Session.{SimulatesState}
use Rattle.reuse_journal.specs.Remembered.{listed_as, listed_count, head_room, HasEntryText, HasHeadText, IsSameBut}
use Rattle.reuse_journal.specs.Remembered.{IsSameButTwo, Remembers}
use Rattle.reuse_journal.specs.CommittedState.{BetweenStates}
use Rattle.reuse_change.specs.Tree.{changed_paths, undo_folder_of}
use Rattle.reuse_command.specs.declared.command.Command.{Command}
use Rattle.reuse_change.specs.declared.direction.Direction.TheVariants as direction
use Rattle.reuse_journal.specs.declared.history.ListedEntry.{ListedEntry}
use Rattle.reuse_json.specs.declared.entry.Entry.{Entry}
use Rattle.reuse_tree.specs.declared.journal.head.Pending.{Pending}
use Rattle.reuse_tree.specs.declared.journal.head.PendingDirection.TheVariants as directions
use Rattle.reuse_command.specs.declared.reply.Response.{Response}
use Rattle.reuse_command.specs.declared.reply.Response.TheVariants.{Changed}
use Rattle.reuse_command.specs.declared.reply.Refusal.{Refusal}
use Rattle.reuse_command.specs.declared.failure.Failure.TheVariants.{Fault, Interrupted}
use Rattle.reuse_command.specs.declared.reply.Refusal.TheVariants.{Failed}
use Rattle.reuse_session.specs.declared.session.Session.{Session}
use Rattle.reuse_session.proofs.lemmas.session.FolderLemmas.{folder_put, folder_stepped, entry_text_stays}
use Rattle.reuse_journal.proofs.HeadTransition.{below}
use Rattle.reuse_journal.proofs.JournalLemmas.{free_stays, free_beside, tree_beside}
use Rattle.reuse_store.specs.Asked.{OnlyReads}
use Rattle.reuse_command.proofs.OnlyReading.{early_is_no_stop}
use Rattle.reuse_change.proofs.Differ.{changed_by_entry}
use Rattle.reuse_session.proofs.lemmas.session.Running.{full_alike, count_recorded, size_recorded}
use Rattle.reuse_session.proofs.lemmas.session.KnownCommands.{recorded_known}
use Rattle.reuse_session.proofs.lemmas.journal.StepAnswers.{still_stands, stands_beside, kept_put, fault_clash}
use Rattle.reuse_session.proofs.lemmas.journal.StepAnswers.{clash_of, head_clash_before}
use Rattle.reuse_session.proofs.lemmas.journal.Stepping.{step_of, second_of, run_step, is_run, remembers_run}
use Rattle.reuse_session.proofs.lemmas.journal.Stepping.{sound_between, sound_second}
use Rattle.reuse_change.proofs.Walk.{can_lead}

-- the step of a run from the committed state, and what is answered of it
pub record Recording {S : Type 0} (files : S → Files) (command : Command) (when : ℕ) (session : Session S)
    (changes made : List Change) (pending : Pending) (moved : Memory) (held : State) : Type 0 where
  pub second : State
  pub stands : SimulatesState files session held
  pub is : IsStepOf (undo_folder_of (files (store_of session))) made pending moved held second
  pub run : IsRun command when held second
  pub paths : paths_of changes ≡ changed_paths held.tree second.tree

pub put_early : (refusal : Refusal) → IsEarlyFailure refusal → IsEarly refusal
put_early (Failed (Interrupted cause)) is = absurd is
put_early refusal is = tt

-- a planned entry is put, or not: at most the file of the next number is changed
pub record EntryPut {S : Type 0} (store : Ghosts S) (old : Session S) (command : Command) (when : ℕ)
    (changes : List Change) (put : S) (number : ℕ) (entry : Entry) : Type 0 where
  pub room : is_full (length (memory_of old).done) (memory_of old).used ≡ false
  pub planned : store.honest (store_of old) → IsPlanned command (tree_of (files_of store old)) changes
  pub is_number : number ≡ (memory_of old).used
  pub is_entry : entry ≡ record { changes = changes; command = name_of command; when = when }
  pub was_honest : store.honest put → store.honest (store_of old)
  pub beside : store.honest put → IsSameBut (entry_path (number + 1)) (files_of store old) (store.files put)
  pub asks : store.mutations put ≤ store.mutations (store_of old) + 1
  pub at_most : IsEntry entry.changes → store.written put ≤ store.written (store_of old) + entry_size entry.changes

-- it is put and says what the step does, which the head is to list
pub record EntryListed {S : Type 0} (store : Ghosts S) (old : Session S) (command : Command) (when : ℕ)
    (changes : List Change) (put : S) (number : ℕ) (entry : Entry) (listed : ListedEntry) (moved : Memory)
    (made : List Change) : Type 0 where
  pub says_known : store.honest put → IsEntry entry.changes → knows (is_any_sealed entry.changes) entry.command ≡ true
      → EntrySays (get (store.files put) (entry_path (number + 1))) entry
  pub is_listed : listed ≡ record {
    number = number + 1;
    when = when;
    command = name_of command;
    count = length changes;
  }
  pub is_moved : moved ≡ remember_run (memory_of old) listed
  pub is_made : made ≡ entry.changes

module _ {S : Type 0} {store : Ghosts S} {old : Session S} {command : Command} {when : ℕ} {changes : List Change}
    {put : S} {number : ℕ} {entry : Entry}
    (p : EntryPut store old command when changes put number entry)
  where
    here : store.honest put → IsPlanned command (tree_of (files_of store old)) changes
    here honest = p.planned (p.was_honest honest)

    -- only the file of the next entry is changed
    pub others : store.honest put → IsSameBut (next_path old) (files_of store old) (store.files put)
    others honest =
        subst (λ n. IsSameBut (entry_path (n + 1)) (files_of store old) (store.files put)) p.is_number (p.beside honest)

    pub still : store.honest put → (held : State) → SimulatesState store.files old held
        → SimulatesState store.files (record old { store = put }) held
    still honest held stands = stands_beside store.files old put held
        (below (length (memory_of old).done) (memory_of old).used p.room).1 (others honest) stands

    -- what the entry takes is what the command's changes count for
    size_here : store.honest put → store.written put ≤ store.written (store_of old) + recorded_size
        (edits_of command (tree_of (files_of store old)))
    size_here honest =
        let tree = tree_of (files_of store old) in
        let good : IsEntry entry.changes =
        subst (λ (e : Entry). IsEntry e.changes) (sym p.is_entry) (here honest).entry in
        omega (
          arith,
          p.at_most good,
          size_recorded tree (edits_of command tree) changes (here honest).recorded,
          ap (λ (e : Entry). entry_size e.changes) p.is_entry,
        )

    at_most_recorded : store.honest put → (held : State) → SimulatesState store.files old held
        → store.written put ≤ store.written (store_of old) + recorded_size (edits_of command held.tree)
    at_most_recorded honest held stands =
        subst (λ t. store.written put ≤ store.written (store_of old) + recorded_size (edits_of command t))
        stands.committed.tree (size_here honest)

    -- the entry is sealed, and so is of a format that knows each command
    pub known : store.honest put → knows (is_any_sealed entry.changes) entry.command ≡ true
    known honest =
        subst (λ (e : Entry). knows (is_any_sealed e.changes) e.command ≡ true) (sym p.is_entry)
        (recorded_known (tree_of (files_of store old)) (edits_of command (tree_of (files_of store old))) changes
        (name_of command) (here honest).entry (here honest).recorded)

    -- each of its changes can be made beside it
    pub can_go : (made : List Change) → made ≡ entry.changes → store.honest put
        → CanGo direction.Forward (tree_of (store.files put)) made
    can_go made is_made honest =
        let files = files_of store old in
        let plan = here honest in
        let same : made ≡ changes = is_made ∙ ap (λ (e : Entry). e.changes) p.is_entry in
        let tree : tree_of (store.files put) ≡ tree_of files =
        tree_beside files (store.files put) ((memory_of old).used + 1) (others honest) in record {
          entry = subst IsEntry (sym same) plan.entry;
          each = subst (λ t. All (CanBeMade direction.Forward t) made) (sym tree)
              (subst (All (CanBeMade direction.Forward (tree_of files))) (sym same) (can_lead direction.Forward changes
              (tree_of files) plan.plan.after plan.entry plan.plan.are_files plan.plan.leads));
        }

    -- the entry was not put
    pub unput_leaves : (refusal : Refusal) → IsEarlyFailure refusal → (store.honest put
        → refusal ≡ Failed (Fault faults.Clash) → Clashes (files_of store old) (entry_path (number + 1)))
        → LeavesRun store command when (Err refusal) old (record old { store = put })
    unput_leaves refusal is clash = record {
      unchanged = λ honest early. others honest;
      stands = λ honest held stands early. still honest held stands;
      early = λ honest held stands early. at_most_recorded honest held stands;
      doubt = λ honest held stands stop. absurd (early_is_no_stop refusal (put_early refusal is) stop);
      late = λ honest stop. absurd (early_is_no_stop refusal (put_early refusal is) stop);
      folder = λ honest. folder_put (files_of store old) (store.files put) ((memory_of old).used + 1) (others honest);
      texts = λ honest paths others e. absurd (cc);
      written = λ honest held stands. omega (arith, at_most_recorded honest held stands);
      mutations = λ honest. omega (arith, p.asks);
      begins = λ early. p.asks;
      clash = λ honest. fault_clash (Clashes (files_of store old) (next_path old))
          (Clashes (files_of store old) head_path) refusal (put_early refusal is)
          (λ e. subst (λ n. Clashes (files_of store old) (entry_path (n + 1))) p.is_number (clash honest e));
      free = λ honest. free_beside (files_of store old) (store.files put) ((memory_of old).used + 1) (others honest);
    }

    module _ {listed : ListedEntry} {moved : Memory} {made : List Change}
        (l : EntryListed store old command when changes put number entry listed moved made) where
      says : store.honest put → IsEntry entry.changes
          → EntrySays (get (store.files put) (entry_path (number + 1))) entry
      says honest good = l.says_known honest good (known honest)

      same : made ≡ changes
      same = l.is_made ∙ ap (λ (e : Entry). e.changes) p.is_entry

      made_good : store.honest put → IsEntry made
      made_good honest = subst IsEntry (sym same) (here honest).entry

      pub recording : store.honest put → (held : State) → SimulatesState store.files old held
          → Recording store.files command when (record old { store = put }) changes made
          (record { entry = number + 1; direction = directions.Do }) moved held
      recording honest held stands =
          let plan = here honest in
          let tree = tree_of (files_of store old) in
          let step = step_of command when held changes in
          let second = second_of command when held changes plan.plan.after in
          let used : number ≡ held.journal.used = p.is_number ∙ stands.remembers.used in
          let here_stands = still honest held stands in
          let full : is_full (length held.journal.done) held.journal.used ≡ false =
          full_alike store.files old held stands ∙ p.room in
          let run =
          is_run command when held changes tree stands.committed.tree plan.plan plan.entry plan.recorded full in
          let is_step = listed_step held used in
          let good : IsEntry entry.changes = subst (λ (e : Entry). IsEntry e.changes) (sym p.is_entry) plan.entry in
          record {
            second = second;
            stands = here_stands;
            is = record {
              step = step;
              changes = sym same;
              number = ap (λ n. n + 1) used;
              entry = made_good honest;
              kept = subst
                  (λ n. EntrySays (get (undo_folder_of (store.files put)) (entry_path (n + 1))) (entry_in step)) used
                  (kept_put (store.files put) (number + 1) (entry_in step) (subst
                  (EntrySays (get (store.files put) (entry_path (number + 1)))) p.is_entry (says honest good)));
              low = omega (arith, (below (length held.journal.done) held.journal.used full).1);
              is_step = run_step command when held changes tree stands.committed.tree plan.plan plan.entry;
              remembers = subst (λ m. Remembers m second.journal) (sym l.is_moved)
                  (remembers_run (memory_of old) held.journal step listed stands.remembers is_step);
              room = λ e. full;
            };
            run = run;
            paths = sym (changed_by_entry changes held.tree second.tree plan.entry
                (subst (λ t. LeadsAll changes t plan.plan.after) stands.committed.tree plan.plan.leads));
          }
        where
          listed_step : (held : State) → number ≡ held.journal.used
              → listed ≡ listed_as (step_of command when held changes)
          listed_step held used = l.is_listed
              ∙ (λ i. record { number = used i + 1; when = when; command = name_of command; count = length changes })

      -- what the step leaves then
      module _ (new : Session S) (was_put : store.honest (store_of new) → store.honest put)
          (stepped : store.honest (store_of new) → IsEntry made
          → IsSameBut head_path (undo_folder_of (store.files put)) (folder_of store new))
          (written : IsSoundHead
          (head_listing (memory_of old) (Some (record { entry = number + 1; direction = directions.Do })))
          → IsSoundHead (head_listing moved None) → IsEntry made
          → store.written (store_of new) ≤ store.written put + head_room (listed_count (memory_of old)) + head_room
          (listed_count moved))
          (asks : store.mutations (store_of new) ≤ store.mutations put + length made + 2)
        where
          folder_left : store.honest (store_of new)
              → IsSameButTwo (next_path old) head_path (folder_of store old) (folder_of store new)
          folder_left honest =
              folder_stepped (files_of store old) (store.files put) ((memory_of old).used + 1) (others (was_put honest))
              (files_of store new) (stepped honest (made_good (was_put honest)))

          free_left : store.honest (store_of new) → IsFree (folder_of store old) → IsFree (folder_of store new)
          free_left honest free =
              free_stays (undo_folder_of (store.files put)) (folder_of store new) head_path (inl refl)
              (stepped honest (made_good (was_put honest)))
              (free_beside (files_of store old) (store.files put) ((memory_of old).used + 1)
              (others (was_put honest)) free)

          written_left : store.honest (store_of new) → (held : State) → SimulatesState store.files old held
              → store.written (store_of new) ≤ store.written (store_of old) + recorded_size (edits_of command held.tree)
              + head_room (listed_count (memory_of old)) + head_room (length (memory_of old).done + 1)
          written_left honest held stands =
              let at = recording (was_put honest) held stands in
              let between = sound_between (memory_of old)
              (store.files put) held at.second at.stands.committed at.stands.remembers at.is in
              let second = sound_second (memory_of old)
              (store.files put) held at.second at.stands.committed at.stands.remembers at.is in
              let many : listed_count moved ≡ length (memory_of old).done + 1 =
              ap listed_count l.is_moved ∙ omega (arith, length-append (memory_of old).done (listed ∷ [])) in
              omega (
                arith,
                written between second (made_good (was_put honest)),
                many,
                at_most_recorded (was_put honest) held stands,
              )

          mutations_left : store.honest (store_of new) → store.mutations (store_of new) ≤ store.mutations
              (store_of old) + edit_count (edits_of command (tree_of (files_of store old))) + 3
          mutations_left honest =
              let tree = tree_of (files_of store old) in
              omega (
                arith,
                asks,
                p.asks,
                ap length same,
                count_recorded tree (edits_of command tree) changes (here (was_put honest)).recorded,
              )

          pub record_leaves : (left : List (List ℕ)) → store.written put ≡ store.written (store_of old) + length (entry_text entry)
              → (store.honest put → HasEntryText (number + 1) entry (store.files put))
              → (store.honest (store_of new) → IsEntry made → HasHeadText (memory_of new) (files_of store new))
              → LeavesRun store command when (Ok (Changed (paths_of changes) left)) old new
          record_leaves left counted entry_text_put head_text_put = record {
            unchanged = λ honest. tt;
            stands = λ honest held stands. tt;
            early = λ honest held stands. tt;
            doubt = λ honest held stands. tt;
            late = λ honest. tt;
            folder = folder_left;
            texts = λ honest paths others e. (
              head_text_put honest (made_good (was_put honest)),
              (
                record { changes = changes; command = name_of command; when = when },
                (refl, refl, (here (was_put honest)).recorded),
                entry_text_stays (store.files put) (files_of store new) ((memory_of old).used + 1)
                    (record { changes = changes; command = name_of command; when = when })
                    (stepped honest (made_good (was_put honest)))
                    (subst (λ e. HasEntryText ((memory_of old).used + 1) e (store.files put)) p.is_entry (subst (λ n.
                    HasEntryText (n + 1) entry (store.files put)) p.is_number (entry_text_put (was_put honest)))),
                omega (arith, counted, size_here (was_put honest), ap (λ e. length (entry_text e)) p.is_entry),
              ),
            );
            written = written_left;
            mutations = mutations_left;
            begins = tt;
            clash = λ honest. tt;
            free = free_left;
          }

          pub halt_leaves : (refusal : Refusal) → store.written put ≡ store.written (store_of old) + length
              (entry_text entry) → (IsEarly refusal → new ≡ record old { store = put })
              → (store.honest (store_of new) → (held second : State)
              → SimulatesState store.files (record old { store = put }) held
              → IsStepOf (undo_folder_of (store.files put)) made
              (record { entry = number + 1; direction = directions.Do }) moved held second → IsStop refusal
              → BetweenStates held second (files_of store new))
              → (IsEntry made → IsStop refusal → store.written put < store.written (store_of new))
              → (store.honest (store_of new) → IsEntry made → All (CanBeMade direction.Forward
              (tree_of (store.files put))) made → HasClash ⊥ (Clashes (store.files put) head_path) refusal)
              → LeavesRun store command when (Err refusal) old new
          halt_leaves refusal counted refused mutations more clash = record {
            unchanged = λ honest early. subst (λ s. IsSameBut (next_path old) (files_of store old) (files_of store s))
                (sym (refused early)) (others (was_put honest));
            stands = λ honest held stands early. subst (λ s. SimulatesState store.files s held) (sym (refused early))
                (still (was_put honest) held stands);
            early = λ honest held stands early. subst (λ s. store.written (store_of s) ≤ store.written
                (store_of old) + recorded_size (edits_of command held.tree)) (sym (refused early))
                (at_most_recorded (was_put honest) held stands);
            doubt = λ honest held stands stop.
                let at = recording (was_put honest) held stands in
                (at.second, at.run, mutations honest held at.second at.stands at.is stop);
            late = λ honest stop. (
              record { changes = changes; command = name_of command; when = when },
              (refl, refl, (here (was_put honest)).recorded),
              omega
                  (arith, more (made_good (was_put honest)) stop, counted, ap (λ e. length (entry_text e)) p.is_entry),
            );
            folder = folder_left;
            texts = λ honest paths others e. absurd (cc);
            written = written_left;
            mutations = mutations_left;
            begins = λ early. subst (λ s. store.mutations (store_of s) ≤ store.mutations (store_of old) + 1)
                (sym (refused early)) p.asks;
            clash = λ honest.
                let files = files_of store old in
                let can = (can_go made l.is_made (was_put honest)).each in
                clash_of ⊥ (Clashes (store.files put) head_path) (Clashes files (next_path old))
                (Clashes files head_path) (λ none. absurd none)
                (head_clash_before files (store.files put) ((memory_of old).used + 1) (others (was_put honest))) refusal
                (clash honest (made_good (was_put honest)) can);
            free = free_left;
          }

-- ---- what a run leaves that reads before

pub after_reading : {S : Type 0} (store : Ghosts S) (old new : Session S) (read : S)
    → OnlyReads store (store_of old) read → (store.honest (store_of new) → store.honest read)
    → (command : Command) (when : ℕ) (result : Result Response Refusal)
    → LeavesRun store command when result (record old { store = read }) new
    → LeavesRun store command when result old new
after_reading store old new read reads was_honest command when result leaves = record {
  unchanged = λ honest. subst
      (λ f. IfErr result (λ refusal. IsEarly refusal → IsSameBut (next_path old) f (files_of store new))) (same honest)
      (leaves.unchanged honest);
  stands = λ honest held stands. leaves.stands honest held (still honest held stands);
  early = λ honest held stands. subst (λ n. IfErr result (λ refusal. IsEarly refusal
      → store.written (store_of new) ≤ n + recorded_size (edits_of command held.tree))) reads.written
      (leaves.early honest held (still honest held stands));
  doubt = λ honest held stands. leaves.doubt honest held (still honest held stands);
  late = λ honest. subst
      (λ f. IfErr result (λ refusal. IsStop refusal → (entry : Entry) × IsRecordOf command when (tree_of f) entry
      × (store.written (store_of old) + length (entry_text entry) < store.written (store_of new)))) (same honest)
      (subst (λ n. IfErr result (λ refusal. IsStop refusal → (entry : Entry) × IsRecordOf command when
      (tree_of (store.files read)) entry × (n + length (entry_text entry) < store.written (store_of new))))
      reads.written (leaves.late honest));
  folder = λ honest. subst (λ f. IsSameButTwo (next_path old) head_path (undo_folder_of f) (folder_of store new))
      (same honest) (leaves.folder honest);
  texts = λ honest paths others e. subst
      (λ f. HasHeadText (memory_of new) (files_of store new) × ((entry : Entry)
      × IsRecordOf command when (tree_of f) entry × HasEntryText ((memory_of old).used + 1) entry (files_of store new)
      × (length (entry_text entry) ≤ recorded_size (edits_of command (tree_of f))))) (same honest)
      (leaves.texts honest paths others e);
  written = λ honest held stands. subst
      (λ n. store.written (store_of new) ≤ n + recorded_size (edits_of command held.tree) + head_room
      (listed_count (memory_of old)) + head_room (length (memory_of old).done + 1)) reads.written
      (leaves.written honest held (still honest held stands));
  mutations = λ honest. subst (λ f. store.mutations (store_of new) ≤ store.mutations (store_of old) + edit_count
      (edits_of command (tree_of f)) + 3) (same honest)
      (subst (λ n. store.mutations (store_of new) ≤ n + edit_count (edits_of command (tree_of (store.files read))) + 3)
      reads.mutations (leaves.mutations honest));
  begins = subst (λ n. IfErr result (λ refusal. IsEarly refusal → store.mutations (store_of new) ≤ n + 1))
      reads.mutations leaves.begins;
  clash = λ honest. subst (λ f. IfErr result (HasClash (Clashes f (next_path old)) (Clashes f head_path))) (same honest)
      (leaves.clash honest);
  free = λ honest. subst (λ f. IsFree (undo_folder_of f) → IsFree (folder_of store new)) (same honest)
      (leaves.free honest);
}
  where
    same : store.honest (store_of new) → store.files read ≡ files_of store old
    same honest = reads.files (was_honest honest)

    still : store.honest (store_of new) → (held : State) → SimulatesState store.files old held
        → SimulatesState store.files (record old { store = read }) held
    still honest held stands = still_stands store.files old read held (same honest) stands
