-- What an undo or a redo answers and leaves, from the step of the next entry this way.
use Rattle.std.proofs.Common.{◌≡◌, ◌+◌, ◌*◌, ◌<◌, ◌≤◌, ℕ, List, [], ◌∷◌, ◌++◌, length, None, Some, Ok, Err, inl, refl}
use Rattle.std.proofs.Common.{sym, ap, subst, ◌∙◌, arith}
use Rattle.std.specs.FinMap.{get}
use Rattle.std.specs.List.{All}
use Rattle.reuse_change.specs.Files.{Files, Clashes, tree_of}
use Rattle.reuse_change.specs.declared.change.Change.{Change}
use Rattle.reuse_store.specs.declared.store.Store.{Ghosts}
use Rattle.reuse_command.specs.Answer.{IsEarly, IsStop, HasClash}
use Rattle.reuse_session.specs.session.Calls.{files_of, folder_of, LeavesReplay}
use Rattle.reuse_change.specs.Entry.{paths_of, IsEntry, LeadsBy, CanBeMade, IsFirstStuck}
use Rattle.reuse_tree.specs.Head.{listed_direction, direction_of, IsSoundHead}
use Rattle.reuse_journal.specs.History.{Memory, head_listing, entries_ahead, remember_moved}
use Rattle.reuse_journal.specs.Journal.{Recorded, Journal, State, Replays, ahead, next_count, moved_on, end_of}
use Rattle.reuse_journal.specs.Journal.{reply_of}
use Rattle.reuse_journal.specs.JournalFiles.{head_path, IsFree, entry_path, entry_in, number_of, EntrySays, IsKeptIn}
use Rattle.reuse_journal.specs.JournalFiles.{KeepsJournal}
use Rattle.reuse_session.specs.session.Session.{store_of, memory_of, IsReplay, IsStepOf, SimulatesState}
use Rattle.reuse_journal.specs.Remembered.{listed_count, head_room, IsSameBut, HasHeadText, Remembers}
use Rattle.reuse_journal.specs.CommittedState.{IsStep, BetweenStates, JournalTransition}
use Rattle.reuse_change.specs.Tree.{undo_folder_of}
use Rattle.reuse_change.specs.declared.direction.Direction.{Direction}
use Rattle.reuse_change.specs.declared.direction.Direction.TheVariants.{Forward, Backward}
use Rattle.reuse_journal.specs.declared.history.ListedEntry.{ListedEntry}
use Rattle.reuse_json.specs.declared.entry.Entry.{Entry}
use Rattle.reuse_tree.specs.declared.journal.head.Pending.{Pending}
use Rattle.reuse_tree.specs.declared.journal.head.PendingDirection.TheVariants as directions
use Rattle.reuse_command.specs.declared.reply.Response.{Response}
use Rattle.reuse_command.specs.declared.reply.Refusal.{Refusal}
use Rattle.reuse_command.specs.declared.reply.Refusal.TheVariants.{Moved}
use Rattle.reuse_session.specs.declared.session.Session.{Session}
use Rattle.reuse_journal.proofs.JournalLemmas.{same_entry, sound_head, free_stays}
use Rattle.reuse_store.proofs.MadeLemmas.{can_reach}
use Rattle.reuse_journal.proofs.MemoryLemmas.{next_step, none_ahead}
use Rattle.reuse_store.specs.Asked.{OnlyReads}
use Rattle.reuse_store.proofs.AskedLemmas.{reads_more}
use Rattle.reuse_session.proofs.lemmas.journal.StepAnswers.{as_many, low_of, still_stands}
use Rattle.reuse_session.proofs.lemmas.journal.Stepping.{remembers_moved, sound_between, sound_second}

-- ---- ways

pub same_direction : (direction : Direction) → direction_of (listed_direction direction) ≡ direction
same_direction Forward = refl
same_direction Backward = refl

listed_is_not_new : (direction : Direction) → listed_direction direction ≡ directions.Do → ⊥
listed_is_not_new Forward is = cc
listed_is_not_new Backward is = cc

transition_on : (direction : Direction) (step : Recorded) (steps : List Recorded) (journal : Journal)
    → ahead direction journal ≡ step ∷ steps
    → JournalTransition (listed_direction direction) step journal (moved_on direction step steps journal)
transition_on Forward step steps journal list = (steps, list, refl)
transition_on Backward step steps journal list = (steps, list, refl)

kept_ahead : (direction : Direction) (folder : Files) (journal : Journal) → KeepsJournal folder journal None
    → All (IsKeptIn folder) (ahead direction journal)
kept_ahead Forward folder journal keeps = keeps.undone
kept_ahead Backward folder journal keeps = keeps.done

-- ---- the step of the next entry

pub record Next (direction : Direction) (folder : Files) (entry : ListedEntry) (moved : Memory)
    (held : State) : Type 0 where
  pub step : Recorded
  pub steps : List Recorded
  pub list : ahead direction held.journal ≡ step ∷ steps
  pub number : entry.number ≡ number_of step
  pub kept : IsKeptIn folder step
  pub remembers : Remembers moved (moved_on direction step steps held.journal)

pub first_of_all : (P : Recorded → Type 0) (steps rest : List Recorded) (step : Recorded) → steps ≡ step ∷ rest
    → All P steps → P step
first_of_all P steps rest step e all = (subst (All P) e all) 0 step (omega arith)

pub next_of : (direction : Direction) {S : Type 0} (files : S → Files) (session : Session S) (held : State)
    (entry : ListedEntry) (front : List ListedEntry) (moved : Memory) → SimulatesState files session held
    → entries_ahead direction (memory_of session) ≡ front ++ entry ∷ []
    → moved ≡ remember_moved direction front entry (memory_of session)
    → Next direction (undo_folder_of (files (store_of session))) entry moved held
next_of direction files session held entry front moved stands last is_moved =
    let folder = undo_folder_of (files (store_of session)) in
    let next = next_step direction (memory_of session) held.journal entry front stands.remembers last in
    record {
      step = next.0;
      steps = next.1;
      list = next.2;
      number = ap (λ (x : ListedEntry). x.number) next.3;
      kept = first_of_all (IsKeptIn folder) (ahead direction held.journal) next.1 next.0 next.2
          (kept_ahead direction folder held.journal stands.committed.journal);
      remembers = subst (λ m. Remembers m (moved_on direction next.0 next.1 held.journal)) (sym is_moved)
          (remembers_moved direction
          (memory_of session) held.journal next.0 next.1 entry front stands.remembers next.3 next.4);
    }

-- where none is next there is no step
pub none_next : (direction : Direction) {S : Type 0} (files : S → Files) (session : Session S) (held : State)
    → SimulatesState files session held → entries_ahead direction (memory_of session) ≡ []
    → (left : State) × SimulatesState files session left
    × Replays direction (ahead direction held.journal) held (Err (end_of direction)) left
none_next direction files session held stands none = (
  held,
  stands,
  subst (λ steps. Replays direction steps held (Err (end_of direction)) held)
      (sym ((none_ahead direction (memory_of session) held.journal stands.remembers).0 none)) (refl, refl),
)

module _ {direction : Direction} {folder : Files} {entry : ListedEntry} {moved : Memory} {held : State}
    (next : Next direction folder entry moved held) (number : ℕ) (is_number : number ≡ entry.number) where
  -- the file of its number says what the step does
  pub next_says : EntrySays (get folder (entry_path number)) (entry_in next.step)
  next_says =
      subst (λ n. EntrySays (get folder (entry_path n)) (entry_in next.step)) (sym (is_number ∙ next.number)) next.kept

  -- so these are its changes
  pub next_changes : (read : Entry) → EntrySays (get folder (entry_path number)) read → next.step.changes ≡ read.changes
  next_changes read says = ap (λ (e : Entry). e.changes)
      (same_entry (get folder (entry_path number)) (entry_in next.step) read next_says says)

-- the first change that can't be made names the refusal
pub stuck : {direction : Direction} {folder : Files} {entry : ListedEntry} {moved : Memory} {held : State}
    (next : Next direction folder entry moved held) (made : List Change) (path : List ℕ) → next.step.changes ≡ made
    → IsFirstStuck direction held.tree made path
    → Replays direction (ahead direction held.journal) held (Err (Moved path)) held
stuck {direction} {folder} {entry} {moved} {held} next made path same is =
    subst (λ steps. Replays direction steps held (Err (Moved path)) held) (sym next.list)
    ((path, refl, subst (λ cs. IsFirstStuck direction held.tree cs path) (sym same) is), refl)

-- where its changes can be made: the committed state after it, and the step from the one to the other
pub record Prepared {S : Type 0} (files : S → Files) (direction : Direction) (session : Session S) (made : List Change)
    (pending : Pending) (moved : Memory) (held : State) : Type 0 where
  pub second : State
  pub stands : SimulatesState files session held
  pub is : IsStepOf (undo_folder_of (files (store_of session))) made pending moved held second
  pub goes : IsStep (listed_direction direction) is.step held second
  pub can : All (CanBeMade direction held.tree) is.step.changes
  pub replays : (given : Response) → given ≡ reply_of direction (paths_of made)
      → Replays direction (ahead direction held.journal) held (Ok given) second
  pub many : listed_count moved ≡ listed_count (memory_of session)
  pub next : next_count (ahead direction held.journal) ≡ length made

pub prepared : {direction : Direction} {S : Type 0} (files : S → Files) (session : Session S) {entry : ListedEntry}
    {moved : Memory} {held : State} (made : List Change) (pending : Pending) → SimulatesState files session held
    → (next : Next direction (undo_folder_of (files (store_of session))) entry moved held) → next.step.changes ≡ made
    → IsEntry made → All (CanBeMade direction (tree_of (files (store_of session)))) made
    → pending.entry ≡ entry.number → pending.direction ≡ listed_direction direction
    → Prepared files direction session made pending moved held
prepared {direction} files session {entry} {moved} {held} made pending stands next same good can is_entry is_direction =
    let folder = undo_folder_of (files (store_of session)) in
    let all : All (CanBeMade direction held.tree) made =
    subst (λ t. All (CanBeMade direction t) made) stands.committed.tree can in
    let reach = can_reach direction held.tree made good all in
    let second : State = record { tree = reach.0; journal = moved_on direction next.step next.steps held.journal } in
    let goes : IsStep (listed_direction direction) next.step held second = record {
      leads = subst (λ w. LeadsBy w next.step.changes held.tree reach.0) (sym (same_direction direction))
          (subst (λ cs. LeadsBy direction cs held.tree reach.0) (sym same) reach.1);
      transition = transition_on direction next.step next.steps held.journal next.list;
    } in
    record {
      second = second;
      stands = stands;
      is = record {
        step = next.step;
        changes = same;
        number = is_entry ∙ next.number;
        entry = good;
        kept = next.kept;
        low = low_of direction next.step next.steps held.journal next.list
            (sound_head folder held.journal None stands.committed.journal);
        is_step = subst (λ w. IsStep w next.step held second) (sym is_direction) goes;
        remembers = next.remembers;
        room = λ is. absurd (listed_is_not_new direction (sym is_direction ∙ is));
      };
      goes = goes;
      can = subst (All (CanBeMade direction held.tree)) (sym same) all;
      replays = λ given given_is. subst (λ steps. Replays direction steps held (Ok given) second) (sym next.list) (
        given_is ∙ ap (λ cs. reply_of direction (paths_of cs)) (sym same),
        subst (All (CanBeMade direction held.tree)) (sym same) all,
        subst (λ cs. LeadsBy direction cs held.tree reach.0) (sym same) reach.1,
        refl,
      );
      many = as_many direction next.step next.steps held.journal
          (memory_of session) moved next.list stands.remembers next.remembers;
      next = ap next_count next.list ∙ ap length same;
    }

-- so the committed state after it is that after an undo or a redo
pub is_replay : {S : Type 0} (files : S → Files) (direction : Direction) (session : Session S) (made : List Change)
    (pending : Pending) (moved : Memory) (held : State)
    → (at : Prepared files direction session made pending moved held) → IsReplay direction held at.second
is_replay files direction session made pending moved held at = record {
  step = at.is.step;
  is_step = at.goes;
  can = at.can;
}

-- so it is once the entry is read and its changes are tested
pub ready : {S : Type 0} (store : Ghosts S) (direction : Direction) (old : Session S) (listed : ListedEntry)
    (front : List ListedEntry) → entries_ahead direction (memory_of old) ≡ front ++ listed ∷ []
    → (moved : Memory) → moved ≡ remember_moved direction front listed (memory_of old) → (read tested : S)
    → OnlyReads store (store_of old) read → OnlyReads store read tested
    → (number : ℕ) → number ≡ listed.number → (entry : Entry)
    → (store.honest read → EntrySays (get (folder_of store old) (entry_path number)) entry)
    → (made : List Change) → made ≡ entry.changes → IsEntry made
    → (store.honest tested → IsEntry made → All (CanBeMade direction (tree_of (store.files read))) made)
    → (pending : Pending) → pending.entry ≡ listed.number → pending.direction ≡ listed_direction direction
    → store.honest tested → (held : State) → SimulatesState store.files old held
    → Prepared store.files direction (record old { store = tested }) made pending moved held
ready store direction old listed front last moved is_moved read tested first
    then number is_number entry says made is_made good can pending is_entry is_direction honest held stands =
    let session = record old { store = tested } in
    let untouched = (reads_more store (store_of old) read tested first then).files honest in
    let here = still_stands store.files old tested held untouched stands in
    let next = next_of direction store.files session held listed front moved here last is_moved in
    let there : EntrySays (get (undo_folder_of (store.files tested)) (entry_path number)) entry =
    subst (λ f. EntrySays (get (undo_folder_of f) (entry_path number)) entry) (sym untouched)
    (says (then.was_honest honest)) in
    prepared store.files session made pending here next
    (next_changes next number is_number entry there ∙ sym is_made) good
    (subst (λ f. All (CanBeMade direction (tree_of f)) made) (sym (then.files honest)) (can honest good))
    is_entry is_direction

-- ---- what is left

-- what the step leaves after it
module _ {S : Type 0} (store : Ghosts S) (direction : Direction) (old new : Session S) (read : S)
    (reads : OnlyReads store (store_of old) read)
    (was_honest : store.honest (store_of new) → store.honest read)
    (made : List Change) (pending : Pending) (moved : Memory) (good : IsEntry made)
    (ready : store.honest read → (held : State) → SimulatesState store.files old held
    → Prepared store.files direction (record old { store = read }) made pending moved held)
    (folder : store.honest (store_of new) → IsEntry made
    → IsSameBut head_path (undo_folder_of (store.files read)) (folder_of store new))
    (written : IsSoundHead (head_listing (memory_of old) (Some pending))
    → IsSoundHead (head_listing moved None) → IsEntry made
    → store.written (store_of new) ≤ store.written read + head_room (listed_count (memory_of old)) + head_room
    (listed_count moved))
    (asks : store.mutations (store_of new) ≤ store.mutations read + length made + 2)
  where
    same : store.honest (store_of new) → store.files read ≡ files_of store old
    same honest = reads.files (was_honest honest)

    folder_left : store.honest (store_of new) → IsSameBut head_path (folder_of store old) (folder_of store new)
    folder_left honest =
        subst (λ f. IsSameBut head_path (undo_folder_of f) (folder_of store new)) (same honest) (folder honest good)

    free_left : store.honest (store_of new) → IsFree (folder_of store old) → IsFree (folder_of store new)
    free_left honest = free_stays (folder_of store old) (folder_of store new) head_path (inl refl) (folder_left honest)

    written_left : store.honest (store_of new) → (held : State) → SimulatesState store.files old held
        → store.written (store_of new) ≤ store.written (store_of old) + 2 * head_room (listed_count (memory_of old))
    written_left honest held stands =
        let at = ready (was_honest honest) held stands in
        let files = store.files read in
        let between =
        sound_between (memory_of old) files held at.second at.stands.committed at.stands.remembers at.is in
        let second = sound_second (memory_of old) files held at.second at.stands.committed at.stands.remembers at.is in
        omega (arith, written between second good, at.many, reads.written)

    mutations_left : store.honest (store_of new) → (held : State) → SimulatesState store.files old held
        → store.mutations (store_of new) ≤ store.mutations (store_of old) + next_count
        (ahead direction held.journal) + 2
    mutations_left honest held stands =
        omega (arith, asks, (ready (was_honest honest) held stands).next, reads.mutations)

    pub step_leaves : (reply : Response)
        → (store.honest (store_of new) → IsEntry made → HasHeadText (memory_of new) (files_of store new))
        → LeavesReplay store direction (Ok reply) old new
    step_leaves reply text = record {
      early = tt;
      doubt = λ honest held stands. tt;
      late = tt;
      folder = folder_left;
      texts = λ honest. text honest good;
      written = written_left;
      mutations = mutations_left;
      clash = λ honest. tt;
      free = free_left;
    }

    pub stop_leaves : (refusal : Refusal) → (IsEarly refusal → new ≡ record old { store = read })
        → (store.honest (store_of new) → (held second : State) → SimulatesState store.files
        (record old { store = read }) held → IsStepOf (undo_folder_of (store.files read)) made pending moved held second
        → IsStop refusal → BetweenStates held second (files_of store new))
        → (IsEntry made → IsStop refusal → store.written read < store.written (store_of new))
        → (store.honest (store_of new) → HasClash ⊥ (Clashes (store.files read) head_path) refusal)
        → LeavesReplay store direction (Err refusal) old new
    stop_leaves refusal refused mutations late clash = record {
      early = λ early. subst (λ s. OnlyReads store (store_of old) (store_of s)) (sym (refused early)) reads;
      doubt = λ honest held stands stop.
          let at = ready (was_honest honest) held stands in (
            at.second,
            is_replay store.files direction (record old { store = read }) made pending moved held at,
            mutations honest held at.second at.stands at.is stop,
          );
      late = λ stop. omega (arith, late good stop, reads.written);
      folder = folder_left;
      texts = λ honest. tt;
      written = written_left;
      mutations = mutations_left;
      clash = λ honest. subst (λ f. HasClash ⊥ (Clashes f head_path) refusal) (same honest) (clash honest);
      free = free_left;
    }
