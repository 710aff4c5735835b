-- What forgetting answers and leaves, from what its puts and removals leave.
use Rattle.std.proofs.Common.{◌≡◌, ◌≢◌, ◌⊎◌, inl, inr, ⊎_elim, ℕ, ◌+◌, ◌<◌, ◌≤◌, List, [], ◌∷◌, length, map, reverse}
use Rattle.std.proofs.Common.{take, not, true, Some, None, Result, Ok, Err, IfErr, OnOk, refl, sym, ap, subst, ◌∙◌}
use Rattle.std.proofs.Common.{arith}
use Rattle.std.specs.Prelude.{IfOk}
use Rattle.std.specs.FinMap.{get}
use Rattle.std.specs.List.{Contains}
use Rattle.std.proofs.lemmas.List.{length-map, length-reverse}
use Rattle.reuse_store.specs.Asked.{Leaves}
use Rattle.reuse_change.specs.Files.{Files, Clashes, tree_of}
use Rattle.reuse_tree.specs.Head.{head_text, IsGoodHead, IsSoundHead}
use Rattle.reuse_change.specs.Tree.{undo_folder_of}
use Rattle.reuse_store.specs.declared.cause.Cause.{Cause}
use Rattle.reuse_store.specs.declared.cause.Cause.TheVariants as causes
use Rattle.reuse_store.specs.declared.store.Store.{Ghosts}
use Rattle.reuse_command.specs.Answer.{IsFailure, DidNotFail}
use Rattle.reuse_session.specs.session.Calls.{files_of}
use Rattle.reuse_session.specs.session.Forgetting.{AreInOrder, Forgets, IsWithoutOldest, LeavesForgetting}
use Rattle.reuse_session.specs.session.Forgetting.{SurvivesForgetting, PutsAndRemoves, PutsAndRemovesSome}
use Rattle.reuse_session.specs.session.Forgetting.{StopsWithRemovals, alone, first_absent, snapshots_besides}
use Rattle.reuse_journal.specs.Numbered.{all_numbers, entries_besides, first_unlisted, is_one_of, memory_besides}
use Rattle.reuse_journal.specs.Numbered.{journal_besides, state_besides}
use Rattle.reuse_journal.specs.History.{Memory, head_listing}
use Rattle.reuse_journal.specs.Journal.{State}
use Rattle.reuse_journal.specs.JournalFiles.{head_path, entry_path, head_of, IsFree}
use Rattle.reuse_journal.specs.Losses.{AreBetweenStates, AllRecoverToTree, Earlier, IsSafe}
use Rattle.reuse_session.specs.session.Machine.{Snapshots}
use Rattle.reuse_session.specs.session.Session.{store_of, memory_of, Simulates, SimulatesInSession, SimulatesState}
use Rattle.reuse_journal.specs.Remembered.{listed_count, head_room}
use Rattle.reuse_journal.specs.CommittedState.{IsCommittedState}
use Rattle.reuse_journal.specs.declared.history.ListedEntry.{ListedEntry}
use Rattle.reuse_command.specs.declared.reply.Refusal.{Refusal}
use Rattle.reuse_command.specs.declared.failure.Failure.TheVariants.{Interrupted}
use Rattle.reuse_command.specs.declared.reply.Refusal.TheVariants.{Failed}
use Rattle.reuse_session.specs.declared.session.Session.{Session}
use Rattle.reuse_session.proofs.lemmas.session.ForgottenFiles.{AreEntriesOf, entries_of, entries_of_first, tree_then}
use Rattle.reuse_session.proofs.lemmas.session.ForgottenFiles.{text_then, folder_then, free_then, gone_then}
use Rattle.reuse_session.proofs.lemmas.session.ForgottenFiles.{gone_from_the_top, safe_then, committed_then}
use Rattle.reuse_session.proofs.lemmas.session.ForgottenFiles.{committed_then_some}
use Rattle.reuse_session.proofs.lemmas.session.ForgottenDoubt.{stops_in_doubt}
use Rattle.reuse_session.proofs.lemmas.session.ForgottenSteps.{each_given_out, filter_whole, none_besides_all}
use Rattle.reuse_session.proofs.lemmas.session.ForgottenSteps.{remembers_besides, sound_besides, sound_listing}
use Rattle.reuse_session.proofs.lemmas.session.ForgottenTrees.{holds_alone, holds_next, holds_without, same_besides}
use Rattle.reuse_journal.proofs.JournalLemmas.{sound_head}
use Rattle.reuse_journal.proofs.MemoryLemmas.{listing_of}
use Rattle.reuse_session.proofs.lemmas.journal.Stepping.{stop_clash}

-- numbers that are nothing in order are none
pub none_in_order : (numbers : List ℕ) → AreInOrder numbers [] → numbers ≡ []
none_in_order [] order = refl
none_in_order (number ∷ numbers) order = absurd (omega (arith, (order.all number (0, omega arith, refl)).1))

pub survives_some : {S : Type 0} (store : Ghosts S) (numbers forgotten : List ℕ) (earlier : Earlier) (held : State)
    (new : S) → AreInOrder numbers forgotten → numbers ≢ []
    → Leaves store new (λ left. IsCommittedState left (state_besides numbers held))
    → SurvivesForgetting store numbers earlier held (Ok forgotten) new
survives_some store numbers [] earlier held new order some lefts = absurd (some (none_in_order numbers order))
survives_some store numbers (number ∷ more) earlier held new order some lefts = lefts

-- what is put and removed for the numbers
pub record IsToForget (memory : Memory) (numbers ordered text : List ℕ) (paths : List (List ℕ)) : Type 0 where
  pub some : numbers ≢ []
  pub listed : first_unlisted memory numbers ≡ None
  pub order : AreInOrder numbers ordered
  pub few : length ordered ≤ length numbers
  pub are_paths : paths ≡ map entry_path (reverse ordered)
  pub is_text : text ≡ head_text (head_listing (memory_besides numbers memory) None)
  pub good : IsSoundHead (head_listing (memory_besides numbers memory) None)
      → IsGoodHead text (head_listing (memory_besides numbers memory) None)
  pub bound : IsSoundHead (head_listing (memory_besides numbers memory) None)
      → length text ≤ head_room (listed_count (memory_besides numbers memory))

module _ {S : Type 0} (store : Ghosts S) (old : Session S) (numbers ordered text : List ℕ) (paths : List (List ℕ))
    (is : IsToForget (memory_of old) numbers ordered text paths) where
  entries : AreEntriesOf numbers paths
  entries = entries_of numbers ordered paths is.order is.are_paths

  first_entries : (count : ℕ) → AreEntriesOf numbers (take count paths)
  first_entries count = entries_of_first numbers count paths entries

  module _ (held : State) (stands : SimulatesState store.files old held) where
    sound : IsSoundHead (head_of held.journal None)
    sound = sound_head (undo_folder_of (files_of store old)) held.journal None stands.committed.journal

    sound_memory : IsSoundHead (head_listing (memory_of old) None)
    sound_memory = sound_listing (memory_of old) held.journal stands.remembers sound

    bounded : (number : ℕ) → Contains numbers number → number < 1_000_000
    bounded = each_given_out (memory_of old) numbers sound_memory is.listed

    good : IsGoodHead text (head_of (journal_besides numbers held.journal) None)
    good = subst (IsGoodHead text)
        (listing_of (memory_besides numbers (memory_of old)) (journal_besides numbers held.journal) None
        (remembers_besides numbers (memory_of old) held.journal stands.remembers))
        (is.good (sound_besides numbers (memory_of old) sound_memory))

    pub room : length text ≤ head_room (listed_count (memory_besides numbers (memory_of old)))
    room = is.bound (sound_besides numbers (memory_of old) sound_memory)

    -- it stands on the committed state without the steps
    pub done_committed : (after : Files) → PutsAndRemoves text paths (files_of store old) after
        → IsCommittedState after (state_besides numbers held)
    done_committed after made = committed_then numbers text paths held entries bounded sound good
        (files_of store old) after stands.committed made

    pub first_committed : (count : ℕ) (after : Files) → PutsAndRemoves text (take count paths)
        (files_of store old) after → IsCommittedState after (state_besides numbers held)
    first_committed count after made = committed_then numbers text (take count paths) held
        (first_entries count) bounded sound good (files_of store old) after stands.committed made

    -- what a loss of power may leave
    pub left_committed : (left : Files) → PutsAndRemovesSome text paths (files_of store old) left
        → IsCommittedState left (state_besides numbers held)
    left_committed left made = committed_then_some numbers text paths held entries bounded sound good
        (files_of store old) left stands.committed made

    pub stopped_doubt : (new : S) (earlier : Earlier) → AllRecoverToTree store earlier held (store_of old)
        → StopsWithRemovals store text paths (store_of old) new
        → Leaves store new (λ left. IsSafe earlier held left ⊎ IsCommittedState left (state_besides numbers held))
        × AreBetweenStates store (record { state = earlier.state; forgetting = true }) held
        (state_besides numbers held) new
    stopped_doubt new earlier safe stops =
        stops_in_doubt numbers earlier held store (store_of old) new text paths stands.committed safe
        (λ count made. first_committed count (store.files new) made)
        (λ kept left was made. safe_then numbers text paths earlier held entries bounded sound stands.committed.good
        good kept left was made) stops

  -- ---- once it is done

  module _ (new : Session S) (made : store.honest (store_of new) → PutsAndRemoves text paths (files_of store old)
      (files_of store new)) (memory : memory_of new ≡ memory_besides numbers (memory_of old))
      (written : store.written (store_of new) ≤ store.written (store_of old) + length text)
      (mutations : store.mutations (store_of new) ≤ store.mutations (store_of old) + 1 + length paths) where
    few_mutations : store.mutations (store_of new) ≤ store.mutations (store_of old) + 1 + length numbers
    few_mutations = omega (
      arith,
      mutations,
      is.few,
      ap length is.are_paths,
      length-map (reverse ordered) entry_path,
      length-reverse ordered,
    )

    pub leaves_done : (forgotten : List ℕ) → LeavesForgetting store numbers (Ok forgotten) old new
    leaves_done forgotten = record {
      tree = λ honest. tree_then numbers text paths entries (files_of store old) (files_of store new) (made honest);
      folder = λ honest. folder_then numbers text paths entries (files_of store old) (files_of store new) (made honest);
      texts = λ honest some. (
        text_then numbers text paths entries (files_of store old) (files_of store new) (made honest)
            ∙ ap (λ t. Some t) (is.is_text ∙ ap (λ m. head_text (head_listing m None)) (sym memory)),
        gone_then numbers ordered text paths is.order is.are_paths (files_of store old)
            (files_of store new) (made honest),
      );
      stops = λ honest held stands. tt;
      doubt = λ honest held stands. tt;
      order = tt;
      late = tt;
      written = λ honest held stands. omega (arith, written, room held stands);
      mutations = few_mutations;
      clash = λ honest. tt;
      free = λ honest. free_then numbers text paths entries (files_of store old) (files_of store new) (made honest);
    }

  -- ---- where it stops

  abbrev pub Stops : Files → Type 0
  Stops after =
      (after ≡ files_of store old) ⊎ ((count : ℕ) × PutsAndRemoves text (take count paths) (files_of store old) after)

  module _ (new : Session S) (cause : Cause) (made : store.honest (store_of new) → Stops (files_of store new))
      (asked : store.mutations (store_of old) < store.mutations (store_of new))
      (written : store.written (store_of new) ≤ store.written (store_of old) + length text)
      (mutations : store.mutations (store_of new) ≤ store.mutations (store_of old) + 1 + length paths)
      (not_moved : cause ≡ causes.Moved → ⊥)
      (clash : store.honest (store_of new) → cause ≡ causes.Clash → Clashes (files_of store old) head_path) where
    pub leaves_stop : LeavesForgetting store numbers (Err (Failed (Interrupted cause))) old new
    leaves_stop = record {
      tree = λ honest. ⊎_elim (λ (same : files_of store new ≡ files_of store old). ap tree_of same)
          (λ (part : (count : ℕ) × PutsAndRemoves text (take count paths) (files_of store old) (files_of store new)).
          tree_then numbers text (take part.0 paths) (first_entries part.0) (files_of store old)
          (files_of store new) part.1) (made honest);
      folder = λ honest. ⊎_elim (λ (same : files_of store new ≡ files_of store old). λ path other. inl
          (ap (λ files. get (undo_folder_of files) path) same))
          (λ (part : (count : ℕ) × PutsAndRemoves text (take count paths) (files_of store old) (files_of store new)).
          folder_then numbers text (take part.0 paths) (first_entries part.0) (files_of store old)
          (files_of store new) part.1) (made honest);
      texts = λ honest some. tt;
      stops = λ honest held stands stop. ⊎_elim (λ (same : files_of store new ≡ files_of store old). inl same)
          (λ (part : (count : ℕ) × PutsAndRemoves text (take count paths) (files_of store old) (files_of store new)).
          inr (
            text_then numbers text (take part.0 paths) (first_entries part.0) (files_of store old)
                (files_of store new) part.1 ∙ ap (λ t. Some t) is.is_text,
            gone_from_the_top numbers ordered paths part.0 is.order is.are_paths (bounded held stands) text
                (files_of store old) (files_of store new) part.1,
          )) (made honest);
      doubt = λ honest held stands stop. ⊎_elim (λ (same : files_of store new ≡ files_of store old). inl
          (subst (λ files. IsCommittedState files held) (sym same) stands.committed))
          (λ (part : (count : ℕ) × PutsAndRemoves text (take count paths) (files_of store old) (files_of store new)).
          inr (first_committed held stands part.0 (files_of store new) part.1)) (made honest);
      order = λ stop. (ordered, is.order);
      late = λ stop. asked;
      written = λ honest held stands. omega (arith, written, room held stands);
      mutations = omega (
        arith,
        mutations,
        is.few,
        ap length is.are_paths,
        length-map (reverse ordered) entry_path,
        length-reverse ordered,
      );
      clash = λ honest. stop_clash ⊥ (Clashes (files_of store old) head_path) cause not_moved (clash honest);
      free = λ honest. ⊎_elim (λ (same : files_of store new ≡ files_of store old). subst
          (λ files. IsFree (undo_folder_of files)) (sym same))
          (λ (part : (count : ℕ) × PutsAndRemoves text (take count paths) (files_of store old) (files_of store new)).
          free_then numbers text (take part.0 paths) (first_entries part.0) (files_of store old)
          (files_of store new) part.1) (made honest);
    }

-- ---- without a number

in_order_none : AreInOrder [] []
in_order_none = record {
  ascending = λ k low. absurd (omega (arith, low));
  all = λ number h. absurd (omega (arith, h.1));
  only = λ number h. absurd (omega (arith, h.1));
}

pub order_nothing : (numbers forgotten : List ℕ) → numbers ≡ [] → forgotten ≡ [] → AreInOrder numbers forgotten
order_nothing numbers forgotten none nothing =
    subst (λ ns. AreInOrder ns forgotten) (sym none) (subst (AreInOrder []) (sym nothing) in_order_none)

pub forgets_nothing : (numbers forgotten : List ℕ) → numbers ≡ [] → forgotten ≡ [] → (held : State)
    → Forgets numbers held (Ok forgotten) held
forgets_nothing numbers forgotten none nothing held = (
  ap (first_absent held.journal) none,
  order_nothing numbers forgotten none nothing,
  sym (ap (λ ns. state_besides ns held) none ∙ same_besides held),
)

pub memory_nothing : (numbers : List ℕ) → numbers ≡ [] → (memory : Memory) → memory ≡ memory_besides numbers memory
memory_nothing numbers none memory = sym (ap (λ ns. memory_besides ns memory) none ∙ same)
  where
    whole : (entries : List ListedEntry) → entries_besides [] entries ≡ entries
    whole entries = filter_whole (λ (entry : ListedEntry). not (is_one_of [] entry.number)) entries (λ entry h. refl)

    same : memory_besides [] memory ≡ memory
    same = λ i. record { done = whole memory.done i; undone = whole memory.undone i; used = memory.used }

leaves_none : {S : Type 0} (store : Ghosts S) (session : Session S) (forgotten : List ℕ)
    → LeavesForgetting store [] (Ok forgotten) session session
leaves_none store session forgotten = record {
  tree = λ honest. refl;
  folder = λ honest path other. inl refl;
  texts = λ honest some. absurd (some refl);
  stops = λ honest held stands. tt;
  doubt = λ honest held stands. tt;
  order = tt;
  late = tt;
  written = λ honest held stands. omega arith;
  mutations = omega arith;
  clash = λ honest. tt;
  free = λ honest free. free;
}

pub leaves_nothing : {S : Type 0} (store : Ghosts S) (session : Session S) (numbers forgotten : List ℕ) → numbers ≡ []
    → LeavesForgetting store numbers (Ok forgotten) session session
leaves_nothing store session numbers forgotten none = subst
    (λ ns. LeavesForgetting store ns (Ok forgotten) session session) (sym none) (leaves_none store session forgotten)

-- ---- what is answered

pub forgets_listed : {S : Type 0} (files : S → Files) (new : Session S) (numbers : List ℕ) (held : State)
    (result : Result (List ℕ) Refusal) → IfErr result IsFailure → DidNotFail result
    → OnOk result (SimulatesState files new (state_besides numbers held)) → first_absent held.journal numbers ≡ None
    → IfOk result (AreInOrder numbers)
    → (left : State) × SimulatesState files new left × Forgets numbers held result left
forgets_listed files new numbers held (Ok forgotten) failure reported stands none order =
    (state_besides numbers held, stands, (none, order, refl))
forgets_listed files new numbers held (Err (Failed how)) failure reported stands none order = absurd reported
forgets_listed files new numbers held (Err refusal) failure reported stands none order = absurd failure

pub only_order : (P : Type 0) (numbers : List ℕ) (result : Result (List ℕ) Refusal)
    → IfOk result (λ forgotten. AreInOrder numbers forgotten × P) → IfOk result (AreInOrder numbers)
only_order P numbers (Ok forgotten) both = both.0
only_order P numbers (Err refusal) both = tt

-- where it stood at a state of the model, it stands at that without the steps
pub stands_without : {S : Type 0} (files : S → Files) (old new : Session S) (numbers : List ℕ) (state : Snapshots)
    (result : Result (List ℕ) Refusal) (at : SimulatesInSession files old state)
    → OnOk result (SimulatesState files new (state_besides numbers at.held))
    → OnOk result (SimulatesInSession files new (snapshots_besides numbers state))
stands_without files old new numbers state (Ok forgotten) at stands = record {
  held = state_besides numbers at.held;
  stands = stands;
  holds = holds_without at.held state at.holds numbers;
}
stands_without files old new numbers state (Err refusal) at stands = tt

pub stands_without_none : {S : Type 0} (files : S → Files) (session : Session S) (numbers : List ℕ) (state : Snapshots)
    → numbers ≡ [] → SimulatesInSession files session state
    → SimulatesInSession files session (snapshots_besides numbers state)
stands_without_none files session numbers state none at = record {
  held = at.held;
  stands = at.stands;
  holds = subst (λ held. Simulates held (snapshots_besides numbers state))
      (ap (λ ns. state_besides ns at.held) none ∙ same_besides at.held) (holds_without at.held state at.holds numbers);
}

-- and if the numbers are of the oldest steps
pub stands_next : {S : Type 0} (files : S → Files) (old new : Session S) (numbers : List ℕ) (state next : Snapshots)
    (result : Result (List ℕ) Refusal) (at : SimulatesInSession files old state) → IsWithoutOldest numbers state next
    → OnOk result (SimulatesState files new (state_besides numbers at.held))
    → OnOk result (SimulatesInSession files new next)
stands_next files old new numbers state next (Ok forgotten) at without stands = record {
  held = state_besides numbers at.held;
  stands = stands;
  holds = holds_next numbers at.held state next at.holds without
      (sound_head (undo_folder_of (files (store_of old))) at.held.journal None at.stands.committed.journal);
}
stands_next files old new numbers state next (Err refusal) at without stands = tt

pub stands_still : {S : Type 0} (files : S → Files) (session : Session S) (numbers : List ℕ) (state next : Snapshots)
    → numbers ≡ [] → SimulatesInSession files session state → IsWithoutOldest numbers state next
    → SimulatesInSession files session next
stands_still files session numbers state next none at without = record {
  held = at.held;
  stands = at.stands;
  holds = subst (λ held. Simulates held next) (ap (λ ns. state_besides ns at.held) none ∙ same_besides at.held)
      (holds_next numbers at.held state next at.holds without
      (sound_head (undo_folder_of (files (store_of session))) at.held.journal None at.stands.committed.journal));
}

-- all steps
pub stands_alone : {S : Type 0} (files : S → Files) (old new : Session S) (state : Snapshots)
    (at : SimulatesInSession files old state) (result : Result (List ℕ) Refusal)
    → (DidNotFail result → (left : State) × SimulatesState files new left × Forgets
    (all_numbers (memory_of old)) at.held result left) → OnOk result (SimulatesInSession files new (alone state))
stands_alone files old new state at (Ok forgotten) exact =
    let got = exact tt in
    record {
      held = got.0;
      stands = got.1;
      holds = subst (λ held. Simulates held (alone state)) (sym got.2.2)
          (holds_alone (memory_of old) at.held at.stands.remembers state at.holds);
    }
stands_alone files old new state at (Err refusal) exact = tt

pub forgotten_all : (memory new : Memory) (result : Result (List ℕ) Refusal) → IfOk result
    (λ forgotten. AreInOrder (all_numbers memory) forgotten × (new ≡ memory_besides (all_numbers memory) memory))
    → IfOk result (λ forgotten. AreInOrder (all_numbers memory) forgotten
    × (new ≡ record { done = []; undone = []; used = memory.used }))
forgotten_all memory new (Ok forgotten) both = (both.0, both.1 ∙ none_besides_all memory)
forgotten_all memory new (Err refusal) both = tt
