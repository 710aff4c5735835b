-- What the functions of a step answer, from what they call.
use Rattle.std.proofs.Common.{◌≡◌, ◌≢◌, inl, inr, ℕ, ◌+◌, ◌<◌, ◌≤◌, Bool, true, false, ◌||◌, List, [], ◌∷◌, ◌++◌}
use Rattle.std.proofs.Common.{length, map, reverse, get_or, cond, None, is_some, Result, Ok, Err, IfErr, refl, sym, ap}
use Rattle.std.proofs.Common.{subst, ◌∙◌, arith, IsErrAnd}
use Rattle.std.proofs.lemmas.Bool.{false≢true, or_from}
use Rattle.std.proofs.lemmas.List.{length-append, length-map, length-reverse, get_or-append-add, append-nil}
use Rattle.std.specs.FinMap.{get}
use Rattle.reuse_change.specs.Path.{lies_under}
use Rattle.reuse_change.specs.Files.{Files, Clashes, tree_of}
use Rattle.reuse_command.specs.declared.failure.Fault.TheVariants as faults
use Rattle.reuse_command.specs.Answer.{IsEarly, DidNotFail, IsReadRefusal, IsFailure, HasClash, IsNoClash}
use Rattle.reuse_command.specs.Answer.{IsEarlyFailure}
use Rattle.reuse_tree.specs.Head.{IsSoundHead}
use Rattle.reuse_journal.specs.History.{Memory}
use Rattle.reuse_journal.specs.Journal.{Recorded, Journal, State, ahead, moved_on}
use Rattle.reuse_journal.specs.Labels.{is_full}
use Rattle.reuse_journal.specs.JournalFiles.{head_path, entry_path, head_of, number_of, EntrySays, IsFree}
use Rattle.reuse_journal.specs.JournalFiles.{IsJournalPath}
use Rattle.reuse_json.specs.declared.entry.Entry.{Entry}
use Rattle.reuse_session.specs.session.Session.{store_of, memory_of, SimulatesState}
use Rattle.reuse_journal.specs.Remembered.{listed_count, IsSameBut, Remembers}
use Rattle.reuse_journal.specs.CommittedState.{IsTree, IsCommittedState}
use Rattle.reuse_change.specs.Tree.{undo_folder_of}
use Rattle.reuse_session.specs.declared.session.Session.{Session}
use Rattle.reuse_change.specs.declared.direction.Direction.{Direction}
use Rattle.reuse_change.specs.declared.direction.Direction.TheVariants.{Forward, Backward}
use Rattle.reuse_store.specs.declared.cause.Cause.TheVariants as causes
use Rattle.reuse_command.specs.declared.reply.Response.{Response}
use Rattle.reuse_command.specs.declared.reply.Refusal.{Refusal}
use Rattle.reuse_command.specs.declared.failure.Failure.TheVariants.{Memory as OutOfMemory, Fault, Interrupted}
use Rattle.reuse_command.specs.declared.reply.Refusal.TheVariants.{BadJournal, Failed}
use Rattle.reuse_command.proofs.OnlyReading.{is_refused}
use Rattle.reuse_journal.proofs.HeadTransition.{below}
use Rattle.reuse_journal.proofs.JournalLemmas.{clash_beneath, entry_in_folder, like, paths_apart}
use Rattle.reuse_store.proofs.OfTree.{get-folder}
use Rattle.reuse_journal.proofs.CommittedStates.{after_entry}
use Rattle.reuse_session.proofs.lemmas.journal.Stepping.{last_number}
use Rattle.reuse_journal.proofs.MemoryLemmas.{counted}

-- ---- sessions

-- where no file has changed, a session stands where it stood
pub still_stands : {S : Type 0} (files : S → Files) (session : Session S) (store : S) (held : State)
    → files store ≡ files (store_of session) → SimulatesState files session held
    → SimulatesState files (record session { store = store }) held
still_stands files session store held same stands = record {
  whole = stands.whole;
  committed = subst (λ f. IsCommittedState f held) (sym same) stands.committed;
  remembers = stands.remembers;
}

-- nor does the file of the next entry change where it stands
pub stands_beside : {S : Type 0} (files : S → Files) (session : Session S) (store : S) (held : State)
    → (memory_of session).used < 999_999
    → IsSameBut (entry_path ((memory_of session).used + 1)) (files (store_of session)) (files store)
    → SimulatesState files session held → SimulatesState files (record session { store = store }) held
stands_beside files session store held room same stands = record {
  whole = stands.whole;
  committed = after_entry (files (store_of session)) (files store) held stands.committed
      (omega (arith, room, stands.remembers.used))
      (subst (λ n. IsSameBut (entry_path (n + 1)) (files (store_of session)) (files store)) stands.remembers.used same);
  remembers = stands.remembers;
}

-- ---- refusals of a listed entry's step

-- none of these is reported without a fault
pub read_reported : (refusal : Refusal) → IsReadRefusal refusal → DidNotFail {A = Response} (Err refusal)
    → ((path : List ℕ) → refusal ≡ BadJournal path → ⊥) → ⊥
read_reported (Failed failure) is reported never = reported
read_reported (BadJournal path) is reported never = never path refl
read_reported refusal is reported never = is

failure_reported : (refusal : Refusal) → IsFailure refusal → DidNotFail {A = Response} (Err refusal) → ⊥
failure_reported (Failed failure) is reported = reported
failure_reported refusal is reported = is

-- nor is a call that failed so
pub failed_untold : (refusal : Refusal) (result : Result Response Refusal) → IsErrAnd result (λ given. given ≡ refusal)
    → IsFailure refusal → DidNotFail result → ⊥
failed_untold refusal result is fails reported =
    failure_reported refusal fails (subst DidNotFail (is_refused result is) reported)

pub put_fails : (refusal : Refusal) → IsEarlyFailure refusal → IsFailure refusal
put_fails (Failed OutOfMemory) is = tt
put_fails (Failed (Fault fault)) is = tt
put_fails refusal is = absurd is

-- an entry's file that was put is in the folder of the journal
pub kept_put : (files : Files) (number : ℕ) (entry : Entry) → EntrySays (get files (entry_path number)) entry
    → EntrySays (get (undo_folder_of files) (entry_path number)) entry
kept_put files number entry says =
    let here : get (undo_folder_of files) (entry_path number) ≡ get files (entry_path number) =
    get-folder files (entry_path number)
    ∙ ap (λ b. cond b (get files (entry_path number)) None) (entry_in_folder number) in
    subst (λ file. EntrySays file entry) (sym here) says

-- ---- clashes

module _ (entry head : Type 0) where
  -- a refusal before a stop reports a clash as a fault of the store alone
  pub fault_clash : (refusal : Refusal) → IsEarly refusal → (refusal ≡ Failed (Fault faults.Clash) → entry)
      → HasClash entry head refusal
  fault_clash (Failed (Fault faults.Clash)) early clash = clash refl
  fault_clash (Failed (Interrupted cause)) early clash = absurd early
  fault_clash refusal early clash = tt

  -- a clash that is reported of some paths is reported of others that clash then
  pub clash_of : (other more : Type 0) → (entry → other) → (head → more) → (refusal : Refusal)
      → HasClash entry head refusal → HasClash other more refusal
  clash_of other more on_entry on_head (Failed (Fault faults.Clash)) clash = on_entry clash
  clash_of other more on_entry on_head (Failed (Interrupted causes.Clash)) clash = on_head clash
  clash_of other more on_entry on_head (Failed (Interrupted causes.Moved)) clash = clash
  clash_of other more on_entry on_head refusal clash = tt

  -- where neither can be, none is reported
  pub never_clashes : (entry → ⊥) → (head → ⊥) → (answer : Result Response Refusal) → IfErr answer (HasClash entry head)
      → IfErr answer IsNoClash
  never_clashes no_entry no_head (Ok reply) clash = tt
  never_clashes no_entry no_head (Err (Failed (Fault faults.Clash))) clash = no_entry clash
  never_clashes no_entry no_head (Err (Failed (Interrupted causes.Clash))) clash = no_head clash
  never_clashes no_entry no_head (Err (Failed (Interrupted causes.Moved))) clash = clash
  never_clashes no_entry no_head (Err refusal) clash = tt

-- no path of a file of the journal clashes where none is a folder
pub no_clash_at : (files : Files) (path : List ℕ) → IsTree (tree_of files) → IsJournalPath path
    → IsFree (undo_folder_of files) → Clashes files path → ⊥
no_clash_at files path tree is free clash =
    let beneath = clash_beneath files path tree (like path is) clash in
    free path beneath.0 is beneath.1 beneath.2

-- the file of an entry makes no folder of the head
pub head_clash_before : (files put : Files) (number : ℕ) → IsSameBut (entry_path number) files put
    → Clashes put head_path → Clashes files head_path
head_clash_before files put number same clash =
    let apart : (lies_under (entry_path number) head_path || lies_under head_path (entry_path number)) ≡ false =
    or_from _ _ (paths_apart (entry_path number) head_path (inr (number, refl)) (inl refl))
    (paths_apart head_path (entry_path number) (inl refl) (inr (number, refl))) in
    let other : clash.other ≢ entry_path number =
    λ is. false≢true (sym apart ∙ ap (λ p. lies_under p head_path || lies_under head_path p) (sym is) ∙ clash.nested) in
    record {
      other = clash.other;
      is_file = ap is_some (sym (same clash.other other)) ∙ clash.is_file;
      nested = clash.nested;
    }

pub tree_of_committed : (files : Files) (held : State) → IsCommittedState files held → IsTree (tree_of files)
tree_of_committed files held committed = subst IsTree (sym committed.tree) committed.good

-- where no path of a file of the journal is a folder, a call reports no clash
module _ (files : Files) (held : State) (committed : IsCommittedState files held) (free : IsFree (undo_folder_of files))
    (answer : Result Response Refusal) where
  head_free : Clashes files head_path → ⊥
  head_free clash = no_clash_at files head_path (tree_of_committed files held committed) (inl refl) free clash

  -- a run puts an entry only where the journal isn't full, so that its number is given out
  pub run_no_clash : (done used : ℕ) → (is_full done used ≡ true → IfErr answer IsNoClash)
      → IfErr answer (HasClash (Clashes files (entry_path (used + 1))) (Clashes files head_path))
      → IfErr answer IsNoClash
  run_no_clash done used full reported = test (is_full done used) refl
    where
      entry_free : is_full done used ≡ false → Clashes files (entry_path (used + 1)) → ⊥
      entry_free room = no_clash_at files (entry_path (used + 1)) (tree_of_committed files held committed)
          (inr (used + 1, omega arith, omega (arith, (below done used room).1), refl)) free

      test : (b : Bool) → is_full done used ≡ b → IfErr answer IsNoClash
      test true is = full is
      test false room = never_clashes (Clashes files (entry_path (used + 1))) (Clashes files head_path)
          (entry_free room) head_free answer reported

  pub back_no_clash : IfErr answer (HasClash ⊥ (Clashes files head_path)) → IfErr answer IsNoClash
  back_no_clash reported = never_clashes ⊥ (Clashes files head_path) (λ none. none) head_free answer reported

-- ---- numbers

-- the number of a listed step is in range
pub low_of : (direction : Direction) (step : Recorded) (steps : List Recorded) (old : Journal)
    → ahead direction old ≡ step ∷ steps → IsSoundHead (head_of old None) → number_of step ≤ 999_999
low_of Backward step steps old list sound =
    let undone = map number_of (reverse old.undone) in
    let done : map number_of (reverse old.done) ≡ map number_of (reverse (step ∷ steps)) =
    ap (λ steps. map number_of (reverse steps)) list in
    let here = last_number steps step undone in
    let i = length (map number_of (reverse steps)) in
    let count : length (map number_of (reverse (step ∷ steps)) ++ undone) ≡ length steps + 1 + length undone =
    length-append (map number_of (reverse (step ∷ steps))) undone ∙ ap (λ n. n + length undone)
    (length-map (reverse (step ∷ steps)) number_of ∙ length-reverse (step ∷ steps) ∙ omega arith) in
    let lt : i < length (map number_of (reverse old.done) ++ undone) = omega
    (arith, count, ap (λ ns. length (ns ++ undone)) done, length-map (reverse steps) number_of, length-reverse steps) in
    let given = sound.given_out i 0 lt in
    let at : get_or (map number_of (reverse old.done) ++ undone) i 0 ≡ number_of step =
    ap (λ ns. get_or (ns ++ undone) i 0) done ∙ here in
    omega (arith, given.1, at, sound.next.1)
low_of Forward step steps old list sound =
    let front = map number_of (reverse old.done) in
    let undone : map number_of (reverse old.undone) ≡ map number_of (reverse (step ∷ steps)) =
    ap (λ steps. map number_of (reverse steps)) list in
    let i = length front + length (map number_of (reverse steps)) in
    let here : get_or (front ++ map number_of (reverse (step ∷ steps))) i 0 ≡ number_of step =
    get_or-append-add front (map number_of (reverse (step ∷ steps))) (length (map number_of (reverse steps))) 0
    ∙ ap (λ ns. get_or ns (length (map number_of (reverse steps))) 0)
    (sym (append-nil (map number_of (reverse (step ∷ steps)))))
    ∙ last_number steps step [] in
    let count : length (front ++ map number_of (reverse (step ∷ steps))) ≡ length front + (length steps + 1) =
    length-append front (map number_of (reverse (step ∷ steps))) ∙ ap (λ n. length front + n)
    (length-map (reverse (step ∷ steps)) number_of ∙ length-reverse (step ∷ steps) ∙ omega arith) in
    let lt : i < length (front ++ map number_of (reverse old.undone)) = omega (
      arith,
      count,
      ap (λ ns. length (front ++ ns)) undone,
      length-map (reverse steps) number_of,
      length-reverse steps,
    ) in
    let given = sound.given_out i 0 lt in
    let at : get_or (front ++ map number_of (reverse old.undone)) i 0 ≡ number_of step =
    ap (λ ns. get_or (front ++ ns) i 0) undone ∙ here in
    omega (arith, given.1, at, sound.next.1)

-- a listed step that moves leaves as many listed
pub as_many : (direction : Direction) (step : Recorded) (steps : List Recorded) (old : Journal) (memory moved : Memory)
    → ahead direction old ≡ step ∷ steps → Remembers memory old
    → Remembers moved (moved_on direction step steps old) → listed_count moved ≡ listed_count memory
as_many Backward step steps old memory moved list r s =
    omega (arith, counted moved (moved_on Backward step steps old) s, counted memory old r, ap length list)
as_many Forward step steps old memory moved list r s =
    omega (arith, counted moved (moved_on Forward step steps old) s, counted memory old r, ap length list)
