-- Forgetting, on files: a head is put, and the files of entries that it doesn't name are removed.
use Rattle.std.proofs.Common.{◌≡◌, ◌≢◌, ◌⊎◌, inl, inr, ⊎_elim, ℕ, zero, suc, ◌+◌, ◌<◌, ◌≤◌, Bool, true, false, not}
use Rattle.std.proofs.Common.{cond, List, [], ◌∷◌, ◌++◌, length, map, reverse, get_or, take, drop, Some, None, Result}
use Rattle.std.proofs.Common.{IsSome, is_some, refl, sym, ap, subst, ◌∙◌, arith}
use Rattle.std.specs.FinMap.{get, remove}
use Rattle.std.specs.List.{All, Contains}
use Rattle.std.specs.List.Sorted.{IsStrictlyIncreasing}
use Rattle.std.proofs.lemmas.Bool.{false≢true}
use Rattle.std.proofs.lemmas.List.{take-append-drop, take-map, take_more, reverse-append, reverse-reverse}
use Rattle.std.proofs.lemmas.List.{length-append, get_or-append-add}
use Rattle.std.proofs.lemmas.List.Elements.{All-filter, Contains-append_left, Contains-append_right, Contains-get_or}
use Rattle.std.proofs.lemmas.List.Elements.{Contains-push, Contains-push_cases, filter_passes}
use Rattle.std.proofs.lemmas.List.Kept.{AllPairs-from_increasing}
use Rattle.std.proofs.Math.ListN.{get_or-append}
use Rattle.reuse_store.specs.Asked.{Leaves, IsRemoval}
use Rattle.reuse_change.specs.Files.{Files, tree_of}
use Rattle.reuse_tree.specs.Head.{IsGoodHead, IsSoundHead}
use Rattle.reuse_store.specs.Durable.{WithOrWithout}
use Rattle.reuse_change.specs.Path.{lies_under, journal_folder}
use Rattle.reuse_change.specs.Tree.{undo_folder_of, Sets}
use Rattle.reuse_store.specs.declared.fault.StoreFault.{StoreFault}
use Rattle.reuse_store.specs.declared.store.Store.{Ghosts}
use Rattle.reuse_change.proofs.FileMaps.{same_files, same_or_other}
use Rattle.reuse_store.proofs.OfTree.{get-folder}
use Rattle.reuse_store.proofs.TreeLemmas.{tree_file}
use Rattle.reuse_store.proofs.ApplyLemmas.{removal_sets}
use Rattle.reuse_session.specs.session.Forgetting.{AreInOrder, AreGone, AreGoneFromTheTop, IsSameButGone, Removes}
use Rattle.reuse_session.specs.session.Forgetting.{RemovesSome, PutsAndRemoves, PutsAndRemovesSome, StopsWithRemovals}
use Rattle.reuse_journal.specs.Numbered.{is_one_of, steps_besides, journal_besides, state_besides}
use Rattle.reuse_journal.specs.Journal.{Recorded, State}
use Rattle.reuse_journal.specs.JournalFiles.{head_path, entry_path, entry_in, number_of, head_of, HeadSays, EntrySays}
use Rattle.reuse_journal.specs.JournalFiles.{IsFree, IsKeptIn, KeepsJournal}
use Rattle.reuse_journal.specs.Losses.{Earlier, IsSafe}
use Rattle.reuse_journal.specs.CommittedState.{IsTree, IsCommittedState}
use Rattle.reuse_session.proofs.lemmas.session.ForgottenSteps.{one_of}
use Rattle.reuse_journal.proofs.HeadTransition.{each_listed}
use Rattle.reuse_journal.proofs.HeadPuts.{head_sets, head_keeps_tree}
use Rattle.reuse_journal.proofs.JournalLemmas.{entry_in_folder, entry_path_is_not_head, entry_path_once, free_stays}
use Rattle.reuse_journal.proofs.JournalLemmas.{keeps_with_head}
use Rattle.reuse_journal.proofs.JournalReading.{file_in_folder}
use Rattle.reuse_journal.proofs.SafeFiles.{safe_entries, safe_tree}
use Rattle.reuse_session.proofs.lemmas.session.StepsByNumber.{in_map, to_map, in_reverse, to_reverse}

-- ---- lists

-- a path is one of these or not
among_or_not : (paths : List (List ℕ)) (path : List ℕ) → Contains paths path ⊎ ¬ (Contains paths path)
among_or_not [] path = inr (λ h. omega (arith, h.1))
among_or_not (p ∷ paths) path = ⊎_elim
    (λ (same : p ≡ path). inl (0, omega arith, same))
    (λ (other : p ≢ path). ⊎_elim
    (λ (h : Contains paths path). inl (suc h.0, omega (arith, h.1), h.2))
    (λ (none : ¬ (Contains paths path)). inr (λ h. at other none h.0 h.1 h.2))
    (among_or_not paths path))
    (same_or_other p path)
  where
    at : p ≢ path → ¬ (Contains paths path) → (k : ℕ) → k < length (p ∷ paths) → get_or (p ∷ paths) k path ≡ path → ⊥
    at other none zero low is = other is
    at other none (suc k) low is = none (k, omega (arith, low), is)

-- what is among the first of a list is in it
pub in_take : {X : Type 0} (k : ℕ) (xs : List X) (x : X) → Contains (take k xs) x → Contains xs x
in_take zero xs x h = absurd (omega (arith, h.1))
in_take (suc k) [] x h = absurd (omega (arith, h.1))
in_take {X} (suc k) (y ∷ xs) x h = at h.0 h.1 h.2 (in_take k xs x)
  where
    at : (i : ℕ) → i < length (take (suc k) (y ∷ xs)) → get_or (take (suc k) (y ∷ xs)) i x ≡ x
        → (Contains (take k xs) x → Contains xs x) → Contains (y ∷ xs) x
    at zero low is rest = (0, omega arith, is)
    at (suc i) low is rest = let r = rest (i, omega (arith, low), is) in (suc r.0, omega (arith, r.1), r.2)

-- of an ascending list, no number is in both parts
parts_apart : (low high : List ℕ) → IsStrictlyIncreasing (low ++ high) → (number : ℕ) → Contains low number
    → Contains high number → ⊥
parts_apart low high ascending number a b =
    let before = AllPairs-from_increasing (low ++ high) ascending a.0 (length low + b.0) number (omega (arith, a.1))
    (omega (arith, b.1, length-append low high)) in
    let first : get_or (low ++ high) a.0 number ≡ number = get_or-append low high number a.0 a.1 ∙ a.2 in
    let second : get_or (low ++ high) (length low + b.0) number ≡ number =
    get_or-append-add low high b.0 number ∙ b.2 in
    omega (arith, before, first, second)

-- ---- removals

-- no path is removed
pub removes_none : (files : Files) → Removes [] files files
removes_none files = record { here = λ path h. absurd (omega (arith, h.1)); elsewhere = λ other none. refl }

pub removes_some_none : (paths : List (List ℕ)) (files : Files) → RemovesSome paths files files
removes_some_none paths files = ([], λ path h. absurd (omega (arith, h.1)), removes_none files)

-- and one more
pub removes_push : (paths : List (List ℕ)) (path : List ℕ) (before mid after : Files) → Removes paths before mid
    → Sets path None mid after → Removes (paths ++ path ∷ []) before after
removes_push paths path before mid after removes sets = record {
  here = λ other h. ⊎_elim
      (λ (same : other ≡ path). ap (get after) same ∙ sets.here)
      (λ (ne : other ≢ path). ⊎_elim
      (λ (among : Contains paths other). sets.elsewhere other ne ∙ removes.here other among)
      (λ (is : path ≡ other). absurd (ne (sym is)))
      (Contains-push_cases paths path other h))
      (same_or_other other path);
  elsewhere = λ other none. sets.elsewhere other
      (λ same. none (subst (Contains (paths ++ path ∷ [])) (sym same) (Contains-push paths path)))
      ∙ removes.elsewhere other (λ among. none (Contains-append_left paths (path ∷ []) other among));
}

pub removes_more : (paths : List (List ℕ)) (i : ℕ) (path : List ℕ) → i < length paths → path ≡ get_or paths i path
    → (before mid after : Files) → Removes (take i paths) before mid → Sets path None mid after
    → Removes (take (i + 1) paths) before after
removes_more paths i path low is before mid after removes sets =
    subst (λ ps. Removes ps before after) (ap (λ p. take i paths ++ p ∷ []) is ∙ sym (take_more paths i path low))
    (removes_push (take i paths) path before mid after removes sets)

-- a removal that stops leaves the paths so far, or one more
pub removes_or_more : (paths : List (List ℕ)) (i : ℕ) (path : List ℕ) → i < length paths → path ≡ get_or paths i path
    → (before mid after : Files) → Removes (take i paths) before mid → (after ≡ mid) ⊎ Sets path None mid after
    → (count : ℕ) × Removes (take count paths) before after
removes_or_more paths i path low is before mid after removes (inl same) =
    (i, subst (Removes (take i paths) before) (sym same) removes)
removes_or_more paths i path low is before mid after removes (inr sets) =
    (i + 1, removes_more paths i path low is before mid after removes sets)

-- what a loss of power may leave after one more removal
pub left_by_removal : {S : Type 0} (store : Ghosts S) (old mid new : S) (paths : List (List ℕ)) (path : List ℕ)
    → Contains paths path → (answer : Result (Unit {0}) StoreFault) → IsRemoval store path mid new answer
    → Leaves store mid (λ left. (kept : Files) × store.crash_states old kept × RemovesSome paths kept left)
    → Leaves store new (λ left. (kept : Files) × store.crash_states old kept × RemovesSome paths kept left)
left_by_removal store old mid new paths path among answer removal lefts left may = ⊎_elim
    (λ (was : store.crash_states mid left). lefts left was)
    (λ (made : (kept : Files) × store.crash_states mid kept × (left ≡ remove kept path)).
    let before = lefts made.0 made.1 in
    let gone = before.2.0 in
    let within : (other : List ℕ) → Contains (gone ++ path ∷ []) other → Contains paths other = λ other h.
    ⊎_elim (λ (in_some : Contains before.2.0 other). before.2.1 other in_some)
    (λ (is : path ≡ other). subst (Contains paths) is among) (Contains-push_cases before.2.0 path other h) in (
      before.0,
      before.1,
      (
        gone ++ path ∷ [],
        within,
        removes_push gone path before.0 made.0 left before.2.2 (removal_sets made.0 left path made.2),
      ),
    ))
    (removal.may left may)

-- ---- a head, and then removals

module _ (text : List ℕ) (paths : List (List ℕ)) where
  -- the head was put or not, and nothing is removed
  pub put_or_not : (before after : Files) → (after ≡ before) ⊎ Sets head_path (Some text) before after
      → (after ≡ before) ⊎ ((count : ℕ) × PutsAndRemoves text (take count paths) before after)
  put_or_not before after (inl same) = inl same
  put_or_not before after (inr sets) = inr (0, (after, sets, removes_none after))

  with_head : (MightBe : Files → Type 0) (left : Files)
      → WithOrWithout MightBe head_path (λ file. file ≡ Some text) left
      → MightBe left ⊎ ((kept : Files) × MightBe kept × Sets head_path (Some text) kept left)
  with_head MightBe left (inl was) = inl was
  with_head MightBe left (inr made) =
      inr (made.0, made.1, subst (λ file. Sets head_path file made.0 left) made.3 made.4)

  with_removals : (MightBe : Files → Type 0) (left : Files)
      → MightBe left ⊎ ((kept : Files) × MightBe kept × Sets head_path (Some text) kept left)
      → MightBe left ⊎ ((kept : Files) × MightBe kept × PutsAndRemovesSome text paths kept left)
  with_removals MightBe left (inl was) = inl was
  with_removals MightBe left (inr made) = inr (made.0, made.1, (left, made.2, removes_some_none paths left))

  -- where the put of the head stops
  pub put_stops : {S : Type 0} (store : Ghosts S) (old new : S)
      → (store.files new ≡ store.files old) ⊎ Sets head_path (Some text) (store.files old) (store.files new)
      → Leaves store new (WithOrWithout (store.crash_states old) head_path (λ file. file ≡ Some text))
      → StopsWithRemovals store text paths old new
  put_stops store old new (inl same) lefts =
      inl (same, λ left is. with_head (store.crash_states old) left (lefts left is))
  put_stops store old new (inr sets) lefts =
      inr (
        0,
        (store.files new, sets, removes_none (store.files new)),
        λ left is. with_removals (store.crash_states old) left
            (with_head (store.crash_states old) left (lefts left is)),
      )

-- the paths are of entries of these numbers
abbrev pub AreEntriesOf : List ℕ → List (List ℕ) → Type 0
AreEntriesOf numbers paths =
    (path : List ℕ) → Contains paths path → (number : ℕ) × Contains numbers number × (path ≡ entry_path number)

-- those from the highest number on are
pub entries_of : (numbers ordered : List ℕ) (paths : List (List ℕ)) → AreInOrder numbers ordered
    → paths ≡ map entry_path (reverse ordered) → AreEntriesOf numbers paths
entries_of numbers ordered paths order are path h =
    let found = in_map entry_path (reverse ordered) path (subst (λ ps. Contains ps path) are h) in
    (found.0, order.only found.0 (in_reverse ordered found.0 found.1), found.2)

pub entries_of_first : (numbers : List ℕ) (count : ℕ) (paths : List (List ℕ)) → AreEntriesOf numbers paths
    → AreEntriesOf numbers (take count paths)
entries_of_first numbers count paths are path h = are path (in_take count paths path h)

pub entries_of_some : (numbers : List ℕ) (paths some : List (List ℕ)) → AreEntriesOf numbers paths
    → ((path : List ℕ) → Contains some path → Contains paths path) → AreEntriesOf numbers some
entries_of_some numbers paths some are within path h = are path (within path h)

module _ (numbers : List ℕ) (paths : List (List ℕ)) (are : AreEntriesOf numbers paths) (mid after : Files)
    (removes : Removes paths mid after) where
  head_kept : get after head_path ≡ get mid head_path
  head_kept = removes.elsewhere head_path (λ h. let e = are head_path h in entry_path_is_not_head e.0 (sym e.2))

  outside_kept : (path : List ℕ) → lies_under path journal_folder ≡ false → get after path ≡ get mid path
  outside_kept path outside = removes.elsewhere path (λ h. let e = are path h in
      false≢true (sym outside ∙ ap (λ p. lies_under p journal_folder) e.2 ∙ entry_in_folder e.0))

  pub tree_kept : tree_of after ≡ tree_of mid
  tree_kept = same_files (tree_of after) (tree_of mid)
      (λ other. tree_file after other ∙ at other (lies_under other journal_folder) refl ∙ sym (tree_file mid other))
    where
      at : (other : List ℕ) (b : Bool) → lies_under other journal_folder ≡ b
          → cond (not (lies_under other journal_folder)) (get after other) None ≡ cond
          (not (lies_under other journal_folder)) (get mid other) None
      at other true e =
          ap (λ b. cond (not b) (get after other) None) e ∙ sym (ap (λ b. cond (not b) (get mid other) None) e)
      at other false e = ap (λ file. cond (not (lies_under other journal_folder)) file None) (outside_kept other e)

  -- an entry of another number stays
  entry_kept : ((number : ℕ) → Contains numbers number → number < 1_000_000) → (number : ℕ) → number < 1_000_000
      → ¬ (Contains numbers number) → get after (entry_path number) ≡ get mid (entry_path number)
  entry_kept bounded number low other = removes.elsewhere (entry_path number) (λ h.
      let e = are (entry_path number) h in
      let same = entry_path_once number e.0 low (bounded e.0 e.1) e.2 in
      other (subst (Contains numbers) (sym same) e.1))

-- a file of the journal, in its folder
folder_file : (files : Files) (path : List ℕ) → lies_under path journal_folder ≡ true
    → get (undo_folder_of files) path ≡ get files path
folder_file files path under = sym (file_in_folder files path path refl under)

-- ---- committed states

passes_not : (b : Bool) → not b ≡ true → b ≡ false
passes_not true e = absurd (false≢true e)
passes_not false e = refl

module _ (numbers : List ℕ) (held : State) (bounded : (number : ℕ) → Contains numbers number → number < 1_000_000)
    (sound : IsSoundHead (head_of held.journal None)) (good : IsTree held.tree)
    (text : List ℕ) (head : IsGoodHead text (head_of (journal_besides numbers held.journal) None)) where
  -- the numbers of the steps that are left are others
  left_bounds : (steps : List Recorded)
      → All (λ step. (1 ≤ number_of step) × (number_of step < held.journal.used + 1)) steps
      → All (λ step. (number_of step < 1_000_000) × ¬ (Contains numbers (number_of step))) (steps_besides numbers steps)
  left_bounds steps low k d within =
      let stays : Recorded → Bool = λ step. not (is_one_of numbers (number_of step)) in
      let step = get_or (steps_besides numbers steps) k d in
      let bounds = All-filter (λ step. not (is_one_of numbers (number_of step)))
      (λ step. (1 ≤ number_of step) × (number_of step < held.journal.used + 1)) steps low k d within in
      let other = passes_not (is_one_of numbers (number_of (get_or (steps_besides numbers steps) k d)))
      (filter_passes (λ step. not (is_one_of numbers (number_of step))) steps k d within) in (
        omega (arith, bounds.1, sound.next.1),
        λ h. false≢true (sym other ∙ one_of numbers (number_of (get_or (steps_besides numbers steps) k d)) h),
      )

  -- once the head is put and some of the entries are removed, what is left is the committed state without the steps
  pub stands_besides : (kept mid after : Files) → tree_of kept ≡ held.tree → All
      (IsKeptIn (undo_folder_of kept)) held.journal.done × All (IsKeptIn (undo_folder_of kept)) held.journal.undone
      → Sets head_path (Some text) kept mid → (paths : List (List ℕ)) → AreEntriesOf numbers paths
      → Removes paths mid after → IsCommittedState after (state_besides numbers held)
  stands_besides kept mid after tree entries sets paths are removes = record {
    tree = tree_kept numbers paths are mid after removes ∙ head_keeps_tree kept mid (Some text) sets ∙ tree;
    good = good;
    journal = record {
      head = subst (λ file. HeadSays file (head_of (journal_besides numbers held.journal) None))
          (sym head_stays) keeps.head;
      done = still held.journal.done bounds.0 keeps.done;
      undone = still held.journal.undone bounds.1 keeps.undone;
    };
  }
    where
      bounds : All (λ step. (1 ≤ number_of step) × (number_of step < held.journal.used + 1)) held.journal.done
          × All (λ step. (1 ≤ number_of step) × (number_of step < held.journal.used + 1)) held.journal.undone
      bounds = each_listed (λ n. (1 ≤ n) × (n < held.journal.used + 1)) held.journal None sound.given_out

      keeps : KeepsJournal (undo_folder_of mid) (journal_besides numbers held.journal) None
      keeps =
          keeps_with_head (undo_folder_of kept) (undo_folder_of mid) (journal_besides numbers held.journal) None text (
            All-filter (λ (step : Recorded). not (is_one_of numbers (number_of step)))
                (IsKeptIn (undo_folder_of kept)) held.journal.done entries.0,
            All-filter (λ (step : Recorded). not (is_one_of numbers (number_of step)))
                (IsKeptIn (undo_folder_of kept)) held.journal.undone entries.1,
          )
          (head_sets kept mid (Some text) sets) head

      head_stays : get (undo_folder_of after) head_path ≡ get (undo_folder_of mid) head_path
      head_stays = folder_file after head_path refl ∙ head_kept numbers paths are mid after removes
          ∙ sym (folder_file mid head_path refl)

      still : (steps : List Recorded)
          → All (λ step. (1 ≤ number_of step) × (number_of step < held.journal.used + 1)) steps
          → All (IsKeptIn (undo_folder_of mid)) (steps_besides numbers steps)
          → All (IsKeptIn (undo_folder_of after)) (steps_besides numbers steps)
      still steps low all k d within =
          let step = get_or (steps_besides numbers steps) k d in
          let other = left_bounds steps low k d within in
          let path = entry_path (number_of step) in
          subst (λ file. EntrySays file (entry_in step))
          (sym (folder_file after path (entry_in_folder (number_of step))
          ∙ entry_kept numbers paths are mid after removes bounded (number_of step) other.0 other.1
          ∙ sym (folder_file mid path (entry_in_folder (number_of step)))))
          (all k d within)

-- ---- what the files are then

-- the tree stays
pub tree_then : (numbers text : List ℕ) (paths : List (List ℕ)) → AreEntriesOf numbers paths → (before after : Files)
    → PutsAndRemoves text paths before after → tree_of after ≡ tree_of before
tree_then numbers text paths are before after (mid, sets, removes) =
    tree_kept numbers paths are mid after removes ∙ head_keeps_tree before mid (Some text) sets

-- the head has its text
pub text_then : (numbers text : List ℕ) (paths : List (List ℕ)) → AreEntriesOf numbers paths → (before after : Files)
    → PutsAndRemoves text paths before after → get after head_path ≡ Some text
text_then numbers text paths are before after (mid, sets, removes) =
    head_kept numbers paths are mid after removes ∙ sets.here

-- of the journal's files nothing else differs
pub folder_then : (numbers text : List ℕ) (paths : List (List ℕ)) → AreEntriesOf numbers paths → (before after : Files)
    → PutsAndRemoves text paths before after
    → IsSameButGone numbers (undo_folder_of before) (undo_folder_of after)
folder_then numbers text paths are before after (mid, sets, removes) path other =
    let put = (head_sets before mid (Some text) sets).elsewhere path other in
    by_place (lies_under path journal_folder) refl put (among_or_not paths path)
  where
    outside : (files : Files) → lies_under path journal_folder ≡ false → get (undo_folder_of files) path ≡ None
    outside files e = get-folder files path ∙ ap (λ b. cond b (get files path) None) e

    by_place : (b : Bool) → lies_under path journal_folder ≡ b → get (undo_folder_of mid) path ≡ get
        (undo_folder_of before) path → Contains paths path ⊎ ¬ (Contains paths path)
        → (get (undo_folder_of after) path ≡ get (undo_folder_of before) path) ⊎ ((number : ℕ) × Contains numbers number
        × (path ≡ entry_path number) × (get (undo_folder_of after) path ≡ None))
    by_place false e put among = inl (outside after e ∙ sym (outside before e))
    by_place true e put (inr none) =
        inl (folder_file after path e ∙ removes.elsewhere path none ∙ sym (folder_file mid path e) ∙ put)
    by_place true e put (inl h) = let found = are path h in
        inr (found.0, found.1, found.2, folder_file after path e ∙ removes.here path h)

-- no path of the journal becomes a folder
pub free_then : (numbers text : List ℕ) (paths : List (List ℕ)) → AreEntriesOf numbers paths → (before after : Files)
    → PutsAndRemoves text paths before after
    → IsFree (undo_folder_of before) → IsFree (undo_folder_of after)
free_then numbers text paths are before after (mid, sets, removes) free =
    less (free_stays (undo_folder_of before) (undo_folder_of mid) head_path (inl refl)
    (head_sets before mid (Some text) sets).elsewhere free)
  where
    still : (other : List ℕ) → IsSome (get (undo_folder_of after) other) → (b : Bool)
        → lies_under other journal_folder ≡ b → Contains paths other ⊎ ¬ (Contains paths other)
        → IsSome (get (undo_folder_of mid) other)
    still other some false e among = absurd
        (false≢true (ap is_some (sym (get-folder after other ∙ ap (λ b. cond b (get after other) None) e)) ∙ some))
    still other some true e (inl h) =
        absurd (false≢true (ap is_some (sym (folder_file after other e ∙ removes.here other h)) ∙ some))
    still other some true e (inr none) = ap is_some
        (folder_file mid other e ∙ sym (removes.elsewhere other none) ∙ sym (folder_file after other e)) ∙ some

    less : IsFree (undo_folder_of mid) → IsFree (undo_folder_of after)
    less free p other is_p some =
        free p other is_p (still other some (lies_under other journal_folder) refl (among_or_not paths other))

-- all entries are gone
pub gone_then : (numbers ordered text : List ℕ) (paths : List (List ℕ)) → AreInOrder numbers ordered
    → paths ≡ map entry_path (reverse ordered) → (before after : Files) → PutsAndRemoves text paths before after
    → AreGone numbers after
gone_then numbers ordered text paths order are before after (mid, sets, removes) k d within =
    let number = get_or numbers k d in
    let there = to_map entry_path (reverse ordered) number
    (to_reverse ordered number (order.all number (Contains-get_or numbers k d within))) in
    removes.here (entry_path number) (subst (λ ps. Contains ps (entry_path number)) (sym are) there)

-- those of the highest numbers are, where the first of the paths were removed
module _ (numbers ordered : List ℕ) (paths : List (List ℕ)) (count : ℕ) (order : AreInOrder numbers ordered)
    (are : paths ≡ map entry_path (reverse ordered))
    (bounded : (number : ℕ) → Contains numbers number → number < 1_000_000) where
  abbrev low : List ℕ
  low = reverse (drop count (reverse ordered))

  abbrev high : List ℕ
  high = reverse (take count (reverse ordered))

  joined : low ++ high ≡ ordered
  joined = sym (reverse-append (take count (reverse ordered)) (drop count (reverse ordered)))
      ∙ ap reverse (take-append-drop count (reverse ordered)) ∙ reverse-reverse ordered

  parts : AreInOrder numbers (low ++ high)
  parts = subst (AreInOrder numbers) (sym joined) order

  first : take count paths ≡ map entry_path (take count (reverse ordered))
  first = ap (take count) are ∙ take-map entry_path count (reverse ordered)

  -- the paths are of the highest
  are_high : AreEntriesOf high (take count paths)
  are_high path h =
      let found = in_map entry_path (take count (reverse ordered)) path (subst (λ ps. Contains ps path) first h) in
      (found.0, to_reverse (take count (reverse ordered)) found.0 found.1, found.2)

  low_bounded : (number : ℕ) → Contains low number → number < 1_000_000
  low_bounded number h = bounded number (parts.only number (Contains-append_left low high number h))

  high_bounded : (number : ℕ) → Contains high number → number < 1_000_000
  high_bounded number h = bounded number (parts.only number (Contains-append_right low high number h))

  module _ (text : List ℕ) (before after : Files) (made : PutsAndRemoves text (take count paths) before after) where
    gone : AreGone high after
    gone k d within =
        let number = get_or (reverse (take count (reverse ordered))) k d in
        let there = to_map entry_path (take count (reverse ordered)) number
        (in_reverse (take count (reverse ordered)) number (Contains-get_or high k d within)) in
        made.2.here (entry_path number) (subst (λ ps. Contains ps (entry_path number)) (sym first) there)

    stay : All (λ number. get after (entry_path number) ≡ get before (entry_path number)) low
    stay k d within =
        let number = get_or (reverse (drop count (reverse ordered))) k d in
        let h = Contains-get_or low k d within in
        entry_kept high (take count paths) are_high made.0 after made.2 high_bounded number (low_bounded number h)
        (parts_apart low high parts.ascending number h)
        ∙ made.1.elsewhere (entry_path number) (entry_path_is_not_head number)

    pub gone_from_the_top : AreGoneFromTheTop numbers before after
    gone_from_the_top = (low, high, parts, gone, stay)

-- ---- what a loss of power leaves

-- what was safe, with the head and some of the removals
pub safe_then : (numbers text : List ℕ) (paths : List (List ℕ)) (earlier : Earlier) (held : State)
    → AreEntriesOf numbers paths → ((number : ℕ) → Contains numbers number → number < 1_000_000)
    → IsSoundHead (head_of held.journal None) → IsTree held.tree
    → IsGoodHead text (head_of (journal_besides numbers held.journal) None) → (kept left : Files)
    → IsSafe earlier held kept → PutsAndRemovesSome text paths kept left
    → IsCommittedState left (state_besides numbers held)
safe_then numbers text paths earlier held are bounded sound good head kept left safe
    (mid, sets, (some, within, removes)) =
    stands_besides numbers held bounded sound good text head kept mid left (safe_tree earlier held kept safe)
    (safe_entries earlier held kept safe) sets some (entries_of_some numbers paths some are within) removes

-- what was the committed state
pub committed_then : (numbers text : List ℕ) (paths : List (List ℕ)) (held : State) → AreEntriesOf numbers paths
    → ((number : ℕ) → Contains numbers number → number < 1_000_000) → IsSoundHead (head_of held.journal None)
    → IsGoodHead text (head_of (journal_besides numbers held.journal) None) → (files after : Files)
    → IsCommittedState files held → PutsAndRemoves text paths files after
    → IsCommittedState after (state_besides numbers held)
committed_then numbers text paths held are bounded sound head files after committed (mid, sets, removes) =
    stands_besides numbers held bounded sound committed.good text head files mid after committed.tree
    (committed.journal.done, committed.journal.undone) sets paths are removes

pub committed_then_some : (numbers text : List ℕ) (paths : List (List ℕ)) (held : State) → AreEntriesOf numbers paths
    → ((number : ℕ) → Contains numbers number → number < 1_000_000) → IsSoundHead (head_of held.journal None)
    → IsGoodHead text (head_of (journal_besides numbers held.journal) None) → (files after : Files)
    → IsCommittedState files held → PutsAndRemovesSome text paths files after
    → IsCommittedState after (state_besides numbers held)
committed_then_some numbers text paths held are bounded sound head files after committed
    (mid, sets, (some, within, removes)) =
    committed_then numbers text some held
    (entries_of_some numbers paths some are within) bounded sound head files after committed (mid, sets, removes)
