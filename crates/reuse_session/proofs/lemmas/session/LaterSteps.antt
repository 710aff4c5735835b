-- The paths of a step that later steps touched: from the entries that are read, and by the model.
use Rattle.std.proofs.Common.{◌≡◌, ℕ, zero, suc, ◌+◌, ◌<◌, Bool, true, false, cond, not, ◌==◌, ◌&&◌, ◌||◌, List, []}
use Rattle.std.proofs.Common.{◌∷◌, length, map, reverse, drop, get_or, None, refl, sym, ap, subst, ◌∙◌, arith}
use Rattle.std.specs.Prelude.{filter, take_while}
use Rattle.std.specs.List.{All, AllByRecursion}
use Rattle.std.specs.Str.{bytes_eq}
use Rattle.std.specs.FinMap.{get}
use Rattle.std.proofs.lemmas.List.{reverse-reverse}
use Rattle.std.proofs.lemmas.List.Elements.{All-cons, All-tail, All-nil, recursion_from_All}
use Rattle.std.proofs.lemmas.List.Folds.{list_any_at}
use Rattle.std.proofs.lemmas.List.Kept.{IsStrictlySortedBy-filter}
use Rattle.std.proofs.lemmas.List.Sums.{take_while-cons}
use Rattle.std.proofs.lemmas.Slice.Eq.{bytes_eq-Decides}
use Rattle.std.specs.Ordering.{nat_cmp}
use Rattle.std.specs.Cmp.Lexicographic.{slice_cmp}
use Rattle.reuse_notice.specs.Sets.{set_of}
use Rattle.reuse_notice.proofs.SetLemmas.{set_of-sorted}
use Rattle.reuse_change.specs.Entry.{paths_of, touches}
use Rattle.reuse_change.specs.Files.{Files}
use Rattle.reuse_change.specs.Listing.{ArePaths, is_among}
use Rattle.reuse_change.specs.Tree.{changed_paths}
use Rattle.reuse_change.specs.declared.change.Change.{Change}
use Rattle.reuse_json.specs.declared.entry.Entry.{Entry}
use Rattle.reuse_change.proofs.Differ.{changed_by_entry}
use Rattle.reuse_journal.specs.History.{Memory, numbers_after}
use Rattle.reuse_journal.specs.Journal.{Recorded, Journal, State}
use Rattle.reuse_journal.specs.JournalFiles.{entry_path, entry_in, number_of, EntrySays, IsKeptIn, KeepsJournal}
use Rattle.reuse_session.specs.session.Machine.{Kept, Snapshots}
use Rattle.reuse_session.specs.session.RevertCalls.{done_after, touched_by, touched_later, kept_after, differed_by}
use Rattle.reuse_session.specs.session.RevertCalls.{changed_later, left_of}
use Rattle.reuse_session.specs.session.Session.{HaveCopies, Simulates}
use Rattle.reuse_journal.specs.Remembered.{listed_as, Remembers}
use Rattle.reuse_journal.specs.declared.history.ListedEntry.{ListedEntry}
use Rattle.reuse_journal.proofs.JournalLemmas.{same_entry}
use Rattle.reuse_journal.proofs.MemoryLemmas.{reverse_map}
use Rattle.reuse_plan.proofs.Planning.{touches_among}

-- ---- filters

filter_alike : (f g : List ℕ → Bool) → ((p : List ℕ) → f p ≡ g p) → (ps : List (List ℕ)) → filter f ps ≡ filter g ps
filter_alike f g same [] = refl
filter_alike f g same (p ∷ ps) = ap (λ b. cond b (p ∷ filter f ps) (filter f ps)) (same p)
    ∙ ap (λ qs. cond (g p) (p ∷ qs) qs) (filter_alike f g same ps)

-- a path is among those that pass exactly where it is among all and passes
among_filter : (g : List ℕ → Bool) (ps : List (List ℕ)) (p : List ℕ) → is_among (filter g ps) p ≡ (is_among ps p && g p)
among_filter g [] p = refl
among_filter g (q ∷ ps) p = by_test (g q) refl (bytes_eq p q) refl (among_filter g ps p)
  where
    both : (a b : Bool) → a ≡ b → (true && a) ≡ b
    both a b e = e

    by_test : (b : Bool) → g q ≡ b → (e : Bool) → bytes_eq p q ≡ e → is_among (filter g ps) p ≡ (is_among ps p && g p)
        → is_among (cond b (q ∷ filter g ps) (filter g ps)) p ≡ ((e || is_among ps p) && g p)
    by_test true is true same rest =
        ap (λ b. b || is_among (filter g ps) p) same ∙ sym (ap g ((bytes_eq-Decides p q).0 same) ∙ is)
    by_test true is false same rest = ap (λ b. b || is_among (filter g ps) p) same ∙ rest
    by_test false is true same rest = rest ∙ ap (λ b. is_among ps p && b) here ∙ none (is_among ps p) ∙ sym here
      where
        here : g p ≡ false
        here = ap g ((bytes_eq-Decides p q).0 same) ∙ is

        none : (b : Bool) → (b && false) ≡ false
        none true = refl
        none false = refl
    by_test false is false same rest = rest

self_among : (ps : List (List ℕ)) → AllByRecursion (λ p. is_among ps p ≡ true) ps
self_among ps =
    recursion_from_All (λ p. is_among ps p ≡ true) ps
    (λ k d low. list_any_at (λ other. bytes_eq (get_or ps k d) other) ps k d low
    ((bytes_eq-Decides (get_or ps k d) (get_or ps k d)).1 refl))

-- those that aren't among the others that don't pass are those that pass
left_of_others : (t : List ℕ → Bool) (all ps : List (List ℕ)) → AllByRecursion (λ p. is_among all p ≡ true) ps
    → left_of ps (filter (λ p. not (t p)) all) ≡ filter t ps
left_of_others t all [] there = refl
left_of_others t all (p ∷ ps) there =
    ap (λ b. cond (not b) (p ∷ left_of ps (filter (λ q. not (t q)) all)) (left_of ps (filter (λ q. not (t q)) all)))
    (among_filter (λ q. not (t q)) all p ∙ ap (λ b. b && not (t p)) there.0)
    ∙ twice (t p) ∙ ap (λ qs. cond (t p) (p ∷ qs) qs) (left_of_others t all ps there.1)
  where
    twice : (b : Bool)
        → cond (not (not b)) (p ∷ left_of ps (filter (λ q. not (t q)) all)) (left_of ps (filter (λ q. not (t q)) all))
        ≡ cond b (p ∷ left_of ps (filter (λ q. not (t q)) all)) (left_of ps (filter (λ q. not (t q)) all))
    twice true = refl
    twice false = refl

-- ---- the paths that are left, step by step

abbrev pub left_by : List Recorded → List (List ℕ) → List (List ℕ)
left_by [] paths = paths
left_by (step ∷ steps) paths = left_by steps (left_of paths (paths_of step.changes))

filter_twice : (f g : List ℕ → Bool) (ps : List (List ℕ))
    → filter (λ p. not (g p)) (filter (λ p. not (f p)) ps) ≡ filter (λ p. not (f p || g p)) ps
filter_twice f g [] = refl
filter_twice f g (p ∷ ps) = by_test (f p) (filter_twice f g ps)
  where
    by_test : (b : Bool) → filter (λ p. not (g p)) (filter (λ p. not (f p)) ps) ≡ filter (λ p. not (f p || g p)) ps
        → filter (λ p. not (g p)) (cond (not b) (p ∷ filter (λ p. not (f p)) ps) (filter (λ p. not (f p)) ps))
        ≡ cond (not (b || g p)) (p ∷ filter (λ p. not (f p || g p)) ps) (filter (λ p. not (f p || g p)) ps)
    by_test true rest = rest
    by_test false rest = ap (λ qs. cond (not (g p)) (p ∷ qs) qs) rest

all_left : (ps : List (List ℕ)) → ps ≡ filter (λ p. true) ps
all_left [] = refl
all_left (p ∷ ps) = ap (λ qs. p ∷ qs) (all_left ps)

left_is : (steps : List Recorded) (paths : List (List ℕ))
    → left_by steps paths ≡ filter (λ p. not (touched_by steps p)) paths
left_is [] paths = all_left paths
left_is (step ∷ steps) paths =
    left_is steps (left_of paths (paths_of step.changes))
    ∙ filter_twice (is_among (paths_of step.changes)) (touched_by steps) paths
    ∙ filter_alike (λ p. not (is_among (paths_of step.changes) p || touched_by steps p))
    (λ p. not (touches step.changes p || touched_by steps p))
    (λ p. ap (λ b. not (b || touched_by steps p)) (sym (touches_among step.changes p))) paths

pub left_ascend : (steps : List Recorded) (paths : List (List ℕ)) → ArePaths paths → ArePaths (left_by steps paths)
left_ascend steps paths ascend = subst ArePaths (sym (left_is steps paths))
    (IsStrictlySortedBy-filter (slice_cmp nat_cmp) (λ p. not (touched_by steps p)) paths ascend)

-- what is a set is its own
own_set : (ps : List (List ℕ)) → ArePaths ps → ps ≡ set_of ps
own_set ps ascend = set_of-sorted ps ps ascend (λ t h. h) (λ t h. h)

-- the paths that aren't left, as a set
pub touched_are : (steps : List Recorded) (paths : List (List ℕ)) → ArePaths paths
    → set_of (left_of paths (left_by steps paths)) ≡ filter (touched_by steps) paths
touched_are steps paths ascend =
    ap (λ l. set_of (left_of paths l)) (left_is steps paths)
    ∙ ap set_of (left_of_others (touched_by steps) paths paths (self_among paths))
    ∙ sym (own_set (filter (touched_by steps) paths)
    (IsStrictlySortedBy-filter (slice_cmp nat_cmp) (touched_by steps) paths ascend))

-- ---- the walk over the later entries

-- the step at which a walk over the numbers of some steps stands
pub record IsStepAt (folder : Files) (steps : List Recorded) (index number : ℕ) : Type 0 where
  pub step : Recorded
  pub here : drop index steps ≡ step ∷ drop (index + 1) steps
  pub numbered : number_of step ≡ number
  pub kept : IsKeptIn folder step

one_more : (k : ℕ) → suc (k + 1) ≡ suc k + 1
one_more k = omega arith

module _ (folder : Files) where
  pub step_at : (steps : List Recorded) (index : ℕ) (d : ℕ) → index < length (map number_of steps)
      → All (IsKeptIn folder) steps → IsStepAt folder steps index (get_or (map number_of steps) index d)
  step_at [] index d low kept = absurd (omega (arith, low))
  step_at (s ∷ steps) zero d low kept = record { step = s; here = refl; numbered = refl; kept = kept 0 s (omega arith) }
  step_at (s ∷ steps) (suc k) d low kept =
      let rest = step_at steps k d (omega (arith, low)) (All-tail (IsKeptIn folder) s steps kept) in
      record {
        step = rest.step;
        here = rest.here ∙ ap (λ j. rest.step ∷ drop j (s ∷ steps)) (one_more k);
        numbered = rest.numbered;
        kept = rest.kept;
      }

  -- the entry of the step's number says the step
  pub says_at : (step : Recorded) (number : ℕ) (entry : Entry) → number_of step ≡ number → IsKeptIn folder step
      → EntrySays (get folder (entry_path number)) entry → entry ≡ entry_in step
  says_at step number entry numbered kept says =
      same_entry (get folder (entry_path number)) entry (entry_in step) says
      (subst (λ n. EntrySays (get folder (entry_path n)) (entry_in step)) numbered kept)

-- ---- what is remembered

taken_alike : (number : ℕ) (steps : List Recorded) → map (λ (e : ListedEntry). e.number) (take_while
    (λ (e : ListedEntry). not (e.number == number)) (map listed_as steps)) ≡ map number_of (done_after number steps)
taken_alike number [] = refl
taken_alike number (s ∷ steps) =
    ap (map (λ (e : ListedEntry). e.number))
    (take_while-cons (λ (e : ListedEntry). not (e.number == number)) (listed_as s) (map listed_as steps))
    ∙ by_test (not (number_of s == number)) (taken_alike number steps)
    ∙ ap (map number_of) (sym (take_while-cons (λ (step : Recorded). not (number_of step == number)) s steps))
  where
    by_test : (b : Bool) → map (λ (e : ListedEntry). e.number) (take_while
        (λ (e : ListedEntry). not (e.number == number)) (map listed_as steps)) ≡ map number_of (done_after number steps)
        → map (λ (e : ListedEntry). e.number)
        (cond b (listed_as s ∷ take_while (λ (e : ListedEntry). not (e.number == number)) (map listed_as steps)) [])
        ≡ map number_of (cond b (s ∷ done_after number steps) [])
    by_test true rest = ap (λ ns. number_of s ∷ ns) rest
    by_test false rest = refl

-- the entries done after that of the number are those of the steps done after it
pub numbers_are : (memory : Memory) (journal : Journal) (number : ℕ) → Remembers memory journal
    → numbers_after memory.done number ≡ map number_of (done_after number journal.done)
numbers_are memory journal number remembers =
    ap (λ es. map (λ (e : ListedEntry). e.number) (take_while (λ (e : ListedEntry). not (e.number == number)) es))
    (ap reverse remembers.done ∙ reversed journal.done)
    ∙ taken_alike number journal.done
  where
    reversed : (steps : List Recorded) → reverse (map listed_as (reverse steps)) ≡ map listed_as steps
    reversed steps = reverse_map listed_as (reverse steps) ∙ ap (map listed_as) (reverse-reverse steps)

after_kept : (folder : Files) (number : ℕ) (steps : List Recorded) → All (IsKeptIn folder) steps
    → All (IsKeptIn folder) (done_after number steps)
after_kept folder number [] kept = kept
after_kept folder number (s ∷ steps) kept =
    subst (All (IsKeptIn folder)) (sym (take_while-cons (λ (step : Recorded). not (number_of step == number)) s steps))
    (by_test (not (number_of s == number)) (after_kept folder number steps (All-tail (IsKeptIn folder) s steps kept)))
  where
    by_test : (b : Bool) → All (IsKeptIn folder) (done_after number steps)
        → All (IsKeptIn folder) (cond b (s ∷ done_after number steps) [])
    by_test true rest = All-cons (IsKeptIn folder) s (done_after number steps) (kept 0 s (omega arith)) rest
    by_test false rest = All-nil (IsKeptIn folder)

-- and they are in the folder
pub later_kept : (folder : Files) (journal : Journal) (number : ℕ) → KeepsJournal folder journal None
    → All (IsKeptIn folder) (done_after number journal.done)
later_kept folder journal number keeps = after_kept folder number journal.done keeps.done

-- ---- the model

module _ (number : ℕ) (path : List ℕ) where
  touched_as_machine : (steps : List Recorded) (copies : List Kept) → HaveCopies steps copies
      → touched_by (done_after number steps) path ≡ differed_by (kept_after number copies) path
  touched_as_machine [] [] h = refl
  touched_as_machine [] (kept ∷ others) h = absurd h
  touched_as_machine (s ∷ steps) [] h = absurd h
  touched_as_machine (s ∷ steps) (kept ∷ others) h =
      ap (λ l. touched_by l path) (take_while-cons (λ (step : Recorded). not (number_of step == number)) s steps)
      ∙ by_test (number_of s == number) (touched_as_machine steps others h.2)
      ∙ ap (λ n. differed_by (cond (not (n == number)) (kept ∷ kept_after number others) []) path)
      (sym (ap (λ l. l.number) h.0))
      ∙ sym (ap (λ l. differed_by l path) (take_while-cons (λ (k : Kept). not (k.label.number == number)) kept others))
    where
      here : touches s.changes path ≡ is_among (changed_paths kept.before kept.after) path
      here = touches_among s.changes path
          ∙ ap (λ ps. is_among ps path) (sym (changed_by_entry s.changes kept.before kept.after h.1.good h.1.leads))

      by_test : (b : Bool) → touched_by (done_after number steps) path ≡ differed_by (kept_after number others) path
          → touched_by (cond (not b) (s ∷ done_after number steps) []) path ≡ differed_by
          (cond (not b) (kept ∷ kept_after number others) []) path
      by_test true rest = refl
      by_test false rest = ap (λ b. b || touched_by (done_after number steps) path) here
          ∙ ap (λ b. is_among (changed_paths kept.before kept.after) path || b) rest

-- by the model the same paths changed later
pub later_as_machine : (held : State) (state : Snapshots) → Simulates held state → (number : ℕ) (changes : List Change)
    → touched_later number held.journal.done changes ≡ changed_later number state.past changes
later_as_machine held state holds number changes =
    filter_alike (touched_by (done_after number held.journal.done)) (differed_by (kept_after number state.past))
    (λ path. touched_as_machine number path held.journal.done state.past holds.past) (paths_of changes)
