-- What a loss of power may leave where forgetting stopped.
use Rattle.std.proofs.Common.{◌≡◌, ◌⊎◌, inl, inr, ⊎_elim, ℕ, Bool, true, false, not, cond, ◌||◌, ◌==◌, List, [], ◌∷◌}
use Rattle.std.proofs.Common.{◌++◌, Some, take, refl, sym, ap, subst, ◌∙◌}
use Rattle.std.proofs.lemmas.List.Elements.{All-filter}
use Rattle.std.proofs.lemmas.List.Folds.{list_any-append}
use Rattle.reuse_store.specs.Asked.{Leaves}
use Rattle.reuse_store.specs.declared.store.Store.{Ghosts}
use Rattle.reuse_change.specs.Files.{Files}
use Rattle.reuse_change.specs.Tree.{Sets, undo_folder_of}
use Rattle.reuse_journal.specs.Journal.{Recorded, State}
use Rattle.reuse_journal.specs.JournalFiles.{head_path, number_of, IsKeptIn}
use Rattle.reuse_journal.specs.Losses.{AreBetweenStates, AllRecoverToTree, Earlier, HasEntries, IsSafe, beyond}
use Rattle.reuse_journal.specs.Numbered.{is_one_of, state_besides, steps_besides}
use Rattle.reuse_journal.specs.CommittedState.{IsCommittedState}
use Rattle.reuse_session.specs.session.Forgetting.{PutsAndRemoves, PutsAndRemovesSome, StopsWithRemovals}
use Rattle.reuse_journal.proofs.HeadPuts.{head_sets}
use Rattle.reuse_journal.proofs.JournalLemmas.{kept_stays}
use Rattle.reuse_journal.proofs.SafeFiles.{safe_entries}
use Rattle.reuse_session.proofs.lemmas.session.ForgottenFiles.{removes_some_none}
use Rattle.reuse_session.proofs.lemmas.session.ForgottenTrees.{same_besides}

-- ---- forgetting twice

-- a step is besides both exactly where it is besides the numbers of both
besides_both : (first second : List ℕ) (steps : List Recorded)
    → steps_besides second (steps_besides first steps) ≡ steps_besides (first ++ second) steps
besides_both first second [] = refl
besides_both first second (step ∷ steps) =
    by_test (is_one_of first (number_of step)) (besides_both first second steps)
    ∙ ap (λ b. cond (not b) (step ∷ steps_besides (first ++ second) steps) (steps_besides (first ++ second) steps))
    (sym (list_any-append (λ other. other == number_of step) first second))
  where
    by_test : (b : Bool) → steps_besides second (steps_besides first steps) ≡ steps_besides (first ++ second) steps
        → steps_besides second (cond (not b) (step ∷ steps_besides first steps) (steps_besides first steps))
        ≡ cond (not (b || is_one_of second (number_of step))) (step ∷ steps_besides (first ++ second) steps)
        (steps_besides (first ++ second) steps)
    by_test true rest = rest
    by_test false rest = ap (λ ss. cond (not (is_one_of second (number_of step))) (step ∷ ss) ss) rest

state_besides_both : (first second : List ℕ) (state : State)
    → state_besides second (state_besides first state) ≡ state_besides (first ++ second) state
state_besides_both first second state = λ i. record {
  tree = state.tree;
  journal = record {
    done = besides_both first second state.journal.done i;
    undone = besides_both first second state.journal.undone i;
    used = state.journal.used;
  };
}

-- fewer steps have their entries too
fewer_entries : (numbers : List ℕ) (folder : Files) (held : State) → HasEntries folder held.journal
    → HasEntries folder (state_besides numbers held).journal
fewer_entries numbers folder held entries = (
  All-filter (λ (step : Recorded). not (is_one_of numbers (number_of step)))
      (IsKeptIn folder) held.journal.done entries.0,
  All-filter (λ (step : Recorded). not (is_one_of numbers (number_of step)))
      (IsKeptIn folder) held.journal.undone entries.1,
)

-- ---- what may be left

abbrev pub doubtful : Earlier → Earlier
doubtful earlier = record { state = earlier.state; forgetting = true }

module _ (numbers : List ℕ) (earlier : Earlier) (held : State) where
  abbrev next : State
  next = state_besides numbers held

  -- on the state before it
  was_safe : (left : Files) → IsSafe earlier held left → IsSafe (doubtful earlier) held left
  was_safe left (inl safe) = inl safe
  was_safe left (inr (forgetting, beside)) = inr (refl, beside)

  next_beside : (left : Files) → IsCommittedState left next → HasEntries (undo_folder_of left) held.journal
      → IsSafe (doubtful earlier) held left
  next_beside left committed entries = inr (
    refl,
    record {
      other = next;
      differ = record {
        whole = held;
        numbers = [];
        others = numbers;
        is_held = sym (same_besides held);
        is_other = refl;
      };
      entries = entries;
      earlier = held;
      safe = record { tree = committed.tree; opens = inl committed };
    },
  )

  -- on the state behind it
  before_beside : (left : Files) → IsSafe earlier held left → IsSafe (beyond (doubtful earlier) held) next left
  before_beside left safe = by_case safe
    where
      entries : HasEntries (undo_folder_of left) (state_besides numbers held).journal
      entries = fewer_entries numbers (undo_folder_of left) held (safe_entries earlier held left safe)

      by_case : IsSafe earlier held left → IsSafe (beyond (doubtful earlier) held) (state_besides numbers held) left
      by_case (inl safe) = inr (
        refl,
        record {
          other = held;
          differ = record {
            whole = held;
            numbers = numbers;
            others = [];
            is_held = refl;
            is_other = sym (same_besides held);
          };
          entries = entries;
          earlier = earlier.state;
          safe = safe;
        },
      )
      by_case (inr (forgetting, beside)) = inr (
        refl,
        record {
          other = beside.other;
          differ = record {
            whole = beside.differ.whole;
            numbers = beside.differ.numbers ++ numbers;
            others = beside.differ.others;
            is_held = ap (state_besides numbers) beside.differ.is_held
                ∙ state_besides_both beside.differ.numbers numbers beside.differ.whole;
            is_other = beside.differ.is_other;
          };
          entries = entries;
          earlier = beside.earlier;
          safe = beside.safe;
        },
      )

  next_safe : (left : Files) → IsCommittedState left next → IsSafe (beyond (doubtful earlier) held) next left
  next_safe left committed = inl (record { tree = committed.tree; opens = inl committed })

  -- where it stops the files are one of the two, and each that may be left is one of the two or was safe
  module _ {S : Type 0} (store : Ghosts S) (old new : S) (text : List ℕ) (paths : List (List ℕ))
      (committed : IsCommittedState (store.files old) held) (safe : AllRecoverToTree store earlier held old)
      (stands : (count : ℕ) → PutsAndRemoves text (take count paths) (store.files old) (store.files new)
      → IsCommittedState (store.files new) (state_besides numbers held))
      (left_stands : (kept left : Files) → IsSafe earlier held kept → PutsAndRemovesSome text paths kept left
      → IsCommittedState left (state_besides numbers held)) where
    with_head : (kept left : Files) → IsSafe earlier held kept → Sets head_path (Some text) kept left
        → IsCommittedState left (state_besides numbers held)
    with_head kept left was sets = left_stands kept left was (left, sets, removes_some_none paths left)

    with_entries : (kept left : Files) → IsSafe earlier held kept → Sets head_path (Some text) kept left
        → HasEntries (undo_folder_of left) held.journal
    with_entries kept left was sets =
        let entries = safe_entries earlier held kept was in
        let in_folder = head_sets kept left (Some text) sets in (
          λ k d within. kept_stays (undo_folder_of kept) (undo_folder_of left) _ text (entries.0 k d within) in_folder,
          λ k d within. kept_stays (undo_folder_of kept) (undo_folder_of left) _ text (entries.1 k d within) in_folder,
        )

    pub stops_in_doubt : StopsWithRemovals store text paths old new
        → Leaves store new (λ left. IsSafe earlier held left ⊎ IsCommittedState left (state_besides numbers held))
        × AreBetweenStates store (doubtful earlier) held (state_besides numbers held) new
    stops_in_doubt (inl (same, lefts)) = (
      λ left is. ⊎_elim (λ was. inl (safe left was))
          (λ (made : (kept : Files) × store.crash_states old kept × Sets head_path (Some text) kept left). inr
          (with_head made.0 left (safe made.0 made.1) made.2)) (lefts left is),
      inl (
        subst (λ files. IsCommittedState files held) (sym same) committed,
        λ left is. ⊎_elim (λ was. was_safe left (safe left was))
            (λ (made : (kept : Files) × store.crash_states old kept × Sets head_path (Some text) kept left).
            next_beside left (with_head made.0 left (safe made.0 made.1) made.2)
            (with_entries made.0 left (safe made.0 made.1) made.2)) (lefts left is),
      ),
    )
    stops_in_doubt (inr (count, made, lefts)) = (
      λ left is. ⊎_elim (λ was. inl (safe left was))
          (λ (then : (kept : Files) × store.crash_states old kept × PutsAndRemovesSome text paths kept left). inr
          (left_stands then.0 left (safe then.0 then.1) then.2)) (lefts left is),
      inr (inl (
        stands count made,
        λ left is. ⊎_elim (λ was. before_beside left (safe left was))
            (λ (then : (kept : Files) × store.crash_states old kept × PutsAndRemovesSome text paths kept left).
            next_safe left (left_stands then.0 left (safe then.0 then.1) then.2)) (lefts left is),
      )),
    )
