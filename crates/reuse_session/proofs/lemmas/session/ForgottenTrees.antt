-- Forgetting, by the model: without its oldest steps a journal holds the state without its oldest trees.
use Rattle.std.proofs.Common.{◌≡◌, ◌≢◌, ℕ, ◌+◌, ◌==◌, ◌||◌, Bool, true, false, cond, not, List, [], ◌∷◌, ◌++◌, length}
use Rattle.std.proofs.Common.{map, reverse, get_or, None, Result, Ok, Err, refl, sym, ap, ap₂, subst, ◌∙◌, arith}
use Rattle.std.specs.List.{AllPairs, Contains, find, list_any}
use Rattle.std.proofs.lemmas.List.{append-nil, length-append, map-append, reverse-append, get_or-append-add}
use Rattle.std.proofs.lemmas.List.Elements.{Contains-append_left, Contains-append_right, filter-append}
use Rattle.std.proofs.Math.ListN.{get_or-append}
use Rattle.reuse_tree.specs.Head.{IsSoundHead}
use Rattle.reuse_command.specs.declared.reply.Refusal.{Refusal}
use Rattle.reuse_command.specs.declared.reply.Refusal.TheVariants.{NoSuchStep}
use Rattle.reuse_command.specs.declared.request.Steps.{Steps}
use Rattle.reuse_command.specs.declared.request.Steps.TheVariants.{All as AllSteps, Numbers}
use Rattle.reuse_session.specs.session.Forgetting.{asked_numbers, first_absent, first_unkept, Forgets, ForgetsTo}
use Rattle.reuse_session.specs.session.Forgetting.{has_kept, has_step, IsWithoutOldest, alone, kept_besides}
use Rattle.reuse_session.specs.session.Forgetting.{numbers_asked, numbers_in, numbers_of, snapshots_besides}
use Rattle.reuse_journal.specs.Numbered.{is_one_of, all_numbers, steps_besides, state_besides}
use Rattle.reuse_journal.specs.History.{Memory}
use Rattle.reuse_journal.specs.Journal.{Recorded, State}
use Rattle.reuse_journal.specs.JournalFiles.{number_of, head_of}
use Rattle.reuse_session.specs.session.Machine.{Kept, Snapshots}
use Rattle.reuse_session.specs.session.Session.{HaveCopies, Simulates}
use Rattle.reuse_journal.specs.Remembered.{Remembers, listed_as}
use Rattle.reuse_journal.specs.declared.history.ListedEntry.{ListedEntry}
use Rattle.reuse_journal.proofs.MemoryLemmas.{reverse_map}
use Rattle.reuse_session.proofs.lemmas.session.ForgottenSteps.{one_of, is_in, filter_whole, filter_nothing}
use Rattle.reuse_session.proofs.lemmas.session.StepsByNumber.{in_map, to_map, to_reverse}

abbrev kept_number : Kept → ℕ
kept_number kept = kept.label.number

-- ---- lists

-- of distinct numbers, none is in two parts
parts_differ : (a b : List ℕ) → AllPairs (λ m n. m ≢ n) (a ++ b) → (number : ℕ) → Contains a number
    → Contains b number → ⊥
parts_differ a b distinct number h k =
    let first : get_or (a ++ b) h.0 number ≡ number = get_or-append a b number h.0 h.1 ∙ h.2 in
    let second : get_or (a ++ b) (length a + k.0) number ≡ number = get_or-append-add a b k.0 number ∙ k.2 in
    distinct h.0 (length a + k.0) number (omega (arith, h.1)) (omega (arith, k.1, length-append a b))
    (first ∙ sym second)

-- ---- a past in two parts

-- the steps whose copies are in two parts
pub record IsParted (steps : List Recorded) (recent oldest : List Kept) : Type 0 where
  pub newer : List Recorded
  pub older : List Recorded
  pub parts : steps ≡ newer ++ older
  pub have : HaveCopies newer recent
  pub numbers : map number_of older ≡ map kept_number oldest

pub same_numbers : (steps : List Recorded) (copies : List Kept) → HaveCopies steps copies
    → map number_of steps ≡ map kept_number copies
same_numbers [] [] have = refl
same_numbers [] (kept ∷ others) have = absurd have
same_numbers (step ∷ steps) [] have = absurd have
same_numbers (step ∷ steps) (kept ∷ others) have =
    ap₂ (λ n ns. n ∷ ns) (ap (λ l. l.number) (sym have.0)) (same_numbers steps others have.2)

pub parted : (steps : List Recorded) (recent oldest : List Kept) → HaveCopies steps (recent ++ oldest)
    → IsParted steps recent oldest
parted steps [] oldest have = record {
  newer = [];
  older = steps;
  parts = refl;
  have = tt;
  numbers = same_numbers steps oldest have;
}
parted [] (kept ∷ recent) oldest have = absurd have
parted (step ∷ steps) (kept ∷ recent) oldest have =
    let rest = parted steps recent oldest have.2 in
    record {
      newer = step ∷ rest.newer;
      older = rest.older;
      parts = ap (λ ss. step ∷ ss) rest.parts;
      have = (have.0, have.1, rest.have);
      numbers = rest.numbers;
    }

-- ---- the oldest steps

number_in : (steps : List Recorded) (step : Recorded) → Contains steps step
    → Contains (map number_of steps) (number_of step)
number_in steps step h = to_map number_of steps step h

module _ (numbers : List ℕ) (held : State) (state next : Snapshots) (holds : Simulates held state)
    (without : IsWithoutOldest numbers state next) (sound : IsSoundHead (head_of held.journal None)) where
  parts : IsParted held.journal.done next.past without.oldest
  parts =
      parted held.journal.done next.past without.oldest (subst (HaveCopies held.journal.done) without.past holds.past)

  -- the numbers are those of the older steps
  of_older : (number : ℕ) → Contains numbers number → Contains (map number_of parts.older) number
  of_older number h = subst (λ ns. Contains ns number) (sym parts.numbers) ((without.theirs number).0 h)

  to_older : (number : ℕ) → Contains (map number_of parts.older) number → Contains numbers number
  to_older number h = (without.theirs number).1 (subst (λ ns. Contains ns number) parts.numbers h)

  listed_done : map number_of (reverse held.journal.done) ≡ map number_of (reverse parts.older) ++ map number_of
      (reverse parts.newer)
  listed_done = ap (λ steps. map number_of (reverse steps)) parts.parts ∙ ap (map number_of)
      (reverse-append parts.newer parts.older) ∙ map-append number_of (reverse parts.older) (reverse parts.newer)

  reversed : (steps : List Recorded) (number : ℕ) → Contains (map number_of steps) number
      → Contains (map number_of (reverse steps)) number
  reversed steps number h =
      let found = in_map number_of steps number h in
      subst (Contains (map number_of (reverse steps))) (sym found.2)
      (number_in (reverse steps) found.0 (to_reverse steps found.0 found.1))

  distinct_done : AllPairs (λ m n. m ≢ n) (map number_of (reverse parts.older) ++ map number_of (reverse parts.newer))
  distinct_done = subst (AllPairs (λ m n. m ≢ n)) listed_done (λ i j d less within. front i j d less within)
    where
      front : AllPairs (λ m n. m ≢ n) (map number_of (reverse held.journal.done))
      front i j d less within same =
          let done = map number_of (reverse held.journal.done) in
          let undone = map number_of (reverse held.journal.undone) in
          sound.distinct i j d less (omega (
            arith,
            within,
            length-append (map number_of (reverse held.journal.done)) (map number_of (reverse held.journal.undone)),
          ))
          (get_or-append done undone d i (omega (arith, less, within)) ∙ same
          ∙ sym (get_or-append done undone d j within))

  -- no newer step, and none that is undone, has one of them
  not_newer : (step : Recorded) → Contains parts.newer step → not (is_one_of numbers (number_of step)) ≡ true
  not_newer step h = ap not (at (is_one_of numbers (number_of step)) refl)
    where
      at : (b : Bool) → is_one_of numbers (number_of step) ≡ b → is_one_of numbers (number_of step) ≡ false
      at false e = e
      at true e = absurd (parts_differ (map number_of (reverse parts.older))
          (map number_of (reverse parts.newer)) distinct_done (number_of step)
          (reversed parts.older (number_of step) (of_older (number_of step) (is_in numbers (number_of step) e)))
          (reversed parts.newer (number_of step) (number_in parts.newer step h)))

  not_undone : (step : Recorded) → Contains held.journal.undone step → not (is_one_of numbers (number_of step)) ≡ true
  not_undone step h = ap not (at (is_one_of numbers (number_of step)) refl)
    where
      at : (b : Bool) → is_one_of numbers (number_of step) ≡ b → is_one_of numbers (number_of step) ≡ false
      at false e = e
      at true e =
          let older =
          reversed parts.older (number_of step) (of_older (number_of step) (is_in numbers (number_of step) e)) in
          let done = subst (λ ns. Contains ns (number_of step)) (sym listed_done) (Contains-append_left
          (map number_of (reverse parts.older)) (map number_of (reverse parts.newer)) (number_of step) older) in
          absurd (parts_differ (map number_of (reverse held.journal.done))
          (map number_of (reverse held.journal.undone)) sound.distinct (number_of step) done
          (reversed held.journal.undone (number_of step) (number_in held.journal.undone step h)))

  is_older : (step : Recorded) → Contains parts.older step → not (is_one_of numbers (number_of step)) ≡ false
  is_older step h = ap not (one_of numbers (number_of step) (to_older (number_of step) (number_in parts.older step h)))

  done_left : steps_besides numbers held.journal.done ≡ parts.newer
  done_left =
      ap (steps_besides numbers) parts.parts
      ∙ filter-append (λ (step : Recorded). not (is_one_of numbers (number_of step))) parts.newer parts.older
      ∙ ap₂ (λ a b. a ++ b)
      (filter_whole (λ (step : Recorded). not (is_one_of numbers (number_of step))) parts.newer not_newer)
      (filter_nothing (λ (step : Recorded). not (is_one_of numbers (number_of step))) parts.older is_older)
      ∙ append-nil parts.newer

  undone_left : steps_besides numbers held.journal.undone ≡ held.journal.undone
  undone_left =
      filter_whole (λ (step : Recorded). not (is_one_of numbers (number_of step))) held.journal.undone not_undone

  pub holds_next : Simulates (state_besides numbers held) next
  holds_next = record {
    tree = holds.tree ∙ sym without.tree;
    past = subst (λ steps. HaveCopies steps next.past) (sym done_left) parts.have;
    future = subst (HaveCopies (steps_besides numbers held.journal.undone)) (sym without.future)
        (subst (λ steps. HaveCopies steps state.future) (sym undone_left) holds.future);
    used = holds.used ∙ sym without.used;
  }

  -- by the copies too, the next state is that without the numbers
  kept_newer : (kept : Kept) → Contains next.past kept → not (is_one_of numbers (kept_number kept)) ≡ true
  kept_newer kept h =
      let found = in_map number_of parts.newer (kept_number kept) (subst (λ ns. Contains ns (kept_number kept))
      (sym (same_numbers parts.newer next.past parts.have)) (to_map kept_number next.past kept h)) in
      subst (λ n. not (is_one_of numbers n) ≡ true) (sym found.2) (not_newer found.0 found.1)

  kept_undone : (kept : Kept) → Contains state.future kept → not (is_one_of numbers (kept_number kept)) ≡ true
  kept_undone kept h =
      let found = in_map number_of held.journal.undone (kept_number kept) (subst (λ ns. Contains ns (kept_number kept))
      (sym (same_numbers held.journal.undone state.future holds.future)) (to_map kept_number state.future kept h)) in
      subst (λ n. not (is_one_of numbers n) ≡ true) (sym found.2) (not_undone found.0 found.1)

  kept_older : (kept : Kept) → Contains without.oldest kept → not (is_one_of numbers (kept_number kept)) ≡ false
  kept_older kept h = ap not (one_of numbers (kept_number kept)
      ((without.theirs (kept_number kept)).1 (to_map kept_number without.oldest kept h)))

  past_left : kept_besides numbers state.past ≡ next.past
  past_left =
      ap (kept_besides numbers) without.past
      ∙ filter-append (λ (kept : Kept). not (is_one_of numbers kept.label.number)) next.past without.oldest
      ∙ ap₂ (λ a b. a ++ b)
      (filter_whole (λ (kept : Kept). not (is_one_of numbers kept.label.number)) next.past kept_newer)
      (filter_nothing (λ (kept : Kept). not (is_one_of numbers kept.label.number)) without.oldest kept_older)
      ∙ append-nil next.past

  future_left : kept_besides numbers state.future ≡ next.future
  future_left = filter_whole (λ (kept : Kept). not (is_one_of numbers kept.label.number)) state.future kept_undone
      ∙ sym without.future

  pub besides_is_next : snapshots_besides numbers state ≡ next
  besides_is_next = λ i. record {
    tree = sym without.tree i;
    past = past_left i;
    future = future_left i;
    used = sym without.used i;
  }

-- ---- the copies of the steps that are left

copies_besides : (numbers : List ℕ) (steps : List Recorded) (copies : List Kept) → HaveCopies steps copies
    → HaveCopies (steps_besides numbers steps) (kept_besides numbers copies)
copies_besides numbers [] [] have = tt
copies_besides numbers [] (kept ∷ others) have = absurd have
copies_besides numbers (step ∷ steps) [] have = absurd have
copies_besides numbers (step ∷ steps) (kept ∷ others) have =
    subst (λ n. HaveCopies (steps_besides numbers (step ∷ steps))
    (cond (not (is_one_of numbers n)) (kept ∷ kept_besides numbers others) (kept_besides numbers others)))
    (sym (ap (λ l. l.number) have.0))
    (by_test (is_one_of numbers (number_of step)) (copies_besides numbers steps others have.2))
  where
    by_test : (b : Bool) → HaveCopies (steps_besides numbers steps) (kept_besides numbers others)
        → HaveCopies (cond (not b) (step ∷ steps_besides numbers steps) (steps_besides numbers steps))
        (cond (not b) (kept ∷ kept_besides numbers others) (kept_besides numbers others))
    by_test true rest = rest
    by_test false rest = (have.0, have.1, rest)

any_alike : (number : ℕ) (steps : List Recorded) (copies : List Kept) → HaveCopies steps copies
    → list_any (λ (step : Recorded). number_of step == number) steps ≡ list_any
    (λ (kept : Kept). kept.label.number == number) copies
any_alike number [] [] have = refl
any_alike number [] (kept ∷ others) have = absurd have
any_alike number (step ∷ steps) [] have = absurd have
any_alike number (step ∷ steps) (kept ∷ others) have =
    ap₂ (λ n b. (n == number) || b) (sym (ap (λ l. l.number) have.0)) (any_alike number steps others have.2)

reversed_alike : (steps : List Recorded) (copies : List Kept) → HaveCopies steps copies
    → map number_of (reverse steps) ≡ map kept_number (reverse copies)
reversed_alike steps copies have =
    sym (reverse_map number_of steps) ∙ ap reverse (same_numbers steps copies have) ∙ reverse_map kept_number copies

module _ (held : State) (state : Snapshots) (holds : Simulates held state) where
  pub holds_without : (numbers : List ℕ) → Simulates (state_besides numbers held) (snapshots_besides numbers state)
  holds_without numbers = record {
    tree = holds.tree;
    past = copies_besides numbers held.journal.done state.past holds.past;
    future = copies_besides numbers held.journal.undone state.future holds.future;
    used = holds.used;
  }

  has_alike : (number : ℕ) → has_step held.journal number ≡ has_kept state number
  has_alike number = ap₂ (λ a b. a || b) (any_alike number held.journal.done state.past holds.past)
      (any_alike number held.journal.undone state.future holds.future)

  first_alike : (numbers : List ℕ) → first_absent held.journal numbers ≡ first_unkept state numbers
  first_alike numbers = λ i. find (λ number. not (has_alike number i)) numbers

  numbers_alike : numbers_in held.journal ≡ numbers_of state
  numbers_alike = ap₂ (λ a b. a ++ b) (reversed_alike held.journal.done state.past holds.past)
      (reversed_alike held.journal.undone state.future holds.future)

  pub asked_alike : (steps : Steps) → asked_numbers steps held.journal ≡ numbers_asked steps state
  asked_alike AllSteps = numbers_alike
  asked_alike (Numbers numbers) = refl

  -- forgetting follows the model
  pub forgets_to : (numbers : List ℕ) (answer : Result (List ℕ) Refusal) (left : State)
      → Forgets numbers held answer left
      → (next : Snapshots) × ForgetsTo numbers state answer next × Simulates left next
  forgets_to numbers (Ok forgotten) left forgets = (
    snapshots_besides numbers state,
    (sym (first_alike numbers) ∙ forgets.0, forgets.1, refl),
    subst (λ s. Simulates s (snapshots_besides numbers state)) (sym forgets.2) (holds_without numbers),
  )
  forgets_to numbers (Err (NoSuchStep number)) left forgets =
      (state, (sym (first_alike numbers) ∙ forgets.0, refl), subst (λ s. Simulates s state) (sym forgets.1) holds)
  forgets_to numbers (Err refusal) left forgets = absurd forgets

-- ---- no number, and all

-- without a number all stays
pub none_besides : (steps : List Recorded) → steps_besides [] steps ≡ steps
none_besides steps = filter_whole (λ (step : Recorded). not (is_one_of [] (number_of step))) steps (λ step h. refl)

pub same_besides : (held : State) → state_besides [] held ≡ held
same_besides held = λ i. record {
  tree = held.tree;
  journal = record {
    done = none_besides held.journal.done i;
    undone = none_besides held.journal.undone i;
    used = held.journal.used;
  };
}

-- without all its numbers a state has no step
pub none_kept : (state : Snapshots) → snapshots_besides (numbers_of state) state ≡ alone state
none_kept state = λ i. record {
  tree = state.tree;
  past = gone state.past (λ n h. Contains-append_left _ _ n h) i;
  future = gone state.future (λ n h. Contains-append_right _ _ n h) i;
  used = state.used;
}
  where
    gone : (steps : List Kept)
        → ((number : ℕ) → Contains (map kept_number (reverse steps)) number → Contains (numbers_of state) number)
        → kept_besides (numbers_of state) steps ≡ []
    gone steps among = filter_nothing (λ (kept : Kept). not (is_one_of (numbers_of state) kept.label.number)) steps
        (λ kept h. ap not (one_of (numbers_of state) (kept_number kept)
        (among (kept_number kept) (to_map kept_number (reverse steps) kept (to_reverse steps kept h)))))

-- all are in what is remembered
module _ (memory : Memory) (held : State) (remembers : Remembers memory held.journal) where
  in_all : (steps : List Recorded) (entries : List ListedEntry) → entries ≡ map listed_as (reverse steps)
      → ((number : ℕ) → Contains (map (λ (e : ListedEntry). e.number) entries) number
      → Contains (all_numbers memory) number)
      → steps_besides (all_numbers memory) steps ≡ []
  in_all steps entries are among =
      filter_nothing (λ (step : Recorded). not (is_one_of (all_numbers memory) (number_of step))) steps (λ step h.
      let there = subst (λ es. Contains es (listed_as step)) (sym are)
      (to_map listed_as (reverse steps) (step) (to_reverse steps step h)) in
      ap not (one_of (all_numbers memory) (number_of step)
      (among (number_of step) (to_map (λ (e : ListedEntry). e.number) entries (listed_as step) there))))

  pub holds_alone : (state : Snapshots) → Simulates held state
      → Simulates (state_besides (all_numbers memory) held) (alone state)
  holds_alone state holds = record {
    tree = holds.tree;
    past = subst (λ steps. HaveCopies steps [])
        (sym (in_all held.journal.done memory.done remembers.done (λ number h. Contains-append_left _ _ number h))) tt;
    future = subst (λ steps. HaveCopies steps []) (sym (in_all held.journal.undone memory.undone remembers.undone
        (λ number h. Contains-append_right _ _ number h))) tt;
    used = holds.used;
  }
