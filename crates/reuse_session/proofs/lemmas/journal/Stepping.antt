-- A step from one committed state to the next: its heads, and what is remembered then.
use Rattle.std.proofs.Common.{◌≡◌, ℕ, ◌+◌, false, List, [], ◌∷◌, ◌++◌, length, map, reverse, get_or, Some, None, Ok}
use Rattle.std.proofs.Common.{refl, sym, ap, subst, ◌∙◌, append_assoc}
use Rattle.std.proofs.lemmas.List.{map-append, reverse-append}
use Rattle.std.proofs.Math.Seq.{get_or-append_seam}
use Rattle.reuse_change.specs.Files.{Files}
use Rattle.reuse_change.specs.declared.change.Change.{Change}
use Rattle.reuse_command.specs.Command.{name_of}
use Rattle.reuse_change.specs.Entry.{IsEntry, LeadsBy}
use Rattle.reuse_tree.specs.Head.{direction_of, IsGoodHead, IsSoundHead}
use Rattle.reuse_journal.specs.History.{Memory, head_listing, remember_run, remember_moved}
use Rattle.reuse_journal.specs.Journal.{Recorded, Journal, State, moved_on}
use Rattle.reuse_journal.specs.JournalFiles.{head_of, number_of}
use Rattle.reuse_journal.specs.Labels.{is_full}
use Rattle.reuse_plan.specs.Outcome.{edits_of, outcome_of}
use Rattle.reuse_plan.specs.Plan.{IsPlan, Records}
use Rattle.reuse_session.specs.session.Session.{IsRun, IsStepOf}
use Rattle.reuse_journal.specs.Remembered.{listed_as, Remembers}
use Rattle.reuse_journal.specs.CommittedState.{IsCommittedState, IsStep}
use Rattle.reuse_change.specs.Tree.{undo_folder_of}
use Rattle.reuse_command.specs.declared.command.Command.{Command}
use Rattle.reuse_change.specs.declared.direction.Direction.{Direction}
use Rattle.reuse_change.specs.declared.direction.Direction.TheVariants as go
use Rattle.reuse_journal.specs.declared.history.ListedEntry.{ListedEntry}
use Rattle.reuse_tree.specs.declared.journal.head.Pending.{Pending}
use Rattle.reuse_tree.specs.declared.journal.head.PendingDirection.TheVariants.{Do}
use Rattle.reuse_command.specs.Answer.{HasClash}
use Rattle.reuse_store.specs.declared.cause.Cause.{Cause}
use Rattle.reuse_store.specs.declared.cause.Cause.TheVariants as causes
use Rattle.reuse_command.specs.declared.failure.Failure.TheVariants.{Interrupted}
use Rattle.reuse_command.specs.declared.reply.Refusal.TheVariants.{Failed}
use Rattle.reuse_journal.proofs.HeadTransition.{sound_pending, sound_moved}
use Rattle.reuse_journal.proofs.JournalLemmas.{sound_head}
use Rattle.reuse_journal.proofs.MemoryLemmas.{listing_of}

-- ---- a run

-- the step of a run
abbrev pub step_of : Command → ℕ → State → List Change → Recorded
step_of command when held changes = record {
  label = record { number = held.journal.used + 1; when = when; command = name_of command };
  changes = changes;
}

-- the committed state after it
abbrev pub second_of : Command → ℕ → State → List Change → Files → State
second_of command when held changes after = record {
  tree = after;
  journal = record {
    done = step_of command when held changes ∷ held.journal.done;
    undone = [];
    used = held.journal.used + 1;
  };
}

module _ (command : Command) (when : ℕ) (held : State) (changes : List Change) (tree : Files) (same : tree ≡ held.tree)
    (plan : IsPlan (outcome_of command tree) tree changes) (entry : IsEntry changes) where
  pub run_step : IsStep Do (step_of command when held changes) held (second_of command when held changes plan.after)
  run_step = record {
    leads = subst (λ t. LeadsBy (direction_of Do) changes t plan.after) same plan.leads;
    transition = (refl, refl);
  }

  pub is_run : Records tree (edits_of command tree) changes
      → is_full (length held.journal.done) held.journal.used ≡ false
      → IsRun command when held (second_of command when held changes plan.after)
  is_run records room = record {
    step = step_of command when held changes;
    label = refl;
    room = room;
    outcome = subst (λ t. outcome_of command t ≡ Ok plan.after) same plan.outcome;
    entry = entry;
    recorded = subst (λ t. Records t (edits_of command t) changes) same records;
    are_files = plan.are_files;
    is_step = run_step;
  }

-- ---- what is remembered

-- one more entry at the end
pub listed_more : (steps : List Recorded) (step : Recorded)
    → map listed_as (reverse (step ∷ steps)) ≡ map listed_as (reverse steps) ++ listed_as step ∷ []
listed_more steps step =
    ap (map listed_as) (reverse-append (step ∷ []) steps) ∙ map-append listed_as (reverse steps) (step ∷ [])

pub remembers_run : (memory : Memory) (journal : Journal) (step : Recorded) (entry : ListedEntry)
    → Remembers memory journal → entry ≡ listed_as step
    → Remembers (remember_run memory entry)
    (record { done = step ∷ journal.done; undone = []; used = journal.used + 1 })
remembers_run memory journal step entry r is = record {
  done = ap (λ es. es ++ entry ∷ []) r.done ∙ ap (λ e. map listed_as (reverse journal.done) ++ e ∷ []) is
      ∙ sym (listed_more journal.done step);
  undone = refl;
  used = ap (λ n. n + 1) r.used;
}

-- the next entry this way moves from the end of its list to that of the other
pub remembers_moved : (direction : Direction) (memory : Memory) (journal : Journal) (step : Recorded)
    (steps : List Recorded) (entry : ListedEntry) (front : List ListedEntry) → Remembers memory journal
    → entry ≡ listed_as step → front ≡ map listed_as (reverse steps)
    → Remembers (remember_moved direction front entry memory) (moved_on direction step steps journal)
remembers_moved go.Backward memory journal step steps entry front r is rest = record {
  done = rest;
  undone = ap (λ es. es ++ entry ∷ []) r.undone ∙ ap (λ e. map listed_as (reverse journal.undone) ++ e ∷ []) is
      ∙ sym (listed_more journal.undone step);
  used = r.used;
}
remembers_moved go.Forward memory journal step steps entry front r is rest = record {
  done = ap (λ es. es ++ entry ∷ []) r.done ∙ ap (λ e. map listed_as (reverse journal.done) ++ e ∷ []) is
      ∙ sym (listed_more journal.done step);
  undone = rest;
  used = r.used;
}

-- ---- the numbers of listed steps

pub last_number : (steps : List Recorded) (step : Recorded) (behind : List ℕ) → get_or
    (map number_of (reverse (step ∷ steps)) ++ behind) (length (map number_of (reverse steps))) 0 ≡ number_of step
last_number steps step behind =
    ap (λ ns. get_or (ns ++ behind) (length (map number_of (reverse steps))) 0)
    (ap (map number_of) (reverse-append (step ∷ []) steps) ∙ map-append number_of (reverse steps) (step ∷ []))
    ∙ ap (λ ns. get_or ns (length (map number_of (reverse steps))) 0)
    (append_assoc (map number_of (reverse steps)) (number_of step ∷ []) behind)
    ∙ get_or-append_seam (map number_of (reverse steps)) (number_of step) behind 0

-- ---- the heads of a step

module _ (memory : Memory) (files : Files) (first second : State) (committed : IsCommittedState files first)
    (remembers : Remembers memory first.journal) {made : List Change} {pending : Pending} {moved : Memory}
    (is : IsStepOf (undo_folder_of files) made pending moved first second) where
  -- the head before it
  sound_first : IsSoundHead (head_of first.journal None)
  sound_first = sound_head (undo_folder_of files) first.journal None committed.journal

  pending_is : pending ≡ record { entry = number_of is.step; direction = pending.direction }
  pending_is = λ i. record { entry = is.number i; direction = pending.direction }

  pub sound_between : IsSoundHead (head_listing memory (Some pending))
  sound_between =
      subst IsSoundHead (sym (listing_of memory first.journal (Some pending) remembers))
      (subst (λ p. IsSoundHead (head_of first.journal (Some p))) (sym pending_is)
      (sound_pending first.journal second.journal pending.direction is.step sound_first is.is_step.transition is.low))

  pub good_between : (text : List ℕ)
      → (IsSoundHead (head_listing memory (Some pending)) → IsGoodHead text (head_listing memory (Some pending)))
      → IsGoodHead text
      (head_of first.journal (Some (record { entry = number_of is.step; direction = pending.direction })))
  good_between text good =
      subst (λ p. IsGoodHead text (head_of first.journal (Some p))) pending_is
      (subst (IsGoodHead text) (listing_of memory first.journal (Some pending) remembers) (good sound_between))

  pub sound_second : IsSoundHead (head_listing moved None)
  sound_second = subst IsSoundHead (sym (listing_of moved second.journal None is.remembers))
      (sound_moved first.journal second.journal pending.direction is.step sound_first is.is_step.transition is.room)

  pub good_second : (text : List ℕ)
      → (IsSoundHead (head_listing moved None) → IsGoodHead text (head_listing moved None))
      → IsGoodHead text (head_of second.journal None)
  good_second text good =
      subst (IsGoodHead text) (listing_of moved second.journal None is.remembers) (good sound_second)

-- ---- causes

-- a stop that reports a clash only of the head, and no file that has moved
pub stop_clash : (entry head : Type 0) (cause : Cause) → (cause ≡ causes.Moved → ⊥) → (cause ≡ causes.Clash → head)
    → HasClash entry head (Failed (Interrupted cause))
stop_clash entry head causes.Memory moved clash = tt
stop_clash entry head causes.Device moved clash = tt
stop_clash entry head causes.Moved moved clash = moved refl
stop_clash entry head causes.Clash moved clash = clash refl
