-- A step that is found pending: the state of the model to which it leads.
use Rattle.std.proofs.Common.{◌≡◌, inl, inr, ◌+◌, Bool, true, false, cond, List, [], ◌∷◌, ℕ, Option, Some}
use Rattle.std.proofs.Common.{None, IsSome, IsTrue, is_some, get_or, refl, sym, ap, subst, ◌∙◌}
use Rattle.std.specs.FinMap.{get, retain_keys, get-retain_keys, slice_cmp-IsAntisymmetric, nat_cmp-IsAntisymmetric}
use Rattle.std.proofs.lemmas.Bool.{false≢true}
use Rattle.reuse_change.specs.Change.{path_of}
use Rattle.reuse_change.specs.Entry.{touches, AppliesBy, IsEntry, LeadsAll}
use Rattle.reuse_change.specs.Files.{Files, AreFiles}
use Rattle.reuse_change.specs.Path.{is_path}
use Rattle.reuse_change.specs.declared.change.Change.{Change}
use Rattle.reuse_change.specs.declared.direction.Direction.TheVariants as go
use Rattle.reuse_change.proofs.Differ.{touching}
use Rattle.reuse_change.proofs.Walk.{touched}
use Rattle.reuse_json.specs.EntryText.{HavePaths}
use Rattle.reuse_json.specs.declared.entry.Entry.{Entry}
use Rattle.reuse_tree.specs.declared.journal.head.PendingDirection.{PendingDirection}
use Rattle.reuse_tree.specs.declared.journal.head.PendingDirection.TheVariants as pending
use Rattle.reuse_journal.specs.CommittedState.{IsStep}
use Rattle.reuse_journal.specs.Journal.{Recorded, State}
use Rattle.reuse_journal.specs.JournalFiles.{entry_in, entry_path, number_of, EntrySays, IsKeptIn}
use Rattle.reuse_journal.proofs.JournalLemmas.{entry_good}
use Rattle.reuse_session.specs.session.Found.{IsOneStepFrom, moved}
use Rattle.reuse_session.specs.session.Machine.{Connects, Kept, Snapshots}
use Rattle.reuse_session.specs.session.Session.{HaveCopies, Simulates}

-- ---- the files that changes touch

-- the files at the paths of the changes alone
abbrev touched_in : List Change → Files → Files
touched_in changes files = retain_keys files (touches changes)

module _ (changes : List Change) (files : Files) where
  at_path : (path : List ℕ) → get (touched_in changes files) path ≡ cond (touches changes path) (get files path) None
  at_path path = get-retain_keys files (touches changes) path
      (λ x e. ap (touches changes) (sym (slice_cmp-IsAntisymmetric nat_cmp-IsAntisymmetric path x e)))

  here : (path : List ℕ) → touches changes path ≡ true → get (touched_in changes files) path ≡ get files path
  here path is = at_path path ∙ ap (λ b. cond b (get files path) None) is

  elsewhere : (path : List ℕ) → touches changes path ≡ false → get (touched_in changes files) path ≡ None
  elsewhere path none = at_path path ∙ ap (λ b. cond b (get files path) None) none

  is_touched : (path : List ℕ) → IsSome (get (touched_in changes files) path) → touches changes path ≡ true
  is_touched path some = by_test (touches changes path) refl
    where
      by_test : (b : Bool) → touches changes path ≡ b → touches changes path ≡ true
      by_test true is = is
      by_test false none = absurd (false≢true (sym (ap is_some (elsewhere path none)) ∙ some))

  touched_are_files : IsEntry changes → HavePaths changes → AreFiles (touched_in changes files)
  touched_are_files good paths = record {
    are_paths = λ path some. let found = touching changes path (is_touched path some) in
        subst (λ p. IsTrue (is_path p)) (sym found.3) (paths found.0 found.1 found.2);
    apart = λ path some clash. false≢true
        (sym (good.apart path clash.other (is_touched path some) (is_touched clash.other clash.is_file))
        ∙ clash.nested);
  }

-- the changes lead from the one part to the other
connects_touched : (changes : List Change) (before after : Files) → IsEntry changes → HavePaths changes
    → LeadsAll changes before after → Connects changes (touched_in changes before) (touched_in changes after)
connects_touched changes before after good paths leads = record {
  good = good;
  leads = record {
    each = λ k d within. let path = path_of (get_or changes k d) in let is = touched changes good k d within in
        subst (λ f. AppliesBy go.Forward (get_or changes k d) f (get (touched_in changes after) path))
        (sym (here changes before path is))
        (subst (λ f. AppliesBy go.Forward (get_or changes k d) (get before path) f) (sym (here changes after path is))
        (leads.each k d within));
    others = λ path none. elsewhere changes after path none ∙ sym (elsewhere changes before path none);
  };
  are_files = (touched_are_files changes before good paths, touched_are_files changes after good paths);
}

entry_paths : (file : Option (List ℕ)) (entry : Entry) → EntrySays file entry → HavePaths entry.changes
entry_paths None entry says = absurd says
entry_paths (Some text) entry says = says.paths

-- ---- the copies of a step

abbrev HasCopiesOfFirst : Recorded → List Recorded → List Kept → Type 0
HasCopiesOfFirst step steps copies = (kept : Kept) × (others : List Kept) × (copies ≡ kept ∷ others)
    × (kept.label ≡ step.label) × Connects step.changes kept.before kept.after × HaveCopies steps others

first_copy : (step : Recorded) (steps : List Recorded) (copies : List Kept) → HaveCopies (step ∷ steps) copies
    → HasCopiesOfFirst step steps copies
first_copy step steps [] have = absurd have
first_copy step steps (kept ∷ others) have = (kept, others, refl, have.0, have.1, have.2)

-- ---- the state to which it leads

module _ (held next : State) (state : Snapshots) (holds : Simulates held state) (step : Recorded) where
  abbrev LeadsOn : Type 0
  LeadsOn = (other : Snapshots) × IsOneStepFrom state other × Simulates next other

  new_step : (folder : Files) → IsKeptIn folder step → IsStep pending.Do step held next → LeadsOn
  new_step folder is_kept is_step =
      let file = get folder (entry_path (number_of step)) in
      let kept : Kept = record {
        label = step.label;
        before = touched_in step.changes held.tree;
        after = touched_in step.changes next.tree;
      } in
      let connects = connects_touched step.changes held.tree next.tree (entry_good file (entry_in step) is_kept)
      (entry_paths file (entry_in step) is_kept) is_step.leads in
      let journal = is_step.transition.1 in (
        record { tree = next.tree; past = kept ∷ state.past; future = []; used = state.used + 1 },
        (kept, inl (is_step.transition.0 ∙ ap (λ n. n + 1) holds.used, refl)),
        record {
          tree = refl;
          past = subst (λ j. HaveCopies j.done (kept ∷ state.past)) (sym journal) (refl, connects, holds.past);
          future = subst (λ j. HaveCopies j.undone []) (sym journal) tt;
          used = ap (λ j. j.used) journal ∙ ap (λ n. n + 1) holds.used;
        },
      )

  undone_step : IsStep pending.Undo step held next → LeadsOn
  undone_step is_step =
      let to = is_step.transition in
      let first = first_copy step to.0 state.past (subst (λ steps. HaveCopies steps state.past) to.1 holds.past) in (
        moved go.Backward first.0 first.1 state next.tree,
        (first.0, inr (go.Backward, first.1, first.2, refl)),
        record {
          tree = refl;
          past = subst (λ j. HaveCopies j.done first.1) (sym to.2) first.5;
          future = subst (λ j. HaveCopies j.undone (first.0 ∷ state.future)) (sym to.2)
              (first.3, first.4, holds.future);
          used = ap (λ j. j.used) to.2 ∙ holds.used;
        },
      )

  redone_step : IsStep pending.Redo step held next → LeadsOn
  redone_step is_step =
      let to = is_step.transition in
      let first = first_copy step to.0 state.future
      (subst (λ steps. HaveCopies steps state.future) to.1 holds.future) in (
        moved go.Forward first.0 first.1 state next.tree,
        (first.0, inr (go.Forward, first.1, first.2, refl)),
        record {
          tree = refl;
          past = subst (λ j. HaveCopies j.done (first.0 ∷ state.past)) (sym to.2) (first.3, first.4, holds.past);
          future = subst (λ j. HaveCopies j.undone first.1) (sym to.2) first.5;
          used = ap (λ j. j.used) to.2 ∙ holds.used;
        },
      )

  pub leads_on : (direction : PendingDirection) (folder : Files) → IsKeptIn folder step
      → IsStep direction step held next → LeadsOn
  leads_on pending.Do folder is_kept is_step = new_step folder is_kept is_step
  leads_on pending.Undo folder is_kept is_step = undone_step is_step
  leads_on pending.Redo folder is_kept is_step = redone_step is_step
