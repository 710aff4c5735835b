-- What would change leads from the tree as it is to that which the call would leave.
use Rattle.std.proofs.Common.{◌≡◌, ◌↔◌, inl, inr, ◌∙◌, ℕ, Bool, true, false, not, List, [], ◌∷◌, ◌++◌, Option, Some}
use Rattle.std.proofs.Common.{None, Result, Ok, Err, refl, sym, ap, subst, arith}
use Rattle.std.specs.Cmp.Lexicographic.{slice_cmp}
use Rattle.std.specs.FinMap.{get, keys, entries, from_entries, retain_keys, contains_key-keys}
use Rattle.std.specs.Ordering.{nat_cmp}
use Rattle.std.specs.Str.{bytes_eq}
use Rattle.std.proofs.lemmas.Bool.{false≢true}
use Rattle.std.proofs.lemmas.Slice.Eq.{bytes_eq-Decides}
use Rattle.reuse_change.specs.Entry.{paths_of, IsEntry, LeadsAll, LeadsBy}
use Rattle.reuse_change.specs.Files.{Files}
use Rattle.reuse_change.specs.Tree.{same_file, changed_paths, undo_folder_of}
use Rattle.reuse_change.specs.declared.change.Change.{Change}
use Rattle.reuse_json.specs.declared.entry.Entry.{Entry}
use Rattle.reuse_change.specs.declared.direction.Direction.{Direction}
use Rattle.reuse_change.specs.declared.direction.Direction.TheVariants as go
use Rattle.reuse_change.proofs.Differ.{changed_by_entry, changed_by_none, only_keys}
use Rattle.reuse_store.proofs.DifferingPaths.{among_changed, changed_ascend}
use Rattle.reuse_store.proofs.TreeLemmas.{among_keys}
use Rattle.reuse_journal.specs.Journal.{Recorded, State, changes_ahead, Replays}
use Rattle.reuse_journal.specs.JournalFiles.{entry_in, entry_path}
use Rattle.reuse_plan.specs.Outcome.{outcome_of}
use Rattle.reuse_plan.specs.Plan.{IsPlan}
use Rattle.reuse_session.specs.session.RevertCalls.{touched_later, GivesRevert, Reverts}
use Rattle.reuse_session.specs.session.Requests.{Makes, as_answer}
use Rattle.reuse_session.specs.session.Session.{store_of, Runs, SimulatesState}
use Rattle.reuse_command.specs.declared.request.Call.TheVariants as calls
use Rattle.reuse_command.specs.declared.command.Command.{Command}
use Rattle.reuse_command.specs.declared.command.Command.TheVariants.{Revert}
use Rattle.reuse_command.specs.declared.reply.Refusal.{Refusal}
use Rattle.reuse_command.specs.declared.reply.Response.{Response}
use Rattle.reuse_command.specs.declared.reply.Response.TheVariants as responses
use Rattle.reuse_command.specs.declared.reply.Response.TheVariants.{Changed, NothingChanged}
use Rattle.reuse_command.specs.declared.reply.Reverted.{Reverted}
use Rattle.reuse_session.specs.declared.session.Session.{Session}
use Rattle.reuse_journal.proofs.JournalLemmas.{same_entry}
use Rattle.reuse_session.proofs.lemmas.session.StepsByNumber.{says_step}
use Rattle.reuse_report.specs.Drawn.{LeadsAsPreviewed}
use Rattle.reuse_report.specs.declared.drawn.PlannedChanges.{PlannedChanges}

-- ---- the paths at which two trees differ, either way

same_truth : (b c : Bool) → (b ≡ true ↔ c ≡ true) → b ≡ c
same_truth true true h = refl
same_truth true false h = absurd (false≢true (h.0 refl))
same_truth false true h = absurd (false≢true (h.1 refl))
same_truth false false h = refl

same_file_back : (f g : Option (List ℕ)) → same_file f g ≡ same_file g f
same_file_back None None = refl
same_file_back None (Some y) = refl
same_file_back (Some x) None = refl
same_file_back (Some x) (Some y) =
    same_truth (bytes_eq x y) (bytes_eq y x) (
      λ e. (bytes_eq-Decides y x).1 (sym ((bytes_eq-Decides x y).0 e)),
      λ e. (bytes_eq-Decides x y).1 (sym ((bytes_eq-Decides y x).0 e)),
    )

module _ (before after : Files) where
  pub changed_back : changed_paths before after ≡ changed_paths after before
  unfolding changed_paths
  changed_back =
      let there = retain_keys (from_entries {R = slice_cmp nat_cmp} (entries before ++ entries after))
      (λ path. not (same_file (get before path) (get after path))) in
      let back = retain_keys (from_entries {R = slice_cmp nat_cmp} (entries after ++ entries before))
      (λ path. not (same_file (get after path) (get before path))) in
      only_keys there (keys back) (changed_ascend after before) (λ path.
      sym (among_keys there path) ∙ among_changed before after path ∙ ap not
      (same_file_back (get before path) (get after path)) ∙ sym (among_changed after before path) ∙ among_keys back path
      ∙ contains_key-keys back path)

-- ---- a run

-- a run that is accepted leaves the tree of its outcome
pub ran_to : (command : Command) (when : ℕ) (held : State) (reply : Response) (new : State)
    → Runs command when held (Ok reply) new → outcome_of command held.tree ≡ Ok new.tree
ran_to command when held (Changed paths left) new runs = runs.1.outcome
ran_to command when held (NothingChanged left) new runs = runs.1 ∙ ap (λ (held : State). Ok held.tree) (sym runs.2)
ran_to command when held reply new runs = absurd runs

-- an outcome is one tree
abbrev outcome_is : Files → Result Files Refusal
outcome_is tree = Ok tree

one_outcome : (one other : Files) → outcome_is one ≡ outcome_is other → one ≡ other
one_outcome one other is = cc

-- changes that are gone through this way
abbrev pub going : Direction → List Change → PlannedChanges
going direction changes = record { changes = changes; direction = direction }

-- and the changes that were planned lead there
pub plan_previews : (outcome : Result Files Refusal) (before after : Files) (changes : List Change)
    → IsPlan outcome before changes → outcome ≡ Ok after → LeadsAsPreviewed (going go.Forward changes) before after
plan_previews outcome before after changes plan is =
    let leads = subst (LeadsAll changes before) (one_outcome plan.after after (sym plan.outcome ∙ is)) plan.leads in
    elim plan.good [
      | inl none ↦ none_previews changes none leads
      | inr entry ↦ record {
        leads = record { small = entry.small; leads = leads };
        paths = changed_by_entry changes before after entry leads;
      }
    ]
  where
    none_previews : (changes : List Change) → changes ≡ [] → LeadsAll changes before after
        → LeadsAsPreviewed (going go.Forward changes) before after
    none_previews [] none leads = record {
      leads = record { small = λ k d low. absurd (omega (arith, low)); leads = leads };
      paths = changed_by_none before after leads;
    }
    none_previews (change ∷ rest) none leads = absurd (cc)

-- ---- a step

back_leads : (changes : List Change) (before after : Files) → LeadsBy go.Backward changes before after
    → LeadsAll changes after before
back_leads changes before after leads = record { each = leads.each; others = λ path none. sym (leads.others path none) }

step_paths : (direction : Direction) (changes : List Change) (before after : Files) → IsEntry changes
    → LeadsBy direction changes before after → changed_paths before after ≡ paths_of changes
step_paths go.Forward changes before after entry leads = changed_by_entry changes before after entry leads
step_paths go.Backward changes before after entry leads =
    changed_back before after ∙ changed_by_entry changes after before entry (back_leads changes before after leads)

-- an undo or a redo that is accepted has a step to go on with, and its changes lead there
pub replay_previews : (direction : Direction) (steps : List Recorded) (held : State) (reply : Response) (new : State)
    (changes : List Change) → Replays direction steps held (Ok reply) new
    → changes_ahead steps ≡ Some changes → IsEntry changes
    → LeadsAsPreviewed (going direction changes) held.tree new.tree
replay_previews direction [] held reply new changes replays next entry = absurd (cc)
replay_previews direction (step ∷ steps) held reply new changes replays next entry =
    let leads =
    subst (λ made. LeadsBy direction made held.tree new.tree) (some_changes step.changes changes next) replays.2 in
    record {
      leads = record { small = entry.small; leads = leads };
      paths = step_paths direction changes held.tree new.tree entry leads;
    }
  where
    some_changes : (one other : List Change) → Some one ≡ Some other → one ≡ other
    some_changes one other is = cc

-- ---- a revert

-- a reply, as an answer
abbrev answered : Response → Result Response Refusal
answered reply = Ok reply

-- the steps done have one changes list for each number, so the command is that of the revert that would be made
pub reverted_to : {S : Type 0} (files : S → Files) (session : Session S) (held : State)
    → SimulatesState files session held → (number : ℕ) (skip_moved : Bool) (command : Command)
    → GivesRevert number skip_moved held (Ok command) → (when : ℕ) (reverted : Reverted) (new : State)
    → Reverts number skip_moved when held (Ok reverted) new
    → outcome_of command held.tree ≡ Ok new.tree
reverted_to files session held stands number skip_moved command back when reverted new takes =
    let folder = undo_folder_of (files (store_of session)) in
    let keeps = stands.committed.journal in
    let same =
    same_entry (get folder (entry_path number)) (entry_in back.0) (entry_in takes.step)
    (says_step folder held.journal keeps true back.0 number back.1 back.2)
    (says_step folder held.journal keeps true takes.step number takes.is_done takes.numbered) in
    let ran = ran_to (Revert takes.step.changes (touched_later number held.journal.done takes.step.changes) skip_moved)
    when held _ new takes.runs in
    ap (λ made. outcome_of made held.tree) back.3
    ∙ ap (λ (entry : Entry). outcome_of
    (Revert entry.changes (touched_later number held.journal.done entry.changes) skip_moved) held.tree) same ∙ ran

-- the same of the reply
pub reverts_to : {S : Type 0} (files : S → Files) (session : Session S) (held : State)
    → SimulatesState files session held → (number : ℕ) (skip_moved : Bool) (command : Command)
    → GivesRevert number skip_moved held (Ok command) → (when : ℕ) (reply : Response) (new : State)
    → Makes (calls.Revert number skip_moved) when held (Ok reply) new → outcome_of command held.tree ≡ Ok new.tree
reverts_to files session held stands number skip_moved command back when reply new (reverted, is, reverts) =
    by_reverted reverted is reverts
  where
    by_reverted : (reverted : Result Reverted Refusal) → answered reply ≡ as_answer responses.Reverted reverted
        → Reverts number skip_moved when held reverted new → outcome_of command held.tree ≡ Ok new.tree
    by_reverted (Ok done) is reverts =
        reverted_to files session held stands number skip_moved command back when done new reverts
    by_reverted (Err refusal) is reverts = absurd (cc)
