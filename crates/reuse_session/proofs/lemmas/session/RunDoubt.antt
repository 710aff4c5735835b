-- What a loss of power leaves of a run, from the entry that it puts and the step that it makes.
use Rattle.std.proofs.Common.{◌≡◌, ⊎_elim, ℕ, ◌+◌, true, false, List, Option, None, length, sym, subst, ◌∙◌}
use Rattle.reuse_store.specs.Asked.{Leaves, IsSynced, MaySet}
use Rattle.reuse_change.specs.Entry.{IsEntry}
use Rattle.reuse_json.specs.EntryText.{is_any_sealed}
use Rattle.reuse_change.specs.Files.{Files, tree_of}
use Rattle.reuse_json.specs.Format.{knows}
use Rattle.reuse_change.specs.Tree.{undo_folder_of, Sets}
use Rattle.reuse_change.specs.declared.change.Change.{Change}
use Rattle.reuse_json.specs.declared.entry.Entry.{Entry}
use Rattle.reuse_store.specs.declared.store.Store.{Ghosts}
use Rattle.reuse_session.specs.session.Calls.{files_of}
use Rattle.reuse_journal.specs.Journal.{Recorded, State}
use Rattle.reuse_journal.specs.JournalFiles.{entry_path, EntrySays, IsKeptIn}
use Rattle.reuse_journal.specs.Losses.{AllRecoverToTree, Earlier}
use Rattle.reuse_journal.specs.Labels.{is_full}
use Rattle.reuse_session.specs.session.Session.{store_of, SimulatesState}
use Rattle.reuse_command.specs.declared.command.Command.{Command}
use Rattle.reuse_session.specs.declared.session.Session.{Session}
use Rattle.reuse_journal.proofs.HeadTransition.{below}
use Rattle.reuse_journal.proofs.JournalLemmas.{sound_head}
use Rattle.reuse_session.proofs.lemmas.session.Recording.{EntryPut, known}
use Rattle.reuse_session.proofs.lemmas.session.Running.{full_alike}
use Rattle.reuse_session.proofs.lemmas.journal.StepDoubt.{safe_with_entry}
use Rattle.reuse_session.proofs.lemmas.journal.Stepping.{step_of, second_of, run_step}

-- the step's entry is in all that may be left where that is what is there
pub has_entry : {S : Type 0} (store : Ghosts S) (new : S) (step : Recorded)
    → IsKeptIn (undo_folder_of (store.files new)) step → IsSynced store new
    → Leaves store new (λ left. IsKeptIn (undo_folder_of left) step)
has_entry store new step kept synced left is =
    subst (λ files. IsKeptIn (undo_folder_of files) step) (sym (synced left is)) kept

-- where the entry was put or not, what was safe is
pub put_is_safe : {S : Type 0} {store : Ghosts S} {old : Session S} {command : Command} {when : ℕ} {changes : List
    Change} {put : S} {number : ℕ} {entry : Entry} (p : EntryPut store old command when changes put number entry)
    → store.honest put → (earlier : Earlier) (held : State) → SimulatesState store.files old held
    → AllRecoverToTree store earlier held (store_of old)
    → (IsEntry entry.changes → knows (is_any_sealed entry.changes) entry.command ≡ true
    → MaySet store (entry_path (number + 1)) (λ file. EntrySays file entry) (store_of old) put)
    → AllRecoverToTree store earlier held put
put_is_safe {S} {store} {old} {command} {when} {changes} {put} {number} {entry} p honest earlier held stands
    safe sets left is =
    let plan = p.planned (p.was_honest honest) in
    let step = step_of command when held changes in
    let second = second_of command when held changes plan.plan.after in
    let is_new =
    run_step command when held changes (tree_of (files_of store old)) stands.committed.tree plan.plan plan.entry in
    let used : number ≡ held.journal.used = p.is_number ∙ stands.remembers.used in
    let full : is_full (length held.journal.done) held.journal.used ≡ false =
    full_alike store.files old held stands ∙ p.room in
    let good : IsEntry entry.changes = subst (λ (e : Entry). IsEntry e.changes) (sym p.is_entry) plan.entry in
    ⊎_elim (λ was. safe left was)
    (λ (made : (was : Files) × store.crash_states (store_of old) was × (file : Option (List ℕ)) × EntrySays file entry
    × Sets (entry_path (number + 1)) file was left).
    safe_with_entry earlier held second step made.0 left is_new
    (below (length held.journal.done) held.journal.used full).1 stands.committed.good
    (sound_head (undo_folder_of (files_of store old)) held.journal None stands.committed.journal) made.2
    (subst (EntrySays made.2) p.is_entry made.3) (subst (λ n. Sets (entry_path (n + 1)) made.2 made.0 left) used made.4)
    (safe made.0 made.1))
    (sets good (known p honest) left is)
