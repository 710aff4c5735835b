-- What a revert answers and leaves, from the run that it makes.
use Rattle.std.proofs.Common.{◌≡◌, ◌≢◌, ◌⊎◌, inl, inr, ℕ, Bool, true, false, List, [], ◌∷◌, Result, Ok, Err, IfOk}
use Rattle.std.proofs.Common.{IfErr, refl, sym, ap, ap₂, subst, ◌∙◌}
use Rattle.std.specs.List.{Contains}
use Rattle.std.specs.List.Sorted.{IsStrictlySortedBy}
use Rattle.std.specs.FinMap.{get}
use Rattle.reuse_change.specs.Files.{Files}
use Rattle.reuse_change.specs.declared.change.Change.{Change}
use Rattle.reuse_command.specs.declared.failure.Fault.TheVariants as faults
use Rattle.reuse_store.specs.declared.store.Store.{Ghosts}
use Rattle.reuse_command.specs.Answer.{IsNoClash, IsReadRefusal, IsRunAnswer, RefusedAsRead, DidNotFail}
use Rattle.reuse_session.specs.session.Calls.{folder_of, LeavesRun}
use Rattle.reuse_change.specs.Entry.{paths_of}
use Rattle.reuse_journal.specs.Journal.{State}
use Rattle.reuse_journal.specs.JournalFiles.{entry_path, EntrySays}
use Rattle.reuse_change.specs.Listing.{ArePaths}
use Rattle.reuse_session.specs.session.Machine.{Snapshots}
use Rattle.reuse_session.specs.session.RevertCalls.{changed_or_none, as_run, left_of, touched_later, changed_later}
use Rattle.reuse_session.specs.session.RevertCalls.{IsBackOf, LeavesRevert, Reverts, RevertFollows, TakesBack}
use Rattle.reuse_session.specs.session.Session.{store_of, memory_of, SimulatesState, SimulatesInSession, Runs}
use Rattle.reuse_session.specs.session.Showing.{IsUnused}
use Rattle.reuse_journal.specs.Numbered.{lists}
use Rattle.reuse_command.specs.declared.command.Command.{Command}
use Rattle.reuse_command.specs.declared.command.Command.TheVariants.{Revert}
use Rattle.reuse_json.specs.declared.entry.Entry.{Entry}
use Rattle.reuse_command.specs.declared.reply.Refusal.{Refusal}
use Rattle.reuse_command.specs.declared.failure.Failure.TheVariants.{Fault}
use Rattle.reuse_command.specs.declared.reply.Refusal.TheVariants.{BadJournal, JournalFull, NoSuchStep, Failed}
use Rattle.reuse_command.specs.declared.reply.Response.{Response}
use Rattle.reuse_command.specs.declared.reply.Reverted.{Reverted}
use Rattle.reuse_session.specs.declared.session.Session.{Session}
use Rattle.reuse_store.proofs.DifferingPaths.{changed_ascend}
use Rattle.reuse_command.proofs.OnlyReading.{read_early}
use Rattle.reuse_session.proofs.lemmas.session.Peeking.{unclashed_read}
use Rattle.reuse_session.proofs.lemmas.session.LaterSteps.{later_as_machine}
use Rattle.reuse_session.proofs.lemmas.session.RunFollowing.{follows_exact}
use Rattle.reuse_session.proofs.lemmas.journal.StepAnswers.{read_reported}
use Rattle.reuse_session.proofs.lemmas.session.StepsByNumber.{led_to_tree, unkept, unused}

-- ---- answers

pub reported_run : (result : Result Reverted Refusal) → DidNotFail result → DidNotFail (as_run result)
reported_run (Ok reverted) reported = tt
reported_run (Err refusal) reported = reported

-- ---- the step that is taken back

no_paths : ArePaths []
unfolding IsStrictlySortedBy
no_paths = tt

ascend_changed : (command : Command) (when : ℕ) (held left : State) (changed : List (List ℕ))
    → Runs command when held (Ok (changed_or_none changed)) left → ArePaths changed
ascend_changed command when held left [] runs = no_paths
ascend_changed command when held left (path ∷ paths) runs =
    subst ArePaths (sym runs.0) (changed_ascend held.tree left.tree)

reverts_of : (number : ℕ) (skip : Bool) (when : ℕ) (held left : State) (result : Result Reverted Refusal) → IsRunAnswer
    (as_run result) → TakesBack number skip when held result left → Reverts number skip when held result left
reverts_of number skip when held left (Ok reverted) is back = back
reverts_of number skip when held left (Err (NoSuchStep other)) is back = absurd is
reverts_of number skip when held left (Err refusal) is back = back

module _ (held left : State) (number : ℕ) (skip : Bool) (when : ℕ) (changes : List Change) (touched : List (List ℕ))
    (back : IsBackOf number held.journal changes touched)
    (paths : List (List ℕ)) (is_paths : paths ≡ paths_of changes)
    (answer : Result Response Refusal) (kinds : IsRunAnswer answer) (result : Result Reverted Refusal)
    (same : as_run result ≡ answer)
    (skipped : IfOk result (λ reverted. ArePaths reverted.changed → reverted.skipped ≡ left_of paths reverted.changed))
    (runs : Runs (Revert changes touched skip) when held answer left)
  where
    abbrev of_step : Command
    of_step = Revert back.step.changes (touched_later number held.journal.done back.step.changes) skip

    run_of_step : Runs of_step when held (as_run result) left
    run_of_step =
        subst (λ r. Runs of_step when held r left) (sym same)
        (subst (λ (k : Command). Runs k when held answer left)
        (ap₂ (λ cs ts. Revert cs ts skip) back.changes back.touched) runs)

    left_out : (r : Result Reverted Refusal) → Runs of_step when held (as_run r) left
        → IfOk r (λ reverted. ArePaths reverted.changed → reverted.skipped ≡ left_of paths reverted.changed)
        → IfOk r (λ reverted. reverted.skipped ≡ left_of (paths_of back.step.changes) reverted.changed)
    left_out (Ok reverted) ran h = h (ascend_changed of_step when held left reverted.changed ran)
        ∙ ap (λ ps. left_of ps reverted.changed) (is_paths ∙ ap paths_of back.changes)
    left_out (Err refusal) ran h = tt

    pub reverts_step : Reverts number skip when held result left
    reverts_step = reverts_of number skip when held left result (subst IsRunAnswer (sym same) kinds) (record {
      step = back.step;
      is_done = back.is_done;
      numbered = back.numbered;
      runs = run_of_step;
      skipped = left_out result run_of_step skipped;
    })

    pub revert_follows : {S : Type 0} (files : S → Files) (session new : Session S) (state : Snapshots)
        (stands_at : SimulatesInSession files session state) → held ≡ stands_at.held → SimulatesState files new left
        → RevertFollows files number skip when state result new
    revert_follows files session new state stands_at is_held stands_left =
        let cs = back.step.changes in
        let h = subst (λ (s : State). Contains s.journal.done back.step) is_held back.is_done in
        let late = ap (λ (s : State). touched_later number s.journal.done back.step.changes) is_held
        ∙ later_as_machine stands_at.held state stands_at.holds number back.step.changes in
        let ran =
        subst (λ ts. Runs (Revert back.step.changes ts skip) when held (as_run result) left) late run_of_step in
        inr (
          cs,
          led_to_tree stands_at.held state stands_at.holds back.step number h back.numbered,
          follows_exact files new state stands_at (Revert cs (changed_later number state.past cs) skip) when
              (as_run result) (
                left,
                stands_left,
                subst (λ (s : State). Runs (Revert back.step.changes
                    (changed_later number state.past back.step.changes) skip) when s (as_run result) left) is_held ran,
              ),
        )

-- no step that is done has the number
pub absent_step : {S : Type 0} (files : S → Files) (session : Session S) (held : State)
    → SimulatesState files session held → (number : ℕ) → lists (memory_of session).done number ≡ false
    → IsUnused number held.journal.done
absent_step files session held stands number none =
    unused (memory_of session) held.journal number stands.remembers true none

pub absent_follows : {S : Type 0} (files : S → Files) (session : Session S) (state : Snapshots)
    (stands_at : SimulatesInSession files session state) (number : ℕ) (skip : Bool) (when : ℕ)
    → lists (memory_of session).done number ≡ false
    → RevertFollows files number skip when state (Err (NoSuchStep number)) session
absent_follows files session state stands_at number skip when none =
    inl (
      refl,
      unkept number stands_at.held.journal.done state.past stands_at.holds.past
          (absent_step files session stands_at.held stands_at.stands number none),
      stands_at,
    )

-- where nothing can be taken back and no fault is reported, there is no such step
pub no_step_back : (number : ℕ) (refusal : Refusal) → (refusal ≡ NoSuchStep number) ⊎ IsReadRefusal refusal
    → DidNotFail {A = Response} (Err refusal) → ((path : List ℕ) → refusal ≡ BadJournal path → ⊥)
    → refusal ≡ NoSuchStep number
no_step_back number refusal (inl e) reported good = e
no_step_back number refusal (inr is) reported good = absurd (read_reported refusal is reported good)

-- the refusal reports no fault of the store
abbrev pub IsNoFaultOfStore : Refusal → Type 0
IsNoFaultOfStore (Failed (Fault fault)) = ⊥
IsNoFaultOfStore refusal = Unit {0}

same_refusal : (A : Type 0) (one other : Refusal) → ◌≡◌ {A = Result A Refusal} (Err one) (Err other) → one ≡ other
same_refusal A one other e = cc

-- a refusal that reports no fault of the store
pub no_fault : {A S : Type 0} (store : Ghosts S) (old new : S) (refusal : Refusal) → IsNoFaultOfStore refusal
    → RefusedAsRead {A = A} store old new (Err refusal)
no_fault {A} store old new refusal is = record {
  device = λ e. absurd (subst IsNoFaultOfStore (same_refusal A refusal (Failed (Fault faults.Device)) e) is);
  clash = λ honest e. subst IsNoFaultOfStore (same_refusal A refusal (Failed (Fault faults.Clash)) e) is;
}

-- what the run leaves
pub run_leaves : {S : Type 0} (store : Ghosts S) (number : ℕ) (skip : Bool) (when : ℕ)
    (result : Result Reverted Refusal) (answer : Result Response Refusal) (old new : Session S) (entry : Entry)
    (changes : List Change)
    (touched : List (List ℕ))
    → (store.honest (store_of new) → EntrySays (get (folder_of store old) (entry_path number)) entry)
    → changes ≡ entry.changes
    → (store.honest (store_of new) → (held : State) → SimulatesState store.files old held
    → IsBackOf number held.journal changes touched) → as_run result ≡ answer
    → LeavesRun store (Revert changes touched skip) when answer old new
    → LeavesRevert store number skip when result old new
run_leaves store number skip when result answer old new entry changes touched says is_changes back same leaves = inr (
  entry,
  says,
  touched,
  λ honest held stands.
      let of = back honest held stands in
      of.touched ∙ ap (touched_later number held.journal.done) (sym of.changes ∙ is_changes),
  subst (λ r. LeavesRun store (Revert entry.changes touched skip) when r old new) (sym same)
      (subst (λ cs. LeavesRun store (Revert cs touched skip) when answer old new) is_changes leaves),
)

-- a revert whose run was refused since the journal is full reports no clash
pub full_revert : (result : Result Reverted Refusal) → as_run result ≡ Err JournalFull → IfErr result IsNoClash
full_revert (Ok reverted) is = tt
full_revert (Err refusal) is = subst IsNoClash (sym (same_refusal refusal is)) tt
  where
    same_refusal : (refusal : Refusal) → as_run (Err refusal) ≡ Err JournalFull → refusal ≡ JournalFull
    same_refusal refusal is = cc

-- where nothing was taken back, no clash is reported either
pub unclashed_back : (number : ℕ) (refusal : Refusal) → (refusal ≡ NoSuchStep number) ⊎ IsReadRefusal refusal
    → (refusal ≢ Failed (Fault faults.Clash)) → IsNoClash refusal
unclashed_back number refusal (inl e) none = subst IsNoClash (sym e) tt
unclashed_back number refusal (inr is) none = unclashed_read refusal none (read_early refusal is)
