use Rattle.std.proofs.Common.{◌≡◌, ◌⊎◌, ◌≤◌, ◌+◌, List, ℕ, Some, Result, Err, length, arith, refl, sym, ap, subst, ◌∙◌}
use Rattle.std.specs.List.{All}
use Rattle.reuse_change.specs.Files.{Clashes, tree_of}
use Rattle.reuse_change.specs.declared.change.Change.{Change}
use Rattle.reuse_session.specs.session.Calls.{IsCall}
use Rattle.reuse_session.specs.declared.session.Session.{Session}
use Rattle.reuse_store.specs.declared.store.Store.{Ghosts}
use Rattle.reuse_store.proofs.AskedLemmas.{later_none}
use Rattle.reuse_command.proofs.OnlyReading.{is_refused}
use Rattle.reuse_journal.specs.Carried.{IsCarriedOut, IsStopped}
use Rattle.reuse_change.specs.Entry.{IsEntry, CanBeMade, CanGo}
use Rattle.reuse_tree.specs.Head.{direction_of}
use Rattle.reuse_command.specs.Answer.{HasCause}
use Rattle.reuse_journal.specs.History.{head_listing}
use Rattle.reuse_journal.specs.JournalFiles.{head_path}
use Rattle.reuse_journal.specs.Losses.{StopsWithDoubt}
use Rattle.reuse_session.proofs.lemmas.journal.StepDoubt.{stops_in_doubt}
use Rattle.reuse_session.specs.session.Session.{store_of, memory_of}
use Rattle.reuse_journal.specs.Remembered.{head_room, listed_count}
use Rattle.reuse_store.specs.declared.cause.Cause.{Cause}
use Rattle.reuse_store.specs.declared.cause.Cause.TheVariants as causes
use Rattle.reuse_command.specs.declared.reply.Refusal.{Refusal}
use Rattle.reuse_command.specs.declared.failure.Failure.TheVariants.{Memory, Interrupted}
use Rattle.reuse_command.specs.declared.reply.Refusal.TheVariants.{Failed}
use Rattle.reuse_change.specs.declared.direction.Direction.{Direction}
use Rattle.reuse_session.proofs.lemmas.session.FolderLemmas.{some_text}
use Rattle.reuse_journal.proofs.JournalReading.{file_in_folder}
use Rattle.reuse_journal.proofs.CommittedStates.{carried, stopped}
use Rattle.reuse_session.proofs.lemmas.journal.Stepping.{good_between, good_second, stop_clash}
use Rattle.reuse_journal.proofs.SafeFiles.{sure_tree}
use Rattle.reuse_session.proofs.session.Session.step.Goals as goal

stop_cause : (Rose : Type 0) (cause : Cause) → (cause ≡ causes.Device → Rose)
    → HasCause Rose (Failed (Interrupted cause))
stop_cause Rose causes.Moved rose = tt
stop_cause Rose causes.Clash rose = tt
stop_cause Rose causes.Device rose = rose refl
stop_cause Rose causes.Memory rose = tt

within : (old new first second one two : ℕ) → new ≤ old + first + second → first ≤ one → second ≤ two
    → new ≤ old + one + two
within old new first second one two a b c = omega arith

-- a call that is refused for an allocation failure has done nothing
call_none : {S : Type 0} (store : Ghosts S) (session : Session S) (answer : Result (Unit {0}) Refusal)
    → answer ≡ Err (Failed Memory) → IsCall store answer session session
call_none store session answer e =
    subst (λ r. IsCall store r session session) (sym e) (record {
      refused = λ early. (refl, refl);
      interrupted = λ stop. absurd stop;
      fault = tt;
      later = later_none store (store_of session);
    })

pub commit_step-carried-requires : goal.commit_step-carried-requires
commit_step-carried-requires g c honest =
    subst (λ w. CanGo w (tree_of (g.S.Store.files (store_of c.args.self.now))) c.args.changes.now)
    (sym c.direction.ensures) (c.requires honest)

pub returns-in-Ok-clause-mutations : goal.returns-in-Ok-clause-mutations
returns-in-Ok-clause-mutations g c honest held second stands is =
    let store = g.S.Store in
    let files = store.files (store_of c.args.self.now) in
    let after = store.files c.commit_step-carried.new.store in
    let settled = c.in_ok-settled.settled.items in
    let out : IsCarriedOut (direction_of c.args.pending.direction) is.step.changes settled files after =
    subst (λ w. IsCarriedOut w is.step.changes settled files after) c.direction.ensures
    (subst (λ cs. IsCarriedOut c.direction.result cs settled files after) (sym is.changes)
    (subst (λ text. IsCarriedOut c.direction.result c.args.changes.now text files after) c.deref-2.ensures.value
    (c.in-Ok.ensures.done honest is.entry))) in
    record {
      whole = stands.whole;
      committed = carried files after c.args.pending.direction is.step held second stands.committed is.kept is.is_step
          (subst IsEntry (sym is.changes) is.entry)
          (g.met.S.Store.are_files c.commit_step-carried.new.store honest) settled out
          (good_second (memory_of c.args.self.now) files held second stands.committed stands.remembers is settled
          c.in_ok-settled.ensures.good);
      remembers = is.remembers;
    }

pub returns-in-Err-clause-mutations : goal.returns-in-Err-clause-mutations
returns-in-Err-clause-mutations g c honest held second stands is stop =
    let store = g.S.Store in
    let files = store.files (store_of c.args.self.now) in
    let after = store.files c.commit_step-carried.new.store in
    let before = c.in_ok-before.before.items in
    let settled = c.in_ok-settled.settled.items in
    let memory = memory_of c.args.self.now in
    let Left : Direction → List Change → List ℕ → List ℕ → Type 0 =
    λ w cs p s. (after ≡ files) ⊎ IsStopped w cs p files after ⊎ IsCarriedOut w cs s files after in
    let left : Left (direction_of c.args.pending.direction) is.step.changes before settled =
    subst (λ w. Left w is.step.changes before settled) c.direction.ensures
    (subst (λ cs. Left c.direction.result cs before settled) (sym is.changes)
    (subst (λ text. Left c.direction.result c.args.changes.now before text) c.deref-2.ensures.value
    (subst (λ text. Left c.direction.result c.args.changes.now text c.deref-2.result.now) c.deref.ensures.value
    (c.in-Err.ensures.stopped honest is.entry)))) in
    stopped files after c.args.pending.direction is.step held second stands.committed is.kept is.is_step (subst IsEntry
    (sym is.changes) is.entry) (g.met.S.Store.are_files c.commit_step-carried.new.store honest) before settled left
    (good_between memory files held second stands.committed stands.remembers is before c.in_ok-before.ensures.good)
    (good_second memory files held second stands.committed stands.remembers is settled c.in_ok-settled.ensures.good)

pub returns-in-Err-clause-clash : goal.returns-in-Err-clause-clash
returns-in-Err-clause-clash g c honest good can =
    let files = g.S.Store.files (store_of c.args.self.now) in
    let can_now = subst (λ w. All (CanBeMade w (tree_of files)) c.args.changes.now) (sym c.direction.ensures) can in
    stop_clash ⊥ (Clashes files head_path) c.in-Err.cause
    (λ e. c.commit_step-carried.ensures.moved honest good can_now (c.in-Err.is ∙ ap (λ x. Err x) e))
    (λ e. c.commit_step-carried.ensures.clash honest good can_now (c.in-Err.is ∙ ap (λ x. Err x) e))

pub returns-in-Ok-clause-texts : goal.returns-in-Ok-clause-texts
returns-in-Ok-clause-texts g c honest good =
    let after = g.S.Store.files c.commit_step-carried.new.store in
    file_in_folder after head_path head_path refl refl ∙ (c.in-Ok.ensures.done honest good).sets.here
    ∙ ap (λ text. Some text) (c.deref-2.ensures.value ∙ c.in_ok-settled.ensures.text)

pub returns-in-Err-clause-late : goal.returns-in-Err-clause-late
returns-in-Err-clause-late g c good stop =
    let some = some_text c.in_ok-before.before.items
    (head_listing (memory_of c.args.self.now) (Some c.args.pending)) c.in_ok-before.ensures.text in
    omega (arith, some, ap length c.deref.ensures.value, c.commit_step-carried.ensures.begun good)

pub returns-in-Ok-clause-written : goal.returns-in-Ok-clause-written
returns-in-Ok-clause-written g c sound after good =
    within _ _ _ _ _ _ (c.commit_step-carried.ensures.written good) (subst (λ text. length text ≤ head_room
    (listed_count (memory_of c.args.self.now))) (sym c.deref.ensures.value) (c.in_ok-before.ensures.bound sound))
    (subst (λ text. length text ≤ head_room (listed_count c.args.moved)) (sym c.deref-2.ensures.value)
    (c.in_ok-settled.ensures.bound after))

pub returns-in-Err-clause-written : goal.returns-in-Err-clause-written
returns-in-Err-clause-written g c sound after good =
    within _ _ _ _ _ _ (c.commit_step-carried.ensures.written good) (subst (λ text. length text ≤ head_room
    (listed_count (memory_of c.args.self.now))) (sym c.deref.ensures.value) (c.in_ok-before.ensures.bound sound))
    (subst (λ text. length text ≤ head_room (listed_count c.args.moved)) (sym c.deref-2.ensures.value)
    (c.in_ok-settled.ensures.bound after))

pub returns-in-Ok-clause-call : goal.returns-in-Ok-clause-call
returns-in-Ok-clause-call g c = record {
  refused = tt;
  interrupted = tt;
  fault = tt;
  later = c.commit_step-carried.ensures.later;
}

pub returns-in-Err-clause-call : goal.returns-in-Err-clause-call
returns-in-Err-clause-call g c = record {
  refused = λ early. absurd early;
  interrupted = λ stop. refl;
  fault = stop_cause _ c.in-Err.cause (λ e. c.commit_step-carried.ensures.device (c.in-Err.is ∙ ap (λ x. Err x) e));
  later = c.commit_step-carried.ensures.later;
}

pub returns-in_err-before-clause-call : goal.returns-in_err-before-clause-call
returns-in_err-before-clause-call g c = call_none g.S.Store c.args.self.now c.from_residual.result
    (is_refused c.from_residual.result c.from_residual.ensures.1)

pub returns-in_err-settled-clause-call : goal.returns-in_err-settled-clause-call
returns-in_err-settled-clause-call g c = call_none g.S.Store c.args.self.now c.from_residual-in_err-settled.result
    (is_refused c.from_residual-in_err-settled.result c.from_residual-in_err-settled.ensures.1)

pub returns-in_err-path-clause-call : goal.returns-in_err-path-clause-call
returns-in_err-path-clause-call g c = call_none g.S.Store c.args.self.now c.from_residual-in_err-path.result
    (is_refused c.from_residual-in_err-path.result c.from_residual-in_err-path.ensures.1)

-- ---- after a loss of power

pub returns-in-Ok-clause-survives : goal.returns-in-Ok-clause-survives
returns-in-Ok-clause-survives g c honest earlier held second stands is safe has =
    c.in-Ok.ensures.durable honest is.entry
    (sure_tree g.S.Store (store_of c.args.self.now) earlier held stands.committed safe)

pub returns-in-Err-clause-survives : goal.returns-in-Err-clause-survives
returns-in-Err-clause-survives g c honest earlier held second stands is safe has stop =
    let store = g.S.Store in
    let old = store_of c.args.self.now in
    let files = store.files old in
    let new = c.commit_step-carried.new.store in
    let before = c.in_ok-before.before.items in
    let settled = c.in_ok-settled.settled.items in
    let memory = memory_of c.args.self.now in
    let Stops : Direction → List Change → List ℕ → List ℕ → Type 0 =
    λ w cs p s. StopsWithDoubt store w cs p s old new in
    let stops : Stops (direction_of c.args.pending.direction) is.step.changes before settled =
    subst (λ w. Stops w is.step.changes before settled) c.direction.ensures
    (subst (λ cs. Stops c.direction.result cs before settled) (sym is.changes)
    (subst (λ text. Stops c.direction.result c.args.changes.now before text) c.deref-2.ensures.value
    (subst (λ text. Stops c.direction.result c.args.changes.now text c.deref-2.result.now) c.deref.ensures.value
    (c.in-Err.ensures.doubt honest is.entry (sure_tree store old earlier held stands.committed safe))))) in
    stops_in_doubt store old new c.args.pending.direction is.step earlier held second stands.committed is.kept
    is.is_step (subst IsEntry (sym is.changes) is.entry) (g.met.S.Store.are_files new honest) before settled
    (good_between memory files held second stands.committed stands.remembers is before c.in_ok-before.ensures.good)
    (good_second memory files held second stands.committed stands.remembers is settled c.in_ok-settled.ensures.good)
    safe has stops
