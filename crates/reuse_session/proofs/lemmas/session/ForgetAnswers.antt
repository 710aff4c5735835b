-- How forgetting answers a request.
use Rattle.std.proofs.Common.{◌≡◌, ◌↔◌, ◌⊎◌, ℕ, true, false, List, Option, Some, None, Result, Ok, Err, IfErr, refl}
use Rattle.std.proofs.Common.{sym, ap, subst, ◌∙◌}
use Rattle.reuse_change.specs.Tree.{undo_folder_of}
use Rattle.reuse_store.specs.declared.store.Store.{Ghosts}
use Rattle.reuse_command.specs.Answer.{IsEarly, IsStop, DidNotFail}
use Rattle.reuse_command.specs.declared.failure.Failure.TheVariants.{Fault, Interrupted, Memory}
use Rattle.reuse_command.specs.declared.reply.Refusal.{Refusal}
use Rattle.reuse_command.specs.declared.reply.Refusal.TheVariants.{Broken, Failed, NoSuchStep}
use Rattle.reuse_command.specs.declared.reply.Response.TheVariants as responses
use Rattle.reuse_command.specs.declared.request.Request.TheVariants as requests
use Rattle.reuse_command.specs.declared.request.Steps.{Steps}
use Rattle.reuse_journal.specs.Journal.{State}
use Rattle.reuse_journal.specs.Numbered.{first_unlisted, state_besides}
use Rattle.reuse_journal.specs.CommittedState.{IsCommittedState}
use Rattle.reuse_session.specs.declared.session.Session.{Session}
use Rattle.reuse_session.specs.session.Calls.{IsCall, files_of}
use Rattle.reuse_session.specs.session.Forgetting.{AreInOrder, Forgets, IsForgetRefusal, IsSameButGone}
use Rattle.reuse_session.specs.session.Forgetting.{LeavesForgetting, SurvivesForgetting, SurvivesToForget}
use Rattle.reuse_session.specs.session.Forgetting.{asked_numbers}
use Rattle.reuse_session.specs.session.Requests.{IfFailed, IsAnswered, IsStopped, MayFail, as_answer}
use Rattle.reuse_session.specs.session.Session.{SimulatesState, is_broken, memory_of, store_of}
use Rattle.reuse_session.proofs.lemmas.journal.StepAnswers.{back_no_clash}
use Rattle.reuse_session.proofs.lemmas.session.Answering.{broken_as_answer, call_as_answer, err_as_answer}
use Rattle.reuse_session.proofs.lemmas.session.Answering.{reported_as_answer}
use Rattle.reuse_session.proofs.lemmas.session.ForgottenSteps.{first_is}

forget_fails : (steps : Steps) (result : Result (List ℕ) Refusal) → IfErr result IsForgetRefusal
    → IfErr result (IfFailed (MayFail (requests.Forget steps)))
forget_fails steps (Ok forgotten) is = tt
forget_fails steps (Err (Failed Memory)) is = tt
forget_fails steps (Err (Failed (Interrupted cause))) is = tt
forget_fails steps (Err (Failed (Fault fault))) is = is
forget_fails steps (Err refusal) is = tt

abbrev refused : Refusal → Result (List ℕ) Refusal
refused refusal = Err refusal

same_refusal : (one other : Refusal) → refused one ≡ refused other → one ≡ other
same_refusal one other e = cc

-- where it stopped, each number is that of a step
pub listed_at_stop : {S : Type 0} (old : Session S) (numbers : List ℕ) (result : Result (List ℕ) Refusal)
    → ((number : ℕ) → (result ≡ Err (NoSuchStep number))
    ↔ ((is_broken old ≡ false) × (first_unlisted (memory_of old) numbers ≡ Some number)))
    → (refusal : Refusal) → result ≡ Err refusal → IsStop refusal → is_broken old ≡ false
    → first_unlisted (memory_of old) numbers ≡ None
listed_at_stop old numbers result absent refusal is stop whole = by_first (first_unlisted (memory_of old) numbers) refl
  where
    by_first : (first : Option ℕ) → first_unlisted (memory_of old) numbers ≡ first
        → first_unlisted (memory_of old) numbers ≡ None
    by_first None e = e
    by_first (Some number) e =
        absurd (subst IsStop (same_refusal refusal (NoSuchStep number) (sym is ∙ (absent number).1 (whole, e))) stop)

-- these numbers are those that are asked for
module _ {S : Type 0} (store : Ghosts S) (steps : Steps) (numbers : List ℕ) (result : Result (List ℕ) Refusal)
    (old new : Session S)
    (asked : (held : State) → SimulatesState store.files old held → numbers ≡ asked_numbers steps held.journal)
    (listed : (refusal : Refusal) → result ≡ Err refusal → IsStop refusal → is_broken old ≡ false
    → first_unlisted (memory_of old) numbers ≡ None)
  where
    early_stands : (held : State) → SimulatesState store.files old held → (result : Result (List ℕ) Refusal)
        → IfErr result (λ refusal. IsEarly refusal → new ≡ old)
        → IfErr result (λ refusal. IsEarly refusal → SimulatesState store.files new held)
    early_stands held stands (Ok forgotten) stays = tt
    early_stands held stands (Err refusal) stays =
        λ early. subst (λ s. SimulatesState store.files s held) (sym (stays early)) stands

    early_files : (result : Result (List ℕ) Refusal) → IfErr result (λ refusal. IsEarly refusal → new ≡ old)
        → IfErr result (λ refusal. IsEarly refusal → files_of store new ≡ files_of store old)
    early_files (Ok forgotten) stays = tt
    early_files (Err refusal) stays = λ early. ap (files_of store) (stays early)

    stops : (held : State) → SimulatesState store.files old held → (given : Result (List ℕ) Refusal) → given ≡ result
        → IfErr given (λ refusal. IsStop refusal → IsCommittedState (files_of store new) held
        ⊎ IsCommittedState (files_of store new) (state_besides numbers held))
        → IfErr given (λ refusal. IsStop refusal → (ordered : List ℕ) × AreInOrder numbers ordered)
        → IfErr given (λ refusal. IsStop refusal → IsStopped (requests.Forget steps) held (files_of store new))
    stops held stands (Ok forgotten) is doubt order = tt
    stops held stands (Err refusal) is doubt order = λ stop.
        let ordered = order stop in
        let none = sym (first_is (memory_of old) held.journal stands.remembers numbers)
        ∙ listed refusal (sym is) stop stands.whole in
        let forgets : (forgotten : List ℕ) × Forgets numbers held (Ok forgotten) (state_besides numbers held) =
        (ordered.0, (none, ordered.1, refl)) in (
          state_besides numbers held,
          subst (λ ns. (forgotten : List ℕ) × Forgets ns held (Ok forgotten) (state_besides numbers held))
              (asked held stands) forgets,
          doubt stop,
        )

    pub forget_answers : (result ≡ Err Broken) ↔ (is_broken old ≡ true)
        → IfErr result (λ refusal. IsEarly refusal → new ≡ old) → IfErr result IsForgetRefusal
        → (store.honest (store_of new) → (held : State) → SimulatesState store.files old held → DidNotFail result
        → (left : State) × SimulatesState store.files new left
        × Forgets (asked_numbers steps held.journal) held result left)
        → SurvivesToForget store numbers result old new → IsCall store result old new
        → LeavesForgetting store numbers result old new
        → IsAnswered store (requests.Forget steps) (as_answer responses.Forgotten result) old new
    forget_answers broken stays refusal exact survives call leaves = record {
      broken = broken_as_answer responses.Forgotten result _ broken;
      exact = λ honest held stands reported. let e = exact honest held stands
          (reported_as_answer responses.Forgotten result reported) in (e.0, e.1, (result, refl, e.2));
      stands = λ honest held stands. err_as_answer responses.Forgotten result _ (early_stands held stands result stays);
      unchanged = λ honest. err_as_answer responses.Forgotten result _ (early_files result stays);
      doubt = λ honest held stands. err_as_answer responses.Forgotten result _
          (stops held stands result refl (leaves.doubt honest held stands) leaves.order);
      fails = err_as_answer responses.Forgotten result _ (forget_fails steps result refusal);
      survives = λ honest earlier held stands safe. (
        result,
        refl,
        subst (λ ns. SurvivesForgetting store ns earlier held result (store_of new)) (asked held stands)
            (survives honest earlier held stands safe),
      );
      reads_only = λ look. absurd look;
      kept = λ look. absurd look;
      clash = λ honest held stands. err_as_answer responses.Forgotten result _ (leaves.clash honest);
      unclashed = λ honest held stands free.
          back_no_clash (files_of store old) held stands.committed free (as_answer responses.Forgotten result)
          (err_as_answer responses.Forgotten result _ (leaves.clash honest));
      free = leaves.free;
      folder = λ honest held stands.
          subst (λ ns. IsSameButGone ns (undo_folder_of (files_of store old)) (undo_folder_of (files_of store new)))
          (asked held stands) (leaves.folder honest);
      call = call_as_answer store responses.Forgotten result old new call;
    }
