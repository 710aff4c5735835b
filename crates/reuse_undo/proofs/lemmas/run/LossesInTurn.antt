-- Lines one after the other, with losses of power between them.
use Rattle.std.proofs.Common.{◌≡◌, ℕ, Bool, true, false, List, [], ◌∷◌, Result, Ok, Err, refl, sym, subst}
use Rattle.reuse_command.specs.declared.reply.Refusal.{Refusal}
use Rattle.reuse_command.specs.declared.reply.Response.{Response}
use Rattle.reuse_command.specs.declared.reply.Response.TheVariants as responses
use Rattle.reuse_store.specs.declared.store.Store.{Ghosts}
use Rattle.reuse_session.specs.session.Found.{AllAreAtSome, IsAfterLoss}
use Rattle.reuse_session.specs.session.Stops.{RunState, FilesAt}
use Rattle.reuse_arguments.specs.declared.line.PrintOptions.{PrintOptions}
use Rattle.reuse_print.specs.declared.fault.Fault.{Fault}
use Rattle.reuse_print.specs.declared.fault.Fault.TheVariants as faults
use Rattle.reuse_undo.specs.run.AfterStops.{AnswersAfterStop}
use Rattle.reuse_undo.specs.run.LinesInTurn.{AreInTurnWithLosses, CarriedLine, GoesOnAt, IsFound, LineAndLoss}
use Rattle.reuse_undo.specs.run.LinesInTurn.{RunWithLosses}
use Rattle.reuse_undo.specs.run.RunLine.{ReportsAnswer}
use Rattle.reuse_undo.specs.run.RunResult.{CarriesOut}
use Rattle.reuse_undo.proofs.lemmas.run.AfterStopLemmas.{reports_end}

-- what is reported of an answer of one kind is reported of an answer of another, which each of those is
pub reports_also : (options : PrintOptions) (Is Also : Result Response Refusal → Type 0)
    → ((answer : Result Response Refusal) → Is answer → Also answer) → (old new : List ℕ) (result : Result ℕ Fault)
    → ReportsAnswer options Is old new result → ReportsAnswer options Also old new result
reports_also options Is Also on old new (Ok count) reported =
    (reported.0, on (Ok reported.0) reported.1, reported.2, reported.3, reported.4)
reports_also options Is Also on old new (Err (faults.Refused refusal)) reported =
    (on (Err refusal) reported.0, reported.1)
reports_also options Is Also on old new (Err (faults.WouldRefuse path_outcomes)) reported =
    (on (Ok (responses.Preview path_outcomes)) reported.0, reported.1, reported.2)
reports_also options Is Also on old new (Err (faults.NoDiff refusal)) reported =
    ((reported.0.0, on (Ok reported.0.0) reported.0.1, reported.0.2), reported.1)
reports_also options Is Also on old new (Err faults.InUse) reported = absurd reported
reports_also options Is Also on old new (Err faults.Write) reported =
    (reported.0, on (Ok reported.0) reported.1, reported.2, reported.3, reported.4)
reports_also options Is Also on old new (Err faults.Memory) reported =
    ((reported.0.0, on (Ok reported.0.0) reported.0.1), reported.1)

module _ {S O : Type 0} (store : Ghosts S) (contents : O → List ℕ) (has_failed : O → Bool) where
  -- one line, and where the run goes on behind it
  abbrev GoesOn : CarriedLine S O → Bool → RunState → S → Type 0
  GoesOn line is_lost start next = (found : RunState) × ReportsAnswer line.options
      (λ answer. (left : RunState) × AnswersAfterStop line.request answer start left
      × GoesOnAt is_lost answer start left found)
      (contents line.before) (contents line.after) line.result
      × FilesAt (store.files next) found.state found.next

  one_line : (line : CarriedLine S O) (is_lost : Bool) (start : RunState) (next : S) → store.honest line.new
      → CarriesOut store contents has_failed line.request line.options line.old line.new line.before line.after
      line.result
      → FilesAt (store.files line.old) start.state start.next → IsFound store line is_lost next
      → GoesOn line is_lost start next
  one_line line false start next honest carries left found =
      let end = carries.after_stop honest start left in (
        end.0,
        reports_also line.options (λ answer. AnswersAfterStop line.request answer start end.0)
            (λ answer. (left : RunState) × AnswersAfterStop line.request answer start left × (end.0 ≡ left))
            (λ answer is. (end.0, is, refl)) (contents line.before) (contents line.after) line.result end.1,
        subst (λ f. FilesAt f (end.0).state (end.0).next) (sym found) end.2,
      )
  one_line line true start next honest carries left found =
      let files = store.files next in
      reports_end line.options
      (λ (point : RunState) answer. (end : RunState) × AnswersAfterStop line.request answer start end
      × IsAfterLoss answer start end point)
      (λ (point : RunState). FilesAt files point.state point.next)
      (contents line.before) (contents line.after) line.result
      (reports_also line.options
      (λ answer. (end : RunState) × AnswersAfterStop line.request answer start end
      × AllAreAtSome store (IsAfterLoss answer start end) line.new)
      (λ answer. (point : RunState) × ((end : RunState) × AnswersAfterStop line.request answer start end
      × IsAfterLoss answer start end point) × FilesAt files point.state point.next)
      (λ answer is. let at = is.2 files found.1 in (at.0, (is.0, is.1, at.1), at.2))
      (contents line.before) (contents line.after) line.result
      (carries.after_loss honest start left found.0))

  pub lost_in_turn : (lines : List (LineAndLoss S O)) (first last : S) (start : RunState)
      → AreInTurnWithLosses store contents has_failed first lines last
      → FilesAt (store.files first) start.state start.next
      → (end : RunState) × RunWithLosses contents lines start end × FilesAt (store.files last) end.state end.next
  lost_in_turn [] first last start turn left =
      (start, refl, subst (λ s. FilesAt (store.files s) start.state start.next) (sym turn) left)
  lost_in_turn (one ∷ more) first last start turn left =
      let here = one_line one.line one.is_lost start one.found turn.1 turn.2
      (subst (λ f. FilesAt f start.state start.next) (sym turn.0) left) turn.3 in
      let rest = lost_in_turn more one.found last here.0 turn.4 here.2 in
      (rest.0, (here.0, here.1, rest.1), rest.2)
