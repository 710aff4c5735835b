-- Lines that are carried out one after the other, each of which may be stopped, and losses of power between them.
use Rattle.std.specs.Prelude.{◌≡◌, ℕ, Bool, true, false, List, [], ◌∷◌, Result}
use Rattle.reuse_store.specs.Asked.{IsSynced}
use Rattle.reuse_store.specs.declared.store.Store.{Ghosts}
use Rattle.reuse_session.specs.session.Found.{IsAfterLoss}
use Rattle.reuse_session.specs.session.Stops.{RunState}
use Rattle.reuse_undo.specs.run.AfterStops.{AnswersAfterStop}
use Rattle.reuse_undo.specs.run.RunResult.{CarriesOut}
use Rattle.reuse_undo.specs.run.RunLine.{ReportsAnswer}
use Rattle.reuse_print.specs.declared.fault.Fault.{Fault}
use Rattle.reuse_arguments.specs.declared.line.PrintOptions.{PrintOptions}
use Rattle.reuse_command.specs.declared.reply.Refusal.{Refusal}
use Rattle.reuse_command.specs.declared.reply.Response.{Response}
use Rattle.reuse_command.specs.declared.request.Request.{Request}

-- a line that was carried out: what it asked for, its store and what its answer is written to, each before and after,
-- and what was reported
pub record CarriedLine (S O : Type 0) : Type 0 where
  pub request : Request
  pub options : PrintOptions
  pub old : S
  pub new : S
  pub before : O
  pub after : O
  pub result : Result ℕ Fault

-- the next store holds the files that one left
abbrev pub HoldsSame : {S : Type 0} → Ghosts S → S → S → Type 0
HoldsSame store left next = store.files next ≡ store.files left

-- each line is carried out on a store that is next to the one that the line before it left, and is honest
abbrev pub AreInTurn : {S O : Type 0} → (IsNext : S → S → Type 0) → Ghosts S → (O → List ℕ) → (O → Bool) → S
    → List (CarriedLine S O) → S → Type 0
AreInTurn IsNext store contents has_failed first [] last = last ≡ first
AreInTurn IsNext store contents has_failed first (line ∷ lines) last =
    IsNext first line.old × store.honest line.new
    × CarriesOut store contents has_failed line.request line.options
    line.old line.new line.before line.after line.result
    × AreInTurn IsNext store contents has_failed line.new lines last

-- the lines report the answers of a run of the model with stops, one after the other, and lead from one run state to
-- the other
abbrev pub RunAsModel : {S O : Type 0} → (O → List ℕ) → List (CarriedLine S O) → (start end : RunState) → Type 0
RunAsModel contents [] start end = end ≡ start
RunAsModel contents (line ∷ lines) start end =
    (run_state : RunState) × ReportsAnswer line.options
    (λ answer. AnswersAfterStop line.request answer start run_state)
    (contents line.before) (contents line.after) line.result
    × RunAsModel contents lines run_state end

-- ---- losses of power

-- a line that was carried out, whether a loss of power came behind it, and the store that is found then
pub record LineAndLoss (S O : Type 0) : Type 0 where
  pub line : CarriedLine S O
  pub is_lost : Bool
  pub found : S

-- the files that the line left are found; or, where the line began on files that were durable, any that a loss of power
-- may leave behind it
abbrev pub IsFound : {S O : Type 0} → Ghosts S → CarriedLine S O → (is_lost : Bool) → S → Type 0
IsFound store line false found = HoldsSame store line.new found
IsFound store line true found = IsSynced store line.old × store.crash_states line.new (store.files found)

-- each line is carried out on the files that are found behind the line before it, by a store that is honest
abbrev pub AreInTurnWithLosses : {S O : Type 0} → Ghosts S → (O → List ℕ) → (O → Bool) → S → List (LineAndLoss S O) → S
    → Type 0
AreInTurnWithLosses store contents has_failed first [] last = last ≡ first
AreInTurnWithLosses store contents has_failed first (one ∷ more) last =
    HoldsSame store first one.line.old × store.honest one.line.new
    × CarriesOut store contents has_failed one.line.request one.line.options
    one.line.old one.line.new one.line.before one.line.after one.line.result
    × IsFound store one.line one.is_lost one.found
    × AreInTurnWithLosses store contents has_failed one.found more last

-- the run goes on where the line led to, or where a loss of power led to behind it
abbrev pub GoesOnAt : (is_lost : Bool) → Result Response Refusal → (start end found : RunState) → Type 0
GoesOnAt false answer start end found = found ≡ end
GoesOnAt true answer start end found = IsAfterLoss answer start end found

-- the lines report the answers of a run of the model with stops and losses, and lead from one run state to the other
abbrev pub RunWithLosses : {S O : Type 0} → (O → List ℕ) → List (LineAndLoss S O) → (start end : RunState) → Type 0
RunWithLosses contents [] start end = end ≡ start
RunWithLosses contents (one ∷ more) start end =
    (found : RunState) × ReportsAnswer one.line.options
    (λ answer. (left : RunState) × AnswersAfterStop one.line.request answer start left
    × GoesOnAt one.is_lost answer start left found)
    (contents one.line.before) (contents one.line.after) one.line.result
    × RunWithLosses contents more found end
