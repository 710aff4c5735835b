-- The diff that stands behind an answer's lines.
use Rattle.std.proofs.Common.{◌≡◌, ◌≤◌, inl, inr, ℕ, List, [], Bool, true, false, is_some, Option, Some, None, IfSome}
use Rattle.std.proofs.Common.{Result, Ok, Err, IfOk, IfErr, IsErrAnd, refl, sym, subst, arith}
use Rattle.std.proofs.lemmas.Bool.{false≢true}
use Rattle.std.specs.declared.vec.Vec.{Vec}
use Rattle.reuse_store.specs.declared.store.Store.{Ghosts}
use Rattle.reuse_command.specs.declared.reply.Refusal.{Refusal}
use Rattle.reuse_command.specs.declared.reply.Response.TheVariants as responses
use Rattle.reuse_print.specs.declared.fault.Fault.{Fault}
use Rattle.reuse_print.specs.declared.fault.Fault.TheVariants as faults
use Rattle.reuse_arguments.specs.declared.line.OutputFormat.TheVariants.{Diff}
use Rattle.reuse_arguments.specs.declared.line.PrintOptions.{PrintOptions}
use Rattle.reuse_command.specs.declared.reply.Response.{Response}
use Rattle.reuse_report.specs.Responses.{Finishes, IsAccepted, IsBehind, IsDiffBehind, IsDiffOf, IsDrawnPreview}
use Rattle.reuse_report.specs.Responses.{IsNoDiff, IsNoRecord, IsPrintedText, IsWanted}
use Rattle.reuse_print.specs.Outputs.{AddsFront}
use Rattle.reuse_report.specs.WriterFaults.{IfNoDiff, IsOfDiff, IsUndrawn}

wanted : {A S : Type 0} (store : Ghosts S) (old new : S) (options : PrintOptions) (response : Response)
    (diff : Result (Vec ℕ A) Fault) → IsDrawnPreview options response → IfErr diff (IsOfDiff store old new)
    → IsDiffOf options response diff
wanted store old new options response (Ok diff) is fault = inr is
wanted store old new options response (Err (faults.NoDiff refusal)) is fault = is
wanted store old new options response (Err faults.Memory) is fault = refl
wanted store old new options response (Err other) is fault = absurd fault

unwanted : {A : Type 0} (options : PrintOptions) (response : Response) (diff : Result (Vec ℕ A) Fault) → IsNoDiff diff
    → IsDiffOf options response diff
unwanted options response (Ok diff) none = inl none
unwanted options response (Err other) none = absurd none

-- a diff that is made exactly where it is wanted
pub diff_for : {A S : Type 0} (store : Ghosts S) (old new : S) (options : PrintOptions)
    (answer : Result Response Refusal) (diff : Result (Vec ℕ A) Fault) (b : Bool) → (b ≡ true → IsWanted options answer)
    → (b ≡ false → IsNoDiff diff) → IfErr diff (IsOfDiff store old new)
    → IfOk answer (λ response. IsDiffOf options response diff)
diff_for store old new options (Err refusal) diff b is none fault = tt
diff_for store old new options (Ok response) diff true is none fault =
    wanted store old new options response diff (is refl) fault
diff_for store old new options (Ok response) diff false is none fault = unwanted options response diff (none refl)

-- what is there of what may be there
pub held_of : {A : Type 0} (found : Option A) (P : Type 0) → IfSome found (λ value. P) → is_some found ≡ true → P
held_of (Some value) P holds is = holds
held_of None P holds is = absurd (false≢true is)

pub is_none_of : {A : Type 0} (found : Option A) → is_some found ≡ false → found ≡ None
is_none_of (Some value) is = absurd (false≢true (sym is))
is_none_of None is = refl

-- a diff is wanted of a dry run that is accepted, in the format of one
pub wanted_where : (options : PrintOptions) (answer : Result Response Refusal)
    → (options.format ≡ Diff) × IsAccepted answer → IsWanted options answer
wanted_where options (Ok response) is = (is.0, is.1.0, is.1.1, is.1.2)
wanted_where options (Err refusal) is = is.1

pub format_where : (options : PrintOptions) (answer : Result Response Refusal) → IsWanted options answer
    → options.format ≡ Diff
format_where options (Ok response) is = is.0
format_where options (Err refusal) is = absurd is

pub accepted_where : (options : PrintOptions) (answer : Result Response Refusal) → IsWanted options answer
    → IsAccepted answer
accepted_where options (Ok response) is = (is.1, is.2, is.3)
accepted_where options (Err refusal) is = absurd is

-- no diff stands behind an answer that has none
none_behind : (response : Response) (diff : List ℕ) → IsNoRecord response → diff ≡ [] → IsDiffBehind response diff
none_behind (responses.Preview path_outcomes) diff is none = inl none
none_behind responses.Opened diff is none = none
none_behind (responses.Changed paths left) diff is none = none
none_behind (responses.NothingChanged left) diff is none = none
none_behind (responses.Undone paths) diff is none = none
none_behind (responses.Redone paths) diff is none = none
none_behind (responses.Log rows) diff is none = none
none_behind (responses.Shown shown) diff is none = absurd is
none_behind (responses.Reverted reverted) diff is none = none
none_behind (responses.Forgotten numbers) diff is none = none
none_behind (responses.Recovered recovered) diff is none = none

-- some, of a call that was only looked at
planned_behind : (options : PrintOptions) (response : Response) (diff : List ℕ) → IsDrawnPreview options response
    → IsDiffBehind response diff
planned_behind options response diff is = subst (λ t. IsDiffBehind t diff) (sym is.2) (inr is.3)

-- and behind the lines of an answer that is no step
pub behind : {A : Type 0} (options : PrintOptions) (response : Response) (diff : Result (Vec ℕ A) Fault)
    → (options.format ≡ Diff → IsNoRecord response) → IsDiffOf options response diff → IsBehind options response diff
behind options response (Ok diff) is (inl none) = λ format. none_behind response diff.items (is format) none
behind options response (Ok diff) is (inr planned) = λ format. planned_behind options response diff.items planned
behind options response (Err (faults.NoDiff refusal)) is planned = planned
behind options response (Err faults.Memory) is same = same
behind options response (Err other) is same = same

-- an output that failed took a front part of what is printed
pub cut_short : (options : PrintOptions) (response : Response) (old new text : List ℕ) (fault : Fault)
    → fault ≡ faults.Write → IsPrintedText options response text → AddsFront old new text
    → Finishes options response old new (Err fault)
cut_short options response old new text fault is states front =
    subst (λ f. Finishes options response old new (Err f)) (sym is) (text, states, front)

-- ---- what can't be drawn has its cause

-- what holds of a fault holds of it as it is handed on
pub handed : {T E : Type 0} (P : E → Type 0) (fault : E) (result : Result T E)
    → IsErrAnd result (λ other. other ≡ fault) → P fault → IfErr result P
handed P fault (Ok value) is holds = absurd is
handed P fault (Err other) is holds = subst P (sym is) holds

-- what was asked before, and what is read behind, takes no cause away
pub undrawn_after : {S : Type 0} (store : Ghosts S) (old mid new : S) (refusal : Refusal)
    → store.failures old ≤ store.failures mid → IsUndrawn store mid new refusal → IsUndrawn store old new refusal
undrawn_after store old mid new refusal few is =
    record { device = λ e. let rose = is.device e in omega (arith, few, rose); clash = is.clash; kind = is.kind }

-- the same of a fault
pub of_diff_after : {S : Type 0} (store : Ghosts S) (old mid new : S) (fault : Fault)
    → store.failures old ≤ store.failures mid → IsOfDiff store mid new fault → IsOfDiff store old new fault
of_diff_after store old mid new (faults.NoDiff refusal) few is = undrawn_after store old mid new refusal few is
of_diff_after store old mid new faults.Memory few is = tt
of_diff_after store old mid new fault few is = absurd is

-- and of a diff
pub diff_after : {A S : Type 0} (store : Ghosts S) (old mid new : S) (diff : Result (Vec ℕ A) Fault)
    → store.failures old ≤ store.failures mid → IfErr diff (IsOfDiff store mid new)
    → IfErr diff (IsOfDiff store old new)
diff_after store old mid new (Ok diff) few is = tt
diff_after store old mid new (Err fault) few is = of_diff_after store old mid new fault few is

pub undrawn_by : {A S : Type 0} (store : Ghosts S) (old new : S) (diff : Result (Vec ℕ A) Fault)
    → IfErr diff (IsOfDiff store old new) → IfNoDiff diff (IsUndrawn store old new)
undrawn_by store old new (Ok diff) is = tt
undrawn_by store old new (Err (faults.NoDiff refusal)) is = is
undrawn_by store old new (Err fault) is = tt

-- what is reported of a diff is what was found of it
pub undrawn_reported : {A T : Type 0} (result : Result T Fault) (diff : Result (Vec ℕ A) Fault)
    (Cause : Refusal → Type 0) (Same : Type 0)
    → IfNoDiff result (λ refusal. (diff ≡ Err (faults.NoDiff refusal)) × Same) → IfNoDiff diff Cause
    → IfNoDiff result (λ refusal. Cause refusal × Same)
undrawn_reported (Ok value) diff Cause Same reported cause = tt
undrawn_reported (Err (faults.NoDiff refusal)) diff Cause Same reported cause =
    (subst (λ d. IfNoDiff d Cause) reported.0 cause, reported.1)
undrawn_reported (Err fault) diff Cause Same reported cause = tt
