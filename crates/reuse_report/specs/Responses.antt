-- What is printed of a response.
use Rattle.std.specs.Prelude.{◌≡◌, ◌⊎◌, ℕ, Bool, List, [], ◌++◌, Result, Ok, Err, true, false}
use Rattle.std.specs.List.{list_any}
use Rattle.std.specs.declared.vec.Vec.{Vec}
use Rattle.reuse_command.specs.declared.path_outcome.PathOutcome.{PathOutcome}
use Rattle.reuse_command.specs.declared.path_outcome.PathOutcome.TheVariants.{Refused}
use Rattle.reuse_command.specs.declared.reply.Refusal.{Refusal}
use Rattle.reuse_command.specs.declared.reply.Response.TheVariants.{Log, Preview, Shown}
use Rattle.reuse_print.specs.declared.fault.Fault.{Fault}
use Rattle.reuse_print.specs.declared.fault.Fault.TheVariants.{WouldRefuse, NoDiff, Write, Memory}
use Rattle.reuse_arguments.specs.declared.line.PrintOptions.{PrintOptions}
use Rattle.reuse_arguments.specs.declared.line.OutputFormat.{OutputFormat}
use Rattle.reuse_arguments.specs.declared.line.OutputFormat.TheVariants.{Diff, Json}
use Rattle.reuse_command.specs.declared.reply.Response.{Response}
use Rattle.reuse_shown.specs.declared.shown_name.NameDisplay.{NameDisplay}
use Rattle.reuse_diff.specs.DiffText.{AreRecords}
use Rattle.reuse_print.specs.Lines.{IsResponseText, path_count}
use Rattle.reuse_print.specs.Objects.{ArePathOutcomeObjects, AreRowObjects, IsShownObject}
use Rattle.reuse_print.specs.Outputs.{AddsFront, AddsSome}

-- whether the call would be refused so
abbrev pub is_refusal : PathOutcome → Bool
is_refusal (Refused refusal) = true
is_refusal path_outcome = false

-- whether one of the path outcomes is a refusal
abbrev pub is_refused : List PathOutcome → Bool
is_refused path_outcomes = list_any is_refusal path_outcomes

-- a call that was only looked at would be made
abbrev pub WouldBeMade : Response → Type 0
WouldBeMade (Preview path_outcomes) = is_refused path_outcomes ≡ false
WouldBeMade response = Unit {0}

-- what may stand behind the lines of an answer where a diff is wanted: some diff, of a call that was only looked at and
-- would be made; what a step has recorded, where it is shown; and else nothing
abbrev pub IsDiffBehind : Response → List ℕ → Type 0
IsDiffBehind (Preview path_outcomes) diff = (diff ≡ []) ⊎ (is_refused path_outcomes ≡ false)
IsDiffBehind (Shown shown) diff = AreRecords shown.changes diff
IsDiffBehind response diff = diff ≡ []

-- what an answer is printed as: in lines; in lines with a diff behind them; or rows, steps and dry runs as objects, and
-- all else in lines
abbrev pub IsTextIn : OutputFormat → NameDisplay → Response → List ℕ → Type 0
IsTextIn Json names (Log rows) text = AreRowObjects rows text
IsTextIn Json names (Preview path_outcomes) text = ArePathOutcomeObjects path_outcomes text
IsTextIn Json names (Shown shown) text = IsShownObject shown text
IsTextIn Diff names response text =
    (lines : List ℕ) × (diff : List ℕ) × IsResponseText names response lines × IsDiffBehind response diff
    × (text ≡ lines ++ diff)
IsTextIn format names response text = IsResponseText names response text

abbrev pub IsPrintedText : PrintOptions → Response → List ℕ → Type 0
IsPrintedText options response text = IsTextIn options.format options.names response text

-- that a response couldn't be written is reported exactly where the output failed
abbrev pub ReportsFailure : Bool → Bool → Result ℕ Fault → Type 0
ReportsFailure old new (Err Write) = new ≡ true
ReportsFailure old new result = new ≡ old

-- what would be made of a call that was only looked at is wanted as a diff
abbrev pub IsDrawnPreview : PrintOptions → Response → Type 0
IsDrawnPreview options response = (options.format ≡ Diff) × (path_outcomes : List PathOutcome)
    × (response ≡ Preview path_outcomes) × (is_refused path_outcomes ≡ false)

-- ---- for private clauses

-- the answer's lines, with this behind them
abbrev pub HasBehind : NameDisplay → Response → List ℕ → List ℕ → Type 0
HasBehind names response behind text = (lines : List ℕ) × IsResponseText names response lines × (text ≡ lines ++ behind)

-- there is no diff
abbrev pub IsNoDiff : {A : Type 0} → Result (Vec ℕ A) Fault → Type 0
IsNoDiff (Ok diff) = diff.items ≡ []
IsNoDiff (Err fault) = ⊥

-- the diff of an answer: where it is wanted, some, or it can't be had; else none
abbrev pub IsDiffOf : {A : Type 0} → PrintOptions → Response → Result (Vec ℕ A) Fault → Type 0
IsDiffOf options response (Ok diff) = (diff.items ≡ []) ⊎ IsDrawnPreview options response
IsDiffOf options response (Err (NoDiff refusal)) = IsDrawnPreview options response
IsDiffOf options response (Err fault) = fault ≡ Memory

-- the answer is no step that is shown
abbrev pub IsNoRecord : Response → Type 0
IsNoRecord (Shown shown) = ⊥
IsNoRecord response = Unit {0}

-- what stands behind an answer's lines, where a diff is wanted; or it can't be had
abbrev pub IsBehind : {A : Type 0} → PrintOptions → Response → Result (Vec ℕ A) Fault → Type 0
IsBehind options response (Ok diff) = options.format ≡ Diff → IsDiffBehind response diff.items
IsBehind options response (Err (NoDiff refusal)) = IsDrawnPreview options response
IsBehind options response (Err fault) = fault ≡ Memory

-- a dry run is answered, and none of its path outcomes is a refusal
abbrev pub IsAccepted : Result Response Refusal → Type 0
IsAccepted (Ok response) =
    (path_outcomes : List PathOutcome) × (response ≡ Preview path_outcomes) × (is_refused path_outcomes ≡ false)
IsAccepted (Err refusal) = ⊥

-- a diff is wanted of what the answer reports
abbrev pub IsWanted : PrintOptions → Result Response Refusal → Type 0
IsWanted options (Ok response) = IsDrawnPreview options response
IsWanted options (Err refusal) = ⊥

-- a preview with a refusal is a fault; of every other answer the paths are counted that changed, or would change
abbrev pub Accepts : Response → Result ℕ Fault → Type 0
Accepts response (Ok count) = (count ≡ path_count response) × WouldBeMade response
Accepts response (Err (WouldRefuse path_outcomes)) = (response ≡ Preview path_outcomes)
    × (is_refused path_outcomes ≡ true)
Accepts response (Err fault) = ⊥

-- the answer is printed and accepted; or the output failed behind some front part of its text; or nothing was printed,
-- for want of a diff or of memory
abbrev pub Finishes : PrintOptions → Response → List ℕ → List ℕ → Result ℕ Fault → Type 0
Finishes options response old new (Err (NoDiff refusal)) = IsDrawnPreview options response × (new ≡ old)
Finishes options response old new (Err Memory) = new ≡ old
Finishes options response old new (Err Write) = (text : List ℕ) × IsPrintedText options response text
    × AddsFront old new text
Finishes options response old new result = AddsSome old new (IsPrintedText options response) × Accepts response result
