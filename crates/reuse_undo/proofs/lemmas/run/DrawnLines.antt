-- Behind the lines of a dry run stands the diff of two trees.
use Rattle.std.proofs.Common.{◌≡◌, inl, inr, ℕ, List, Result, Ok, Err, IfOk, IsOkAnd, subst}
use Rattle.std.specs.declared.vec.Vec.{Vec}
use Rattle.reuse_change.specs.Files.{Files}
use Rattle.reuse_journal.specs.Journal.{State}
use Rattle.reuse_session.specs.session.Requests.{IsReading, Meets, as_answer}
use Rattle.reuse_command.specs.declared.path_outcome.PathOutcome.{PathOutcome}
use Rattle.reuse_command.specs.declared.reply.Refusal.{Refusal}
use Rattle.reuse_command.specs.declared.reply.Response.TheVariants as responses
use Rattle.reuse_report.specs.Drawn.{IsDrawnText, IsTreeDiff}
use Rattle.reuse_undo.specs.run.DryRuns.{IsDiffOfCall, WouldLeave}
use Rattle.reuse_print.specs.Outputs.{AddsSome}
use Rattle.reuse_undo.specs.run.RunLine.{RequestLeaves, SessionLeaves}
use Rattle.reuse_report.specs.Responses.{Finishes, HasBehind, IsDrawnPreview, IsWanted, WouldBeMade}
use Rattle.reuse_print.specs.declared.fault.Fault.{Fault}
use Rattle.reuse_arguments.specs.declared.line.OutputFormat.TheVariants.{Diff}
use Rattle.reuse_arguments.specs.declared.line.PrintOptions.{PrintOptions}
use Rattle.reuse_command.specs.declared.request.Request.{Request}
use Rattle.reuse_command.specs.declared.request.Request.TheVariants as requests
use Rattle.reuse_command.specs.declared.reply.Response.{Response}

-- ---- where a diff is wanted

-- what would leave a tree only reads
would_look : (request : Request) (held : State) (tree : Files) → WouldLeave request held tree → IsReading request
would_look (requests.Preview call) held tree would = tt
would_look request held tree would = absurd would

-- what holds of a value for each thing that something holds of
when_ok : {T E I : Type 0} (result : Result T E) (Given : I → Type 0) (Holds : I → T → Type 0)
    → ((i : I) → Given i → IfOk result (Holds i)) → IfOk result (λ value. (i : I) → Given i → Holds i value)
when_ok (Ok value) Given Holds all = all
when_ok (Err fault) Given Holds all = tt

-- what is drawn for each tree that the call would leave is its diff
pub diff_of_call : {A : Type 0} (request : Request) (held : State) (diff : Result (Vec ℕ A) Fault)
    → ((after : Files) → WouldLeave request held after → IfOk diff (λ text. IsTreeDiff held.tree after text.items))
    → IfOk diff (λ text. IsDiffOfCall request held text.items)
diff_of_call {A} request held diff all = when_ok diff (λ after. WouldLeave request held after)
    (λ after (text : Vec ℕ A). IsTreeDiff held.tree after text.items) all

-- of the tree that the call would leave
pub reported_diff : {A : Type 0} (request : Request) (held : State) (tree : Files) (diff : Result (Vec ℕ A) Fault)
    → WouldLeave request held tree
    → IfOk diff (λ text. IsDiffOfCall request held text.items)
    → IfOk diff (λ text. IsTreeDiff held.tree tree text.items)
reported_diff request held tree (Ok text) would all = all tree would
reported_diff request held tree (Err fault) would all = tt

pub drawn_where_wanted : {A : Type 0} (options : PrintOptions) (request : Request) (held : State)
    (answer : Result Response Refusal) (diff : Result (Vec ℕ A) Fault)
    → (IsWanted options answer → IsReading request → IfOk diff (λ text. IsDiffOfCall request held text.items))
    → IfOk answer
    (λ response. IsDrawnPreview options response → IfOk diff (λ text. IsDiffOfCall request held text.items))
drawn_where_wanted options request held (Err refusal) diff drawn = tt
drawn_where_wanted options request held (Ok response) diff drawn =
    λ wanted. diff_of_call request held diff
    (λ after would. reported_diff request held after diff would (drawn wanted (would_look request held after would)))

-- ---- what a dry run reports

-- a reply, as an answer
abbrev answered : Response → Result Response Refusal
answered response = Ok response

reported_path_outcomes : (response : Response) (path_outcomes : Result (List PathOutcome) Refusal)
    → answered response ≡ as_answer responses.Preview path_outcomes
    → (f : List PathOutcome) × (response ≡ responses.Preview f)
reported_path_outcomes response (Ok path_outcomes) is = (path_outcomes, cc)
reported_path_outcomes response (Err refusal) is = absurd (cc)

meets_reports : (request : Request) (held found : State) (tree after : Files) (response : Response)
    → WouldLeave request held tree → Meets request found (Ok response) after
    → (path_outcomes : List PathOutcome) × (response ≡ responses.Preview path_outcomes)
meets_reports (requests.Preview call) held found tree after response would meets =
    reported_path_outcomes response meets.1.0 meets.1.1
meets_reports request held found tree after response would meets = absurd would

session_reports : (request : Request) (held : State) (tree before after : Files) (response : Response)
    → WouldLeave request held tree → SessionLeaves before request (Ok response) after
    → (path_outcomes : List PathOutcome) × (response ≡ responses.Preview path_outcomes)
session_reports request held tree before after response would (inl unopened) = let e = unopened.1 in absurd (cc)
session_reports request held tree before after response would (inr made) =
    meets_reports request held (made.made).0 tree after response would (made.made).3

-- the dry run of a call that would leave a tree reports path outcomes
pub previews_report : (request : Request) (held : State) (tree before after : Files) (response : Response)
    → WouldLeave request held tree → RequestLeaves before request (Ok response) after
    → (path_outcomes : List PathOutcome) × (response ≡ responses.Preview path_outcomes)
previews_report (requests.Recover skip_moved) held tree before after response would leaves = absurd would
previews_report request held tree before after response would leaves =
    session_reports request held tree before after response would leaves

-- ---- lines and diff

pub drawn_in_lines : {A : Type 0} (options : PrintOptions) (before after : Files) (response : Response)
    (path_outcomes : List PathOutcome) (old new : List ℕ) (outcome : Result ℕ Fault) (diff : Result (Vec ℕ A) Fault)
    → response ≡ responses.Preview path_outcomes → options.format ≡ Diff → Finishes options response old new outcome
    → (IsDrawnPreview options response
    → IfOk outcome (λ count. IsOkAnd diff (λ text. AddsSome old new (HasBehind options.names response text.items))))
    → (IsDrawnPreview options response → IfOk diff (λ text. IsTreeDiff before after text.items))
    → IfOk outcome (λ count. AddsSome old new (IsDrawnText options.names before after))
drawn_in_lines options before after response path_outcomes old new (Err fault) diff is wants finishes behind drawn = tt
drawn_in_lines options before after response path_outcomes old new (Ok count)
    (Err fault) is wants finishes behind drawn =
    absurd (behind (wants, path_outcomes, is, subst WouldBeMade is (finishes.1).1))
drawn_in_lines options before after response path_outcomes old new (Ok count) (Ok diff) is wants finishes behind drawn =
    let planned : IsDrawnPreview options response = (wants, path_outcomes, is, subst WouldBeMade is (finishes.1).1) in
    let adds = behind planned in
    let has = subst (λ (answer : Response). HasBehind options.names answer diff.items adds.0) is adds.1.0 in (
      adds.0,
      (
        record {
          path_outcomes = path_outcomes;
          lines = has.0;
          diff = diff.items;
          printed = has.1;
          drawn = drawn planned;
          whole = has.2;
        },
        adds.1.1,
      ),
    )
