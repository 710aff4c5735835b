-- What the model answers to a request, and the state in which it is then. What a step changed it reports by the trees
-- before it and after it, so that a show, an undo, a redo and a revert go by some changes that lead from the one to the
-- other. Where no step is missing, an undo and a redo by any such changes give one answer. All else is one answer.
use Rattle.std.specs.Prelude.{◌≡◌, ◌⊎◌, ℕ, Bool, List, [], ◌∷◌, ◌++◌, Result, Ok, Err}
use Rattle.std.specs.List.{All}
use Rattle.reuse_change.specs.Entry.{paths_of, CanBeMade, IsFirstStuck, LeadsBy}
use Rattle.reuse_change.specs.Files.{Files}
use Rattle.reuse_change.specs.Tree.{changed_paths}
use Rattle.reuse_change.specs.declared.change.Change.{Change}
use Rattle.reuse_change.specs.declared.direction.Direction.{Direction}
use Rattle.reuse_change.specs.declared.direction.Direction.TheVariants as go
use Rattle.reuse_journal.specs.Journal.{end_of, reply_of}
use Rattle.reuse_plan.specs.PathOutcomes.{ArePathOutcomesOf}
use Rattle.reuse_session.specs.session.Forgetting.{ForgetsTo, numbers_asked, snapshots_besides}
use Rattle.reuse_session.specs.session.Machine.{Connects, Kept, Snapshots, Step, ran_by, rows_of, run_path_outcomes}
use Rattle.reuse_session.specs.session.Requests.{as_answer}
use Rattle.reuse_session.specs.session.RevertCalls.{changed_later, left_of}
use Rattle.reuse_session.specs.session.Showing.{LedBy, ShowsAt}
use Rattle.reuse_command.specs.Answer.{nothing_recovered}
use Rattle.reuse_command.specs.declared.command.Command.{Command}
use Rattle.reuse_command.specs.declared.command.Command.TheVariants.{Revert}
use Rattle.reuse_session.specs.declared.events.Event.{Event}
use Rattle.reuse_session.specs.declared.events.Event.TheVariants as events
use Rattle.reuse_command.specs.declared.path_outcome.PathOutcome.{PathOutcome}
use Rattle.reuse_command.specs.declared.reply.Response.{Response}
use Rattle.reuse_command.specs.declared.reply.Response.TheVariants as responses
use Rattle.reuse_command.specs.declared.reply.Refusal.{Refusal}
use Rattle.reuse_command.specs.declared.reply.Refusal.TheVariants.{Moved, NoSuchStep}
use Rattle.reuse_command.specs.declared.reply.Shown.{Shown}
use Rattle.reuse_command.specs.declared.request.Call.{Call}
use Rattle.reuse_command.specs.declared.request.Call.TheVariants as calls
use Rattle.reuse_command.specs.declared.request.Request.{Request}
use Rattle.reuse_command.specs.declared.request.Request.TheVariants as requests

-- the answer and the state are those of the step
abbrev pub AreOf : Step → Result Response Refusal → Snapshots → Type 0
AreOf given answer next = (answer ≡ given.0) × (next ≡ given.1)

-- ---- steps by their numbers

-- none of the steps has the number
abbrev pub IsUnkept : ℕ → List Kept → Type 0
IsUnkept number steps = All (λ (kept : Kept). ¬ (kept.label.number ≡ number)) steps

-- what is shown is a step of the model, or no step has the number
abbrev pub ShowsBy : Snapshots → ℕ → Result Shown Refusal → Type 0
ShowsBy state number (Ok shown) = ShowsAt state number shown
ShowsBy state number (Err refusal) =
    (refusal ≡ NoSuchStep number) × IsUnkept number state.past × IsUnkept number state.future

-- the command that takes these changes of the step of the number back, but where a later step changed the path
abbrev pub command_back : Snapshots → ℕ → Bool → List Change → Command
command_back state number skip_moved changes =
    Revert changes (changed_later number state.past changes) skip_moved

-- how that run is answered: by the paths that changed, and the others of the step
abbrev pub as_reverted : List Change → Result Response Refusal → Result Response Refusal
as_reverted changes (Ok (responses.Changed paths left)) =
    Ok (responses.Reverted (record { changed = paths; skipped = left_of (paths_of changes) paths }))
as_reverted changes (Ok reply) =
    Ok (responses.Reverted (record { changed = []; skipped = left_of (paths_of changes) [] }))
as_reverted changes (Err refusal) = Err refusal

-- a revert is the run that takes back what the step of the number changed, or no step that is done has the number
abbrev pub RevertsTo : Snapshots → ℕ → Bool → ℕ → Result Response Refusal → Snapshots → Type 0
RevertsTo state number skip_moved when answer next =
    ((answer ≡ Err (NoSuchStep number)) × IsUnkept number state.past × (next ≡ state))
    ⊎ ((changes : List Change) × LedBy number state.past changes
    × (let ran = ran_by state (command_back state number skip_moved changes) when in
    AreOf (as_reverted changes ran.0, ran.1) answer next))

-- what it would do is what that run would do
abbrev pub PreviewsBack : Snapshots → ℕ → Bool → Result (List PathOutcome) Refusal → Type 0
PreviewsBack state number skip_moved answer =
    ((answer ≡ Err (NoSuchStep number)) × IsUnkept number state.past)
    ⊎ ((changes : List Change) × LedBy number state.past changes
    × (answer ≡ run_path_outcomes state (command_back state number skip_moved changes)))

-- ---- undo and redo

-- the step is taken back or made again, and the tree is this: the step leads from there to the tree before, or from
-- that on to there
abbrev pub replayed : Direction → Kept → List Kept → Snapshots → Files → Snapshots
replayed go.Backward kept others state tree = record {
  tree = tree;
  past = others;
  future = record { label = kept.label; before = tree; after = state.tree } ∷ state.future;
  used = state.used;
}
replayed go.Forward kept others state tree = record {
  tree = tree;
  past = record { label = kept.label; before = state.tree; after = tree } ∷ state.past;
  future = others;
  used = state.used;
}

-- the changes of the step can all be gone through this way, and are; or the first that can't be names the refusal, and
-- all stays
abbrev pub GoesThrough : Direction → List Change → Kept → List Kept → Snapshots → Result Response Refusal → Snapshots
    → Type 0
GoesThrough direction changes kept others state (Ok reply) next =
    (reply ≡ reply_of direction (changed_paths kept.before kept.after)) × All (CanBeMade direction state.tree) changes
    × LeadsBy direction changes state.tree next.tree × (next ≡ replayed direction kept others state next.tree)
GoesThrough direction changes kept others state (Err refusal) next =
    ((path : List ℕ) × (refusal ≡ Moved path) × IsFirstStuck direction state.tree changes path) × (next ≡ state)

-- the next of these steps is gone through this way, by some changes that lead from the tree before it to that after it
abbrev pub ReplaysTo : Direction → List Kept → Snapshots → Result Response Refusal → Snapshots → Type 0
ReplaysTo direction [] state answer next = (answer ≡ Err (end_of direction)) × (next ≡ state)
ReplaysTo direction (kept ∷ others) state answer next = (changes : List Change)
    × Connects changes kept.before kept.after × GoesThrough direction changes kept others state answer next

-- what that would do, path by path
abbrev pub PreviewsReplayTo : Direction → List Kept → Files → Result (List PathOutcome) Refusal → Type 0
PreviewsReplayTo direction [] tree answer = answer ≡ Err (end_of direction)
PreviewsReplayTo direction (kept ∷ others) tree (Ok path_outcomes) = (changes : List Change)
    × Connects changes kept.before kept.after × ArePathOutcomesOf direction tree changes path_outcomes
PreviewsReplayTo direction (kept ∷ others) tree (Err refusal) = ⊥

-- the steps that a way goes on with: back over those done, and on over those undone
abbrev pub kept_ahead : Direction → Snapshots → List Kept
kept_ahead go.Backward state = state.past
kept_ahead go.Forward state = state.future

-- ---- requests

-- the call at this moment
abbrev pub MakesTo : Snapshots → Call → ℕ → Result Response Refusal → Snapshots → Type 0
MakesTo state (calls.Run command) when answer next = AreOf (ran_by state command when) answer next
MakesTo state calls.Undo when answer next = ReplaysTo go.Backward state.past state answer next
MakesTo state calls.Redo when answer next = ReplaysTo go.Forward state.future state answer next
MakesTo state (calls.Revert number skip_moved) when answer next = RevertsTo state number skip_moved when answer next

-- what the call would do
abbrev pub PreviewsTo : Snapshots → Call → Result (List PathOutcome) Refusal → Type 0
PreviewsTo state (calls.Run command) answer = answer ≡ run_path_outcomes state command
PreviewsTo state calls.Undo answer = PreviewsReplayTo go.Backward state.past state.tree answer
PreviewsTo state calls.Redo answer = PreviewsReplayTo go.Forward state.future state.tree answer
PreviewsTo state (calls.Revert number skip_moved) answer = PreviewsBack state number skip_moved answer

-- asked this in the state, the model gives the answer and is in the next state then
abbrev pub Gives : Snapshots → Request → Result Response Refusal → Snapshots → Type 0
Gives state (requests.Make call when) answer next = MakesTo state call when answer next
Gives state (requests.Forget steps) answer next = (forgotten : Result (List ℕ) Refusal)
    × (answer ≡ as_answer responses.Forgotten forgotten) × ForgetsTo (numbers_asked steps state) state forgotten next
Gives state (requests.Preview call) answer next = (path_outcomes : Result (List PathOutcome) Refusal)
    × (answer ≡ as_answer responses.Preview path_outcomes) × PreviewsTo state call path_outcomes × (next ≡ state)
Gives state (requests.Recover skip_moved) answer next =
    (answer ≡ Ok (responses.Recovered nothing_recovered)) × (next ≡ state)
Gives state requests.Log answer next = (answer ≡ Ok (responses.Log (rows_of state))) × (next ≡ state)
Gives state (requests.Show number) answer next = (shown : Result Shown Refusal)
    × (answer ≡ as_answer responses.Shown shown) × ShowsBy state number shown × (next ≡ state)

-- a request that the model answers by its trees alone: no step is named by its number
abbrev pub IsByTrees : Request → Type 0
IsByTrees (requests.Make (calls.Revert number skip_moved) when) = ⊥
IsByTrees (requests.Preview (calls.Revert number skip_moved)) = ⊥
IsByTrees (requests.Forget steps) = ⊥
IsByTrees (requests.Show number) = ⊥
IsByTrees request = Unit {0}

-- the request takes no step out of the history but the oldest that are done and the last that are undone
abbrev pub TakesFromTheEnds : Request → Snapshots → Type 0
TakesFromTheEnds (requests.Forget steps) state = (oldest : List Kept) × (last : List Kept)
    × (state.past ≡ (snapshots_besides (numbers_asked steps state) state).past ++ oldest)
    × (state.future ≡ (snapshots_besides (numbers_asked steps state) state).future ++ last)
TakesFromTheEnds request state = Unit {0}

-- ---- events

-- a request, or to be opened again
abbrev pub GivesEvent : Snapshots → Event → Result Response Refusal → Snapshots → Type 0
GivesEvent state (events.Ask request) answer next = Gives state request answer next
GivesEvent state events.Reopen answer next = (answer ≡ Ok responses.Opened) × (next ≡ state)

-- the model gives the answers to the events, one after the other, from the one state to the other
abbrev pub AnswersAll : List Event → List (Result Response Refusal) → (state end : Snapshots) → Type 0
AnswersAll [] [] state end = end ≡ state
AnswersAll (event ∷ events) (answer ∷ answers) state end =
    (next : Snapshots) × GivesEvent state event answer next × AnswersAll events answers next end
AnswersAll [] (answer ∷ answers) state end = ⊥
AnswersAll (event ∷ events) [] state end = ⊥
