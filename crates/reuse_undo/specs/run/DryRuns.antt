-- A dry run with the diff of what it would change: of the tree as it is, and of that which the call would leave.
use Rattle.std.specs.Prelude.{◌≡◌, ℕ, Bool, true, false, List, Option, Some, None, IfSome, IsSomeAnd, Result, Ok, Err}
use Rattle.reuse_change.specs.Files.{Files}
use Rattle.reuse_change.specs.declared.change.Change.{Change}
use Rattle.reuse_store.specs.declared.store.Store.{Ghosts}
use Rattle.reuse_change.specs.declared.direction.Direction.{Direction}
use Rattle.reuse_journal.specs.Journal.{State}
use Rattle.reuse_session.specs.session.Session.{store_of, SimulatesState}
use Rattle.reuse_command.specs.declared.path_outcome.Previewed.{Previewed}
use Rattle.reuse_command.specs.declared.reply.Refusal.{Refusal}
use Rattle.reuse_command.specs.declared.reply.Response.{Response}
use Rattle.reuse_session.specs.declared.session.Session.{Session}
use Rattle.reuse_session.specs.session.Requests.{IsAnswered, Makes}
use Rattle.reuse_report.specs.Drawn.{LeadsAsPreviewed, IsTreeDiff}
use Rattle.reuse_report.specs.Responses.{is_refused, IsAccepted}
use Rattle.reuse_report.specs.declared.drawn.PlannedChanges.{PlannedChanges}
use Rattle.reuse_command.specs.declared.request.Request.{Request}
use Rattle.reuse_command.specs.declared.request.Request.TheVariants as requests

-- Made on the committed state, the call whose dry run is asked for is accepted and leaves this tree.
abbrev pub WouldLeave : Request → State → Files → Type 0
WouldLeave (requests.Preview call) held after =
    (when : ℕ) × (reply : Response) × (new : State) × Makes call when held (Ok reply) new × (new.tree ≡ after)
WouldLeave request held after = ⊥

-- ---- for private clauses

-- whatever tree the call would leave, this is the diff of the tree that stands and of that one
abbrev pub IsDiffOfCall : Request → State → List ℕ → Type 0
IsDiffOfCall request held text = (after : Files) → WouldLeave request held after → IsTreeDiff held.tree after text

-- what would change, gone through this way, unless that is refused
abbrev pub planned_unless : Bool → List Change → Direction → Option PlannedChanges
planned_unless true changes direction = None
planned_unless false changes direction = Some (record { changes = changes; direction = direction })

-- the same of what is previewed, where none of the path outcomes is a refusal
abbrev pub planned_in : Direction → Result Previewed Refusal → Option PlannedChanges
planned_in direction (Ok previewed) = planned_unless (is_refused previewed.path_outcomes) previewed.changes direction
planned_in direction (Err refusal) = None

-- where a dry run was answered without a refusal, what would change is there, and leads to whatever tree the call would
-- leave
abbrev pub LeadsAsPreviewedAccepted : {S : Type 0} → Ghosts S → Request → Result Response Refusal
    → Option PlannedChanges → Session S → Session S → Type 0
LeadsAsPreviewedAccepted store request answer planned old new =
    store.honest (store_of new) → (held : State) → SimulatesState store.files old held → (after : Files)
    → WouldLeave request held after → IsAccepted answer
    → IsSomeAnd planned (λ planned. LeadsAsPreviewed planned held.tree after)

-- the request is answered, and of a dry run without a refusal what would change is there, and of nothing else
pub record IsAnsweredWith {S : Type 0} (store : Ghosts S) (request : Request) (answer : Result Response Refusal)
    (planned : Option PlannedChanges) (old new : Session S) : Type 0 where
  pub answered : IsAnswered store request answer old new
  pub accepted : IfSome planned (λ planned. IsAccepted answer)
  pub previews : LeadsAsPreviewedAccepted store request answer planned old new
