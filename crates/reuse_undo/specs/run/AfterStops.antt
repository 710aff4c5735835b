-- What a request is answered where an earlier one may have stopped, and where it leaves the files: as in a run of the
-- reference model with stops.
use Rattle.std.specs.Prelude.{◌≡◌, ◌⊎◌, Bool, Result, Err}
use Rattle.reuse_session.specs.session.Machine.{Snapshots}
use Rattle.reuse_session.specs.session.Stops.{RunState, open_at, closed, Continues, IsReached, Recovers, Reopens}
use Rattle.reuse_command.specs.declared.reply.Refusal.{Refusal}
use Rattle.reuse_command.specs.declared.reply.Response.{Response}
use Rattle.reuse_command.specs.declared.request.Request.{Request}
use Rattle.reuse_command.specs.declared.request.Request.TheVariants as requests

-- a request to a session that opened at the state is answered as in a run with stops, and the session is closed behind
-- it
abbrev pub EndsRequest : Bool → Snapshots → Request → Result Response Refusal → RunState → Type 0
EndsRequest forgetting state request answer end =
    (left : RunState) × Continues request answer (open_at forgetting state) left × (end ≡ closed left)

-- No session opens, since something failed, and the point stays; or one opens at the state there, or at that after the
-- step that stopped, and the request is answered from it.
abbrev pub OpensToAnswer : Request → Result Response Refusal → RunState → RunState → Type 0
OpensToAnswer request answer start end =
    ((refusal : Refusal) × (answer ≡ Err refusal) × Reopens (Err refusal) start end)
    ⊎ ((state : Snapshots) × IsReached start state × EndsRequest start.forgetting state request answer end)

-- A request, where earlier ones led to a point. A recovery is made while no session is open.
abbrev pub AnswersAfterStop : Request → Result Response Refusal → RunState → RunState → Type 0
AnswersAfterStop (requests.Recover skip_moved) answer start end = Recovers answer (closed start) end
AnswersAfterStop request answer start end = OpensToAnswer request answer start end
