use Rattle.std.proofs.Common.{◌≡◌, false, sym, subst, arith}
use Rattle.std.specs.Prelude.{Result}
use Rattle.reuse_command.specs.declared.reply.Refusal.{Refusal}
use Rattle.reuse_command.specs.declared.reply.Response.{Response}
use Rattle.reuse_command.specs.declared.request.Request.{Request}
use Rattle.reuse_command.specs.declared.request.Request.TheVariants as requests
use Rattle.reuse_session.specs.session.Stops.{RunState, AnswersClosed, FilesAt, CrashStatesWithin}
use Rattle.reuse_session.proofs.lemmas.session.ClosedRecovery.{recovers_closed, recovers_safely, refused_closed}
use Rattle.reuse_session.proofs.events.ask_closed.Goals as goal

pub returns-in-Recover-clause-answers : goal.returns-in-Recover-clause-answers
returns-in-Recover-clause-answers g c honest old is_closed left =
    let store = g.S.Store in
    let files = store.files c.recover-store.result.0 in
    let Is = (λ (request : Request) (answer : Result Response Refusal).
    (new : RunState) × AnswersClosed request answer old new × (new.is_open ≡ false)
    × FilesAt files new.state new.next) in
    subst (λ r. Is r c.recovered_answer.result) (sym c.in-Recover.is)
    (subst (Is (requests.Recover c.in-Recover.skip_moved)) (sym c.recovered_answer.ensures)
    (recovers_closed store.files c.args.store c.recover-store.result.0 c.in-Recover.skip_moved old is_closed
    c.recover-store.result.1 left
    (c.recover-store.ensures.recovered honest) (c.recover-store.ensures.recovers honest)))

pub returns-in-Recover-clause-survives : goal.returns-in-Recover-clause-survives
returns-in-Recover-clause-survives g c honest old is_closed found =
    let store = g.S.Store in
    let left = c.recover-store.result.0 in
    let Is = (λ (request : Request) (answer : Result Response Refusal).
    (new : RunState) × AnswersClosed request answer old new × (new.is_open ≡ false)
    × CrashStatesWithin store left new.state new.next new.forgetting) in
    subst (λ r. Is r c.recovered_answer.result) (sym c.in-Recover.is)
    (subst (Is (requests.Recover c.in-Recover.skip_moved)) (sym c.recovered_answer.ensures)
    (recovers_safely store c.args.store left c.in-Recover.skip_moved old is_closed c.recover-store.result.1 found
    (c.recover-store.ensures.recovered honest) (c.recover-store.ensures.recovers honest)
    (c.recover-store.ensures.survives honest)))

pub returns-in_default : goal.returns-in_default
returns-in_default g c =
    record {
      answers = λ honest old is_closed left.
          (old, refused_closed c.args.request.now old c.in_default.not-Recover, is_closed, left);
      survives = λ honest old is_closed found.
          (old, refused_closed c.args.request.now old c.in_default.not-Recover, is_closed, found);
      clash = λ honest. tt;
      free = λ honest free. free;
      fault = tt;
      failures = omega arith;
      was_honest = λ honest. honest;
    }
