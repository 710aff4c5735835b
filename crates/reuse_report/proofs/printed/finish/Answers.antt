use Rattle.std.proofs.Common.{◌≡◌, ℕ, Bool, List, Result, Ok, Err, IfOk}
use Rattle.reuse_command.specs.declared.reply.Refusal.{Refusal}
use Rattle.reuse_print.specs.Outputs.{AddsSome}
use Rattle.reuse_report.specs.WriterFaults.{IfNoDiff}
use Rattle.reuse_report.specs.Responses.{Accepts, Finishes, IsPrintedText, ReportsFailure}
use Rattle.reuse_print.specs.declared.fault.Fault.{Fault}
use Rattle.reuse_print.specs.declared.fault.Fault.TheVariants.{WouldRefuse}
use Rattle.reuse_arguments.specs.declared.line.PrintOptions.{PrintOptions}
use Rattle.reuse_command.specs.declared.reply.Response.{Response}
use Rattle.reuse_report.proofs.printed.finish.Goals as goal

-- what is accepted, or would be refused, is reported, and no diff is lacking
finished : (options : PrintOptions) (answer : Response) (old new : List ℕ) (result : Result ℕ Fault)
    → Accepts answer result → AddsSome old new (IsPrintedText options answer) → Finishes options answer old new result
finished options answer old new (Ok count) accepts appends = (appends, accepts)
finished options answer old new (Err (WouldRefuse path_outcomes)) accepts appends = (appends, accepts)
finished options answer old new (Err fault) accepts appends = absurd accepts

-- what holds however the answer is accepted
either_direction : {T E : Type 0} {P : Type 0} (result : Result T E) → P → IfOk result (λ value. P)
either_direction (Ok value) holds = holds
either_direction (Err fault) holds = tt

drawn : (answer : Response) (Claim : Refusal → Type 0) (result : Result ℕ Fault) → Accepts answer result
    → IfNoDiff result Claim
drawn answer Claim (Ok count) accepts = tt
drawn answer Claim (Err (WouldRefuse path_outcomes)) accepts = tt
drawn answer Claim (Err fault) accepts = absurd accepts

written : (answer : Response) (old new : Bool) (result : Result ℕ Fault) → Accepts answer result → new ≡ old
    → ReportsFailure old new result
written answer old new (Ok count) accepts kept = kept
written answer old new (Err (WouldRefuse path_outcomes)) accepts kept = kept
written answer old new (Err fault) accepts kept = absurd accepts

pub returns-in-Ok : goal.returns-in-Ok
returns-in-Ok g c =
    record {
      finishes = finished c.args.options c.args.response _ _ c.accept.result c.accept.ensures c.in-Ok.ensures.printed;
      behind = λ planned. either_direction c.accept.result (c.in-Ok.ensures.behind planned);
      undrawn = drawn c.args.response _ c.accept.result c.accept.ensures;
      failed = written c.args.response _ _ c.accept.result c.accept.ensures c.in-Ok.ensures.kept;
    }
