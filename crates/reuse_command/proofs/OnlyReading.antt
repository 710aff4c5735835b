-- Calls that only read the store before they are refused, or before a step.
use Rattle.std.proofs.Common.{◌≡◌, Result, Ok, Err, IfErr, IsErrAnd, ap, subst, ◌∙◌}
use Rattle.std.proofs.lemmas.Result.{err_from_is_err_and}
use Rattle.reuse_command.specs.declared.failure.Fault.TheVariants as faults
use Rattle.reuse_store.specs.declared.store.Store.{Ghosts}
use Rattle.reuse_store.specs.Asked.{OnlyReads}
use Rattle.reuse_command.specs.Answer.{IsEarly, IsOfPlan, IsReadRefusal, IsStop, IsTestRefusal, HasCause}
use Rattle.reuse_command.specs.Answer.{IsEarlyFailure}
use Rattle.reuse_store.specs.declared.cause.Cause.{Cause}
use Rattle.reuse_store.specs.declared.cause.Cause.TheVariants as causes
use Rattle.reuse_command.specs.declared.reply.Refusal.{Refusal}
use Rattle.reuse_command.specs.declared.failure.Failure.TheVariants.{Fault, Interrupted}
use Rattle.reuse_command.specs.declared.reply.Refusal.TheVariants.{Failed}

pub early_is_no_stop : (refusal : Refusal) → IsEarly refusal → IsStop refusal → ⊥
early_is_no_stop (Failed (Interrupted cause)) early stop = early
early_is_no_stop refusal early stop = stop

-- a reading's refusal comes early, and that of a plan and of a test
pub read_early : (refusal : Refusal) → IsReadRefusal refusal → IsEarly refusal
read_early (Failed (Interrupted cause)) is = is
read_early refusal is = tt

pub put_early : (refusal : Refusal) → IsEarlyFailure refusal → IsEarly refusal
put_early (Failed (Interrupted cause)) is = is
put_early refusal is = tt

pub planned_early : (refusal : Refusal) → IsOfPlan refusal → IsEarly refusal
planned_early (Failed (Interrupted cause)) is = is
planned_early refusal is = tt

pub tested_early : (refusal : Refusal) → IsTestRefusal refusal → IsEarly refusal
tested_early (Failed (Interrupted cause)) is = is
tested_early refusal is = tt

-- what the exit of a `?` returns is the refusal
pub is_refused : {A : Type 0} {refusal : Refusal} (result : Result A Refusal)
    → IsErrAnd result (λ given. given ≡ refusal) → result ≡ Err refusal
is_refused result is = let p = err_from_is_err_and result is in p.1 ∙ ap (λ given. Err given) p.2

-- where it returns this one, the call was refused with it
pub passed_on : {A B E : Type 0} {refusal given : E} (result : Result A E) (call : Result B E)
    → IsErrAnd result (λ reported. reported ≡ refusal) → call ≡ Err refusal → result ≡ Err given → call ≡ Err given
passed_on result call is was e = let p = err_from_is_err_and result is in let from = p.1 in let same = p.2 in cc

-- a cause stays one where more have failed
pub still_caused : (refusal : Refusal) (few more : Type 0) → (few → more) → HasCause few refusal → HasCause more refusal
still_caused (Failed (Fault faults.Device)) few more rise cause = rise cause
still_caused (Failed (Interrupted causes.Device)) few more rise cause = rise cause
still_caused refusal few more rise cause = tt

-- what is said of a stop holds at each cause
pub at_stop : {A : Type 0} (Left : Type 0) {result : Result A Refusal} {cause : Cause}
    → result ≡ Err (Failed (Interrupted cause)) → IfErr result (λ refusal. IsStop refusal → Left) → Left
at_stop Left is left = (subst (λ r. IfErr r (λ refusal. IsStop refusal → Left)) is left) tt

-- a refusal before which was only read leaves the files
pub early_files : {A S : Type 0} (store : Ghosts S) (old new : S) (result : Result A Refusal)
    → IfErr result (λ refusal. IsEarly refusal → OnlyReads store old new) → store.honest new
    → IfErr result (λ refusal. IsEarly refusal → store.files new ≡ store.files old)
early_files store old new (Ok x) early honest = early
early_files store old new (Err refusal) early honest = λ is. (early is).files honest
