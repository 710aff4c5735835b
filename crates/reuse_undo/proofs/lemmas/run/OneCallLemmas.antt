-- A request that is carried out once, and a line, between stores that stay.
use Rattle.std.proofs.Common.{◌≡◌, ◌∙◌, ℕ, Bool, Option, None, Some, Result, Ok, Err, refl, subst, sym}
use Rattle.reuse_store.specs.declared.store.Store.{Ghosts}
use Rattle.reuse_store.proofs.AskedLemmas.{reads_more}
use Rattle.reuse_command.specs.declared.reply.Refusal.{Refusal}
use Rattle.reuse_command.specs.declared.request.Request.{Request}
use Rattle.reuse_arguments.specs.declared.line.NamesUse.{NamesUse}
use Rattle.reuse_arguments.specs.declared.line.PrintOptions.{PrintOptions}
use Rattle.reuse_disk.specs.declared.syncs.Unsynced.{Unsynced}
use Rattle.reuse_print.specs.declared.fault.Fault.{Fault}
use Rattle.reuse_print.specs.declared.fault.Fault.TheVariants as faults
use Rattle.reuse_print.specs.declared.output.Sink as sinks
use Rattle.reuse_report.specs.declared.access_refusal.AccessRefusal.{AccessRefusal}
use Rattle.reuse_undo.specs.run.LineRuns.{AnswersLine, IsAnsweredSo, is_listing}
use Rattle.reuse_undo.specs.run.OneCall.{AnswersOnce, EndsOnce, Stays}

-- a store that stayed twice
pub stays_on : {S : Type 0} (store : Ghosts S) (noted : S → Unsynced) (older old new : S) → Stays store noted older old
    → Stays store noted old new → Stays store noted older new
stays_on store noted older old new before after =
    (reads_more store older old new before.0 after.0, after.1 ∙ before.1)

-- a request that was carried out between two stores was so from one that stayed before, to one that stayed behind
pub once_between : {S O : Type 0} (store : Ghosts S) (sink : sinks.Ghosts O) (noted : S → Unsynced) (lists_names : Bool)
    (request : Request) (options : PrintOptions) (older old new newer : S) (outcome : Result ℕ Fault)
    → Stays store noted older old → Stays store noted new newer
    → AnswersOnce store sink noted lists_names request options old new outcome
    → AnswersOnce store sink noted lists_names request options older newer outcome
once_between store sink noted lists_names request options older old new newer outcome before after once =
    record {
      begun = once.begun;
      left = once.left;
      before = once.before;
      after = once.after;
      goes = stays_on store noted older old once.begun before once.goes;
      nothing = once.nothing;
      whole = once.whole;
      answers = once.answers;
      comes_back = stays_on store noted once.left new newer once.comes_back after;
    }

-- what was refused is answered so
pub answered_refused : {S O : Type 0} (store : Ghosts S) (sink : sinks.Ghosts O) (noted : S → Unsynced)
    (names : NamesUse) (options : PrintOptions) (refusal : Option Refusal) (refused : Refusal) (asked : Request)
    (old : S) → refusal ≡ Some refused
    → IsAnsweredSo store sink noted names options refusal asked old old (Ok (Err (faults.Refused refused)))
answered_refused store sink noted names options refusal refused asked old is =
    subst (λ r. IsAnsweredSo store sink noted names options r asked old old (Ok (Err (faults.Refused refused))))
    (sym is) (refl, refl)

-- what wasn't is, once
pub answered_once : {S O : Type 0} (store : Ghosts S) (sink : sinks.Ghosts O) (noted : S → Unsynced)
    (names : NamesUse) (options : PrintOptions) (refusal : Option Refusal) (asked : Request) (old new : S)
    (ending : Result (Result ℕ Fault) AccessRefusal) (listing : Bool) → refusal ≡ None
    → listing ≡ is_listing names
    → EndsOnce store (AnswersOnce store sink noted listing asked options) noted asked old new ending
    → IsAnsweredSo store sink noted names options refusal asked old new ending
answered_once store sink noted names options refusal asked old new ending listing none same ends =
    subst (λ r. IsAnsweredSo store sink noted names options r asked old new ending) (sym none)
    (subst (λ (b : Bool). EndsOnce store (AnswersOnce store sink noted b asked options) noted asked old new ending) same
    ends)

-- so it is for what is the same of a line
pub line_as : {S O : Type 0} (store : Ghosts S) (sink : sinks.Ghosts O) (noted : S → Unsynced)
    (names others : NamesUse) (options settled : PrintOptions) (request whole : Request) (old new : S) (asked : Request)
    (ending : Result (Result ℕ Fault) AccessRefusal) → names ≡ others → options ≡ settled → request ≡ whole
    → AnswersLine store sink noted names options request old new asked ending
    → AnswersLine store sink noted others settled whole old new asked ending
line_as store sink noted names others options settled request whole old new asked ending same_names same_options
    same_request answers =
    subst (λ n. AnswersLine store sink noted n settled whole old new asked ending) same_names
    (subst (λ o. AnswersLine store sink noted names o whole old new asked ending) same_options
    (subst (λ r. AnswersLine store sink noted names options r old new asked ending) same_request answers))
