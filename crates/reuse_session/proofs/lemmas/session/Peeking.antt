-- Calls of a session that only read.
use Rattle.std.proofs.Common.{◌≡◌, ◌≢◌, ◌∙◌, ◌<◌, Bool, true, false, Result, Ok, Err, IfErr, refl, sym, ap, subst}
use Rattle.std.proofs.Common.{arith}
use Rattle.std.proofs.lemmas.Bool.{false≢true}
use Rattle.reuse_store.specs.Asked.{OnlyReads}
use Rattle.reuse_store.proofs.AskedLemmas.{later_reads, reads_more, reads_none}
use Rattle.reuse_command.specs.declared.failure.Fault.TheVariants as stores
use Rattle.reuse_store.specs.declared.store.Store.{Ghosts}
use Rattle.reuse_command.specs.Answer.{DidNotFail, IsBrokenOrMemory, IsEarly, IsStop, HasCause, IsNoClash}
use Rattle.reuse_command.specs.Answer.{RefusedAsRead}
use Rattle.reuse_journal.specs.Journal.{State}
use Rattle.reuse_session.specs.session.Calls.{IsCall}
use Rattle.reuse_session.specs.session.Previews.{ReadsOnly, IsPreviewRefusal}
use Rattle.reuse_session.specs.session.Requests.{ReadsOnlyWithCause}
use Rattle.reuse_session.specs.session.Session.{store_of, is_broken, SimulatesState, IsKept}
use Rattle.reuse_store.specs.declared.cause.Cause.TheVariants as causes
use Rattle.reuse_command.specs.declared.reply.Refusal.{Refusal}
use Rattle.reuse_command.specs.declared.failure.Failure.TheVariants.{Fault as StoreFailed, Memory, Interrupted}
use Rattle.reuse_command.specs.declared.reply.Refusal.TheVariants.{Broken, Failed}
use Rattle.reuse_session.specs.declared.session.Session.{Session}
use Rattle.reuse_session.proofs.lemmas.session.Driving.{stands_still}

-- a refusal as an answer
abbrev pub refused : (A : Type 0) → Refusal → Result A Refusal
refused A refusal = Err refusal

pub same_refusal : (A : Type 0) (one other : Refusal) → refused A one ≡ refused A other → one ≡ other
same_refusal A one other is = cc

-- a fault that has one cause has the other that follows
pub caused : {A : Type 0} (Rose Higher : Type 0) → (Rose → Higher) → (answer : Result A Refusal)
    → IfErr answer (HasCause Rose) → IfErr answer (HasCause Higher)
caused Rose Higher on (Ok reply) h = tt
caused Rose Higher on (Err (Failed (StoreFailed stores.Device))) h = on h
caused Rose Higher on (Err (Failed (Interrupted causes.Device))) h = on h
caused Rose Higher on (Err refusal) h = tt

-- ---- calls that only read

pub unclashed_read : (refusal : Refusal) → (refusal ≢ Failed (StoreFailed stores.Clash)) → IsEarly refusal
    → IsNoClash refusal
unclashed_read (Failed (StoreFailed stores.Clash)) none early = absurd (none refl)
unclashed_read (Failed (Interrupted cause)) none early = absurd early
unclashed_read refusal none early = tt

-- what only reads reports no clash
pub read_only_unclashed : {S A : Type 0} (store : Ghosts S) (answer : Result A Refusal) (old new : Session S)
    → ReadsOnlyWithCause store answer old new → store.honest (store_of new)
    → IfErr answer IsNoClash
read_only_unclashed store (Ok value) old new reads_with_cause honest = tt
read_only_unclashed store (Err refusal) old new reads_with_cause honest =
    unclashed_read refusal (λ is. reads_with_cause.fails.clash honest (ap (λ r. Err r) is)) reads_with_cause.unstopped

-- a step that is shown only reads
pub show_reads_with_cause : {S A : Type 0} (store : Ghosts S) (answer : Result A Refusal) (old new : Session S)
    → (is_broken old ≡ true → answer ≡ Err Broken) → OnlyReads store (store_of old) (store_of new)
    → IsKept old new → RefusedAsRead store (store_of old) (store_of new) answer → IsCall store answer old new
    → ReadsOnlyWithCause store answer old new
show_reads_with_cause {S} {A} store answer old new broken reads kept fails call =
    record {
      reads = reads;
      kept = kept;
      fails = fails;
      unstopped = never_stops answer (is_broken old) refl broken call.interrupted;
      caused = call.fault;
    }
  where
    never_stops : (answer : Result A Refusal) (b : Bool) → is_broken old ≡ b
        → (is_broken old ≡ true → answer ≡ Err Broken) → IfErr answer (λ refusal. IsStop refusal → is_broken new ≡ true)
        → IfErr answer IsEarly
    never_stops (Ok value) b is broken stops = tt
    never_stops (Err (Failed (Interrupted cause))) true is broken stops =
        subst (λ a. IfErr a IsEarly) (sym (broken is)) tt
    never_stops (Err (Failed (Interrupted cause))) false is broken stops =
        absurd (false≢true (sym is ∙ sym kept.1 ∙ stops tt))
    never_stops (Err refusal) b is broken stops = tt

-- the same of an answer that reports no fault, and of a refusal that is handed on
pub reads_with_cause_ok : {S A B : Type 0} (store : Ghosts S) (first : Result A Refusal) (value : B)
    (old new : Session S) → ReadsOnlyWithCause store first old new → ReadsOnlyWithCause {A = B} store (Ok value) old new
reads_with_cause_ok store first value old new reads_with_cause =
    record {
      reads = reads_with_cause.reads;
      kept = reads_with_cause.kept;
      fails = record { device = λ is. absurd (ok_is_no_err value _ is); clash = λ honest is. ok_is_no_err value _ is };
      unstopped = tt;
      caused = tt;
    }
  where
    ok_is_no_err : {B : Type 0} (value : B) (refusal : Refusal) → Ok value ≡ Err refusal → ⊥
    ok_is_no_err value refusal is = cc

pub reads_with_cause_err : {S A B : Type 0} (store : Ghosts S) (refusal : Refusal) (old new : Session S)
    → ReadsOnlyWithCause {A = A} store (Err refusal) old new → ReadsOnlyWithCause {A = B} store (Err refusal) old new
reads_with_cause_err {S} {A} {B} store refusal old new reads_with_cause =
    record {
      reads = reads_with_cause.reads;
      kept = reads_with_cause.kept;
      fails =
          record {
            device = λ is. reads_with_cause.fails.device (ap (refused A) (same_refusal B refusal _ is));
            clash = λ honest is. reads_with_cause.fails.clash honest (ap (refused A) (same_refusal B refusal _ is));
          };
      unstopped = reads_with_cause.unstopped;
      caused = reads_with_cause.caused;
    }

-- the session still stands
pub still_stands : {S A : Type 0} (store : Ghosts S) (answer : Result A Refusal) (old new : Session S) (held : State)
    → ReadsOnlyWithCause store answer old new → store.honest (store_of new)
    → SimulatesState store.files old held → SimulatesState store.files new held
still_stands store answer old new held reads_with_cause honest stands =
    stands_still store.files old new held stands reads_with_cause.kept (reads_with_cause.reads.files honest)

-- a preview looks
pub preview_reads_with_cause : {S A : Type 0} (store : Ghosts S) (answer : Result A Refusal) (old new : Session S)
    → ReadsOnly store answer old new → IfErr answer IsPreviewRefusal → ReadsOnlyWithCause store answer old new
preview_reads_with_cause store answer old new reads_only is =
    record {
      reads = reads_only.reads;
      kept = reads_only.kept;
      fails = reads_only.fails;
      unstopped = unstopped answer is;
      caused = caused_by answer reads_only.fails is;
    }
  where
    unstopped : {A : Type 0} (answer : Result A Refusal) → IfErr answer IsPreviewRefusal → IfErr answer IsEarly
    unstopped (Ok value) is = tt
    unstopped (Err (Failed (Interrupted cause))) is = absurd is
    unstopped (Err refusal) is = tt

    caused_by : {A S : Type 0} {store : Ghosts S} {old new : S} (answer : Result A Refusal)
        → RefusedAsRead store old new answer → IfErr answer IsPreviewRefusal
        → IfErr answer (HasCause (store.failures old < store.failures new))
    caused_by (Ok value) fails is = tt
    caused_by (Err (Failed (StoreFailed stores.Device))) fails is = fails.device refl
    caused_by (Err (Failed (Interrupted cause))) fails is = absurd is
    caused_by (Err refusal) fails is = tt

-- a refusal that reports no fault as one answer reports none as another
pub reported_again : (A B : Type 0) (refusal : Refusal) → DidNotFail (refused A refusal)
    → DidNotFail (refused B refusal)
reported_again A B (Failed failure) reported = absurd reported
reported_again A B refusal reported = tt

-- what a look at an earlier one makes of it: one look, and then another
pub reads_with_cause_on : {S A B : Type 0} (store : Ghosts S) (first : Result A Refusal) (second : Result B Refusal)
    (old mid new : Session S) → ReadsOnlyWithCause store first old mid → ReadsOnlyWithCause store second mid new
    → ReadsOnlyWithCause store second old new
reads_with_cause_on store first second old mid new one two =
    record {
      reads = reads_more store (store_of old) (store_of mid) (store_of new) one.reads two.reads;
      kept = (two.kept.0 ∙ one.kept.0, two.kept.1 ∙ one.kept.1);
      fails =
          record {
            device = λ is. let rise = two.fails.device is in omega (arith, rise, one.reads.failures);
            clash = two.fails.clash;
          };
      unstopped = two.unstopped;
      caused = caused _ _ (λ rise. omega (arith, rise, one.reads.failures)) second two.caused;
    }

-- a log looks
pub log_reads_with_cause : {S A : Type 0} (store : Ghosts S) (answer : Result A Refusal) (session : Session S)
    → IfErr answer IsBrokenOrMemory → ReadsOnlyWithCause store answer session session
log_reads_with_cause {S} {A} store answer session is =
    record {
      reads = reads_none store (store_of session);
      kept = (refl, refl);
      fails = record {
        device = λ e. absurd (subst (λ a. IfErr a IsBrokenOrMemory) e is);
        clash = λ honest e. subst (λ a. IfErr a IsBrokenOrMemory) e is;
      };
      unstopped = early answer is;
      caused = caused_none _ answer is;
    }
  where
    early : (answer : Result A Refusal) → IfErr answer IsBrokenOrMemory → IfErr answer IsEarly
    early (Ok value) is = tt
    early (Err (Failed (Interrupted cause))) is = absurd is
    early (Err refusal) is = tt

    caused_none : (Rose : Type 0) (answer : Result A Refusal) → IfErr answer IsBrokenOrMemory
        → IfErr answer (HasCause Rose)
    caused_none Rose (Ok value) is = tt
    caused_none Rose (Err (Failed Memory)) is = tt
    caused_none Rose (Err Broken) is = tt
    caused_none Rose (Err refusal) is = absurd is

-- what any call leaves, of one that looks
pub read_only_call : {S A : Type 0} (store : Ghosts S) (answer : Result A Refusal) (old new : Session S)
    → ReadsOnlyWithCause store answer old new → IsCall store answer old new
read_only_call {S} {A} store answer old new reads_with_cause =
    record {
      refused = kept answer;
      interrupted = stopped answer reads_with_cause.unstopped;
      fault = reads_with_cause.caused;
      later = later_reads store (store_of old) (store_of new) reads_with_cause.reads;
    }
  where
    kept : (answer : Result A Refusal) → IfErr answer (λ refusal. IsEarly refusal → IsKept old new)
    kept (Ok value) = tt
    kept (Err refusal) = λ early. reads_with_cause.kept

    stopped : (answer : Result A Refusal) → IfErr answer IsEarly
        → IfErr answer (λ refusal. IsStop refusal → is_broken new ≡ true)
    stopped (Ok value) early = tt
    stopped (Err (Failed (Interrupted cause))) early = absurd early
    stopped (Err refusal) early = λ stop. absurd stop
