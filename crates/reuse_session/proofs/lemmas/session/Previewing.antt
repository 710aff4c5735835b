-- Previews: what they report is what the model reports, and they leave all as it was.
use Rattle.std.proofs.Common.{◌≡◌, ◌↔◌, ℕ, Bool, true, false, cond, List, [], ◌∷◌, ◌++◌, length, map, Result, Ok, Err}
use Rattle.std.proofs.Common.{IfOk, IfErr, None, refl, sym, ap, subst, ◌∙◌}
use Rattle.std.specs.List.{All}
use Rattle.std.proofs.lemmas.List.Elements.{All-head, All-tail}
use Rattle.reuse_change.specs.Files.{Files}
use Rattle.reuse_change.specs.Change.{path_of}
use Rattle.reuse_change.specs.declared.change.Change.{Change}
use Rattle.reuse_store.specs.declared.store.Store.{Ghosts}
use Rattle.reuse_command.specs.Answer.{IsEarly, RefusedAsRead, DidNotFail, IsEarlyFailure}
use Rattle.reuse_change.specs.Entry.{paths_of, CanBeMade}
use Rattle.reuse_plan.specs.PathOutcomes.{changes_plainly, path_outcomes_of, IsPathOutcomeOf, ArePathOutcomesOf}
use Rattle.reuse_journal.specs.Journal.{Recorded, State, ahead}
use Rattle.reuse_session.specs.session.Machine.{Kept, Snapshots, run_path_outcomes}
use Rattle.reuse_session.specs.session.Model.{PreviewsReplayTo, kept_ahead}
use Rattle.reuse_journal.specs.Labels.{is_full}
use Rattle.reuse_session.specs.session.Previews.{path_outcomes_alone, PreviewsReplay, ReadsOnly, run_path_outcomes_on}
use Rattle.reuse_session.specs.session.Session.{store_of, HaveCopies, Simulates}
use Rattle.reuse_command.specs.declared.command.Command.{Command}
use Rattle.reuse_change.specs.declared.direction.Direction.{Direction}
use Rattle.reuse_change.specs.declared.direction.Direction.TheVariants as direction
use Rattle.reuse_command.specs.declared.path_outcome.PathOutcome.{PathOutcome}
use Rattle.reuse_command.specs.declared.path_outcome.PathOutcome.TheVariants as path_outcome
use Rattle.reuse_command.specs.declared.path_outcome.Previewed.{Previewed}
use Rattle.reuse_command.specs.declared.reply.Refusal.{Refusal}
use Rattle.reuse_command.specs.declared.reply.Refusal.TheVariants as refusals
use Rattle.reuse_session.specs.declared.session.Session.{Session}

-- ---- the path outcomes of changes

-- one path outcome more
pub path_outcome_push : (direction : Direction) (tree : Files) (changes : List Change)
    (path_outcomes : List PathOutcome) (change : Change) (reported : PathOutcome)
    → ArePathOutcomesOf direction tree changes path_outcomes → IsPathOutcomeOf direction tree change reported
    → ArePathOutcomesOf direction tree (changes ++ change ∷ []) (path_outcomes ++ reported ∷ [])
path_outcome_push direction tree [] [] change reported are is = (is, tt)
path_outcome_push direction tree (c ∷ cs) (f ∷ fs) change reported are is =
    (are.0, path_outcome_push direction tree cs fs change reported are.1 is)
path_outcome_push direction tree [] (f ∷ fs) change reported are is = absurd are
path_outcome_push direction tree (c ∷ cs) [] change reported are is = absurd are

-- a change that can be made changes its path
changes_path : (direction : Direction) (tree : Files) (change : Change) (reported : PathOutcome)
    → CanBeMade direction tree change → IsPathOutcomeOf direction tree change reported → (path : List ℕ)
    × (reported ≡ changes_plainly path) × IsPathOutcomeOf direction tree change (changes_plainly path)
changes_path direction tree change (path_outcome.Changes path None) can is = (path, refl, is)
changes_path direction tree change (path_outcome.Refused (refusals.Moved path)) can is = absurd (is.1 can)
changes_path direction tree change reported can is = absurd is

pub all_change : (direction : Direction) (tree : Files) (changes : List Change) (path_outcomes : List PathOutcome)
    → All (CanBeMade direction tree) changes → ArePathOutcomesOf direction tree changes path_outcomes
    → path_outcomes ≡ map changes_plainly (paths_of changes)
all_change direction tree [] [] can are = refl
all_change direction tree (c ∷ cs) (f ∷ fs) can are =
    let one = changes_path direction tree c f (All-head (CanBeMade direction tree) c cs can) are.0 in
    ap (λ x. x ∷ fs) (one.1 ∙ ap changes_plainly one.2.0) ∙ ap (λ xs. changes_plainly (path_of c) ∷ xs)
    (all_change direction tree cs fs (All-tail (CanBeMade direction tree) c cs can) are.1)
all_change direction tree [] (f ∷ fs) can are = absurd are
all_change direction tree (c ∷ cs) [] can are = absurd are

-- ---- the model

module _ (held : State) (state : Snapshots) (holds : Simulates held state) where
  by_cases : (go : Direction) (answer : Result (List PathOutcome) Refusal) (steps : List Recorded) (copies : List Kept)
      → HaveCopies steps copies → PreviewsReplay go steps held.tree answer
      → PreviewsReplayTo go copies state.tree answer
  by_cases go answer [] [] h reported = reported
  by_cases go (Ok path_outcomes) (step ∷ steps) (kept ∷ others) h reported =
      (step.changes, h.1, subst (λ t. ArePathOutcomesOf go t step.changes path_outcomes) holds.tree reported)
  by_cases go (Err refusal) (step ∷ steps) (kept ∷ others) h reported = absurd reported
  by_cases go answer [] (kept ∷ others) h reported = absurd h
  by_cases go answer (step ∷ steps) [] h reported = absurd h

  -- what going one step this way reports
  pub replay_as_previewed_to : (go : Direction) (answer : Result (List PathOutcome) Refusal) → PreviewsReplay go
      (ahead go held.journal) held.tree answer → PreviewsReplayTo go (kept_ahead go state) state.tree answer
  replay_as_previewed_to direction.Backward answer reported =
      by_cases direction.Backward answer held.journal.done state.past holds.past reported
  replay_as_previewed_to direction.Forward answer reported =
      by_cases direction.Forward answer held.journal.undone state.future holds.future reported

-- a refusal that reports a fault isn't reported
pub look_reported : (A : Type 0) (refusal : Refusal) → IsEarlyFailure refusal → DidNotFail {A = A} (Err refusal) → ⊥
look_reported A (refusals.Failed failure) look reported = reported
look_reported A refusal look reported = look

pub any_reported : (A B : Type 0) (refusal : Refusal) → DidNotFail {A = A} (Err refusal)
    → DidNotFail {A = B} (Err refusal)
any_reported A B (refusals.Failed failure) reported = reported
any_reported A B refusal reported = tt

-- on a tree, with a journal that is full or not
preview_of : (command : Command) (now tree : Files) (expected full : Bool) (answer : Result (List PathOutcome) Refusal)
    → now ≡ tree → expected ≡ full
    → cond full (answer ≡ Err refusals.JournalFull)
    (IfOk answer (λ path_outcomes. path_outcomes ≡ path_outcomes_of command now) × IfErr answer IsEarlyFailure)
    → DidNotFail answer → answer ≡ cond expected (Err refusals.JournalFull) (Ok (path_outcomes_of command tree))
preview_of command now tree expected true answer same full is reported =
    is ∙ sym (ap (λ b. cond b (Err refusals.JournalFull) (Ok (path_outcomes_of command tree))) full)
preview_of command now tree expected false (Ok path_outcomes) same full is reported =
    ap (λ fs. Ok fs) (is.0 ∙ ap (path_outcomes_of command) same)
    ∙ sym (ap (λ b. cond b (Err refusals.JournalFull) (Ok (path_outcomes_of command tree))) full)
preview_of command now tree expected false (Err refusal) same full is reported =
    absurd (look_reported (List PathOutcome) refusal is.1 reported)

pub run_as_previewed : (command : Command) (tree : Files) (state : Snapshots) (full : Bool)
    (answer : Result (List PathOutcome) Refusal) → tree ≡ state.tree → is_full (length state.past) state.used ≡ full
    → cond full (answer ≡ Err refusals.JournalFull)
    (IfOk answer (λ path_outcomes. path_outcomes ≡ path_outcomes_of command tree) × IfErr answer IsEarlyFailure)
    → DidNotFail answer → answer ≡ run_path_outcomes state command
run_as_previewed command tree state full =
    preview_of command tree state.tree (is_full (length state.past) state.used) full

pub run_as_previewed_on : (command : Command) (held : State) (full : Bool) (answer : Result (List PathOutcome) Refusal)
    → is_full (length held.journal.done) held.journal.used ≡ full
    → cond full (answer ≡ Err refusals.JournalFull)
    (IfOk answer (λ path_outcomes. path_outcomes ≡ path_outcomes_of command held.tree) × IfErr answer IsEarlyFailure)
    → DidNotFail answer → answer ≡ run_path_outcomes_on held command
run_as_previewed_on command held full answer =
    preview_of command held.tree held.tree (is_full (length held.journal.done) held.journal.used) full answer refl

pub replay_as_previewed : (direction : Direction) (step : Recorded) (steps : List Recorded) (made : List Change)
    (tree now : Files) (answer : Result (List PathOutcome) Refusal) → step.changes ≡ made → now ≡ tree
    → IfOk answer (ArePathOutcomesOf direction now made) → IfErr answer IsEarlyFailure → DidNotFail answer
    → PreviewsReplay direction (step ∷ steps) tree answer
replay_as_previewed direction step steps made tree now (Ok path_outcomes) changes same are kind reported =
    subst (λ t. ArePathOutcomesOf direction t step.changes path_outcomes) same
    (subst (λ cs. ArePathOutcomesOf direction now cs path_outcomes) (sym changes) are)
replay_as_previewed direction step steps made tree now (Err refusal) changes same are kind reported =
    absurd (look_reported (List PathOutcome) refusal kind reported)

-- ---- path outcomes with their changes, and without

pub alone_path_outcomes : (answer : Result Previewed Refusal) (P : List PathOutcome → Type 0)
    → IfOk answer (λ previewed. P previewed.path_outcomes) → IfOk (path_outcomes_alone answer) P
alone_path_outcomes (Ok previewed) P h = h
alone_path_outcomes (Err refusal) P h = tt

pub alone_refusal : (answer : Result Previewed Refusal) (P : Refusal → Type 0) → IfErr answer P
    → IfErr (path_outcomes_alone answer) P
alone_refusal (Ok previewed) P h = tt
alone_refusal (Err refusal) P h = h

pub alone_reported : (answer : Result Previewed Refusal) → DidNotFail answer → DidNotFail (path_outcomes_alone answer)
alone_reported (Ok previewed) reported = tt
alone_reported (Err refusal) reported = any_reported Previewed (List PathOutcome) refusal reported

with_reported : (answer : Result Previewed Refusal) → DidNotFail (path_outcomes_alone answer) → DidNotFail answer
with_reported (Ok previewed) reported = tt
with_reported (Err refusal) reported = any_reported (List PathOutcome) Previewed refusal reported

-- a refusal, as an answer
abbrev refused : (A : Type 0) → Refusal → Result A Refusal
refused A refusal = Err refusal

alone_refused : (answer : Result Previewed Refusal) (refusal : Refusal) → path_outcomes_alone answer ≡ Err refusal
    → answer ≡ Err refusal
alone_refused (Ok previewed) refusal is = absurd (cc)
alone_refused (Err other) refusal is = ap (refused Previewed) (same_refusal other refusal is)
  where
    same_refusal : (one two : Refusal) → refused (List PathOutcome) one ≡ refused (List PathOutcome) two → one ≡ two
    same_refusal one two is = cc

alone_fails : {S : Type 0} (store : Ghosts S) (old new : S) (answer : Result Previewed Refusal)
    → RefusedAsRead store old new answer → RefusedAsRead store old new (path_outcomes_alone answer)
alone_fails store old new answer fails = record {
  device = λ is. fails.device (alone_refused answer _ is);
  clash = λ honest is. fails.clash honest (alone_refused answer _ is);
}

-- what is reported without the changes
module _ (answer : Result Previewed Refusal) (alone : Result (List PathOutcome) Refusal)
    (is : alone ≡ path_outcomes_alone answer) where
  pub alone_where : (refusal : Refusal) (P : Type 0) → (answer ≡ Err refusal ↔ P) → (alone ≡ Err refusal ↔ P)
  alone_where refusal P h =
      (λ e. h.0 (alone_refused answer refusal (sym is ∙ e)), λ p. is ∙ ap path_outcomes_alone (h.1 p))

  pub alone_ok : (P : List PathOutcome → Type 0) → IfOk answer (λ previewed. P previewed.path_outcomes) → IfOk alone P
  alone_ok P h = subst (λ a. IfOk a P) (sym is) (alone_path_outcomes answer P h)

  pub alone_err : (P : Refusal → Type 0) → IfErr answer P → IfErr alone P
  alone_err P h = subst (λ a. IfErr a P) (sym is) (alone_refusal answer P h)

  pub reported_alone : DidNotFail alone → DidNotFail answer
  reported_alone reported = with_reported answer (subst DidNotFail is reported)

  pub alone_looks : {S : Type 0} (store : Ghosts S) (old new : Session S) → ReadsOnly store answer old new
      → ReadsOnly store alone old new
  alone_looks store old new reads_only = record {
    reads = reads_only.reads;
    kept = reads_only.kept;
    fails = subst (λ a. RefusedAsRead store (store_of old) (store_of new) a) (sym is)
        (alone_fails store (store_of old) (store_of new) answer reads_only.fails);
  }

-- ---- what they leave

pub always : {A : Type 0} (answer : Result A Refusal) (P : Type 0) → P → IfErr answer (λ refusal. IsEarly refusal → P)
always (Ok x) P p = tt
always (Err refusal) P p = λ early. p
