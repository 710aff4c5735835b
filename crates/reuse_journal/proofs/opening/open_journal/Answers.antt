use Rattle.std.proofs.Common.{◌≡◌, ◌<◌, ◌≤◌, ◌+◌, length, arith, ◌⊎◌, inl, inr, ⊎_elim, None, Some, Result, Ok, Err}
use Rattle.std.proofs.Common.{IfErr, MatchResult, refl, sym, ap, subst, ◌∙◌}
use Rattle.std.proofs.lemmas.Result.{IfOk-from_err, IfErr-at_err}
use Rattle.reuse_command.specs.Answer.{HasCause, IsEarly, IsNoClash, IsOpenRefusal, IsReadRefusal, RefusedAsRead}
use Rattle.reuse_journal.specs.History.{Memory}
use Rattle.reuse_journal.specs.Opening.{IsRead, IsSettled, IsStuckAt, MutationsToOpen, OpensOn, StopsOpening}
use Rattle.reuse_journal.specs.Remembered.{head_room, HasHeadText, IsSameBut, Remembers}
use Rattle.reuse_journal.specs.JournalFiles.{head_of, head_path, entry_path, HeadSays, EntrySays}
use Rattle.reuse_command.specs.declared.reply.Refusal.{Refusal}
use Rattle.reuse_command.specs.declared.failure.Failure.TheVariants.{Interrupted}
use Rattle.reuse_command.specs.declared.reply.Refusal.TheVariants.{BadJournal, Moved, Failed}
use Rattle.reuse_journal.specs.Losses.{AreBetweenStates, AllRecoverToTree, Earlier, beyond}
use Rattle.reuse_store.specs.declared.store.Store.{Ghosts}
use Rattle.reuse_store.specs.Asked.{OnlyReads}
use Rattle.reuse_store.proofs.AskedLemmas.{reads_more, later_reads, later_more}
use Rattle.std.specs.FinMap as map
use Rattle.reuse_tree.specs.Head.{listed}
use Rattle.reuse_tree.specs.declared.journal.head.Head.{Head}
use Rattle.reuse_json.specs.declared.entry.Entry.{Entry}
use Rattle.reuse_journal.specs.Journal.{Journal, State}
use Rattle.reuse_journal.specs.CommittedState.{IsCommittedState, BetweenStates}
use Rattle.reuse_change.specs.Tree.{undo_folder_of}
use Rattle.reuse_journal.proofs.OpeningLemmas.{as_many_listed}
use Rattle.reuse_journal.proofs.FilesBetweenStates.{IsPendingBetween, doubt_bad, none_pending, read_pending, read_opens}
use Rattle.reuse_journal.proofs.FilesBetweenStates.{read_recovers, settled_opens, still_in_doubt, left_in_doubt}
use Rattle.reuse_journal.proofs.OpeningDoubt.{doubt_stays, files_in_doubt, reads_committed, refused_in_doubt}
use Rattle.reuse_command.proofs.Asking.{opening_too, reading_cause, reading_no_clash}
use Rattle.reuse_command.proofs.OnlyReading.{is_refused, passed_on, still_caused}
use Rattle.reuse_journal.proofs.PendingRecovery.{read_failure}
use Rattle.reuse_journal.proofs.opening.open_journal.Given.{Over}
use Rattle.reuse_journal.proofs.opening.open_journal.Goals.{After-recover_pending}
use Rattle.reuse_journal.proofs.opening.open_journal.Goals as goal

-- an answer reports no refusal
no_refusal : {A : Type 0} (x : A) (refusal : Refusal) → ◌≡◌ {A = Result A Refusal} (Ok x) (Err refusal) → ⊥
no_refusal x refusal e = absurd (cc)

-- one of the committed states is remembered, and all that may be left is safe on it
abbrev OpensSafely : {S : Type 0} → Ghosts S → Earlier → (held next : State) → S → Memory → Type 0
OpensSafely store earlier held next new memory =
    (IsCommittedState (store.files new) held × Remembers memory held.journal × AllRecoverToTree store earlier held new)
    ⊎ (IsCommittedState (store.files new) next × Remembers memory next.journal
    × AllRecoverToTree store (beyond earlier held) next new)

pub returns-in_err-pending : goal.returns-in_err-pending
returns-in_err-pending g c =
    let store = g.S.Store in
    let old = c.args.store.now in
    let new = c.read_journal.new.store in
    let call = c.read_journal.result in
    let result = c.from_residual.result in
    let refusal = c.in_err-pending.field-0.0 in
    let was = c.in_err-pending.was in
    let given = c.from_residual.ensures.1 in
    let is = is_refused result given in
    let reads = c.read_journal.ensures.reads in
    let kind = c.in_err-pending.ensures.refusal in
    let fails = subst (λ r. RefusedAsRead store old new r) was c.read_journal.ensures.fails in
    record {
      opened = λ h. IfOk-from_err result (λ memory. (held : State) × Remembers memory held.journal
          × OpensOn (store.files old) held (store.files new)) c.from_residual.ensures.0;
      bad = λ h path e. c.read_journal.ensures.bad h path (passed_on result call given was e);
      moved = λ h path e. absurd
          (IfErr-at_err IsReadRefusal (passed_on result call given was e) c.read_journal.ensures.refusal);
      interrupted = λ h cause e. absurd
          (IfErr-at_err IsReadRefusal (passed_on result call given was e) c.read_journal.ensures.refusal);
      recovers = λ h first second doubt.
          let failure = read_failure refusal kind (λ path e. doubt_bad first second (store.files old) doubt path
          (c.read_journal.ensures.bad h path (was ∙ ap (λ x. Err x) e))) in
          let memories =
          λ (memory : Memory). (IsCommittedState (store.files new) first × Remembers memory first.journal)
          ⊎ (IsCommittedState (store.files new) second × Remembers memory second.journal) in
          left_in_doubt result refusal refusal memories first second (store.files new) is refl failure
          (subst (BetweenStates first second) (sym (reads.files h)) doubt);
      survives = λ h earlier held next doubt. refused_in_doubt store earlier held next old new reads h result refusal
          (OpensSafely store earlier held next new) is doubt;
      texts = λ h. IfOk-from_err result (λ memory. (store.files new ≡ store.files old)
          ⊎ HasHeadText memory (store.files new)) c.from_residual.ensures.0;
      written = λ h head says. omega (arith, reads.written);
      mutations = λ h. inl reads.mutations;
      early = subst (λ r. IfErr r (λ refusal. IsEarly refusal → OnlyReads store old new)) (sym is) (λ early. reads);
      late = λ cause e other. absurd
          (IfErr-at_err IsReadRefusal (passed_on result call given was e) c.read_journal.ensures.refusal);
      quiet = λ h held committed. reads;
      folder = λ h other ne. ap (λ f. map.get (undo_folder_of f) other) (reads.files h);
      refusal = subst (λ r. IfErr r IsOpenRefusal) (sym is) (opening_too refusal kind);
      clash = λ h. subst (λ r. IfErr r IsNoClash) (sym is) (reading_no_clash store old new refusal kind fails h);
      fault = subst (λ r. IfErr r (HasCause (store.failures old < store.failures new))) (sym is)
          (reading_cause store old new refusal kind fails);
      later = later_reads store old new reads;
    }

pub returns-in-None : goal.returns-in-None
returns-in-None g c =
    let store = g.S.Store in
    let old = c.args.store.now in
    let new = c.read_journal.new.store in
    let memory = c.in_ok-pending.history in
    let reads = c.read_journal.ensures.reads in
    let read = λ (h : store.honest new).
    let r = c.in_ok-pending.ensures.ok h in
    let given : (journal : Journal) × IsRead (store.files old) None memory journal =
    (r.0, subst (λ p. IsRead (store.files old) p memory r.0) c.in-None.is r.1) in given in
    record {
      opened = λ h. read_opens (store.files old) (store.files new) memory (read h).0 (read h).1 (reads.files h)
          (g.met.S.Store.are_files old (reads.was_honest h));
      bad = λ h path e. absurd (no_refusal memory (BadJournal path) e);
      moved = λ h path e. absurd (no_refusal memory (Moved path) e);
      interrupted = λ h cause e. absurd (no_refusal memory (Failed (Interrupted cause)) e);
      recovers = λ h first second doubt. read_recovers (store.files old) (store.files new) memory (read h).0 (read h).1
          (reads.files h) first second doubt;
      survives = λ h earlier held next doubt. reads_committed store earlier held next old new reads h memory (read h).0
          (read h).1 doubt;
      texts = λ h. inl (reads.files h);
      written = λ h head says. omega (arith, reads.written);
      mutations = λ h. inl reads.mutations;
      early = tt;
      late = λ cause e other. absurd (no_refusal memory (Failed (Interrupted cause)) e);
      quiet = λ h held committed. reads;
      folder = λ h other ne. ap (λ f. map.get (undo_folder_of f) other) (reads.files h);
      refusal = tt;
      clash = λ h. tt;
      fault = tt;
      later = later_reads store old new reads;
    }

-- what is known once the pending step is rolled back, or isn't
module _ (g : Over) (c : After-recover_pending g) (honest : g.S.Store.honest c.recover_pending.new.store) where
  -- reading the journal left the files as they were
  same_files : g.S.Store.files c.read_journal.new.store ≡ g.S.Store.files c.args.store.now
  same_files = c.read_journal.ensures.reads.files (c.recover_pending.ensures.later.was_honest honest)

  -- the journal that was read
  read_before : (journal : Journal)
      × IsRead (g.S.Store.files c.args.store.now) (Some c.in-Some.pending) c.in_ok-pending.history journal
  read_before =
      let r = c.in_ok-pending.ensures.ok (c.recover_pending.ensures.later.was_honest honest) in
      (r.0, subst (λ p. IsRead (g.S.Store.files c.args.store.now) p c.in_ok-pending.history r.0) c.in-Some.is r.1)

  read_after : IsRead (g.S.Store.files c.read_journal.new.store)
      (Some c.in-Some.pending) c.in_ok-pending.history read_before.0
  read_after = subst (λ files. IsRead files (Some c.in-Some.pending) c.in_ok-pending.history read_before.0)
      (sym same_files) read_before.1

  -- the pending step is the one that the files are in doubt of
  pending_in_doubt : (first second : State) → BetweenStates first second (g.S.Store.files c.args.store.now)
      → IsPendingBetween first second
      (g.S.Store.files c.read_journal.new.store) c.in-Some.pending c.in_ok-pending.history
  pending_in_doubt first second doubt =
      read_pending first second _ c.in-Some.pending c.in_ok-pending.history read_before.0 read_after
      (subst (BetweenStates first second) (sym same_files) doubt)

  -- reading the journal left what may be left in doubt
  mid_in_doubt : (earlier : Earlier) (held next : State) → AreBetweenStates g.S.Store earlier held next c.args.store.now
      → AreBetweenStates g.S.Store earlier held next c.read_journal.new.store
  mid_in_doubt earlier held next = doubt_stays g.S.Store earlier held next c.args.store.now c.read_journal.new.store
      c.read_journal.ensures.reads (c.recover_pending.ensures.later.was_honest honest)

  -- a committed state has nothing pending
  never_committed : (held : State) → IsCommittedState (g.S.Store.files c.args.store.now) held → ⊥
  never_committed held committed =
      none_pending _ held committed c.in-Some.pending c.in_ok-pending.history read_before.0 read_before.1

  folder_kept : IsSameBut head_path (undo_folder_of (g.S.Store.files c.args.store.now))
      (undo_folder_of (g.S.Store.files c.recover_pending.new.store))
  folder_kept =
      subst (λ f. IsSameBut head_path (undo_folder_of f) (undo_folder_of (g.S.Store.files c.recover_pending.new.store)))
      same_files (c.recover_pending.ensures.folder honest read_before.0 read_after)

  head_written : (head : Head) → HeadSays (map.get (undo_folder_of (g.S.Store.files c.args.store.now)) head_path) head
      → g.S.Store.written c.recover_pending.new.store ≤ g.S.Store.written c.args.store.now + head_room
      (length (listed head))
  head_written head says =
      let read = read_before.1 in
      let count = as_many_listed (undo_folder_of (g.S.Store.files c.args.store.now)) read_before.0
      (Some c.in-Some.pending) c.in_ok-pending.history head read.keeps read.remembers says in
      omega (
        arith,
        c.recover_pending.ensures.written honest read_before.0 read_after,
        count,
        c.read_journal.ensures.reads.written,
      )

  mutations_to_open : MutationsToOpen g.S.Store c.args.store.now c.recover_pending.new.store
  mutations_to_open =
      let kept = read_before.1.keeps in
      ⊎_elim
      (λ (none : g.S.Store.mutations c.recover_pending.new.store ≡ g.S.Store.mutations c.read_journal.new.store). inl
      (none ∙ c.read_journal.ensures.reads.mutations))
      (λ (some : (entry : Entry) × EntrySays (map.get (undo_folder_of (g.S.Store.files c.read_journal.new.store))
      (entry_path c.in-Some.pending.entry)) entry × (g.S.Store.mutations c.recover_pending.new.store
      ≤ g.S.Store.mutations c.read_journal.new.store + length entry.changes + 1)).
      inr (
        some.0,
        record {
          head = head_of read_before.0 (Some c.in-Some.pending);
          pending = c.in-Some.pending;
          says = kept.head;
          states = refl;
          is = subst (λ f. EntrySays (map.get (undo_folder_of f) (entry_path c.in-Some.pending.entry)) some.0)
              same_files some.1;
        },
        omega (arith, some.2, c.read_journal.ensures.reads.mutations),
      ))
      (c.recover_pending.ensures.mutations honest)

pub returns-in_err-recover_pending-in-Some : goal.returns-in_err-recover_pending-in-Some
returns-in_err-recover_pending-in-Some g c =
    let s = (goal.at.returns-in_err-recover_pending-in-Some g c).After-recover_pending in
    let store = g.S.Store in
    let old = c.args.store.now in
    let mid = c.read_journal.new.store in
    let new = c.recover_pending.new.store in
    let call = c.recover_pending.result in
    let result = c.from_residual-in_err-recover_pending-in-Some.result in
    let refusal = c.in_err-recover_pending-in-Some.field-0.0 in
    let was = c.in_err-recover_pending-in-Some.was in
    let given = c.from_residual-in_err-recover_pending-in-Some.ensures.1 in
    let is = is_refused result given in
    let reads = c.read_journal.ensures.reads in
    let reported = c.in_err-recover_pending-in-Some.ensures in
    record {
      opened = λ h. IfOk-from_err result (λ memory. (held : State) × Remembers memory held.journal
          × OpensOn (store.files old) held (store.files new)) c.from_residual-in_err-recover_pending-in-Some.ensures.0;
      bad = λ h path e. absurd
          (c.recover_pending.ensures.no_bad h _ (read_after g s h) path (passed_on result call given was e));
      moved = λ h path e. subst (λ f. IsStuckAt f path) (same_files g s h)
          (c.recover_pending.ensures.moved h _ (read_after g s h) path (passed_on result call given was e));
      interrupted = λ h cause e. subst (λ f. StopsOpening f (store.files new)) (same_files g s h)
          (c.recover_pending.ensures.interrupted h _ (read_after g s h) cause (passed_on result call given was e));
      recovers = λ h first second doubt.
          let step = pending_in_doubt g s h first second doubt in
          let left = reported.recovers h _ (read_after g s h) step.step first step.number step.under in
          let memories =
          λ (memory : Memory). (IsCommittedState (store.files new) first × Remembers memory first.journal)
          ⊎ (IsCommittedState (store.files new) second × Remembers memory second.journal) in
          left_in_doubt result refusal refusal memories first second (store.files new) is refl left.0
          (still_in_doubt first second (store.files mid)
          (store.files new) c.in-Some.pending c.in_ok-pending.history step left.1);
      survives = λ h earlier held next doubt.
          let left =
          reported.survives h _ (read_after g s h) earlier held next (mid_in_doubt g s h earlier held next doubt) in
          subst (λ r. MatchResult r (OpensSafely store earlier held next new)
          (λ refusal. AreBetweenStates store earlier held next new)) (sym is) left;
      texts = λ h. IfOk-from_err result (λ memory. (store.files new ≡ store.files old)
          ⊎ HasHeadText memory (store.files new)) c.from_residual-in_err-recover_pending-in-Some.ensures.0;
      written = head_written g s;
      mutations = mutations_to_open g s;
      early = subst (λ r. IfErr r (λ refusal. IsEarly refusal → OnlyReads store old new)) (sym is)
          (λ early. reads_more store old mid new reads (reported.early early));
      late = λ cause e other. omega
          (arith, reads.mutations, c.recover_pending.ensures.late cause (passed_on result call given was e) other);
      quiet = λ h held committed. absurd (never_committed g s h held committed);
      folder = folder_kept g s;
      refusal = subst (λ r. IfErr r IsOpenRefusal) (sym is) reported.refusal;
      clash = λ h. subst (λ r. IfErr r IsNoClash) (sym is) (reported.clash h _ (read_after g s h));
      fault = subst (λ r. IfErr r (HasCause (store.failures old < store.failures new))) (sym is)
          (still_caused refusal (store.failures mid < store.failures new) (store.failures old < store.failures new)
          (λ rose. omega (arith, reads.failures, rose)) reported.fault);
      later = later_more store old mid new (later_reads store old mid reads) c.recover_pending.ensures.later;
    }

pub returns-in_ok-recover_pending-in-Some : goal.returns-in_ok-recover_pending-in-Some
returns-in_ok-recover_pending-in-Some g c =
    let s = (goal.at.returns-in_ok-recover_pending-in-Some g c).After-recover_pending in
    let store = g.S.Store in
    let old = c.args.store.now in
    let mid = c.read_journal.new.store in
    let new = c.recover_pending.new.store in
    let memory = c.in_ok-pending.history in
    let done = c.in_ok-recover_pending-in-Some.ensures in
    record {
      opened = λ h.
          let read = read_before g s h in
          settled_opens _ (store.files new) c.in-Some.pending memory read.0 read.1
          (subst (λ files. IsSettled c.in-Some.pending read.0 files (store.files new)) (same_files g s h)
          (done.done h read.0 (read_after g s h)));
      bad = λ h path e. absurd (no_refusal memory (BadJournal path) e);
      moved = λ h path e. absurd (no_refusal memory (Moved path) e);
      interrupted = λ h cause e. absurd (no_refusal memory (Failed (Interrupted cause)) e);
      recovers = λ h first second doubt.
          let step = pending_in_doubt g s h first second doubt in
          inl (done.recovers h _ (read_after g s h) step.step first step.number step.under, step.remembers);
      survives = λ h earlier held next doubt.
          let step = pending_in_doubt g s h held next (files_in_doubt store earlier held next old doubt) in
          let left =
          done.survives h _ (read_after g s h) earlier held next (mid_in_doubt g s h earlier held next doubt) in
          inl (left.0, step.remembers, left.1);
      texts = λ h. inr (done.texts h (read_before g s h).0 (read_after g s h));
      written = head_written g s;
      mutations = mutations_to_open g s;
      early = tt;
      late = λ cause e other. absurd (no_refusal memory (Failed (Interrupted cause)) e);
      quiet = λ h held committed. absurd (never_committed g s h held committed);
      folder = folder_kept g s;
      refusal = tt;
      clash = λ h. tt;
      fault = tt;
      later = later_more store old mid new
          (later_reads store old mid c.read_journal.ensures.reads) c.recover_pending.ensures.later;
    }
