use Rattle.std.proofs.Common.{◌≡◌, ◌+◌, ◌++◌, ◌∷◌, length, get_or, take, [], None, Some, Ok, IfErr, refl, sym, ap}
use Rattle.std.proofs.Common.{subst, ◌∙◌}
use Rattle.std.specs.List.{AllZip}
use Rattle.std.proofs.lemmas.List.{take_all}
use Rattle.std.proofs.lemmas.List.Elements.{All-nil}
use Rattle.std.proofs.lemmas.Result.{IfOk-from_err}
use Rattle.reuse_store.proofs.AskedLemmas.{reads_none, reads_more}
use Rattle.reuse_command.specs.Answer.{IsReadRefusal}
use Rattle.reuse_journal.specs.Opening.{IsFoundAt, IsListedIn, IsReadable, IsLeastFound, least}
use Rattle.reuse_change.specs.Tree.{undo_folder_of}
use Rattle.reuse_command.proofs.Asking.{ok_no_bad, memory_no_bad, fails_otherwise, memory_fails, same_fails}
use Rattle.reuse_command.proofs.OnlyReading.{is_refused, passed_on}
use Rattle.reuse_journal.proofs.ReadNumbers.{long_more, listed_more, found_readable, found_unreadable}
use Rattle.reuse_journal.proofs.opening.read_all.Goals.{in-Some+in_ok-push-in-Some, in-None}
use Rattle.reuse_journal.proofs.opening.read_all.Goals as goal

pub loop-number-preserved : goal.loop-number-preserved
loop-number-preserved g c =
    let store = g.S.Store in
    let kept = c.loop-number.invariant in
    let numbers = c.args.numbers.now in
    let i = c.loop-number.number-index in
    let n = get_or numbers i 0 in
    let lt = c.loop-number-test.true in
    let folder = undo_folder_of (store.files c.args.store.now) in
    let was = c.listed_at.ensures.reads.was_honest in
    let before = λ (h : store.honest c.listed_at.new.store). ap undo_folder_of (kept.reads.files (was h)) in
    elim c.match-branch-2.branch [
      | in-Some+in_ok-push-in-Some w ↦
          let entry = w.in-Some.entry in
          let items = ap (λ v. v.items) w.entries-is ∙ w.in_ok-push-in-Some.ensures.items in
          let here = λ (h : store.honest c.listed_at.new.store). subst (λ f. IsListedIn f n entry) (before h) (subst
          (IsFoundAt (undo_folder_of (store.files c.loop-number.store)) n) w.in-Some.is (c.in_ok-entry.ensures.ok h)) in
          record {
            reads = reads_more g.S.Store _ _ _ kept.reads c.listed_at.ensures.reads;
            long = λ none. subst (λ xs. length xs ≡ length (take (i + 1) numbers))
                (sym {b = c.loop-number.entries.items ++ entry ∷ []} items) (long_more folder numbers i n lt refl
                c.loop-number.entries.items entry (kept.long (sym w.unreadable-is ∙ none)));
            listed = λ h none. subst (AllZip (IsListedIn folder) (take (i + 1) numbers))
                (sym {b = c.loop-number.entries.items ++ entry ∷ []} items) (listed_more folder numbers i n lt refl
                c.loop-number.entries.items entry (kept.listed (was h) (sym w.unreadable-is ∙ none)) (here h));
            found = λ h. subst (IsLeastFound folder (take (i + 1) numbers))
                (sym {b = c.loop-number.unreadable} w.unreadable-is) (found_readable folder numbers i n lt refl
                c.loop-number.unreadable (kept.found (was h)) ((here h).0, (here h).1));
          }
      | in-None w ↦
          let some = w.unreadable-is ∙ ap (λ x. Some x) w.least.ensures in
          let not_here = λ (h : store.honest c.listed_at.new.store). subst (λ f. IsReadable f n → ⊥) (before h) (subst
          (IsFoundAt (undo_folder_of (store.files c.loop-number.store)) n) w.in-None.is (c.in_ok-entry.ensures.ok h)) in
          record {
            reads = reads_more g.S.Store _ _ _ kept.reads c.listed_at.ensures.reads;
            long = λ none. let e = sym some ∙ none in absurd (cc);
            listed = λ h none. let e = sym some ∙ none in absurd (cc);
            found = λ h. subst (IsLeastFound folder (take (i + 1) numbers))
                (sym {b = Some (least c.loop-number.unreadable n)} some) (found_unreadable folder numbers i n lt refl
                c.loop-number.unreadable (kept.found (was h)) (not_here h));
          }
    ]

pub loop-number-init : goal.loop-number-init
loop-number-init g c =
    let items = c.new-entries.ensures.items in
    let folder = undo_folder_of (g.S.Store.files c.args.store.now) in
    record {
      reads = reads_none g.S.Store c.args.store.now;
      long = λ none. ap length items;
      listed = λ h none. subst (AllZip (IsListedIn folder) []) (sym items) tt;
      found = λ h. All-nil (IsReadable folder);
    }

pub returns : goal.returns
returns g c =
    let store = g.S.Store in
    let kept = c.loop-number.invariant in
    let numbers = c.args.numbers.now in
    let unreadable = c.loop-number.unreadable in
    let folder = undo_folder_of (store.files c.args.store.now) in
    let whole : take c.loop-number.number-index numbers ≡ numbers = take_all _ numbers c.loop-number-test.false in
    record {
      listed =
          λ h none. subst (λ ns. AllZip (IsListedIn folder) ns c.loop-number.entries.items) whole (kept.listed h none);
      all = λ none. kept.long none ∙ ap length whole;
      found = λ h. subst (λ ns. IsLeastFound folder ns unreadable) whole (kept.found h);
      refusal = tt;
      no_bad = λ path. ok_no_bad (c.loop-number.entries, unreadable) path;
      fails = fails_otherwise store _ _ (Ok _) tt;
      reads = kept.reads;
    }

pub returns-in_err-entry : goal.returns-in_err-entry
returns-in_err-entry g c =
    let store = g.S.Store in
    let folder = undo_folder_of (store.files c.args.store.now) in
    let numbers = c.args.numbers.now in
    let result = c.from_residual.result in
    let is = is_refused result c.from_residual.ensures.1 in
    record {
      listed = λ h. IfOk-from_err result
          (λ read. read.1 ≡ None → AllZip (IsListedIn folder) numbers read.0.items) c.from_residual.ensures.0;
      all =
          IfOk-from_err result (λ read. read.1 ≡ None → length read.0.items ≡ length numbers) c.from_residual.ensures.0;
      found = λ h. IfOk-from_err result (λ read. IsLeastFound folder numbers read.1) c.from_residual.ensures.0;
      refusal = subst (λ r. IfErr r IsReadRefusal) (sym is) c.in_err-entry.ensures.refusal;
      no_bad = λ path e. c.listed_at.ensures.no_bad path
          (passed_on result c.listed_at.result c.from_residual.ensures.1 c.in_err-entry.was e);
      fails = same_fails store _ _ _ c.listed_at.result result c.in_err-entry.field-0.0 c.in_err-entry.was
          c.from_residual.ensures.1 c.loop-number.invariant.reads c.listed_at.ensures.fails;
      reads = reads_more store _ _ _ c.loop-number.invariant.reads c.listed_at.ensures.reads;
    }

pub returns-in_err-push-in-Some : goal.returns-in_err-push-in-Some
returns-in_err-push-in-Some g c =
    let store = g.S.Store in
    let folder = undo_folder_of (store.files c.args.store.now) in
    let numbers = c.args.numbers.now in
    let result = c.from_residual-in_err-push-in-Some.result in
    let is = is_refused result c.from_residual-in_err-push-in-Some.ensures.1 in
    record {
      listed = λ h. IfOk-from_err result (λ read. read.1 ≡ None → AllZip (IsListedIn folder) numbers read.0.items)
          c.from_residual-in_err-push-in-Some.ensures.0;
      all = IfOk-from_err result
          (λ read. read.1 ≡ None → length read.0.items ≡ length numbers) c.from_residual-in_err-push-in-Some.ensures.0;
      found = λ h. IfOk-from_err result
          (λ read. IsLeastFound folder numbers read.1) c.from_residual-in_err-push-in-Some.ensures.0;
      refusal = subst (λ r. IfErr r IsReadRefusal) (sym is) tt;
      no_bad = λ path. memory_no_bad result path is;
      fails = memory_fails store _ _ result is;
      reads = reads_more store _ _ _ c.loop-number.invariant.reads c.listed_at.ensures.reads;
    }
