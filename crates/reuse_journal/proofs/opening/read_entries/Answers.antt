use Rattle.std.proofs.Common.{◌≡◌, ◌+◌, ◌-◌, ◌++◌, length, take, drop, append_assoc, arith, sym, ap, subst, ◌∙◌}
use Rattle.std.specs.List.{All, AllZip}
use Rattle.reuse_journal.specs.Opening.{named, pending_numbers, IsListedIn, IsReadable, IsLeastFound}
use Rattle.reuse_change.specs.Tree.{undo_folder_of}
use Rattle.reuse_journal.proofs.ReadNumbers.{zip_parts}
use Rattle.reuse_journal.proofs.opening.read_entries.Goals as goal

pub returns-clause-ok : goal.returns-clause-ok
returns-clause-ok g c honest =
    let folder = undo_folder_of (g.S.Store.files c.args.store.now) in
    let head = c.args.head.now in
    let entries = c.in_ok-entries.entries.items in
    let numbers : c.as_slice.result.now ≡ named head = c.as_slice.ensures.value ∙ c.in_ok-numbers.ensures in
    let found =
    subst (IsLeastFound folder c.as_slice.result.now) c.in_default.is (c.in_ok-entries.ensures.found honest) in
    let readable = subst (All (IsReadable folder)) numbers found in
    let zipped = subst (λ ns. AllZip (IsListedIn folder) ns entries) (numbers ∙ append_assoc head.done head.undone
    (pending_numbers head.pending)) (c.in_ok-entries.ensures.listed honest c.in_default.is) in
    let front = zip_parts (IsListedIn folder) head.done (head.undone ++ pending_numbers head.pending) entries zipped in
    let behind = zip_parts (IsListedIn folder) head.undone (pending_numbers head.pending)
    (drop (length head.done) entries) front.1 in
    let done : c.in_ok-from_slice.field-0.items ≡ take (length c.as_slice-done.result.now) c.deref.result.now =
    c.in_ok-from_slice.ensures.items in
    let undone : c.in_ok-from_slice-2.field-0.items ≡ take
    (length c.as_slice-done.result.now + length c.as_slice-2.result.now - length c.as_slice-done.result.now)
    (drop (length c.as_slice-done.result.now) c.deref-2.result.now) = c.in_ok-from_slice-2.ensures.items in
    let made : c.new.result ≡ record {
      done = c.in_ok-from_slice.field-0.items;
      undone = c.in_ok-from_slice-2.field-0.items;
      used = head.next - 1;
    } = c.new.ensures in
    let done_is : c.new.result.done ≡ take (length head.done) entries =
    ap (λ m. m.done) made ∙ done ∙ ap (λ n. take (length n) c.deref.result.now) c.as_slice-done.ensures
    ∙ ap (take (length head.done)) c.deref.ensures.value in
    let count : length c.as_slice-done.result.now + length c.as_slice-2.result.now - length c.as_slice-done.result.now
    ≡ length head.undone =
    omega (arith, ap length c.as_slice-2.ensures) in
    let undone_is : c.new.result.undone ≡ take (length head.undone) (drop (length head.done) entries) =
    ap (λ m. m.undone) made ∙ undone
    ∙ ap (λ n. take n (drop (length c.as_slice-done.result.now) c.deref-2.result.now)) count
    ∙ ap (λ ns. take (length head.undone) (drop (length ns) c.deref-2.result.now)) c.as_slice-done.ensures
    ∙ ap (λ es. take (length head.undone) (drop (length head.done) es)) c.deref-2.ensures.value in
    let used : c.new.result.used ≡ head.next - 1 = ap (λ m. m.used) made in (
      subst (AllZip (IsListedIn folder) head.done) (sym done_is) front.0,
      subst (AllZip (IsListedIn folder) head.undone) (sym undone_is) behind.0,
      readable,
      omega (arith, c.requires.next),
    )
