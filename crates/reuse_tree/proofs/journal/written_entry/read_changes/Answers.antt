use Rattle.std.proofs.Common.{refl}
use Rattle.std.proofs.lemmas.List.Elements.{All-push}
use Rattle.reuse_json.specs.EntryText.{IsChangeInMemory}
use Rattle.reuse_tree.proofs.WrittenEntries.{all_taken, one_taken}
use Rattle.reuse_tree.proofs.journal.written_entry.read_changes.Goals as goal

pub returns-then-not-skip-clause-text : goal.returns-then-not-skip-clause-text
returns-then-not-skip-clause-text c =
    rw (c.in_ok-push.ensures.items, c.if-not-skip.ensures.kept refl)
    (all_taken c.args.text.now c.changes.changes.items c.in_ok-read_change.field-0 c.changes.text c.read_change.new.text
    c.changes.invariant.0 c.in_ok-read_change.ensures.text)

pub returns-then-not-skip-clause-changes : goal.returns-then-not-skip-clause-changes
returns-then-not-skip-clause-changes c =
    rw c.in_ok-push.ensures.items
    (All-push IsChangeInMemory c.changes.changes.items c.in_ok-read_change.field-0 c.changes.invariant.1
    c.in_ok-read_change.ensures.change)

pub changes-preserved : goal.changes-preserved
changes-preserved c =
    rw c.in_ok-push.ensures.items (
      one_taken c.args.text.now c.changes.changes.items c.in_ok-read_change.field-0 c.changes.text
          c.read_change.new.text c.skip.new.self c.changes.invariant.0 c.in_ok-read_change.ensures.text
          (c.if-not-skip.ensures.taken refl),
      All-push IsChangeInMemory c.changes.changes.items c.in_ok-read_change.field-0 c.changes.invariant.1
          c.in_ok-read_change.ensures.change,
    )
