use Rattle.std.proofs.Common.{◌≡◌, ◌∙◌, sym, subst}
use Rattle.std.proofs.lemmas.Bool.{false≢true}
use Rattle.reuse_tree.specs.EntryTests.{Passes}
use Rattle.reuse_json.specs.declared.entry.Entry.{Entry}
use Rattle.reuse_tree.proofs.EntryPaths.{entry_from_tests, paths_from_tests, tests_from_entry}
use Rattle.reuse_tree.proofs.journal.entry_reading.judge.Goals as goal

pub returns-then-are_sound-clause-ok : goal.returns-then-are_sound-clause-ok
returns-then-are_sound-clause-ok c =
    let changes = c.in_ok-entry.entry.changes in
    let passes : Passes changes =
    subst Passes c.as_slice.ensures (c.are_sound.ensures.0 c.if-are_sound.true) in record {
      short = c.requires;
      value = c.in_ok-entry.ensures.ok.0;
      changes = entry_from_tests changes (c.in_ok-entry.ensures.ok.0.2.0, c.in_ok-entry.ensures.ok.0.2.2) passes;
      paths = paths_from_tests changes passes;
      when = c.in_ok-entry.ensures.ok.1;
    }

pub returns-else-are_sound-clause-only : goal.returns-else-are_sound-clause-only
returns-else-are_sound-clause-only c =
    λ entry good.
    let same : c.in_ok-entry.entry ≡ entry =
    c.in_ok-entry.ensures.only entry good.paths good.when good.changes.few good.value in
    let passes : Passes c.as_slice.result.now = subst Passes (sym c.as_slice.ensures)
    (subst (λ (e : Entry). Passes e.changes) (sym same) (tests_from_entry entry.changes good.changes good.paths)) in
    false≢true (sym c.if-are_sound.false ∙ c.are_sound.ensures.1 passes)
