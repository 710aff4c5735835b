use Rattle.std.proofs.Common.{◌≡◌, ◌++◌, ◌∙◌, ℕ, List, codes, decimal, map, ap, sym, subst}
use Rattle.std.specs.List.{join_with_byte}
use Rattle.std.proofs.lemmas.List.{append-nil}
use Rattle.reuse_change.specs.Entry.{AreAllSealed}
use Rattle.reuse_tree.specs.EntryTests.{Passes}
use Rattle.reuse_change.specs.CommandNames.{command_name}
use Rattle.reuse_json.specs.EntryText.{change_text, IsGoodEntry}
use Rattle.reuse_json.specs.Format.{format_number}
use Rattle.reuse_change.specs.declared.change.Change.{Change}
use Rattle.reuse_json.proofs.WrittenTexts.{four_steps}
use Rattle.reuse_tree.proofs.WrittenEntries.{written_good}
use Rattle.reuse_tree.proofs.journal.written_entry.read_written.Goals as goal

pub returns : goal.returns
returns c =
    let changes = c.in_ok-changes.changes.items in
    let opening = codes "{\"changes\":[" in
    let listed = join_with_byte 44 (map change_text changes) in
    let name = command_name c.in_ok-command.command in
    let format = decimal (format_number c.in_ok-sealed.sealed) in
    let front = opening ++ listed ++ codes "],\"command\":\"" ++ name ++ codes "\",\"format\":" in
    let whole = front ++ format ++ codes ",\"when\":" ++ decimal c.in_ok-when.when ++ codes "}" in
    let read : c.args.text.now ≡ whole =
    sym c.new-rest.ensures
    ∙ c.in_ok-expect.ensures
    ∙ four_steps opening listed (codes "],\"command\":\"") name (codes "\",\"format\":") c.expect.new.self
    c.read_changes.new.text c.expect-2.new.self c.read_command.new.text c.expect-3.new.self
    c.in_ok-changes.ensures.text c.in_ok-expect-2.ensures c.in_ok-command.ensures c.in_ok-expect-3.ensures
    ∙ four_steps front format (codes ",\"when\":") (decimal c.in_ok-when.when) (codes "}") c.expect-3.new.self
    c.is_second_format.new.text c.expect-4.new.self c.read_moment.new.text c.expect-5.new.self
    c.in_ok-sealed.ensures c.in_ok-expect-4.ensures c.in_ok-when.ensures.text c.in_ok-expect-5.ensures
    ∙ ap (λ (l : List ℕ). whole ++ l) c.in_ok-finish.ensures
    ∙ append-nil whole in
    let tests : Passes changes = subst Passes c.as_slice.ensures.value c.in_ok-expect_good.ensures.tests in
    subst (λ (l : List Change). IsGoodEntry c.args.text.now
    (record { changes = l; command = c.in_ok-command.command; when = c.in_ok-when.when })) (sym c.new.ensures)
    (written_good c.args.text.now changes c.in_ok-command.command c.in_ok-sealed.sealed c.in_ok-when.when read
    c.in_ok-changes.ensures.some c.in_ok-changes.ensures.changes tests
    (subst (AreAllSealed c.in_ok-sealed.sealed) c.as_slice.ensures.value c.in_ok-expect_good.ensures.alike)
    c.in_ok-expect_good.ensures.known c.in_ok-when.ensures.when)
